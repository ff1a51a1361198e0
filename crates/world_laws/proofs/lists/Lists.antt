-- Lists, trees and places: what a test that holds somewhere tells, and where.
use Rattle.std.proofs.Common.{◌≡◌, ◌≢◌, ℕ, zero, suc, ◌<◌, ◌≤◌, ◌==◌, Bool, true, false, cond, ◌&&◌, ◌||◌, T, Option, Some, None, unwrap_or, List, [], ◌∷◌, length, find, slice_index_or, slice_set, ◌⊎◌, inl, inr, if◌then◌else◌, refl, ap, ◌∙◌, arith}
use Rattle.std.proofs.lemmas.Bool.Decides.{eqb_tells, leb_tells}
use Rattle.std.proofs.lemmas.Cmp.{tied_itself}
use Rattle.std.proofs.lemmas.List.{get_or-set_other, get_or-set_same, get_or_past}
use Rattle.std.proofs.lemmas.List.Sums.{fails_before_first}
use Rattle.std.specs.FinMap.Entries.{below_all, find as value_at, is_sorted}
use Rattle.std.specs.List.{list_any, position_or_len}
use Rattle.std.specs.Ordering.{eq_by_cmp, is_eq, is_lt}
use Rattle.std.specs.declared.cmp.Ordering.{Ordering}
use Rattle.std.specs.declared.cmp.Ordering.TheVariants.{Less, Equal, Greater}
use Rattle.vfs_base.specs.Path.{Path, path_cmp}
use Rattle.vfs_base.specs.PathLaws.{path_cmp_exact, path_cmp_total}

pub same-or-other : (a b : ℕ) → (a ≡ b) ⊎ (a ≢ b)
same-or-other a b = elim (eqb_tells a b) [ inl h ↦ inl h.1 | inr h ↦ inr h.1 ]

pub below-or-past : (a b : ℕ) → (a < b) ⊎ (b ≤ a)
below-or-past a b = elim (leb_tells b a) [ inl h ↦ inr h.1 | inr h ↦ inl h.1 ]

pub true-or-false : (b : Bool) → (b ≡ true) ⊎ (b ≡ false)
true-or-false true = inl refl
true-or-false false = inr refl

pub none-or-some : {X : Type 0} (found : Option X) → (found ≡ None) ⊎ ((x : X) × (found ≡ Some x))
none-or-some None = inl refl
none-or-some (Some x) = inr (x, refl)

pub same-number : (a b : ℕ) → (a == b) ≡ true → a ≡ b
same-number a b h = elim (eqb_tells a b) [ inl k ↦ k.1 | inr k ↦ absurd (cc) ]

pub number-itself : (a : ℕ) → (a == a) ≡ true
number-itself a = elim (eqb_tells a a) [ inl k ↦ k.0 | inr k ↦ absurd (k.1 refl) ]

pub other-number : (a b : ℕ) → a ≢ b → (a == b) ≡ false
other-number a b h = elim (eqb_tells a b) [ inl k ↦ absurd (h k.1) | inr k ↦ k.0 ]

-- where a test holds of a list
pub record AnyPlace {X : Type 0} (p : X → Bool) (xs : List X) (d : X) : Type 0 where
  pub place : ℕ
  pub within : place < length xs
  pub holds : p (slice_index_or xs place d) ≡ true

pub any-later : {X : Type 0} (p : X → Bool) (x : X) (xs : List X) (d : X) → AnyPlace p xs d → AnyPlace p (x ∷ xs) d
any-later p x xs d found = record { place = suc found.place; within = let l = found.within in omega (arith, l); holds = found.holds }

any-cons : {X : Type 0} (p : X → Bool) (x : X) (xs : List X) (d : X) (b : Bool) → p x ≡ b → (b || list_any p xs) ≡ true →
    (list_any p xs ≡ true → AnyPlace p xs d) → AnyPlace p (x ∷ xs) d
any-cons p x xs d true e h later = record { place = 0; within = omega arith; holds = e }
any-cons p x xs d false e h later = any-later p x xs d (later h)

pub any-place : {X : Type 0} (p : X → Bool) (xs : List X) (d : X) → list_any p xs ≡ true → AnyPlace p xs d
any-place p [] d h = absurd (cc)
any-place p (x ∷ xs) d h = any-cons p x xs d (p x) refl h (any-place p xs d)

pub or-first : (a b : Bool) → a ≡ true → (a || b) ≡ true
or-first true b h = refl
or-first false b h = absurd (cc)

pub or-second : (a b : Bool) → b ≡ true → (a || b) ≡ true
or-second true b h = refl
or-second false b h = h

pub or-either : (a b : Bool) → (a || b) ≡ true → (a ≡ true) ⊎ (b ≡ true)
or-either true b h = inl refl
or-either false b h = inr h

pub nor-first : (a b : Bool) → (a || b) ≡ false → a ≡ false
nor-first true b h = absurd (cc)
nor-first false b h = refl

pub nor-second : (a b : Bool) → (a || b) ≡ false → b ≡ false
nor-second true b h = absurd (cc)
nor-second false b h = h

pub neither : (a b : Bool) → a ≡ false → b ≡ false → (a || b) ≡ false
neither true b h k = absurd (cc)
neither false b h k = k

pub no-place : {X : Type 0} (p : X → Bool) (xs : List X) (place : ℕ) (d : X) → list_any p xs ≡ false → place < length xs → p (slice_index_or xs place d) ≡ false
no-place p [] place d h l = absurd (omega arith)
no-place p (x ∷ xs) zero d h l = nor-first (p x) (list_any p xs) h
no-place p (x ∷ xs) (suc place) d h l = no-place p xs place d (nor-second (p x) (list_any p xs) h) (omega arith)

pub place-any : {X : Type 0} (p : X → Bool) (xs : List X) (place : ℕ) (d : X) → place < length xs → p (slice_index_or xs place d) ≡ true → list_any p xs ≡ true
place-any p [] place d l h = absurd (omega arith)
place-any p (x ∷ xs) zero d l h = or-first (p x) (list_any p xs) h
place-any p (x ∷ xs) (suc place) d l h = or-second (p x) (list_any p xs) (place-any p xs place d (omega arith) h)

-- the first that passes is one of the list, where one passes
pub first-within : {X : Type 0} (p : X → Bool) (xs : List X) (d : X) → list_any p xs ≡ true → position_or_len p xs < length xs
first-within p xs d h = elim (below-or-past (position_or_len p xs) (length xs)) [
  | inl l ↦ l
  | inr past ↦
      let at = any-place p xs d h in
      let l = at.within in
      let yes = at.holds in
      let no = fails_before_first p xs at.place d (omega (arith, l, past)) in
      absurd (cc)
]

pub same-some : {X : Type 0} (x y : X) → Some x ≡ Some y → x ≡ y
same-some x y e = ap (λ found. unwrap_or found x) e

-- what a search finds is one of the list
pub found-any : {X : Type 0} (p q : X → Bool) (xs : List X) (x : X) → find p xs ≡ Some x → q x ≡ true → list_any q xs ≡ true
found-any p q [] x e h = absurd (cc)
found-any p q (y ∷ xs) x e h = at (p y) e (λ later. found-any p q xs x later h)
  where
    at : (b : Bool) → (if b then Some y else find p xs) ≡ Some x → (find p xs ≡ Some x → list_any q xs ≡ true) → (q y || list_any q xs) ≡ true
    at true k later = or-first (q y) (list_any q xs) (ap q (same-some y x k) ∙ h)
    at false k later = or-second (q y) (list_any q xs) (later k)

-- a place of a list of options at which something stands is within
pub some-within : {X : Type 0} (xs : List (Option X)) (place : ℕ) (x : X) → slice_index_or xs place None ≡ Some x → place < length xs
some-within xs place x h = elim (below-or-past place (length xs)) [
  | inl l ↦ l
  | inr l ↦ let none : slice_index_or xs place None ≡ None = get_or_past xs place None l in absurd (cc)
]

-- what stands at a place of a list after a write
pub set-here : {X : Type 0} (xs : List X) (place : ℕ) (x d : X) → place < length xs → slice_index_or (slice_set xs place x) place d ≡ x
set-here xs place x d l = get_or-set_same xs place x d l

pub set-there : {X : Type 0} (xs : List X) (place other : ℕ) (x d : X) → other ≢ place → slice_index_or (slice_set xs place x) other d ≡ slice_index_or xs other d
set-there xs place other x d h = get_or-set_other xs place other x d h

-- an entry of a tree, where a test holds of its node
pub record AnyNode {X : Type 0} (test : X → Bool) (tree : List (Path × X)) : Type 0 where
  pub path : Path
  pub node : X
  pub there : value_at path_cmp path tree ≡ Some node
  pub holds : test node ≡ true

less-is : (o : Ordering) → T (is_lt o) → is_eq o ≡ false
less-is Less p = refl
less-is Equal p = absurd p
less-is Greater p = absurd p

pub t-first : (a b : Bool) → T (a && b) → T a
t-first true b h = tt
t-first false b h = absurd h

pub t-second : (a b : Bool) → T (a && b) → T b
t-second true b h = h
t-second false b h = absurd h

pub below-none : {X : Type 0} (p : Path) (tree : List (Path × X)) → T (below_all path_cmp p tree) → value_at path_cmp p tree ≡ None
below-none p [] h = refl
below-none p (e ∷ tree) h =
    ap (λ b. cond b (Some e.1) (value_at path_cmp p tree)) (less-is (path_cmp p e.0) (t-first _ (below_all path_cmp p tree) h))
    ∙ below-none p tree (t-second (is_lt (path_cmp p e.0)) _ h)

pub equal-is : (o : Ordering) → is_eq o ≡ true → o ≡ Equal
equal-is Less h = absurd (cc)
equal-is Equal h = refl
equal-is Greater h = absurd (cc)

-- a path that stands behind the first one of a tree in order is another one
pub later-there : {X : Type 0} (e : Path × X) (q : Path) (node : X) (tree : List (Path × X)) → T (below_all path_cmp e.0 tree) → value_at path_cmp q tree ≡ Some node →
    (eq_by_cmp path_cmp q e.0 ≡ true) ⊎ (eq_by_cmp path_cmp q e.0 ≡ false) → value_at path_cmp q (e ∷ tree) ≡ Some node
later-there e q node tree h there (inl b) =
    let same : q ≡ e.0 = path_cmp_exact q e.0 (equal-is (path_cmp q e.0) b) in
    let none : value_at path_cmp q tree ≡ None = ap (λ p. value_at path_cmp p tree) same ∙ below-none e.0 tree h in
    absurd (cc)
later-there e q node tree h there (inr b) = ap (λ b. cond b (Some e.1) (value_at path_cmp q tree)) b ∙ there

pub first-there : {X : Type 0} (e : Path × X) (tree : List (Path × X)) → value_at path_cmp e.0 (e ∷ tree) ≡ Some e.1
first-there e tree = ap (λ o. cond (is_eq o) (Some e.1) (value_at path_cmp e.0 tree)) (tied_itself path_cmp_total e.0)

node-cons : {X : Type 0} (test : X → Bool) (e : Path × X) (tree : List (Path × X)) (b : Bool) → test e.1 ≡ b → T (is_sorted path_cmp (e ∷ tree)) →
    (b || list_any (λ e. test e.1) tree) ≡ true → (list_any (λ e. test e.1) tree ≡ true → AnyNode test tree) → AnyNode test (e ∷ tree)
node-cons test e tree true k sorted h later = record { path = e.0; node = e.1; there = first-there e tree; holds = k }
node-cons test e tree false k sorted h later =
    let found = later h in
    record {
      path = found.path;
      node = found.node;
      there = later-there e found.path found.node tree (t-first _ (is_sorted path_cmp tree) sorted) found.there (true-or-false _);
      holds = found.holds;
    }

pub any-node : {X : Type 0} (test : X → Bool) (tree : List (Path × X)) → T (is_sorted path_cmp tree) → list_any (λ e. test e.1) tree ≡ true → AnyNode test tree
any-node test [] sorted h = absurd (cc)
any-node test (e ∷ tree) sorted h =
    node-cons test e tree (test e.1) refl sorted h (any-node test tree (t-second (below_all path_cmp e.0 tree) _ sorted))

node-at-first : {X : Type 0} (test : X → Bool) (e : Path × X) (tree : List (Path × X)) (q : Path) (node : X) (b : Bool) →
    cond b (Some e.1) (value_at path_cmp q tree) ≡ Some node → test node ≡ true →
    (value_at path_cmp q tree ≡ Some node → list_any (λ e. test e.1) tree ≡ true) → (test e.1 || list_any (λ e. test e.1) tree) ≡ true
node-at-first test e tree q node true there h later = or-first (test e.1) _ (ap test (same-some e.1 node there) ∙ h)
node-at-first test e tree q node false there h later = or-second (test e.1) _ (later there)

-- a node that stands in a tree is one of the tree
pub node-any : {X : Type 0} (test : X → Bool) (tree : List (Path × X)) (q : Path) (node : X) → value_at path_cmp q tree ≡ Some node → test node ≡ true →
    list_any (λ e. test e.1) tree ≡ true
node-any test [] q node there h = absurd (cc)
node-any test (e ∷ tree) q node there h =
    node-at-first test e tree q node (eq_by_cmp path_cmp q e.0) there h (λ later. node-any test tree q node later h)

-- a path of a tree at which a test holds
pub record AnyKey {X : Type 0} (test : Path → Bool) (tree : List (Path × X)) : Type 0 where
  pub path : Path
  pub node : X
  pub there : value_at path_cmp path tree ≡ Some node
  pub holds : test path ≡ true

key-cons : {X : Type 0} (test : Path → Bool) (e : Path × X) (tree : List (Path × X)) (b : Bool) → test e.0 ≡ b → T (is_sorted path_cmp (e ∷ tree)) →
    (b || list_any (λ e. test e.0) tree) ≡ true → (list_any (λ e. test e.0) tree ≡ true → AnyKey test tree) → AnyKey test (e ∷ tree)
key-cons test e tree true k sorted h later = record { path = e.0; node = e.1; there = first-there e tree; holds = k }
key-cons test e tree false k sorted h later =
    let found = later h in
    record {
      path = found.path;
      node = found.node;
      there = later-there e found.path found.node tree (t-first _ (is_sorted path_cmp tree) sorted) found.there (true-or-false _);
      holds = found.holds;
    }

pub any-key : {X : Type 0} (test : Path → Bool) (tree : List (Path × X)) → T (is_sorted path_cmp tree) → list_any (λ e. test e.0) tree ≡ true → AnyKey test tree
any-key test [] sorted h = absurd (cc)
any-key test (e ∷ tree) sorted h =
    key-cons test e tree (test e.0) refl sorted h (any-key test tree (t-second (below_all path_cmp e.0 tree) _ sorted))
