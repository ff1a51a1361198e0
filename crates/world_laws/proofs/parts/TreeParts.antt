-- One tree by itself: a node comes, and a node goes.
use Rattle.std.proofs.Common.{◌≡◌, ◌≢◌, ℕ, suc, ◌+◌, ◌<◌, ◌≤◌, Bool, true, false, cond, not, ◌||◌, None, is_some, List, [], ◌∷◌, ◌++◌, length, filter, ◌⊎◌, inl, inr, refl, sym, ap, ◌∙◌, arith, length-append}
use Rattle.std.specs.FinMap.Entries.{find as value_at, is_sorted-put, is_sorted-where_key, length-put, put, by_order}
use Rattle.std.specs.List.{list_any}
use Rattle.std.specs.declared.cmp.Ordering.{Ordering}
use Rattle.std.specs.declared.cmp.Ordering.TheVariants.{Less, Equal, Greater}
use Rattle.vfs_base.specs.Path.{Path, path_cmp}
use Rattle.vfs_base.specs.PathLaws.{path_cmp_total}
use Rattle.vfs_base.specs.declared.kinds.NodeKind.{NodeKind}
use Rattle.vfs_model.proofs.Trees.{at-put-other, at-without-here, at-without-other, same_path-is, same_path-itself, same_path-other}
use Rattle.vfs_model.specs.Consistency.{IsClosedTree}
use Rattle.vfs_model.specs.Lookup.{is_dir_node, node_in}
use Rattle.vfs_model.specs.Namespace.{Tree, same_path}
use Rattle.world_laws.proofs.lists.Lists.{neither, nor-first, nor-second, or-first, or-second, true-or-false}

pub same-or-other-path : (p q : Path) → (p ≡ q) ⊎ (p ≢ q)
same-or-other-path p q = elim (true-or-false (same_path p q)) [
  | inl h ↦ inl (same_path-is p q h)
  | inr h ↦ inr (λ e. let yes = ap (same_path p) e ∙ h in let no = same_path-itself p in absurd (cc))
]

-- a path with a name is a front and a last name
pub record LastName (p : Path) : Type 0 where
  pub front : Path
  pub name : List ℕ
  pub is : p ≡ front ++ name ∷ []

pub last-name : (first : List ℕ) (names : Path) → LastName (first ∷ names)
last-name first [] = record { front = []; name = first; is = refl }
last-name first (second ∷ names) =
    let last = last-name second names in
    record { front = first ∷ last.front; name = last.name; is = ap (λ p. first ∷ p) last.is }

pub named : (p : Path) → p ≢ [] → LastName p
named [] h = absurd (h refl)
named (first ∷ names) h = last-name first names

pub not-empty : (front : Path) (name : List ℕ) → front ++ name ∷ [] ≢ []
not-empty [] name e = absurd (cc)
not-empty (first ∷ front) name e = absurd (cc)

tails : (a b : List ℕ) (p q : Path) → a ∷ p ≡ b ∷ q → p ≡ q
tails a b p q e = ap rest e
  where
    rest : Path → Path
    rest [] = []
    rest (name ∷ names) = names

-- the front of a path is told by the path
pub same-front : (p q : Path) (a b : List ℕ) → p ++ a ∷ [] ≡ q ++ b ∷ [] → p ≡ q
same-front [] [] a b e = refl
same-front [] (y ∷ q) a b e = absurd (not-empty q b (sym (tails a y [] (q ++ b ∷ []) e)))
same-front (x ∷ p) [] a b e = absurd (not-empty p a (tails x b (p ++ a ∷ []) [] e))
same-front (x ∷ p) (y ∷ q) a b e =
    ap (λ n. n ∷ p) (ap first e) ∙ ap (λ r. y ∷ r) (same-front p q a b (tails x y (p ++ a ∷ []) (q ++ b ∷ []) e))
  where
    first : Path → List ℕ
    first [] = []
    first (name ∷ names) = name

pub at-node : (tree : Tree) (p : Path) → p ≢ [] → node_in tree p ≡ value_at path_cmp p tree
at-node tree [] h = absurd (h refl)
at-node tree (name ∷ names) h = refl

-- a front that is a folder, in the words of a closed tree
pub front-dir : (tree : Tree) (front : Path) → is_dir_node (node_in tree front) ≡ true → (is_dir_node (value_at path_cmp front tree) || same_path front []) ≡ true
front-dir tree [] h = or-second (is_dir_node (value_at path_cmp [] tree)) (same_path [] []) refl
front-dir tree (name ∷ names) h = or-first (is_dir_node (value_at path_cmp (name ∷ names) tree)) (same_path (name ∷ names) []) h

put-parents : (tree : Tree) (rest front : Path) (name : List ℕ) (new : NodeKind) → IsClosedTree is_dir_node tree → value_at path_cmp rest tree ≡ None →
    rest ≡ front ++ name ∷ [] → is_dir_node (node_in tree front) ≡ true → (up : Path) (last : List ℕ) →
    is_some (value_at path_cmp (up ++ last ∷ []) (put path_cmp rest new tree)) ≡ true →
    (is_dir_node (value_at path_cmp up (put path_cmp rest new tree)) || same_path up []) ≡ true
put-parents tree rest front name new closed absent e dir up last h = elim (same-or-other-path (up ++ last ∷ []) rest) [
  | inl same ↦
      let fronts : up ≡ front = same-front up front last name (same ∙ e) in
      let apart : up ≢ rest = λ k. longer up last (same ∙ sym k) in
      ap (λ found. is_dir_node found || same_path up []) (at-put-other rest up new tree apart)
      ∙ ap (λ p. is_dir_node (value_at path_cmp p tree) || same_path p []) fronts ∙ front-dir tree front dir
  | inr other ↦
      let there : is_some (value_at path_cmp (up ++ last ∷ []) tree) ≡ true = ap is_some (sym (at-put-other rest (up ++ last ∷ []) new tree other)) ∙ h in
      let before = closed.parents up last there in
      let apart : up ≢ rest = λ k.
      let none : is_dir_node (value_at path_cmp up tree) ≡ false = ap is_dir_node (ap (λ p. value_at path_cmp p tree) k ∙ absent) in
      let root : same_path up [] ≡ false = same_path-other up [] (λ x. not-empty front name (sym e ∙ sym k ∙ x)) in
      let neither-one = neither (is_dir_node (value_at path_cmp up tree)) (same_path up []) none root in absurd (cc) in
      ap (λ found. is_dir_node found || same_path up []) (at-put-other rest up new tree apart) ∙ before
]
  where
    longer : (p : Path) (n : List ℕ) → p ++ n ∷ [] ≢ p
    longer p n k =
        let l : length p ≡ length p + 1 = ap (λ x. length x) (sym k) ∙ length-append p (n ∷ []) in
        absurd (omega (arith, l))

-- a node comes to an absent path whose parent is a folder
pub put-closed : (tree : Tree) (rest front : Path) (name : List ℕ) (new : NodeKind) → IsClosedTree is_dir_node tree → value_at path_cmp rest tree ≡ None →
    rest ≡ front ++ name ∷ [] → is_dir_node (node_in tree front) ≡ true → length tree < 4096 → IsClosedTree is_dir_node (put path_cmp rest new tree)
put-closed tree rest front name new closed absent e dir l = record {
  sorted = is_sorted-put path_cmp path_cmp_total rest new tree closed.sorted;
  rootless = at-put-other rest [] new tree (λ k. not-empty front name (sym e ∙ sym k)) ∙ closed.rootless;
  parents = put-parents tree rest front name new closed absent e dir;
  bounded =
      let more : length (put path_cmp rest new tree) ≡ length tree + 1 =
      length-put path_cmp path_cmp_total rest new tree closed.sorted ∙ ap (λ found. cond (is_some found) (length tree) (length tree + 1)) absent in
      omega (arith, more);
}

none-put : (test : Path → Bool) (rest : Path) (new : NodeKind) (e : Path × NodeKind) (tree : Tree) (o : Ordering) → path_cmp rest e.0 ≡ o → test rest ≡ false →
    list_any (λ entry. test entry.0) (e ∷ tree) ≡ false → list_any (λ entry. test entry.0) (put path_cmp rest new tree) ≡ false →
    list_any (λ entry. test entry.0) (by_order o ((rest, new) ∷ e ∷ tree) ((e.0, new) ∷ tree) (e ∷ put path_cmp rest new tree)) ≡ false
none-put test rest new e tree Less k h old later = neither (test rest) _ h old
none-put test rest new e tree Equal k h old later = old
none-put test rest new e tree Greater k h old later = neither (test e.0) _ (nor-first (test e.0) (list_any (λ entry. test entry.0) tree) old) later

-- a test of paths that fails in a tree and for a new path fails after it came
pub put-none : (test : Path → Bool) (rest : Path) (new : NodeKind) (tree : Tree) → test rest ≡ false → list_any (λ entry. test entry.0) tree ≡ false →
    list_any (λ entry. test entry.0) (put path_cmp rest new tree) ≡ false
put-none test rest new [] h old = neither (test rest) false h refl
put-none test rest new (e ∷ tree) h old =
    none-put test rest new e tree (path_cmp rest e.0) refl h old (put-none test rest new tree h (nor-second (test e.0) (list_any (λ entry. test entry.0) tree) old))

-- the tree without a path
abbrev pub without : Path → Tree → Tree
without rest tree = filter (λ entry. not (same_path entry.0 rest)) tree

shorter-filter : (e : Path × NodeKind) (left : Tree) (count : ℕ) (b : Bool) → length left ≤ count → length (cond b (e ∷ left) left) ≤ suc count
shorter-filter e left count true l = omega (arith, l)
shorter-filter e left count false l = omega (arith, l)

length-filter : (test : (Path × NodeKind) → Bool) (tree : Tree) → length (filter test tree) ≤ length tree
length-filter test [] = omega arith
length-filter test (e ∷ tree) = shorter-filter e (filter test tree) (length tree) (test e) (length-filter test tree)

without-parents : (tree : Tree) (rest : Path) → IsClosedTree is_dir_node tree → ((name : List ℕ) → value_at path_cmp (rest ++ name ∷ []) tree ≡ None) → (up : Path) (last : List ℕ) →
    is_some (value_at path_cmp (up ++ last ∷ []) (without rest tree)) ≡ true → (is_dir_node (value_at path_cmp up (without rest tree)) || same_path up []) ≡ true
without-parents tree rest closed childless up last h = elim (same-or-other-path (up ++ last ∷ []) rest) [
  | inl same ↦
      let none : is_some (value_at path_cmp (up ++ last ∷ []) (without rest tree)) ≡ false =
      ap (λ p. is_some (value_at path_cmp p (without rest tree))) same ∙ ap is_some (at-without-here rest tree) in
      absurd (cc)
  | inr other ↦
      let there : is_some (value_at path_cmp (up ++ last ∷ []) tree) ≡ true = ap is_some (sym (at-without-other rest (up ++ last ∷ []) tree other)) ∙ h in
      let apart : up ≢ rest = λ k.
      let none : is_some (value_at path_cmp (up ++ last ∷ []) tree) ≡ false = ap (λ p. is_some (value_at path_cmp (p ++ last ∷ []) tree)) k ∙ ap is_some (childless last) in
      absurd (cc) in
      ap (λ found. is_dir_node found || same_path up []) (at-without-other rest up tree apart) ∙ closed.parents up last there
]

-- a node goes that has no children
pub without-closed : (tree : Tree) (rest : Path) → rest ≢ [] → IsClosedTree is_dir_node tree → ((name : List ℕ) → value_at path_cmp (rest ++ name ∷ []) tree ≡ None) →
    IsClosedTree is_dir_node (without rest tree)
without-closed tree rest h closed childless = record {
  sorted = is_sorted-where_key path_cmp (λ p. not (same_path p rest)) tree closed.sorted;
  rootless = at-without-other rest [] tree (λ k. h (sym k)) ∙ closed.rootless;
  parents = without-parents tree rest closed childless;
  bounded = let shorter = length-filter (λ entry. not (same_path entry.0 rest)) tree in let before = closed.bounded in omega (arith, shorter, before);
}

chosen-none : (test : Path → Bool) (e : Path × NodeKind) (left : Tree) (b : Bool) → test e.0 ≡ false → list_any (λ entry. test entry.0) left ≡ false →
    list_any (λ entry. test entry.0) (cond b (e ∷ left) left) ≡ false
chosen-none test e left true h k = neither (test e.0) (list_any (λ entry. test entry.0) left) h k
chosen-none test e left false h k = k

-- a test of paths that fails in a tree fails in a part of it
pub filter-none : (keep : (Path × NodeKind) → Bool) (test : Path → Bool) (tree : Tree) → list_any (λ entry. test entry.0) tree ≡ false →
    list_any (λ entry. test entry.0) (filter keep tree) ≡ false
filter-none keep test [] h = refl
filter-none keep test (e ∷ tree) h =
    chosen-none test e (filter keep tree) (keep e) (nor-first (test e.0) (list_any (λ entry. test entry.0) tree) h)
    (filter-none keep test tree (nor-second (test e.0) (list_any (λ entry. test entry.0) tree) h))
