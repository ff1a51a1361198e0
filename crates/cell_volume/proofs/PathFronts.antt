-- Fronts of paths, and tests of two parts.
use Rattle.std.proofs.Common.{◌≡◌, ◌≢◌, ℕ, ◌+◌, ◌<◌, ◌≤◌, Bool, true, false, ◌||◌, List, [], ◌∷◌, ◌++◌, length, take, drop, ◌⊎◌, inl, inr, refl, sym, ap, subst, ◌∙◌, arith, length-append, append_assoc}
use Rattle.std.proofs.lemmas.Bool.Decides.{leb_tells}
use Rattle.std.specs.Cmp.Lexicographic.{pointwise_decides, bytes_decides}
use Rattle.vfs_base.specs.Path.{Path}
use Rattle.vfs_model.proofs.MovedLaws.{prefix-append}
use Rattle.vfs_model.proofs.Trees.{prefix-splits, same_path-is, same_path-itself}
use Rattle.vfs_model.specs.Lookup.{is_prefix}
use Rattle.vfs_model.specs.Namespace.{same_path}

pub below-or-past : (a b : ℕ) → (a < b) ⊎ (b ≤ a)
below-or-past a b = elim (leb_tells b a) [ inl h ↦ inr h.1 | inr h ↦ inl h.1 ]

pub true-or-false : (b : Bool) → (b ≡ true) ⊎ (b ≡ false)
true-or-false true = inl refl
true-or-false false = inr refl

pub or-first : (a b : Bool) → a ≡ true → (a || b) ≡ true
or-first true b h = refl
or-first false b h = absurd (cc)

pub or-second : (a b : Bool) → b ≡ true → (a || b) ≡ true
or-second true b h = refl
or-second false b h = h

pub nor-first : (a b : Bool) → (a || b) ≡ false → a ≡ false
nor-first true b h = absurd (cc)
nor-first false b h = refl

pub nor-second : (a b : Bool) → (a || b) ≡ false → b ≡ false
nor-second true b h = absurd (cc)
nor-second false b h = h

pub neither : (a b : Bool) → a ≡ false → b ≡ false → (a || b) ≡ false
neither true b h k = absurd (cc)
neither false b h k = k

pub same-or-other-path : (p q : Path) → (p ≡ q) ⊎ (p ≢ q)
same-or-other-path p q = elim (true-or-false (same_path p q)) [
  | inl h ↦ inl (same_path-is p q h)
  | inr h ↦ inr (λ e. let yes = ap (same_path p) e ∙ h in let no = same_path-itself p in absurd (cc))
]

-- a path with a name is a front and a last name
pub record LastName (p : Path) : Type 0 where
  pub front : Path
  pub name : List ℕ
  pub is : p ≡ front ++ name ∷ []

pub last-name : (first : List ℕ) (names : Path) → LastName (first ∷ names)
last-name first [] = record { front = []; name = first; is = refl }
last-name first (second ∷ names) =
    let last = last-name second names in
    record { front = first ∷ last.front; name = last.name; is = ap (λ p. first ∷ p) last.is }

pub named : (p : Path) → p ≢ [] → LastName p
named [] h = absurd (h refl)
named (first ∷ names) h = last-name first names

pub not-empty : (front : Path) (name : List ℕ) → front ++ name ∷ [] ≢ []
not-empty [] name e = absurd (cc)
not-empty (first ∷ front) name e = absurd (cc)

tails : (a b : List ℕ) (p q : Path) → a ∷ p ≡ b ∷ q → p ≡ q
tails a b p q e = ap rest e
  where
    rest : Path → Path
    rest [] = []
    rest (name ∷ names) = names

-- the front of a path is told by the path
pub same-front : (p q : Path) (a b : List ℕ) → p ++ a ∷ [] ≡ q ++ b ∷ [] → p ≡ q
same-front [] [] a b e = refl
same-front [] (y ∷ q) a b e = absurd (not-empty q b (sym (tails a y [] (q ++ b ∷ []) e)))
same-front (x ∷ p) [] a b e = absurd (not-empty p a (tails x b (p ++ a ∷ []) [] e))
same-front (x ∷ p) (y ∷ q) a b e =
    ap (λ n. n ∷ p) (ap first e) ∙ ap (λ r. y ∷ r) (same-front p q a b (tails x y (p ++ a ∷ []) (q ++ b ∷ []) e))
  where
    first : Path → List ℕ
    first [] = []
    first (name ∷ names) = name

-- a prefix, and what comes behind it
pub prefix-more : (front middle rest : Path) → is_prefix front (front ++ middle ++ rest) ≡ true
prefix-more front middle rest = subst (λ p. is_prefix front p ≡ true) (sym (append_assoc front middle rest)) (prefix-append front (middle ++ rest))

pub prefix-through : (a b : Path) → is_prefix a b ≡ true → (rest : Path) → is_prefix a (b ++ rest) ≡ true
prefix-through a b h rest =
    subst (λ p. is_prefix a (p ++ rest) ≡ true) (sym (prefix-splits a b h)) (prefix-more a (drop (length a) b) rest)

pub prefix-length : (a b : Path) → is_prefix a b ≡ true → length a ≤ length b
prefix-length a b h =
    let whole : length b ≡ length a + length (drop (length a) b) = ap (λ p. length p) (prefix-splits a b h) ∙ length-append a (drop (length a) b) in
    omega (arith, whole)

-- two prefixes of one length are one
pub same-prefix : (a b p : Path) → is_prefix a p ≡ true → is_prefix b p ≡ true → length a ≡ length b → a ≡ b
same-prefix a b p h k e =
    (pointwise_decides bytes_decides a (take (length a) p)).0 h ∙ ap (λ n. take n p) e ∙ sym ((pointwise_decides bytes_decides b (take (length b) p)).0 k)
