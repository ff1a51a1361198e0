-- Values that are moved out of the slots of a closed table, one after the other.
use Rattle.std.proofs.Common.{◌≡◌, ◌⊎◌, ℕ, zero, suc, ◌+◌, ◌<◌, ◌≤◌, Bool, true, false, Option, Some, is_some, List, [], ◌∷◌, ◌++◌, length, get_or, set, slice_get, sym, refl, ap, ◌∙◌, subst, inl, inr, ⊎_elim, arith, get_or-set_other}
use mathlib.Core.Option.{some, some-injective}
use native.Mathlib.Decide.{ℕ_discrete}
use lib.ListN.{get_elem?}

get_pushed : {Y : Type 0} (l : List Y) (a y : Y) (k : ℕ) → slice_get (l ++ a ∷ []) k ≡ Some y → (slice_get l k ≡ Some y) ⊎ ((k ≡ length l) × (a ≡ y))
get_pushed [] a y zero e = inr (refl, cc (e))
get_pushed [] a y (suc k) e = absurd (cc (e))
get_pushed (x ∷ xs) a y zero e = inl e
get_pushed {Y} (x ∷ xs) a y (suc k) e = ⊎_elim (λ (t : slice_get xs k ≡ Some y). inl t) (λ (t : (k ≡ length xs) × (a ≡ y)). inr (ap suc t.0, t.1)) (get_pushed xs a y k e)

-- what is taken where a value lies is a value
pub taken_some : {Y : Type 0} (items items' : List (Option Y)) (i : ℕ) (r : Option Y) → items' ≡ items → get_elem? items' i ≡ some r → ((y : Y) × (get_elem? items i ≡ some (Some y))) → is_some r ≡ true
taken_some {Y} items items' i r same found home = let e : r ≡ Some home.0 = some-injective r (Some home.0) (sym found ∙ (ap (λ (l : List (Option Y)). get_elem? l i) same ∙ home.1)) in ap is_some e

module _ {Y : Type 0} where
  -- one more value is moved
  pub moved_more : (items items' : List (Option Y)) (values values' : List Y) (part : ℕ) (y : Y) (r : Option Y) → items' ≡ items → length values ≡ part → values' ≡ values ++ y ∷ [] → get_elem? items' part ≡ some r → r ≡ Some y
      → ((k : ℕ) (x : Y) → slice_get values k ≡ Some x → get_elem? items k ≡ some (Some x)) → (k : ℕ) (x : Y) → slice_get values' k ≡ Some x → get_elem? items k ≡ some (Some x)
  moved_more items items' values values' part y r same count pushed found is each k x e = ⊎_elim
      (λ (t : slice_get values k ≡ Some x). each k x t)
      (λ (t : (k ≡ length values) × (y ≡ x)). ap (get_elem? items) (t.0 ∙ count) ∙ (ap (λ (l : List (Option Y)). get_elem? l part) (sym same) ∙ (found ∙ ap some (is ∙ ap (λ (z : Y). Some z) t.1))))
      (get_pushed values y x k (ap (λ (l : List Y). slice_get l k) (sym pushed) ∙ e))

-- the places up to the one that was emptied are empty, and the others as they were
pub full_still : (filled filled' : List Bool) (part n : ℕ) → filled' ≡ set filled part false → ((k : ℕ) → part ≤ k → k < n → get_or filled k false ≡ true) → (k : ℕ) → part + 1 ≤ k → k < n → get_or filled' k false ≡ true
full_still filled filled' part n is full k a b = ap (λ (l : List Bool). get_or l k false) is ∙ (get_or-set_other filled part k false false (λ (e : k ≡ part). omega arith) ∙ full k (omega arith) b)

set_false : (l : List Bool) (i : ℕ) → get_or (set l i false) i false ≡ false
set_false [] i = refl
set_false (x ∷ xs) zero = refl
set_false (x ∷ xs) (suc i) = set_false xs i

pub empty_more : (filled filled' : List Bool) (part : ℕ) → filled' ≡ set filled part false → ((k : ℕ) → k < part → get_or filled k false ≡ false) → (k : ℕ) → k < part + 1 → get_or filled' k false ≡ false
empty_more filled filled' part is empty k l = ap (λ (l : List Bool). get_or l k false) is ∙ go (ℕ_discrete k part)
  where
    go : Dec (k ≡ part) → get_or (set filled part false) k false ≡ false
    go (yes same) = subst (λ (j : ℕ). get_or (set filled part false) j false ≡ false) (sym same) (set_false filled part)
    go (no ne) = get_or-set_other filled part k false false ne ∙ empty k (omega arith)
