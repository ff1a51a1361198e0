-- Sums of ones, and counts in which one number changes.
use Rattle.std.proofs.Common.{◌≡◌, ℕ, zero, suc, ◌+◌, ◌-◌, ◌<◌, ◌≤◌, ◌==◌, Bool, true, false, List, [], ◌∷◌, length, inl, inr, refl, sym, ap, ◌∙◌, arith, get_or, slice_set, slice_index_or}
use Rattle.std.proofs.lemmas.Bool.Decides.{eqb_tells}
use Rattle.std.proofs.lemmas.List.{get_or-set_other, get_or-set_same}
use Rattle.std.proofs.lemmas.List.Sums.{sum_by-cons}
use Rattle.std.specs.List.{sum_by}
use Rattle.vnode_table.specs.Layout.{one_if}

pub one-most : (b : Bool) → one_if b ≤ 1
one-most true = omega arith
one-most false = omega arith

pub same-number : (a : ℕ) → (a == a) ≡ true
same-number a = elim (eqb_tells a a) [ inl h ↦ h.0 | inr h ↦ absurd (h.1 refl) ]

-- a sum of so many ones
pub sum-most : {X : Type 0} (f : X → ℕ) → ((x : X) → f x ≤ 1) → (xs : List X) → sum_by f xs ≤ length xs
sum-most f most [] = omega arith
sum-most f most (x ∷ xs) =
    let first = most x in
    let later = sum-most f most xs in
    let whole = sum_by-cons f x xs in
    omega (arith, first, later, whole)

-- one of the list is no more than the sum
pub sum-one : {X : Type 0} (f : X → ℕ) (xs : List X) (place : ℕ) (d : X) → place < length xs → f (get_or xs place d) ≤ sum_by f xs
sum-one f [] place d l = absurd (omega arith)
sum-one f (x ∷ xs) zero d l = let whole = sum_by-cons f x xs in omega (arith, whole)
sum-one f (x ∷ xs) (suc place) d l =
    let later = sum-one f xs place d (omega (arith, l)) in
    let whole = sum_by-cons f x xs in
    omega (arith, later, whole)

-- sums of the same numbers
pub sum-same : {X : Type 0} (f g : X → ℕ) (xs : List X) → ((place : ℕ) (d : X) → place < length xs → f (get_or xs place d) ≡ g (get_or xs place d)) → sum_by f xs ≡ sum_by g xs
sum-same f g [] same = refl
sum-same f g (x ∷ xs) same =
    sum_by-cons f x xs ∙ ap (λ n. n + sum_by f xs) (same 0 x (omega arith))
    ∙ ap (λ n. g x + n) (sum-same f g xs (λ place d l. same (suc place) d (omega (arith, l)))) ∙ sym (sum_by-cons g x xs)

-- a number of the list is one more, or one less
abbrev pub raised : List ℕ → ℕ → List ℕ
raised counts at = slice_set counts at (slice_index_or counts at 0 + 1)

abbrev pub lowered : List ℕ → ℕ → List ℕ
lowered counts at = slice_set counts at (slice_index_or counts at 0 - 1)

pub raised-at : (counts : List ℕ) (at i : ℕ) → at < length counts → slice_index_or (raised counts at) i 0 ≡ slice_index_or counts i 0 + one_if (at == i)
raised-at counts at i l = elim (eqb_tells at i) [
  | inl h ↦
      ap (λ k. slice_index_or (raised counts at) k 0) (sym h.1) ∙ get_or-set_same counts at (slice_index_or counts at 0 + 1) 0 l
      ∙ ap (λ k. slice_index_or counts k 0 + 1) h.1 ∙ ap (λ b. slice_index_or counts i 0 + one_if b) (sym h.0)
  | inr h ↦
      let same : slice_index_or (raised counts at) i 0 ≡ slice_index_or counts i 0 = get_or-set_other counts at i (slice_index_or counts at 0 + 1) 0 (λ e. h.1 (sym e)) in
      let none : one_if (at == i) ≡ 0 = ap one_if h.0 in
      omega (arith, same, none)
]

pub lowered-at : (counts : List ℕ) (at i : ℕ) → at < length counts → 0 < slice_index_or counts at 0 → slice_index_or (lowered counts at) i 0 + one_if (at == i) ≡ slice_index_or counts i 0
lowered-at counts at i l some = elim (eqb_tells at i) [
  | inl h ↦
      let low : slice_index_or (lowered counts at) i 0 ≡ slice_index_or counts at 0 - 1 = ap (λ k. slice_index_or (lowered counts at) k 0) (sym h.1) ∙ get_or-set_same counts at (slice_index_or counts at 0 - 1) 0 l in
      let one : one_if (at == i) ≡ 1 = ap one_if h.0 in
      let same : slice_index_or counts at 0 ≡ slice_index_or counts i 0 = ap (λ k. slice_index_or counts k 0) h.1 in
      omega (arith, low, one, same, some)
  | inr h ↦
      let same : slice_index_or (lowered counts at) i 0 ≡ slice_index_or counts i 0 = get_or-set_other counts at i (slice_index_or counts at 0 - 1) 0 (λ e. h.1 (sym e)) in
      let none : one_if (at == i) ≡ 0 = ap one_if h.0 in
      omega (arith, same, none)
]
