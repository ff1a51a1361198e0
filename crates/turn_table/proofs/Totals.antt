-- Sums over lists of views, and functions that differ at one place.
use Rattle.std.proofs.Common.{◌≡◌, ◌≢◌, ℕ, zero, suc, ◌+◌, ◌≤◌, List, [], ◌∷◌, ◌++◌, length, set, sym, refl, ap, subst, arith}
use mathlib.Core.Option.{some, some-injective, some-ne-none}
use native.Mathlib.Decide.{ℕ_discrete}
use lib.ListN.{get_elem?}
use Rattle.turn_table.specs.Rule.{total}

module _ {V : Type 0} (f : V → ℕ) where
  -- the total after a change of one view
  pub total_set : (vs : List V) (i : ℕ) (v w : V) → get_elem? vs i ≡ some v → total f (set vs i w) + f v ≡ total f vs + f w
  total_set [] i v w e = absurd (some-ne-none v (sym e))
  total_set (x ∷ xs) zero v w e = let a : f x ≡ f v = ap f (some-injective x v e) in let t : ℕ = total f xs in let b : ℕ = f w in let c : ℕ = f v in omega arith
  total_set (x ∷ xs) (suc i) v w e = let r = total_set xs i v w e in omega (arith, r)

  pub total_push : (vs : List V) (w : V) → total f (vs ++ w ∷ []) ≡ total f vs + f w
  total_push [] w = omega arith
  total_push (x ∷ xs) w = omega (arith, total_push xs w)

  -- where each view counts for at most one, the total is at most their number
  pub total_most : (vs : List V) → ((v : V) → f v ≤ 1) → total f vs ≤ length vs
  total_most [] most = omega arith
  total_most (x ∷ xs) most = omega (arith, total_most xs most, most x)

  pub total_one : (vs : List V) (i : ℕ) (v : V) → get_elem? vs i ≡ some v → f v ≤ total f vs
  total_one [] i v e = absurd (some-ne-none v (sym e))
  total_one (x ∷ xs) zero v e = let a : f x ≡ f v = ap f (some-injective x v e) in omega arith
  total_one (x ∷ xs) (suc i) v e = omega (arith, total_one xs i v e)

  -- two views count for no more than all
  pub total_two : (vs : List V) (i j : ℕ) (v w : V) → get_elem? vs i ≡ some v → get_elem? vs j ≡ some w → i ≢ j → f v + f w ≤ total f vs
  total_two [] i j v w e d ne = absurd (some-ne-none v (sym e))
  total_two (x ∷ xs) zero zero v w e d ne = absurd (ne refl)
  total_two (x ∷ xs) zero (suc j) v w e d ne = let a : f x ≡ f v = ap f (some-injective x v e) in omega (arith, total_one xs j w d)
  total_two (x ∷ xs) (suc i) zero v w e d ne = let a : f x ≡ f w = ap f (some-injective x w d) in omega (arith, total_one xs i v e)
  total_two (x ∷ xs) (suc i) (suc j) v w e d ne = omega (arith, total_two xs i j v w e d (λ (s : i ≡ j). ne (ap suc s)))

pick : {A P : Type 0} → Dec P → A → A → A
pick (yes _) a b = a
pick (no _) a b = b

-- the function, with c at i
pub put : {A : Type 0} → (ℕ → A) → ℕ → A → ℕ → A
put f i c j = pick (ℕ_discrete j i) c (f j)

-- what holds of c at i, and of f at each other place, holds of the changed function
pub at_put : {A : Type 0} (f : ℕ → A) (i : ℕ) (c : A) (F : ℕ → A → Type 0) (j : ℕ) → (j ≡ i → F i c) → (j ≢ i → F j (f j)) → F j (put f i c j)
unfolding put pick
at_put {A} f i c F j here other = go (ℕ_discrete j i)
  where
    go : (d : Dec (j ≡ i)) → F j (pick d c (f j))
    go (yes e) = subst (λ (k : ℕ). F k c) (sym e) (here e)
    go (no n) = other n

pub put_here : {A : Type 0} (f : ℕ → A) (i : ℕ) (c : A) → put f i c i ≡ c
put_here {A} f i c = at_put f i c (λ j x. j ≡ i → x ≡ c) i (λ _ _. refl) (λ n e. absurd (n e)) refl

pub put_else : {A : Type 0} (f : ℕ → A) (i : ℕ) (c : A) (j : ℕ) → j ≢ i → put f i c j ≡ f j
put_else {A} f i c j ne = at_put f i c (λ k x. k ≢ i → x ≡ f k) j (λ e n. absurd (n refl)) (λ _ _. refl) ne
