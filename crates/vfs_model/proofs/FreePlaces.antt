-- Free and used places of a table.
use Rattle.std.proofs.Common.{◌≡◌, ℕ, zero, suc, ◌+◌, ◌<◌, ◌≤◌, Bool, true, false, not, nat_lt, is_none, is_some, Option, Some, None, Result, Ok, List, [], ◌∷◌, length, slice_index_or, ◌⊎◌, inl, inr, refl, ap, ◌∙◌, arith}
use Rattle.std.specs.List.{list_any, position_or_len}
use Rattle.std.proofs.lemmas.Bool.{ltb-false}
use Rattle.std.proofs.lemmas.Bool.Decides.{nat_tests}

pub not-full : (free : Bool) → not free ≡ false → free ≡ true
not-full true e = refl
not-full false e = absurd (cc)

-- the first free place, or the number of places where none is free
pub free-le : {X : Type 0} (xs : List (Option X)) → position_or_len is_none xs ≤ length xs
free-le [] = omega arith
free-le (None ∷ xs) = omega arith
free-le (Some x ∷ xs) = let l = free-le xs in omega arith

-- before the first free place all are used
pub free-first : {X : Type 0} (xs : List (Option X)) (k : ℕ) → k < position_or_len is_none xs → is_some (slice_index_or xs k None) ≡ true
free-first [] k l = absurd (omega arith)
free-first (None ∷ xs) k l = absurd (omega arith)
free-first (Some x ∷ xs) zero l = refl
free-first (Some x ∷ xs) (suc k) l = free-first xs k (omega arith)

pub lt-from : (n : ℕ) → nat_lt 0 n ≡ true → 0 < n
lt-from n e = grind (arith, nat_tests)

pub lt-by : (a b : ℕ) (t : Bool) → nat_lt a b ≡ t → (a < b) ⊎ (b ≤ a)
lt-by a b true e = inl (grind (arith, nat_tests))
lt-by a b false e = inr (ltb-false a b e)

pub ok-same : {X E : Type 0} (a b : X) (r : Result X E) → Ok a ≡ r → r ≡ Ok b → a ≡ b
ok-same a b r p q = cc

pub get-in : {X : Type 0} (xs : List (Option X)) (place : ℕ) (x : X) → slice_index_or xs place None ≡ Some x → place < length xs
get-in [] zero x e = absurd (cc)
get-in [] (suc place) x e = absurd (cc)
get-in (y ∷ xs) zero x e = omega arith
get-in (y ∷ xs) (suc place) x e = let l = get-in xs place x e in omega arith

pub free-none : {X : Type 0} (xs : List (Option X)) → slice_index_or xs (position_or_len is_none xs) None ≡ None
free-none [] = refl
free-none (None ∷ xs) = refl
free-none (Some x ∷ xs) =
    let next : 1 + position_or_len is_none xs ≡ suc (position_or_len is_none xs) = omega arith in
    ap (λ k. slice_index_or (Some x ∷ xs) k None) next ∙ free-none xs

pub free-lt : {X : Type 0} (xs : List (Option X)) → list_any is_none xs ≡ true → position_or_len is_none xs < length xs
free-lt [] e = absurd (cc)
free-lt (None ∷ xs) e = omega arith
free-lt (Some x ∷ xs) e = let l = free-lt xs e in omega arith

pub some-in : {X : Type 0} (xs : List (Option X)) (k : ℕ) → is_some (slice_index_or xs k None) ≡ true → k < length xs
some-in [] zero e = absurd (cc)
some-in [] (suc k) e = absurd (cc)
some-in (x ∷ xs) zero e = omega arith
some-in (x ∷ xs) (suc k) e = let l = some-in xs k e in omega arith

pub not-both : (t : Bool) → t ≡ true → t ≡ false → ⊥
not-both t a b = cc
