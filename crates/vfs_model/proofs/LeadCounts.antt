-- How many descriptors lead to an open file.
use Rattle.std.proofs.Common.{◌≡◌, ◌≢◌, ℕ, zero, suc, ◌+◌, ◌<◌, ◌≤◌, true, false, cond, ◌==◌, is_none, is_some, Option, Some, None, List, [], ◌∷◌, length, slice_index_or, slice_set, ◌⊎◌, inl, inr, eqb, refl, ap, ◌∙◌, arith}
use Rattle.std.specs.List.{count_by, list_any, sum_by}
use Rattle.std.proofs.lemmas.Bool.{eq-eqb}
use Rattle.std.proofs.lemmas.Bool.Decides.{eqb_tells, nat_tests}
use Rattle.std.proofs.lemmas.List.Sums.{count_by-le-length, sum_by-cons, sum_by-set, sum_by_more_le}
use Rattle.vfs_model.specs.OpenFiles.{leads_to}
use Rattle.vfs_model.proofs.FreePlaces.{get-in}

-- whether a descriptor leads to this open file, as a number
unfoldable pub one : ℕ → Option ℕ → ℕ
one number found = cond (leads_to number found) 1 0

-- how many descriptors lead to an open file
unfoldable pub leads : List (Option ℕ) → ℕ → ℕ
leads descriptors number = count_by (leads_to number) descriptors

unfoldable pub used : Option ℕ → ℕ
used found = cond (is_some found) 1 0

-- the sum of a function below a number
unfoldable pub below : (ℕ → ℕ) → ℕ → ℕ
below g zero = 0
below g (suc n) = below g n + g n

pub below-add : (a b : ℕ → ℕ) (n : ℕ) → below (λ k. a k + b k) n ≡ below a n + below b n
unfolding below
below-add a b zero = refl
below-add a b (suc n) = let e = below-add a b n in omega arith

pub below-le : (a b : ℕ → ℕ) (n : ℕ) → ((k : ℕ) → a k ≡ b k) → below a n ≡ below b n
unfolding below
below-le a b zero e = refl
below-le a b (suc n) e = let s = below-le a b n e in let t = e n in omega arith

-- a descriptor leads to one open file at most
pub none-below : (m n : ℕ) → n ≤ m → below (λ k. one k (Some m)) n ≡ 0
unfolding below one
none-below m zero l = refl
none-below m (suc n) l =
    let before = none-below m n (omega arith) in
    let other : (m == n) ≡ false = grind (arith, nat_tests) in
    let here : one n (Some m) ≡ 0 = ap (λ t. cond t 1 0) other in
    omega arith

pub one-next : (m n : ℕ) → below (λ k. one k (Some m)) n ≤ 1 → ((eqb m n ≡ true) × (m ≡ n)) ⊎ ((eqb m n ≡ false) × (m ≢ n)) →
    below (λ k. one k (Some m)) (suc n) ≤ 1
unfolding below one
one-next m n before (inl same) =
    let none = none-below m n (omega arith) in
    let here : one n (Some m) ≡ 1 = ap (λ t. cond t 1 0) same.0 in
    omega arith
one-next m n before (inr other) =
    let here : one n (Some m) ≡ 0 = ap (λ t. cond t 1 0) other.0 in
    omega arith

pub one-below : (m n : ℕ) → below (λ k. one k (Some m)) n ≤ 1
unfolding below
one-below m zero = omega arith
one-below m (suc n) = one-next m n (one-below m n) (eqb_tells m n)

pub nothing-below : (n : ℕ) → below (λ k. one k None) n ≡ 0
unfolding below one
nothing-below zero = refl
nothing-below (suc n) = let e = nothing-below n in omega arith

pub found-below : (found : Option ℕ) (n : ℕ) → below (λ k. one k found) n ≤ used found
unfolding used
found-below None n = let e = nothing-below n in omega arith
found-below (Some m) n = one-below m n

pub zeros-below : (n : ℕ) → below (leads []) n ≡ 0
unfolding below leads
zeros-below zero = refl
zeros-below (suc n) = let e = zeros-below n in omega arith

-- open files to which descriptors lead are not more than the descriptors that are used
pub leads-below : (descriptors : List (Option ℕ)) (n : ℕ) → below (leads descriptors) n ≤ sum_by used descriptors
unfolding leads one
leads-below [] n = let e = zeros-below n in omega arith
leads-below (found ∷ descriptors) n =
    let cons : below (leads (found ∷ descriptors)) n ≡ below (λ k. one k found + leads descriptors k) n =
    below-le (leads (found ∷ descriptors)) (λ k. one k found + leads descriptors k) n (λ k. sum_by-cons (one k) found descriptors) in
    let both = below-add (λ k. one k found) (leads descriptors) n in
    let first = found-below found n in
    let rest = leads-below descriptors n in
    let sums = sum_by-cons used found descriptors in
    omega arith

-- as many files as numbers, to each of which a descriptor leads
pub all-below : (g : ℕ → ℕ) (n : ℕ) → ((k : ℕ) → k < n → 0 < g k) → n ≤ below g n
unfolding below
all-below g zero each = omega arith
all-below g (suc n) each =
    let before = all-below g n (λ k l. each k (omega arith)) in
    let last = each n (omega arith) in
    omega arith

-- where a descriptor is free, fewer are used than there are
pub one-free : (descriptors : List (Option ℕ)) → list_any is_none descriptors ≡ true → sum_by used descriptors < length descriptors
unfolding used
one-free [] e = absurd (cc)
one-free (None ∷ descriptors) e =
    let sums = sum_by-cons used None descriptors in
    let most = count_by-le-length is_some descriptors in
    omega arith
one-free (Some n ∷ descriptors) e =
    let sums = sum_by-cons used (Some n) descriptors in
    let rest = one-free descriptors e in
    omega arith

-- how many descriptors lead to an open file after one has changed
pub leads-set : (descriptors : List (Option ℕ)) (place : ℕ) (found : Option ℕ) (number : ℕ) → place < length descriptors →
    leads (slice_set descriptors place found) number + one number (slice_index_or descriptors place None) ≡ leads descriptors number + one number found
unfolding leads one
leads-set descriptors place found number l = sum_by-set (one number) descriptors place found None l

-- a descriptor is among those that lead to its open file
pub leads-one : (descriptors : List (Option ℕ)) (place number : ℕ) → place < length descriptors →
    slice_index_or descriptors place None ≡ Some number → 0 < leads descriptors number
unfolding leads one
leads-one descriptors place number l e =
    let part = sum_by_more_le (one number) descriptors place None l in
    let here : one number (slice_index_or descriptors place None) ≡ 1 = ap (one number) e ∙ ap (λ t. cond t 1 0) (eq-eqb number number refl) in
    omega arith

pub one-same : (number : ℕ) → one number (Some number) ≡ 1
unfolding one
one-same number = ap (λ t. cond t 1 0) (eq-eqb number number refl)

pub one-other : (m number : ℕ) → (eqb m number ≡ false) → one number (Some m) ≡ 0
unfolding one
one-other m number e = ap (λ t. cond t 1 0) e

pub one-none : (number : ℕ) (found : Option ℕ) → found ≡ None → one number found ≡ 0
unfolding one
one-none number found e = ap (one number) e

-- one more descriptor leads to an open file, at a place where none did
pub leads-more : (descriptors : List (Option ℕ)) (place n : ℕ) → place < length descriptors → slice_index_or descriptors place None ≡ None →
    (number : ℕ) → leads (slice_set descriptors place (Some n)) number ≡ leads descriptors number + one number (Some n)
leads-more descriptors place n l free number =
    let counts = leads-set descriptors place (Some n) number l in
    let before = one-none number (slice_index_or descriptors place None) free in
    omega arith

-- a descriptor goes that led to an open file
pub leads-less : (descriptors : List (Option ℕ)) (place n : ℕ) → slice_index_or descriptors place None ≡ Some n →
    (number : ℕ) → leads (slice_set descriptors place None) number + one number (Some n) ≡ leads descriptors number
leads-less descriptors place n at number =
    let counts = leads-set descriptors place None number (get-in descriptors place n at) in
    let before = ap (one number) at in
    let after = one-none number None refl in
    omega arith
