-- Counts of a test over a list, and places at which it holds.
use Rattle.std.proofs.Common.{◌≡◌, ℕ, ◌+◌, ◌<◌, Bool, true, false, ◌||◌, List, [], ◌∷◌, length, slice_index_or, refl, ap, arith}
use Rattle.std.proofs.lemmas.List.Sums.{sum_by-cons}
use Rattle.std.specs.List.{list_any}
use Rattle.std.specs.Prelude.{count_by}
use Rattle.vfs_model.specs.Boxes.{one_if}
use Rattle.world_laws.proofs.lists.Lists.{nor-first, nor-second, place-any}

-- a test fails of all where the count is 0
pub none-count : {X : Type 0} (p : X → Bool) (xs : List X) → list_any p xs ≡ false → count_by p xs ≡ 0
none-count p [] h = refl
none-count p (x ∷ xs) h =
    let one : count_by p (x ∷ xs) ≡ one_if (p x) + count_by p xs = sum_by-cons (λ y. one_if (p y)) x xs in
    let first : one_if (p x) ≡ 0 = ap one_if (nor-first (p x) (list_any p xs) h) in
    let later = none-count p xs (nor-second (p x) (list_any p xs) h) in
    omega (arith, one, first, later)

count-first : {X : Type 0} (p : X → Bool) (x : X) (xs : List X) (b : Bool) → p x ≡ b → (b || list_any p xs) ≡ true → (list_any p xs ≡ true → 0 < count_by p xs) → 0 < count_by p (x ∷ xs)
count-first p x xs true e h later =
    let one : count_by p (x ∷ xs) ≡ one_if (p x) + count_by p xs = sum_by-cons (λ y. one_if (p y)) x xs in
    let first : one_if (p x) ≡ 1 = ap one_if e in
    omega (arith, one, first)
count-first p x xs false e h later =
    let one : count_by p (x ∷ xs) ≡ one_if (p x) + count_by p xs = sum_by-cons (λ y. one_if (p y)) x xs in
    let more = later h in
    omega (arith, one, more)

pub some-count : {X : Type 0} (p : X → Bool) (xs : List X) → list_any p xs ≡ true → 0 < count_by p xs
some-count p [] h = absurd (cc)
some-count p (x ∷ xs) h = count-first p x xs (p x) refl h (some-count p xs)

pub count-place : {X : Type 0} (p : X → Bool) (xs : List X) (place : ℕ) (d : X) → place < length xs → p (slice_index_or xs place d) ≡ true → 0 < count_by p xs
count-place p xs place d l h = some-count p xs (place-any p xs place d l h)
