-- What stands at a place of a list, and what the numbers from one on meet.
use Rattle.std.proofs.Common.{◌≡◌, ◌≢◌, ◌∙◌, ℕ, zero, suc, ◌+◌, ◌<◌, List, [], ◌∷◌, ◌++◌, inl, inr, length, set, refl, sym, ap, arith}
use Rattle.std.specs.Prelude.{◌⊎◌, Some, Bool, map, slice_get}
use Rattle.std.specs.List.{flat_map, list_all, range_with_len}
use Rattle.std.proofs.lemmas.List.Folds.{list_all-map}

-- another place keeps what it has
pub get-other : {X : Type 0} (xs : List X) (i j : ℕ) (y : X) → j ≢ i → slice_get (set xs i y) j ≡ slice_get xs j
get-other [] i j y ne = refl
get-other (x ∷ xs) zero zero y ne = absurd (ne refl)
get-other (x ∷ xs) zero (suc j) y ne = refl
get-other (x ∷ xs) (suc i) zero y ne = refl
get-other (x ∷ xs) (suc i) (suc j) y ne = get-other xs i j y (λ e. ne (ap suc e))

-- the place has what was put there
pub get-same : {X : Type 0} (xs : List X) (i : ℕ) (y : X) → i < length xs → slice_get (set xs i y) i ≡ Some y
get-same [] i y within = absurd (omega arith)
get-same (x ∷ xs) zero y within = refl
get-same (x ∷ xs) (suc i) y within = get-same xs i y (omega arith)

-- what stands in a list with one more element stood there before, or is the last
pub get-last : {X : Type 0} (xs : List X) (y : X) (i : ℕ) (x : X) → slice_get (xs ++ y ∷ []) i ≡ Some x →
    (slice_get xs i ≡ Some x) ⊎ ((i ≡ length xs) × (y ≡ x))
get-last [] y zero x found = inr (refl, cc)
get-last [] y (suc i) x found = absurd (cc)
get-last (z ∷ xs) y zero x found = inl found
get-last (z ∷ xs) y (suc i) x found =
    elim (get-last xs y i x found) [
      | inl before ↦ inl before
      | inr last ↦ inr (ap suc last.0, last.1)
    ]

-- what each element gives is what its number gives, so the elements give what the numbers from one on do
pub map-numbers : {X Y : Type 0} (f : X → Y) (g : ℕ → Y) (a : ℕ) (xs : List X) →
    ((place : ℕ) (x : X) → slice_get xs place ≡ Some x → f x ≡ g (a + place)) →
    map f xs ≡ map g (range_with_len a (length xs))
map-numbers f g a [] same = refl
map-numbers f g a (x ∷ xs) same =
    let here : a + 0 ≡ a = omega arith in
    let moved : (n : ℕ) → a + suc n ≡ (a + 1) + n = λ n. omega arith in
    let first : f x ≡ g a = same 0 x refl ∙ ap g here in
    let later : map f xs ≡ map g (range_with_len (a + 1) (length xs)) =
    map-numbers f g (a + 1) xs (λ place y at. same (suc place) y at ∙ ap g (moved place)) in
    ap (λ y. y ∷ map f xs) first ∙ ap (λ ys. g a ∷ ys) later

pub all-numbers : {X : Type 0} (f : X → Bool) (g : ℕ → Bool) (a : ℕ) (xs : List X) →
    ((place : ℕ) (x : X) → slice_get xs place ≡ Some x → f x ≡ g (a + place)) →
    list_all f xs ≡ list_all g (range_with_len a (length xs))
all-numbers f g a xs same =
    sym (list_all-map (λ b. b) f xs)
    ∙ ap (list_all (λ b. b)) (map-numbers f g a xs same)
    ∙ list_all-map (λ b. b) g (range_with_len a (length xs))

map-joined : {X A : Type 0} (f : X → List A) (xs : List X) → flat_map (λ ys. ys) (map f xs) ≡ flat_map f xs
map-joined f [] = refl
map-joined f (x ∷ xs) = ap (λ ys. f x ++ ys) (map-joined f xs)

pub joined-numbers : {X A : Type 0} (f : X → List A) (g : ℕ → List A) (a : ℕ) (xs : List X) →
    ((place : ℕ) (x : X) → slice_get xs place ≡ Some x → f x ≡ g (a + place)) →
    flat_map f xs ≡ flat_map g (range_with_len a (length xs))
joined-numbers f g a xs same =
    sym (map-joined f xs)
    ∙ ap (flat_map (λ ys. ys)) (map-numbers f g a xs same)
    ∙ map-joined g (range_with_len a (length xs))
