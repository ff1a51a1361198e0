-- Lists that are picked from lists, one item at a time.
use Rattle.std.proofs.Common.{◌≡◌, List, [], ◌∷◌, ◌++◌, refl}
use Rattle.std.specs.Prelude.{Bool, true, false, cond, map, filter}

pub picked_on : {X Y : Type 0} (f : X → Y) (test : X → Bool) (x : X) (xs : List X) →
    map f (filter test (x ∷ xs)) ≡ map f (filter test (x ∷ [])) ++ map f (filter test xs)
picked_on f test x xs =
    elim (test x) as (λ b. map f (cond b (x ∷ filter test xs) (filter test xs)) ≡ map f (cond b (x ∷ []) []) ++ map f (filter test xs)) [
      | true ↦ refl
      | false ↦ refl
    ]

pub filtered_on : {X : Type 0} (test : X → Bool) (x : X) (xs : List X) →
    filter test (x ∷ xs) ≡ filter test (x ∷ []) ++ filter test xs
filtered_on test x xs =
    elim (test x) as (λ b. cond b (x ∷ filter test xs) (filter test xs) ≡ cond b (x ∷ []) [] ++ filter test xs) [
      | true ↦ refl
      | false ↦ refl
    ]
