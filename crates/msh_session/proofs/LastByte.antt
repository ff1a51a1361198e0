-- The last item of a list, as a definition has it and as a slice has it.
use Rattle.std.proofs.Common.{◌≡◌, ◌-◌, List, [], ◌∷◌, length, Some, None, slice_get, refl, ap, ◌∙◌, arith}
use Rattle.std.specs.List.{last_or}

some_last_or : {A : Type 0} → (x : A) (xs : List A) → last_or (Some x) xs ≡ slice_get (x ∷ xs) (length xs)
some_last_or x [] = refl
some_last_or x (y ∷ ys) = some_last_or y ys

pub last_or_at : {A : Type 0} → (xs : List A) → last_or None xs ≡ slice_get xs (length xs - 1)
last_or_at [] = refl
last_or_at (x ∷ xs) = some_last_or x xs ∙ ap (slice_get (x ∷ xs)) (omega arith)
