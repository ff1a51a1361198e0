-- Writing twice at a place of a list.
use Rattle.std.proofs.Common.{◌≡◌, ℕ, zero, suc, List, [], ◌∷◌, refl, ap, ◌∙◌}
use Rattle.std.specs.Prelude.{slice_index_or, slice_set}
use Rattle.std.proofs.lemmas.List.{set-get_or}

-- the second item stays
pub set_again : {X : Type 0} (xs : List X) (i : ℕ) (x y : X) → slice_set (slice_set xs i x) i y ≡ slice_set xs i y
set_again [] i x y = refl
set_again (z ∷ xs) zero x y = refl
set_again (z ∷ xs) (suc i) x y = ap (λ rest. z ∷ rest) (set_again xs i x y)

-- what was there is put back
pub set_back : {X : Type 0} (xs : List X) (i : ℕ) (x d : X) → slice_set (slice_set xs i x) i (slice_index_or xs i d) ≡ xs
set_back xs i x d = set_again xs i x (slice_index_or xs i d) ∙ set-get_or xs i d
