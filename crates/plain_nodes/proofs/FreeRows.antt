-- A free row has a generation left.
use Rattle.std.proofs.Common.{◌≡◌, ℕ, suc, ◌+◌, ◌-◌, ◌<◌, List, [], ◌∷◌, length, arith, refl}
use Rattle.std.specs.Prelude.{true, false, cond, not, Option, None, Some, nat_lt, slice_index_or}
use Rattle.std.specs.Prelude.{IfSome}
use Rattle.vfs_model.specs.FileLife.{least_free_row}
use Rattle.vfs_model.specs.Namespace.{generation_at}
use Rattle.vfs_model.specs.declared.namespace.LiveFile.{LiveFile}
use Rattle.vfs_model.specs.declared.namespace.Namespace.{Namespace}
use Rattle.plain_nodes.specs.Rows.{RowsMatch, first_free}

one_on : (generation : ℕ) (generations : List ℕ) (place : ℕ) →
    slice_index_or generations place 0 < 18446744073709551615 →
    slice_index_or (generation ∷ generations) (1 + place) 0 < 18446744073709551615
one_on generation generations place h =
    let e : 1 + place ≡ suc place = omega arith in
    rw e h

-- the generation of the first free row is not the last one
pub free_row_has_room : (live_files : List (Option LiveFile)) (generations : List ℕ) → length live_files ≡ length generations →
    slice_index_or generations (first_free live_files generations) 0 < 18446744073709551615
free_row_has_room [] [] e = omega arith
free_row_has_room (life ∷ live_files) [] e = absurd (omega (arith, e))
free_row_has_room [] (generation ∷ generations) e = absurd (omega (arith, e))
free_row_has_room (None ∷ live_files) (generation ∷ generations) e =
    let later = free_row_has_room live_files generations (omega (arith, e)) in
    elim (nat_lt generation 18446744073709551615) as (λ b. nat_lt generation 18446744073709551615 ≡ b →
    slice_index_or (generation ∷ generations) (cond (not b) (1 + first_free live_files generations) 0) 0 < 18446744073709551615) [
      | true ↦ λ t. grind (arith, t)
      | false ↦ λ t. one_on generation generations (first_free live_files generations) later
    ] refl
free_row_has_room (Some life ∷ live_files) (generation ∷ generations) e =
    one_on generation generations (first_free live_files generations) (free_row_has_room live_files generations (omega (arith, e)))

-- the least free row has a next generation
pub least_row_has_room : (n : Namespace) (found : Option ℕ) → RowsMatch n →
    IfSome found (λ row. row ≡ least_free_row n) → IfSome found (λ row. generation_at n row < 18446744073709551615)
least_row_has_room n None e h = tt
least_row_has_room n (Some row) e h =
    let same : first_free n.live_files n.generations + 1 - 1 ≡ first_free n.live_files n.generations = omega arith in
    rw h (rw same (free_row_has_room n.live_files n.generations e))
