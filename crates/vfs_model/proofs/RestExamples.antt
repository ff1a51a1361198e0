-- Worked examples of what the end leaves where something is in use still.
use Rattle.std.specs.Prelude.{◌≡◌, true, List, [], ◌∷◌, ◌++◌, codes, map, refl}
use Rattle.vfs_base.specs.declared.entry.Mark.TheVariants as mark
use Rattle.vfs_base.specs.declared.step.Step.TheVariants as step
use Rattle.vfs_model.proofs.DeviceExamples.{on_volume, sd0}
use Rattle.vfs_model.proofs.ExampleSteps.{asks, ends, rw_creat, steps}
use Rattle.vfs_model.specs.Asking.{Asked, is_at_rest, run_steps}
use Rattle.vfs_model.specs.Homes.{opening_world}
use Rattle.vfs_model.specs.MadeCalls.{written_rows}
use Rattle.vfs_model.specs.declared.namespace.KeptNode.TheVariants as kept
use Rattle.vfs_model.specs.declared.namespace.Namespace.{Namespace}

-- the namespace after steps on a mounted volume of one cell
abbrev left_by : List Asked → Namespace
left_by steps = (run_steps (opening_world [] (sd0 (1 ∷ []))) (on_volume steps)).next.namespace

-- a session stands in the volume, and has a file of it open that has no name any more
abbrev open_without_name : List Asked
open_without_name =
    asks 1 (step.Chdir (codes "/v"))
    ∷ asks 1 (step.Open (codes "f") rw_creat)
    ∷ asks 1 (step.Unlink (codes "f"))
    ∷ []

pub the_end_leaves_nothing_in_use : is_at_rest (left_by (open_without_name ++ ends mark.Clear ∷ [])) ≡ true
unfolding steps
the_end_leaves_nothing_in_use = refl

-- its cell is no file's, and so it is spare
pub a_file_without_name_gives_its_cell_back : map (λ volume. volume.spare) (left_by (open_without_name ++ ends mark.Clear ∷ [])).volumes ≡ (true ∷ []) ∷ []
unfolding steps
a_file_without_name_gives_its_cell_back = refl

-- and the end doesn't write it back
pub a_file_without_name_is_not_written : written_rows (left_by open_without_name) 1 step.Shutdown ≡ []
unfolding steps
a_file_without_name_is_not_written = refl

-- a file that has its name is
pub a_file_with_its_name_is_written : written_rows (left_by (asks 1 (step.Open (codes "/v/f") rw_creat) ∷ [])) 1 step.Shutdown ≡ 1 ∷ []
unfolding steps
a_file_with_its_name_is_written = refl

-- an open file that has its name keeps its cell, for the volume
pub a_file_with_its_name_stays_kept : map (λ volume. volume.kept) (left_by (
    asks 1 (step.Open (codes "/v/f") rw_creat)
    ∷ ends (mark.Fault 0)
    ∷ []
    )).volumes ≡ ((codes "f" ∷ [], kept.File 0) ∷ []) ∷ []
unfolding steps
a_file_with_its_name_stays_kept = refl
