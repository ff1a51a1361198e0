-- What steps do to rows: worked examples.
use Rattle.std.specs.Prelude.{◌≡◌, false, Some, None, List, [], ◌∷◌, codes, refl}
use Rattle.vfs_base.specs.declared.entry.Mark.TheVariants as mark
use Rattle.vfs_base.specs.declared.step.Step.TheVariants as step
use Rattle.vfs_model.proofs.ExampleSteps.{asks, bare, hold, id, rw_creat, steps}
use Rattle.vfs_model.specs.Asking.{Asked, run_steps}
use Rattle.vfs_model.specs.Homes.{opening_world}
use Rattle.vfs_model.specs.RowChange.{change_at, touches}
use Rattle.vfs_model.specs.declared.namespace.End.TheVariants as end
use Rattle.vfs_model.specs.declared.namespace.Namespace.{Namespace}
use Rattle.vfs_model.specs.declared.namespace.Origin.TheVariants as origin
use Rattle.vfs_model.specs.declared.namespace.RowChange.TheVariants as change

-- the namespace after steps on the opening world without devices
abbrev after : List Asked → Namespace
after asked = (run_steps (opening_world [] bare) asked).next.namespace

pub a_made_file_takes_the_first_row : change_at (after []) 1 (step.Open (codes "/f") rw_creat) mark.Clear 1 ≡ Some (change.Bind (id 1 1) origin.Empty)
unfolding steps
a_made_file_takes_the_first_row = refl

pub other_rows_stay : touches (after []) 1 (step.Open (codes "/f") rw_creat) 2 ≡ false
unfolding steps
other_rows_stay = refl

pub want_of_memory_leaves_the_row : change_at (after []) 1 (step.Open (codes "/f") rw_creat) (mark.NoMem 0) 1 ≡ None
unfolding steps
want_of_memory_leaves_the_row = refl

pub a_held_file_keeps_its_row :
    change_at (after (asks 1 (step.Open (codes "/f") rw_creat) ∷ [])) 1 (step.Unlink (codes "/f")) mark.Clear 1 ≡ None
unfolding steps
a_held_file_keeps_its_row = refl

pub the_last_close_frees_the_row :
    change_at (after (asks 1 (step.Open (codes "/f") rw_creat) ∷ asks 1 (step.Unlink (codes "/f")) ∷ [])) 1 (step.Close (hold 1 1)) mark.Clear 1
    ≡ Some (change.Free (id 1 1) end.Nothing)
unfolding steps
the_last_close_frees_the_row = refl
