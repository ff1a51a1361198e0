-- No byte decides what a step of a row is refused with.
use Rattle.std.specs.Prelude.{◌≡◌, refl}
use Rattle.vfs_base.specs.declared.step.Step.{Step}
use Rattle.vfs_model.specs.FileStep.{file_refusals}
use Rattle.vfs_model.specs.RowShape.{shape_of, shape_refusals}
use Rattle.vfs_model.specs.declared.world.FileState.{FileState}
use Rattle.vfs_model.specs.declared.world.FileState.TheVariants as file

pub file_refusals-shape : (f : FileState) (asked : Step) → file_refusals f asked ≡ shape_refusals (shape_of f) asked
unfolding file_refusals
file_refusals-shape (file.Unbound generation) asked = refl
file_refusals-shape (file.Bytes generation kind capacity bytes) asked = refl
file_refusals-shape (file.Device generation input output) asked = refl
