-- What is known of a row without its bytes, and what refuses its steps.
use Rattle.std.specs.Prelude.{◌≡◌, ℕ, length, Result, if◌then◌else◌}
use Rattle.vfs_base.specs.declared.errno.Errno.{Errno}
use Rattle.vfs_base.specs.declared.kinds.Kind.{Kind}
use Rattle.vfs_base.specs.declared.step.Step.{Step}
use Rattle.vfs_model.specs.FileStep.{absent_refusals, bytes_refusals, device_refusals, file_refusals, is_of_generation, step_file}
use Rattle.vfs_model.specs.declared.world.FileState.{FileState}
use Rattle.vfs_model.specs.declared.world.FileState.TheVariants as file

-- What a row is, whether its device tells what it holds or not.
pub data RowShape : Type 0 where
  -- no file, and the generation of the row's last one
  Unbound : ℕ → RowShape
  -- a file of bytes: its generation, kind, capacity and size
  Bytes : ℕ → Kind → ℕ → ℕ → RowShape
  -- a character device, and the row's generation
  Device : ℕ → RowShape

abbrev pub shape_of : FileState → RowShape
shape_of (file.Unbound generation) = Unbound generation
shape_of (file.Bytes generation kind capacity bytes) = Bytes generation kind capacity (length bytes)
shape_of (file.Device generation input output) = Device generation

-- what a step of a row of this shape is refused with
abbrev pub shape_refusals : RowShape → Step → Result (Unit {0}) Errno
shape_refusals (Unbound generation) asked = absent_refusals asked
shape_refusals (Bytes generation kind capacity size) asked =
    if is_of_generation generation (step_file asked) then bytes_refusals kind capacity size asked else absent_refusals asked
shape_refusals (Device generation) asked =
    if is_of_generation generation (step_file asked) then device_refusals asked else absent_refusals asked

-- no byte decides what a step is refused with
abbrev pub RefusalsNeedNoBytes : Type 0
RefusalsNeedNoBytes = (f : FileState) (asked : Step) → file_refusals f asked ≡ shape_refusals (shape_of f) asked
