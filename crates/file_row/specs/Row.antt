-- What a contract sees of a row: its generation, and what is in it.
use Rattle.std.specs.Prelude.{ℕ, Option, Some, None, List, length, option_map}
use Rattle.vfs_base.specs.declared.kinds.Kind.TheVariants as kind
use Rattle.vfs_base.specs.declared.limits.TheConstants.{TMP_FILE_MAX}
use Rattle.vfs_model.specs.RowShape.{RowShape}
use Rattle.vfs_model.specs.RowShape as shape
use Rattle.vfs_model.specs.declared.world.FileState.{FileState}
use Rattle.vfs_model.specs.declared.world.FileState.TheVariants as file
use Rattle.vfs_outside.specs.Chars.{CharsContents}
use Rattle.cell_file.specs.CellFile.{CellFile, capacity, told_bytes}
use Rattle.file_row.specs.declared.row_body.RowBody.{RowBody}
use Rattle.file_row.specs.declared.row_body.RowBody.TheVariants as body

-- A character device: what it tells, and how many faults it met.
pub record CharsState : Type 0 where
  pub contents : Option CharsContents
  pub faults : ℕ

-- a character device, by what it tells
abbrev pub seen : {C : Type 0} → (C → Option CharsContents) → (C → ℕ) → C → CharsState
seen contents faults device = record { contents = contents device; faults = faults device }

-- What is in a row: no file, bytes in memory, a rom's bytes, a file on a cell, or a character device.
pub data RowFile : Type 0 where
  Unbound : RowFile
  Tmp : List ℕ → RowFile
  Rom : List ℕ → RowFile
  Cell : CellFile → RowFile
  Char : CharsState → RowFile

-- A row, and the generation of the file that is in it or was in it last.
pub record Row : Type 0 where
  pub generation : ℕ
  pub file : RowFile

-- what is known of a row without its bytes
abbrev pub shape_in : ℕ → RowFile → RowShape
shape_in generation Unbound = shape.Unbound generation
shape_in generation (Tmp bytes) = shape.Bytes generation kind.Tmp TMP_FILE_MAX (length bytes)
shape_in generation (Rom bytes) = shape.Bytes generation kind.Rom (length bytes) (length bytes)
shape_in generation (Cell f) = shape.Bytes generation kind.Cell (capacity f) f.size
shape_in generation (Char device) = shape.Device generation

abbrev pub shape_at : Row → RowShape
shape_at row = shape_in row.generation row.file

-- a character device's file
abbrev pub device_file : ℕ → CharsContents → FileState
device_file generation told = file.Device generation told.input told.output

-- the file in a row, where its device tells what it holds
abbrev pub told_in : ℕ → RowFile → Option FileState
told_in generation Unbound = Some (file.Unbound generation)
told_in generation (Tmp bytes) = Some (file.Bytes generation kind.Tmp TMP_FILE_MAX bytes)
told_in generation (Rom bytes) = Some (file.Bytes generation kind.Rom (length bytes) bytes)
told_in generation (Cell f) = option_map (file.Bytes generation kind.Cell (capacity f)) (told_bytes f)
told_in generation (Char device) = option_map (device_file generation) device.contents

abbrev pub told_at : Row → Option FileState
told_at row = told_in row.generation row.file

-- how many faults the row's device met, if the row has one
abbrev pub faults_in : RowFile → Option ℕ
faults_in Unbound = None
faults_in (Tmp bytes) = None
faults_in (Rom bytes) = None
faults_in (Cell f) = Some f.state.device.counts.faults
faults_in (Char device) = Some device.faults

-- what is in a row, by its body and what its device tells
abbrev pub file_of : {B C : Type 0} → (C → Option CharsContents) → (C → ℕ) → RowBody B C → RowFile
file_of contents faults body.Unbound = Unbound
file_of contents faults (body.Tmp bytes) = Tmp bytes
file_of contents faults (body.Rom bytes) = Rom bytes
file_of contents faults (body.Cell f) = Cell f.value
file_of contents faults (body.Char device) = Char (seen contents faults device.value)
