-- The changes of rows that code tells, as the definitions tell them.
use Rattle.std.specs.Prelude.{ℕ, Bool, true, false, ◌-◌, Option, Some, None, List, [], ◌∷◌, slice_set}
use Rattle.vfs_model.specs.FileLife.{after_end}
use Rattle.vfs_model.specs.declared.namespace.End.{End}
use Rattle.vfs_model.specs.declared.namespace.Namespace.{Namespace}
use Rattle.vfs_model.specs.declared.namespace.Origin.{Origin}
use Rattle.vfs_model.specs.declared.namespace.Origin.TheVariants as origin
use Rattle.vfs_model.specs.declared.namespace.RowChange.{RowChange}
use Rattle.vfs_model.specs.declared.namespace.RowChange.TheVariants as change
use Rattle.plain_nodes.specs.declared.changes.Change.{Change}
use Rattle.plain_nodes.specs.declared.changes.Change.TheVariants as told

-- the change of the file that the row has by its generation
abbrev pub row_change : Change → RowChange
row_change (told.Bind row generation begins) = change.Bind (record { row = row; generation = generation }) begins
row_change (told.Free row generation end) = change.Free (record { row = row; generation = generation }) end

-- the one change, if there is one
abbrev pub row_changes : Option Change → List RowChange
row_changes None = []
row_changes (Some told) = row_change told ∷ []

-- the namespace in which the row is free, after its file has come to this end
abbrev pub freed : Namespace → ℕ → End → Namespace
freed n row end = after_end (record n { live_files = slice_set n.live_files (row - 1) None }) end

-- what it begins with lies in no rom
abbrev pub is_no_rom : Origin → Bool
is_no_rom origin.Empty = true
is_no_rom (origin.Rom place path) = false
is_no_rom (origin.Cell volume cell) = true
is_no_rom (origin.NewCell volume cell) = true
is_no_rom (origin.Device device) = true

-- the change brings no bytes from a rom
abbrev pub brings_no_bytes : Change → Bool
brings_no_bytes (told.Bind row generation begins) = is_no_rom begins
brings_no_bytes (told.Free row generation end) = true

abbrev pub brings_nothing : Option Change → Bool
brings_nothing None = true
brings_nothing (Some told) = brings_no_bytes told

-- the change frees a row
abbrev pub frees : RowChange → Bool
frees (change.Bind file begins) = false
frees (change.Free file end) = true
