-- Rows that are bound and freed, and what keeps a file alive.
use Rattle.std.specs.Prelude.{ℕ, ◌+◌, ◌-◌, ◌==◌, Bool, true, false, ◌&&◌, ◌||◌, nat_lt, Option, Some, None, is_none, List, [], ◌∷◌, ◌++◌, map, zip, slice_index_or, slice_set, if◌then◌else◌}
use Rattle.std.specs.List.{list_any, position_or_len}
use Rattle.vfs_base.specs.Path.{Path}
use Rattle.vfs_base.specs.declared.ids.FileId.{FileId}
use Rattle.vfs_base.specs.declared.kinds.NodeKind.{NodeKind}
use Rattle.vfs_base.specs.declared.kinds.NodeKind.TheVariants as node
use Rattle.vfs_model.specs.Namespace.{Tree, file_of, generation_at, life_at, same_bytes}
use Rattle.vfs_model.specs.declared.namespace.Backing.{Backing}
use Rattle.vfs_model.specs.declared.namespace.Backing.TheVariants as backing
use Rattle.vfs_model.specs.declared.namespace.DeviceState.{DeviceState}
use Rattle.vfs_model.specs.declared.namespace.End.{End}
use Rattle.vfs_model.specs.declared.namespace.End.TheVariants as end
use Rattle.vfs_model.specs.declared.namespace.KeptNode.{KeptNode}
use Rattle.vfs_model.specs.declared.namespace.LiveFile.{LiveFile}
use Rattle.vfs_model.specs.declared.namespace.Namespace.{Namespace}
use Rattle.vfs_model.specs.declared.namespace.Reference.{Reference}
use Rattle.vfs_model.specs.declared.namespace.RowChange.{RowChange}
use Rattle.vfs_model.specs.declared.namespace.RowChange.TheVariants as change
use Rattle.vfs_model.specs.declared.namespace.VolumeState.{VolumeState}

-- a namespace on the way through a step, and the changes of rows so far
pub record Rows : Type 0 where
  pub next : Namespace
  pub changes : List RowChange

-- a row that has no file, and a generation left
abbrev pub is_free_row : Option LiveFile → ℕ → Bool
is_free_row life generation = is_none life && nat_lt generation 18446744073709551615

-- for each row, whether it is free
abbrev pub free_rows : Namespace → List Bool
free_rows n = map (λ row. is_free_row row.0 row.1) (zip n.live_files n.generations)

-- the least free row, or 1025 where none is free
abbrev pub least_free_row : Namespace → ℕ
least_free_row n = position_or_len (λ free. free) (free_rows n) + 1

abbrev pub with_spare_cell : Bool → ℕ → VolumeState → VolumeState
with_spare_cell is_spare cell volume = record volume { spare = slice_set volume.spare cell is_spare }

abbrev pub no_volume : VolumeState
no_volume = record { name = []; pages = []; spare = []; kept = [] }

-- the volume at a place
abbrev pub volume_at : Namespace → ℕ → VolumeState
volume_at n place = slice_index_or n.volumes place no_volume

-- the place of the volume with this name
abbrev pub volume_named : Namespace → List ℕ → ℕ
volume_named n name = position_or_len (λ volume. same_bytes volume.name name) n.volumes

-- the namespace in which a volume keeps these names
abbrev pub with_kept : Namespace → ℕ → List (Path × KeptNode) → Namespace
with_kept n volume names = record n { volumes = slice_set n.volumes volume (record (volume_at n volume) { kept = names }) }

-- the namespace in which a cell of a volume is spare or not
abbrev pub with_cell : Bool → Namespace → ℕ → ℕ → Namespace
with_cell is_spare n volume cell = record n { volumes = slice_set n.volumes volume (with_spare_cell is_spare cell (volume_at n volume)) }

abbrev pub no_device : DeviceState
no_device = record { name = []; is_out = false }

-- the namespace in which a character device is out or not
abbrev pub with_device : Bool → Namespace → ℕ → Namespace
with_device is_out n device =
    record n { devices = slice_set n.devices device (record (slice_index_or n.devices device no_device) { is_out = is_out }) }

-- the namespace after a live file has taken what it lies on
abbrev pub after_taking : Namespace → Backing → Namespace
after_taking n backing.Memory = n
after_taking n (backing.Cell volume cell) = with_cell false n volume cell
after_taking n (backing.Device device) = with_device true n device

-- the file that a row takes when it is bound: one of its next generation
abbrev pub next_file : Namespace → ℕ → FileId
next_file n row = record { row = row; generation = generation_at n row + 1 }

-- the row has become this live file
unfoldable pub bind_row : Namespace → ℕ → LiveFile → Namespace
bind_row n row life =
    after_taking (record n {
      live_files = slice_set n.live_files (row - 1) (Some life);
      generations = slice_set n.generations (row - 1) (generation_at n row + 1);
    }) life.backing

-- what becomes of a file that is neither linked nor held any more
abbrev pub end_of_dropped : Backing → End
end_of_dropped backing.Memory = end.Nothing
end_of_dropped (backing.Cell volume cell) = end.Spare volume cell
end_of_dropped (backing.Device device) = end.Device device

-- what becomes of a file whose mount goes
abbrev pub end_of_unmounted : Backing → End
end_of_unmounted backing.Memory = end.Nothing
end_of_unmounted (backing.Cell volume cell) = end.Kept volume cell
end_of_unmounted (backing.Device device) = end.Device device

-- the namespace after a file has come to its end
abbrev pub after_end : Namespace → End → Namespace
after_end n end.Nothing = n
after_end n (end.Spare volume cell) = with_cell true n volume cell
after_end n (end.Kept volume cell) = n
after_end n (end.Device device) = with_device false n device

abbrev pub backing_of : Option LiveFile → Backing
backing_of None = backing.Memory
backing_of (Some life) = life.backing

-- the row is freed and keeps its generation
unfoldable pub free_row : (Backing → End) → Rows → ℕ → Rows
free_row ending rows row =
    let n = rows.next in
    let end = ending (backing_of (life_at n row)) in
    record {
      next = after_end (record n { live_files = slice_set n.live_files (row - 1) None }) end;
      changes = rows.changes ++ change.Free (file_of n row) end ∷ [];
    }

-- a node is the file of this row
abbrev pub is_file_of_row : ℕ → NodeKind → Bool
is_file_of_row row node.Dir = false
is_file_of_row row (node.File file kind) = file.row == row

-- the tree has the file of this row
abbrev pub has_row : ℕ → Tree → Bool
has_row row tree = list_any (λ entry. is_file_of_row row entry.1) tree

-- the file of this row stands at a path
abbrev pub is_linked : Namespace → ℕ → Bool
is_linked n row = list_any (has_row row) n.trees

-- a reference names the file of this row
abbrev pub refers_to : ℕ → Option Reference → Bool
refers_to row None = false
refers_to row (Some reference) = reference.file.row == row

abbrev pub is_held : Namespace → ℕ → Bool
is_held n row = list_any (refers_to row) n.references

-- a file that is neither linked nor held is freed
unfoldable pub free_if_unused : Namespace → ℕ → Rows
free_if_unused n row =
    if is_linked n row || is_held n row then record { next = n; changes = [] }
    else free_row end_of_dropped (record { next = n; changes = [] }) row
