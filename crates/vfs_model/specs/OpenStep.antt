-- Opening and mapping files, and giving them up.
use Rattle.std.specs.Prelude.{ℕ, ◌+◌, ◌==◌, Bool, true, false, not, ◌&&◌, ◌||◌, nat_lt, nat_le, is_none, bit_and, Option, Some, None, List, [], ◌∷◌, length, Result, Err, if◌then◌else◌}
use Rattle.std.specs.List.{position_or_len}
use Rattle.vfs_base.specs.Path.{Path}
use Rattle.vfs_base.specs.declared.errno.Errno.{Errno}
use Rattle.vfs_base.specs.declared.errno.Errno.TheVariants as errno
use Rattle.vfs_base.specs.declared.flags.OpenFlags.{OpenFlags}
use Rattle.vfs_base.specs.declared.kinds.FsType.{FsType}
use Rattle.vfs_base.specs.declared.kinds.FsType.TheVariants as fs
use Rattle.vfs_base.specs.declared.kinds.Kind.{Kind}
use Rattle.vfs_base.specs.declared.kinds.Kind.TheVariants as kind
use Rattle.vfs_base.specs.declared.kinds.NodeKind.{NodeKind}
use Rattle.vfs_base.specs.declared.kinds.NodeKind.TheVariants as node
use Rattle.vfs_base.specs.declared.reply.Reply.TheVariants as reply
use Rattle.vfs_base.specs.declared.limits.TheConstants.{HOLDS, ROWS}
use Rattle.vfs_model.specs.Chain.{◌>>=◌, ◌>>◌, refuse◌when◌, refuse_by}
use Rattle.vfs_model.specs.FileLife.{Rows, bind_row, least_free_row, next_file, volume_at, volume_named}
use Rattle.vfs_model.specs.Lookup.{asked_path, covering_mount, is_file, is_folder, is_full, is_read_only, is_there, node_at, walk_refusal, with_node}
use Rattle.vfs_model.specs.Namespace.{references_of, with_reference}
use Rattle.vfs_model.specs.NamespaceOutcome.{NamespaceOutcome, answers}
use Rattle.vfs_model.specs.declared.namespace.Backing.{Backing}
use Rattle.vfs_model.specs.declared.namespace.Backing.TheVariants as backing
use Rattle.vfs_model.specs.declared.namespace.LiveFile.{LiveFile}
use Rattle.vfs_model.specs.declared.namespace.Mount.{Mount}
use Rattle.vfs_model.specs.declared.namespace.Namespace.{Namespace}
use Rattle.vfs_model.specs.declared.namespace.Origin.{Origin}
use Rattle.vfs_model.specs.declared.namespace.Origin.TheVariants as origin
use Rattle.vfs_model.specs.declared.namespace.Reference.{Reference}
use Rattle.vfs_model.specs.declared.namespace.Role.TheVariants as role
use Rattle.vfs_model.specs.declared.namespace.RowChange.TheVariants as change

-- how a file is opened
abbrev pub for_reading : OpenFlags → Bool
for_reading flags = bit_and flags.0 1 == 1

abbrev pub for_writing : OpenFlags → Bool
for_writing flags = bit_and flags.0 2 == 2

abbrev pub creates : OpenFlags → Bool
creates flags = bit_and flags.0 4 == 4

abbrev pub is_exclusive : OpenFlags → Bool
is_exclusive flags = bit_and flags.0 8 == 8

abbrev pub truncates : OpenFlags → Bool
truncates flags = bit_and flags.0 16 == 16

-- the session's least number without a reference, or 33 where it has 32
abbrev pub least_free_number : Namespace → ℕ → ℕ
least_free_number n k = position_or_len is_none (references_of n k) + 1

-- the least spare cell of a mount's volume, or the number of its cells where none is spare
abbrev pub least_spare_cell : Namespace → Mount → ℕ
least_spare_cell n mount = position_or_len (λ is_spare. is_spare) (volume_at n (volume_named n mount.source)).spare

abbrev pub is_without_cell : Namespace → Mount → FsType → Bool
is_without_cell n mount fs.Cell = nat_le (length (volume_at n (volume_named n mount.source)).spare) (least_spare_cell n mount)
is_without_cell n mount fs.Tmp = false
is_without_cell n mount fs.Rom = false
is_without_cell n mount fs.Dev = false

-- a file can't be made at the path for want of a node, a row or a cell
abbrev pub has_no_room : Namespace → Path → Bool
has_no_room n path =
    is_full n path || nat_lt ROWS (least_free_row n) || is_without_cell n (covering_mount n path) (covering_mount n path).fs

abbrev pub is_rom_node : Option NodeKind → Bool
is_rom_node (Some (node.File file kind.Rom)) = true
is_rom_node (Some (node.File file kind.Tmp)) = false
is_rom_node (Some (node.File file kind.Cell)) = false
is_rom_node (Some (node.File file kind.Chr)) = false
is_rom_node (Some node.Dir) = false
is_rom_node None = false

-- POSIX.1-2017, open; in the order of the checks
unfoldable pub open_refusals : Namespace → ℕ → Path → OpenFlags → Result (Unit {0}) Errno
open_refusals n k path flags = do
  refuse errno.EINVAL when (not (for_reading flags || for_writing flags) || (truncates flags && not (for_writing flags)))
  refuse_by (walk_refusal n path)
  refuse errno.EISDIR when (is_folder n path)
  refuse errno.EEXIST when (is_file n path && creates flags && is_exclusive flags)
  refuse errno.ENOENT when (not (is_there n path) && not (creates flags))
  refuse errno.EROFS when ((not (is_there n path) && is_read_only n path) || (is_rom_node (node_at n path) && for_writing flags))
  refuse errno.EMFILE when (nat_lt HOLDS (least_free_number n k))
  refuse errno.ENOSPC when (not (is_there n path) && has_no_room n path)

-- the kind of the files of a type of file system
abbrev pub kind_of : FsType → Kind
kind_of fs.Tmp = kind.Tmp
kind_of fs.Rom = kind.Rom
kind_of fs.Cell = kind.Cell
kind_of fs.Dev = kind.Chr

-- what a new file of a mount lies on
abbrev pub new_backing : Namespace → Mount → FsType → Backing
new_backing n mount fs.Cell = backing.Cell (volume_named n mount.source) (least_spare_cell n mount)
new_backing n mount fs.Tmp = backing.Memory
new_backing n mount fs.Rom = backing.Memory
new_backing n mount fs.Dev = backing.Memory

-- what a new file begins with
abbrev pub new_origin : Backing → Origin
new_origin backing.Memory = origin.Empty
new_origin (backing.Cell volume cell) = origin.NewCell volume cell
new_origin (backing.Device device) = origin.Device device

-- the live file that is made at a path
abbrev pub new_life : Namespace → Path → LiveFile
new_life n path =
    let mount = covering_mount n path in
    record { kind = kind_of mount.fs; mount = mount.number; backing = new_backing n mount mount.fs }

-- a file with no bytes is made at the path, in the least free row
unfoldable pub make_file : Namespace → Path → Rows
make_file n path =
    let row = least_free_row n in
    let life = new_life n path in
    record {
      next = bind_row (with_node n path (node.File (next_file n row) life.kind)) row life;
      changes = change.Bind (next_file n row) (new_origin life.backing) ∷ [];
    }

-- the session opens the file that stands at the path
abbrev pub open_file : ℕ → Path → Rows → Option NodeKind → Result NamespaceOutcome Errno
open_file k path rows (Some (node.File file kind)) =
    let number = least_free_number rows.next k in
    let reference : Reference = record { role = role.Open; file = file; kind = kind; mount = (covering_mount rows.next path).number } in
    answers (reply.Opened (record { session = k; number = number }) file kind) (with_reference rows.next k number (Some reference)) rows.changes
open_file k path rows (Some node.Dir) = Err errno.EISDIR
open_file k path rows None = Err errno.ENOENT

-- the namespace in which a file stands at the path: made where it is absent
abbrev pub with_file_at : Namespace → Path → Rows
with_file_at n path = if is_there n path then record { next = n; changes = [] } else make_file n path

unfoldable pub open_at : Namespace → ℕ → Path → OpenFlags → Result NamespaceOutcome Errno
open_at n k path flags = do
  open_refusals n k path flags
  open_file k path (with_file_at n path) (node_at (with_file_at n path).next path)

abbrev pub open_step : Namespace → ℕ → List ℕ → OpenFlags → Result NamespaceOutcome Errno
open_step n k text flags = do
  path ← asked_path n k text
  open_at n k path flags
