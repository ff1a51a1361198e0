-- Unmounting, formatting, and the end of all mounts.
use Rattle.std.specs.Prelude.{ℕ, ◌==◌, Bool, true, false, not, ◌&&◌, ◌||◌, is_some, Option, Some, None, List, [], length, map, filter, fold, find, replicate, reverse, Result}
use Rattle.std.specs.List.{list_any, enumerate_from}
use Rattle.vfs_base.specs.Path.{Path}
use Rattle.vfs_base.specs.declared.errno.Errno.{Errno}
use Rattle.vfs_base.specs.declared.errno.Errno.TheVariants as errno
use Rattle.vfs_base.specs.declared.kinds.FsType.{FsType}
use Rattle.vfs_base.specs.declared.kinds.FsType.TheVariants as fs
use Rattle.vfs_base.specs.declared.kinds.NodeKind.{NodeKind}
use Rattle.vfs_base.specs.declared.kinds.NodeKind.TheVariants as node
use Rattle.vfs_base.specs.declared.reply.Reply.TheVariants as reply
use Rattle.std.specs.Prelude.{slice_set}
use Rattle.vfs_model.specs.Chain.{◌>>=◌, ◌>>◌, refuse◌when◌, wanted}
use Rattle.vfs_model.specs.Content.{is_mounted}
use Rattle.vfs_model.specs.FileLife.{Rows, backing_of, end_of_dropped, end_of_unmounted, free_row, is_linked, volume_at, volume_named, with_kept}
use Rattle.vfs_model.specs.Lookup.{asked_path, covering_mount, has_mount_below, with_tree}
use Rattle.vfs_model.specs.NameSteps.{done}
use Rattle.vfs_model.specs.Namespace.{all_mounts, life_at, same_bytes, same_path, tree_of}
use Rattle.vfs_model.specs.NamespaceOutcome.{NamespaceOutcome, answers}
use Rattle.vfs_model.specs.declared.namespace.Backing.{Backing}
use Rattle.vfs_model.specs.declared.namespace.Backing.TheVariants as backing
use Rattle.vfs_model.specs.declared.namespace.KeptNode.{KeptNode}
use Rattle.vfs_model.specs.declared.namespace.KeptNode.TheVariants as kept
use Rattle.vfs_model.specs.declared.namespace.LiveFile.{LiveFile}
use Rattle.vfs_model.specs.declared.namespace.Mount.{Mount}
use Rattle.vfs_model.specs.declared.namespace.Namespace.{Namespace}
use Rattle.vfs_model.specs.declared.namespace.Reference.{Reference}

-- a reference names the mount
abbrev pub refers_to_mount : ℕ → Option Reference → Bool
refers_to_mount number None = false
refers_to_mount number (Some reference) = reference.mount == number

-- another mount lies below it, a reference names it, or a session's working directory lies in it
unfoldable pub is_busy : Namespace → Mount → Bool
is_busy n mount =
    has_mount_below n mount.point
    || list_any (refers_to_mount mount.number) n.references
    || list_any (λ folder. (covering_mount n folder).number == mount.number) n.working_directories

-- the mount with this point
abbrev pub mount_at_point : Namespace → Path → Option Mount
mount_at_point n path = find (λ mount. same_path mount.point path) (all_mounts n)

-- the row's file belongs to the mount
abbrev pub is_of_mount : ℕ → Option LiveFile → Bool
is_of_mount number None = false
is_of_mount number (Some life) = life.mount == number

-- the rows of a mount's files, in their order
abbrev pub rows_of_mount : Namespace → ℕ → List ℕ
rows_of_mount n number = map (λ row. row.0) (filter (λ row. is_of_mount number row.1) (enumerate_from 1 n.live_files))

abbrev pub cell_of : Backing → KeptNode
cell_of backing.Memory = kept.Dir
cell_of (backing.Cell volume cell) = kept.File cell
cell_of (backing.Device device) = kept.Dir

-- what a volume keeps of a node of its mount: a folder, or the file's cell
abbrev pub kept_node : Namespace → NodeKind → KeptNode
kept_node n node.Dir = kept.Dir
kept_node n (node.File file kind) = cell_of (backing_of (life_at n file.row))

-- the volume of a cell mount keeps the names of its tree
abbrev pub keep_names : Namespace → Mount → FsType → Namespace
keep_names n mount fs.Cell =
    with_kept n (volume_named n mount.source) (map (λ entry. (entry.0, kept_node n entry.1)) (tree_of n mount.number))
keep_names n mount fs.Tmp = n
keep_names n mount fs.Rom = n
keep_names n mount fs.Dev = n

-- the mount has no nodes any more, and its files are freed by row; a volume keeps its names and cells
unfoldable pub empty_mount : Rows → Mount → Rows
empty_mount rows mount =
    let kept = keep_names rows.next mount mount.fs in
    fold (free_row end_of_unmounted)
    (record rows { next = with_tree kept mount.number [] })
    (rows_of_mount rows.next mount.number)

-- the mount goes
unfoldable pub remove_mount : Rows → Mount → Rows
remove_mount rows mount =
    let emptied = empty_mount rows mount in
    let n = emptied.next in
    record emptied { next = record n { mounts = filter (λ other. not (other.number == mount.number)) n.mounts } }

-- an unmount, but for the error of a device
unfoldable pub umount_at : Namespace → Path → Result NamespaceOutcome Errno
umount_at n path = do
  mount ← wanted errno.EINVAL (mount_at_point n path)
  refuse errno.EBUSY when (is_busy n mount)
  done (remove_mount (record { next = n; changes = [] }) mount)

abbrev pub umount_step : Namespace → ℕ → List ℕ → Result NamespaceOutcome Errno
umount_step n k text = do
  path ← asked_path n k text
  umount_at n path

-- no reference is left, and each session is in `/`
abbrev pub unreferred : Namespace → Namespace
unreferred n = record n { references = map (λ reference. None) n.references; working_directories = map (λ folder. []) n.working_directories }

-- the rows of the files that stand at no path, in their order
abbrev pub unlinked_rows : Namespace → List ℕ
unlinked_rows n = map (λ row. row.0) (filter (λ row. is_some row.1 && not (is_linked n row.0)) (enumerate_from 1 n.live_files))

-- the references that are left go, and each session into `/`; a file that then has no name is freed, by row
unfoldable pub come_to_rest : Namespace → Rows
come_to_rest n = fold (free_row end_of_dropped) (record { next = unreferred n; changes = [] }) (unlinked_rows n)

-- nothing is in use any more; then all mounts but `/` go in reverse order, and `/` loses all its nodes
unfoldable pub remove_all : Namespace → Rows
remove_all n = empty_mount (fold remove_mount (come_to_rest n) (reverse n.mounts)) n.root

-- a volume is formatted: no names, and all cells spare
abbrev pub format_volume : Namespace → ℕ → Namespace
format_volume n place =
    let volume = volume_at n place in
    record n { volumes = slice_set n.volumes place (record volume { spare = replicate (length volume.pages) true; kept = [] }) }

unfoldable pub mkfs_step : Namespace → List ℕ → Result NamespaceOutcome Errno
mkfs_step n name = do
  refuse errno.ENXIO when (not (list_any (λ volume. same_bytes volume.name name) n.volumes))
  refuse errno.EBUSY when (is_mounted n fs.Cell name)
  answers reply.Done (format_volume n (volume_named n name)) []
