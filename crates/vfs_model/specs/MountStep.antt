-- Mounting a file system.
use Rattle.std.specs.Prelude.{ℕ, ◌==◌, Bool, false, not, ◌&&◌, ◌||◌, nat_lt, nat_le, Option, Some, None, List, [], ◌∷◌, ◌++◌, length, fold, count_by, Result}
use Rattle.std.specs.FinMap.Entries.{put}
use Rattle.std.specs.List.{list_any, position_or_len, range_with_len}
use Rattle.vfs_base.specs.Path.{Path, path_cmp}
use Rattle.vfs_base.specs.declared.errno.Errno.{Errno}
use Rattle.vfs_base.specs.declared.errno.Errno.TheVariants as errno
use Rattle.vfs_base.specs.declared.kinds.FsType.{FsType}
use Rattle.vfs_base.specs.declared.kinds.FsType.TheVariants as fs
use Rattle.vfs_base.specs.declared.kinds.NodeKind.{NodeKind}
use Rattle.vfs_base.specs.declared.kinds.NodeKind.TheVariants as node
use Rattle.vfs_base.specs.declared.limits.TheConstants.{MOUNTS}
use Rattle.vfs_model.specs.Chain.{◌>>=◌, ◌>>◌, refuse◌when◌, refuse_by, wanted}
use Rattle.vfs_model.specs.Content.{content_of, file_count, fs_type_of, is_mounted, same_type}
use Rattle.vfs_model.specs.FileLife.{Rows, bind_row, free_rows, least_free_row, next_file, volume_named, with_kept}
use Rattle.vfs_model.specs.Lookup.{asked_path, has_folder_within, has_mount_below, has_nodes, is_file, is_point, is_there, walk_refusal, with_tree}
use Rattle.vfs_model.specs.NameSteps.{done}
use Rattle.vfs_model.specs.Namespace.{all_mounts, same_bytes, tree_of}
use Rattle.vfs_model.specs.NamespaceOutcome.{NamespaceOutcome}
use Rattle.vfs_model.specs.OpenStep.{kind_of}
use Rattle.vfs_model.specs.declared.namespace.Backing.{Backing}
use Rattle.vfs_model.specs.declared.namespace.Backing.TheVariants as backing
use Rattle.vfs_model.specs.declared.namespace.LiveFile.{LiveFile}
use Rattle.vfs_model.specs.declared.namespace.Mount.{Mount}
use Rattle.vfs_model.specs.declared.namespace.Namespace.{Namespace}
use Rattle.vfs_model.specs.declared.namespace.Origin.{Origin}
use Rattle.vfs_model.specs.declared.namespace.Origin.TheVariants as origin
use Rattle.vfs_model.specs.declared.namespace.RowChange.TheVariants as change

-- there is no such source
abbrev pub is_without_source : Namespace → FsType → List ℕ → Bool
is_without_source n fs.Tmp source = false
is_without_source n fs.Rom source = not (list_any (λ image. same_bytes image.name source) n.roms)
is_without_source n fs.Cell source = not (list_any (λ volume. same_bytes volume.name source) n.volumes)
is_without_source n fs.Dev source = false

-- a mount has what this one would need for itself
abbrev pub is_taken : Namespace → FsType → List ℕ → Bool
is_taken n fs.Tmp source = false
is_taken n fs.Rom source = is_mounted n fs.Rom source
is_taken n fs.Cell source = is_mounted n fs.Cell source
is_taken n fs.Dev source = list_any (λ mount. same_type mount.fs fs.Dev) (all_mounts n)

-- a mount on the path, in the order of the checks
unfoldable pub mount_refusals : Namespace → Path → FsType → List ℕ → Result (Unit {0}) Errno
mount_refusals n path asked source = do
  refuse_by (walk_refusal n path)
  refuse errno.ENOENT when (not (is_there n path))
  refuse errno.ENOTDIR when (is_file n path)
  refuse errno.EBUSY when (is_point n path || has_mount_below n path || has_folder_within n path)
  refuse errno.ENOTEMPTY when (has_nodes n path)
  refuse errno.ENOSPC when (nat_le MOUNTS (length (all_mounts n)))
  refuse errno.ENXIO when (is_without_source n asked source || (same_type asked fs.Cell && n.is_stopped))
  refuse errno.EBUSY when (is_taken n asked source)
  refuse errno.ENOSPC when (nat_lt (count_by (λ free. free) (free_rows n)) (file_count (content_of n asked source)))

-- what a file lies on that begins so
abbrev pub origin_backing : Origin → Backing
origin_backing origin.Empty = backing.Memory
origin_backing (origin.Rom place path) = backing.Memory
origin_backing (origin.Cell volume cell) = backing.Cell volume cell
origin_backing (origin.NewCell volume cell) = backing.Cell volume cell
origin_backing (origin.Device device) = backing.Device device

-- a node is put into the tree of a mount
abbrev pub with_entry : Namespace → ℕ → Path → NodeKind → Namespace
with_entry n number path new = with_tree n number (put path_cmp path new (tree_of n number))

-- a file of the mount is bound to the least free row
abbrev pub bind_content : Mount → Path → Origin → Rows → Rows
bind_content mount path begins rows =
    let row = least_free_row rows.next in
    let file = next_file rows.next row in
    let life : LiveFile = record { kind = kind_of mount.fs; mount = mount.number; backing = origin_backing begins } in
    record {
      next = bind_row (with_entry rows.next mount.number path (node.File file life.kind)) row life;
      changes = rows.changes ++ change.Bind file begins ∷ [];
    }

-- one node of the mount's content: a folder, or a file
abbrev pub add_content : Mount → Rows → Path → Option Origin → Rows
add_content mount rows path None = record rows { next = with_entry rows.next mount.number path node.Dir }
add_content mount rows path (Some begins) = bind_content mount path begins rows

-- the least number from 0 to 15 that no mount has
abbrev pub least_free_mount : Namespace → ℕ
least_free_mount n =
    position_or_len (λ number. not (list_any (λ mount. mount.number == number) (all_mounts n))) (range_with_len 0 MOUNTS)

-- a volume that is mounted keeps no names of its own
abbrev pub without_kept : Namespace → FsType → List ℕ → Namespace
without_kept n fs.Cell source = with_kept n (volume_named n source) []
without_kept n fs.Tmp source = n
without_kept n fs.Rom source = n
without_kept n fs.Dev source = n

-- the mount stands, and each file that it begins with has a row
unfoldable pub add_mount : Namespace → Mount → Rows
add_mount n mount =
    fold (λ rows entry. add_content mount rows entry.0 entry.1)
    (record { next = without_kept (record n { mounts = n.mounts ++ mount ∷ [] }) mount.fs mount.source; changes = [] })
    (content_of n mount.fs mount.source)

unfoldable pub mount_at : Namespace → Path → FsType → List ℕ → Result NamespaceOutcome Errno
mount_at n path asked source = do
  mount_refusals n path asked source
  done (add_mount n (record { number = least_free_mount n; point = path; fs = asked; source = source }))

abbrev pub mount_step : Namespace → ℕ → List ℕ → List ℕ → List ℕ → Result NamespaceOutcome Errno
mount_step n k source point_text type_text = do
  path ← asked_path n k point_text
  asked ← wanted errno.ENODEV (fs_type_of type_text)
  mount_at n path asked source
