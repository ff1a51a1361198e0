-- What the steps tell that list mounts, holders, files of cells, and devices.
use Rattle.std.specs.Prelude.{ℕ, ◌-◌, Option, Some, None, List, [], ◌++◌, length, map, filter, filter_map, flat_map, fold, count_by, Result}
use Rattle.std.specs.FinMap.Entries.{put}
use Rattle.std.specs.Ordering.{nat_cmp}
use Rattle.vfs_base.specs.declared.errno.Errno.{Errno}
use Rattle.vfs_base.specs.declared.ids.FileId.{FileId}
use Rattle.vfs_base.specs.declared.kinds.DeviceClass.TheVariants as class
use Rattle.vfs_base.specs.declared.kinds.FsType.{FsType}
use Rattle.vfs_base.specs.declared.kinds.FsType.TheVariants as fs
use Rattle.vfs_base.specs.declared.kinds.NodeKind.{NodeKind}
use Rattle.vfs_base.specs.declared.kinds.NodeKind.TheVariants as node
use Rattle.vfs_base.specs.declared.reply.DeviceLine.{DeviceLine}
use Rattle.vfs_base.specs.declared.reply.MountLine.{MountLine}
use Rattle.vfs_base.specs.declared.reply.Reply.TheVariants as reply
use Rattle.vfs_base.specs.declared.limits.TheConstants.{NODES}
use Rattle.vfs_model.specs.Content.{is_mounted, same_type}
use Rattle.vfs_model.specs.FileLife.{volume_at, volume_named}
use Rattle.vfs_model.specs.Holders.{holder_lines}
use Rattle.vfs_model.specs.Namespace.{all_mounts, tree_of}
use Rattle.vfs_model.specs.NamespaceOutcome.{NamespaceOutcome, tells}
use Rattle.vfs_model.specs.declared.namespace.Mount.{Mount}
use Rattle.vfs_model.specs.declared.namespace.Namespace.{Namespace}

-- the nodes of a mount beside its root
abbrev pub node_count : Namespace → Mount → ℕ
node_count n mount = length (tree_of n mount.number)

-- how many more files a mount can hold, where its type counts them
abbrev pub spare_count : Namespace → Mount → FsType → ℕ
spare_count n mount fs.Tmp = NODES - node_count n mount
spare_count n mount fs.Cell = count_by (λ is_spare. is_spare) (volume_at n (volume_named n mount.source)).spare
spare_count n mount fs.Rom = 0
spare_count n mount fs.Dev = 0

abbrev pub mount_line : Namespace → Mount → MountLine
mount_line n mount = record {
  source = mount.source;
  fs = mount.fs;
  nodes = node_count n mount;
  spare = spare_count n mount mount.fs;
  point = mount.point;
}

-- the mounts, in the order of mounting
abbrev pub mounts_step : Namespace → Result NamespaceOutcome Errno
mounts_step n = tells n (reply.MountList (map (mount_line n) (all_mounts n)))

abbrev pub dentries_step : Namespace → Result NamespaceOutcome Errno
dentries_step n = tells n (reply.Holders (holder_lines n))

abbrev pub file_of_node : NodeKind → Option FileId
file_of_node node.Dir = None
file_of_node (node.File file kind) = Some file

-- the files that stand in the trees of cell mounts
abbrev pub cell_files : Namespace → List FileId
cell_files n =
    flat_map (λ mount. filter_map (λ entry. file_of_node entry.1) (tree_of n mount.number))
    (filter (λ mount. same_type mount.fs fs.Cell) (all_mounts n))

abbrev pub by_row : List FileId → List FileId
by_row files = map (λ entry. entry.1) (fold (λ found file. put nat_cmp file.row file found) [] files)

-- the linked files of cell mounts, by row
abbrev pub cells_step : Namespace → Result NamespaceOutcome Errno
cells_step n = tells n (reply.Files (by_row (cell_files n)))

-- volumes, then character devices, then roms, each in the order handed in
abbrev pub device_lines : Namespace → List DeviceLine
device_lines n =
    map (λ volume. record { name = volume.name; class = class.Block; mounted = is_mounted n fs.Cell volume.name }) n.volumes
    ++ map (λ device. record { name = device.name; class = class.Char; mounted = device.is_out }) n.devices
    ++ map (λ image. record { name = image.name; class = class.Rom; mounted = is_mounted n fs.Rom image.name }) n.roms

abbrev pub devices_step : Namespace → Result NamespaceOutcome Errno
devices_step n = tells n (reply.DeviceList (device_lines n))
