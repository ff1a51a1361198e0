-- What stands at a path: the mount that covers it, the node, and what lies above and below.
use Rattle.std.specs.Prelude.{ℕ, Bool, true, false, ◌&&◌, nat_eq, nat_lt, nat_le, Option, Some, None, is_some, List, [], ◌∷◌, ◌++◌, length, drop, Result, Ok, Err, if◌then◌else◌}
use Rattle.std.specs.Cmp.Lexicographic.{pointwise}
use Rattle.std.specs.FinMap.Entries.{find as value_at, put}
use Rattle.std.specs.List.{list_any, starts_with}
use Rattle.std.specs.Prelude.{slice_set}
use Rattle.vfs_base.specs.Path.{Path, path_cmp}
use Rattle.vfs_base.specs.declared.errno.Errno.{Errno}
use Rattle.vfs_base.specs.declared.errno.Errno.TheVariants as errno
use Rattle.vfs_base.specs.declared.kinds.FsType.{FsType}
use Rattle.vfs_base.specs.declared.kinds.FsType.TheVariants as fs
use Rattle.vfs_base.specs.declared.kinds.NodeKind.{NodeKind}
use Rattle.vfs_base.specs.declared.kinds.NodeKind.TheVariants as node
use Rattle.vfs_base.specs.declared.limits.TheConstants.{NODES}
use Rattle.vfs_model.specs.Namespace.{Tree, all_mounts, folder_of, same_path, tree_of}
use Rattle.vfs_model.specs.NormalPath.{TextFault, Empty, BadByte, NameTooLong, PathTooLong, normal_path}
use Rattle.vfs_model.specs.declared.namespace.Mount.{Mount}
use Rattle.vfs_model.specs.declared.namespace.Namespace.{Namespace}

-- the path is the front or lies below it
abbrev pub is_prefix : Path → Path → Bool
is_prefix front path = starts_with (pointwise nat_eq) path front

-- the path lies below the front
abbrev pub is_below : Path → Path → Bool
is_below front path = is_prefix front path && nat_lt (length front) (length path)

-- the mount with the longest point that is a prefix of the path, of one found so far and the others
abbrev pub nearest : Path → Mount → List Mount → Mount
nearest path found [] = found
nearest path found (mount ∷ mounts) =
    nearest path (if is_prefix mount.point path && nat_lt (length found.point) (length mount.point) then mount else found) mounts

-- the mount with the longest point that is a prefix of the path
unfoldable pub covering_mount : Namespace → Path → Mount
covering_mount n path = nearest path n.root n.mounts

-- the path from the point of its mount on
abbrev pub rest_of : Namespace → Path → Path
rest_of n path = drop (length (covering_mount n path).point) path

-- what stands in a tree; its root is a folder
abbrev pub node_in : Tree → Path → Option NodeKind
node_in tree [] = Some node.Dir
node_in tree (name ∷ names) = value_at path_cmp (name ∷ names) tree

-- what stands at the path
unfoldable pub node_at : Namespace → Path → Option NodeKind
node_at n path = node_in (tree_of n (covering_mount n path).number) (rest_of n path)

abbrev pub is_there : Namespace → Path → Bool
is_there n path = is_some (node_at n path)

abbrev pub is_dir_node : Option NodeKind → Bool
is_dir_node (Some node.Dir) = true
is_dir_node (Some (node.File file kind)) = false
is_dir_node None = false

abbrev pub is_folder : Namespace → Path → Bool
is_folder n path = is_dir_node (node_at n path)

abbrev pub is_file_node : Option NodeKind → Bool
is_file_node (Some node.Dir) = false
is_file_node (Some (node.File file kind)) = true
is_file_node None = false

abbrev pub is_file : Namespace → Path → Bool
is_file n path = is_file_node (node_at n path)

-- what a walk meets at a prefix of its path
abbrev pub prefix_refusal : Option NodeKind → Option Errno → Option Errno
prefix_refusal None later = Some errno.ENOENT
prefix_refusal (Some (node.File file kind)) later = Some errno.ENOTDIR
prefix_refusal (Some node.Dir) later = later

-- the first prefix of `front ++ names`, from `front` on, that is absent or a file
abbrev pub walk_refusal_from : Namespace → Path → Path → Option Errno
walk_refusal_from n front [] = None
walk_refusal_from n front (name ∷ names) = prefix_refusal (node_at n front) (walk_refusal_from n (front ++ name ∷ []) names)

-- the shortest proper prefix of the path that is absent (ENOENT) or a file (ENOTDIR),
-- as in POSIX.1-2017, "Pathname Resolution"
unfoldable pub walk_refusal : Namespace → Path → Option Errno
walk_refusal n path = walk_refusal_from n [] path

-- the folder at the path has nodes
abbrev pub has_nodes : Namespace → Path → Bool
has_nodes n path = list_any (λ entry. is_below (rest_of n path) entry.0) (tree_of n (covering_mount n path).number)

-- a mount has this point
abbrev pub is_point : Namespace → Path → Bool
is_point n path = list_any (λ mount. same_path mount.point path) (all_mounts n)

-- a mount's point lies below the path
unfoldable pub has_mount_below : Namespace → Path → Bool
has_mount_below n path = list_any (λ mount. is_below path mount.point) (all_mounts n)

-- a session's working directory is the path
abbrev pub is_working_directory : Namespace → Path → Bool
is_working_directory n path = list_any (same_path path) n.working_directories

-- a session's working directory is the path or lies below it
abbrev pub has_folder_within : Namespace → Path → Bool
has_folder_within n path = list_any (is_prefix path) n.working_directories

-- rom and devfs are read-only types
abbrev pub is_read_only_type : FsType → Bool
is_read_only_type fs.Tmp = false
is_read_only_type fs.Rom = true
is_read_only_type fs.Cell = false
is_read_only_type fs.Dev = true

abbrev pub is_read_only : Namespace → Path → Bool
is_read_only n path = is_read_only_type (covering_mount n path).fs

-- the mount of the path has as many nodes beside its root as it may
abbrev pub is_full : Namespace → Path → Bool
is_full n path = nat_le NODES (length (tree_of n (covering_mount n path).number))

-- the namespace with another tree at a mount's number
abbrev pub with_tree : Namespace → ℕ → Tree → Namespace
with_tree n number tree = record n { trees = slice_set n.trees number tree }

-- the namespace with a node put at the path
unfoldable pub with_node : Namespace → Path → NodeKind → Namespace
with_node n path new =
    let number = (covering_mount n path).number in
    with_tree n number (put path_cmp (rest_of n path) new (tree_of n number))

-- the error of a text that names no path
abbrev pub fault_errno : TextFault → Errno
fault_errno Empty = errno.ENOENT
fault_errno BadByte = errno.EINVAL
fault_errno NameTooLong = errno.ENAMETOOLONG
fault_errno PathTooLong = errno.ENAMETOOLONG

abbrev pub or_errno : Result Path TextFault → Result Path Errno
or_errno (Ok path) = Ok path
or_errno (Err fault) = Err (fault_errno fault)

-- the path that a session asks for by a text, from its working directory on
abbrev pub asked_path : Namespace → ℕ → List ℕ → Result Path Errno
asked_path n k text = or_errno (normal_path (folder_of n k) text)
