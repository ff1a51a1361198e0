-- Nodes by path, in the order of paths: which fault each call has, and what it leaves. The root is not among the nodes; it is always
-- there and a folder. A node is of any kind `N`, and `is_dir` tells which nodes are folders.
use Rattle.std.specs.Prelude.{Bool, true, false, not, ◌&&◌, Option, Some, None, is_some, nat_le, List, [], ◌∷◌, ◌++◌, length, drop, map, filter, fold, if◌then◌else◌}
use Rattle.std.specs.FinMap.Entries.{find as value_at, put}
use Rattle.vfs_base.specs.Path.{Path, path_cmp}
use Rattle.vfs_base.specs.declared.limits.TheConstants.{NODES}
use Rattle.vfs_model.specs.Lookup.{is_prefix}
use Rattle.vfs_model.specs.Namespace.{same_path}
use Rattle.vfs_model.specs.NormalPath.{parent_of}
use Rattle.node_maps.specs.declared.tree_fault.TreeFault.{TreeFault}
use Rattle.node_maps.specs.declared.tree_fault.TreeFault.TheVariants as fault

-- the nodes, each at its path
abbrev pub NodeMap : Type 0 → Type 0
NodeMap N = List (Path × N)

module _ {N : Type 0} where
  -- something stands at the path
  abbrev pub is_there : NodeMap N → Path → Bool
  is_there tree [] = true
  is_there tree (name ∷ names) = is_some (value_at path_cmp (name ∷ names) tree)

  -- what was found is a folder
  abbrev pub is_found_dir : (N → Bool) → Option N → Bool
  is_found_dir is_dir None = false
  is_found_dir is_dir (Some node) = is_dir node

  -- a folder stands at the path
  abbrev pub is_folder : (N → Bool) → NodeMap N → Path → Bool
  is_folder is_dir tree [] = true
  is_folder is_dir tree (name ∷ names) = is_found_dir is_dir (value_at path_cmp (name ∷ names) tree)

  -- the first fault of a call that puts a node at the path
  abbrev pub link_refusal : (N → Bool) → NodeMap N → Path → Option TreeFault
  link_refusal is_dir tree path =
      if not (is_folder is_dir tree (parent_of path)) then Some fault.NotFound
      else if is_there tree path then Some fault.Exists
      else if nat_le NODES (length tree) then Some fault.Full
      else None

  -- the fault of a call that takes the node at the path away
  abbrev pub unlink_refusal : NodeMap N → Path → Option TreeFault
  unlink_refusal tree path = if is_some (value_at path_cmp path tree) then None else Some fault.NotFound

  -- the fault of a call that moves the node at old to new
  abbrev pub rename_refusal : (N → Bool) → NodeMap N → Path → Path → Option TreeFault
  rename_refusal is_dir tree old new =
      if is_some (value_at path_cmp old tree) && is_folder is_dir tree (parent_of new) then None else Some fault.NotFound

  -- the fault of a call that wants a folder at the path
  abbrev pub folder_refusal : (N → Bool) → NodeMap N → Path → Option TreeFault
  folder_refusal is_dir tree path = if is_folder is_dir tree path then None else Some fault.NotFound

  -- the nodes without the one at the path
  abbrev pub without : Path → NodeMap N → NodeMap N
  without path tree = filter (λ entry. not (same_path entry.0 path)) tree

  -- the nodes at and below the old path, as they stand from the new path on
  abbrev pub carried : Path → Path → NodeMap N → NodeMap N
  carried old new tree = map (λ entry. (new ++ drop (length old) entry.0, entry.1)) (filter (λ entry. is_prefix old entry.0) tree)

  -- the nodes that stay where they are; what stood at the new path is replaced
  abbrev pub left_behind : Path → Path → NodeMap N → NodeMap N
  left_behind old new tree = filter (λ entry. not (is_prefix old entry.0) && not (same_path entry.0 new)) tree

  -- the nodes with one more at its place
  abbrev pub put_entry : NodeMap N → (Path × N) → NodeMap N
  put_entry tree entry = put path_cmp entry.0 entry.1 tree

  -- the nodes where the one at old, with all below it, stands at new
  unfoldable pub moved : Path → Path → NodeMap N → NodeMap N
  moved old new tree = fold put_entry (left_behind old new tree) (carried old new tree)
