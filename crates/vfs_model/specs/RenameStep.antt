-- Moving a file, or a folder with all below it.
use Rattle.std.specs.Prelude.{ℕ, ◌==◌, not, ◌&&◌, ◌||◌, List, [], ◌++◌, length, drop, map, filter, fold, Result, if◌then◌else◌}
use Rattle.std.specs.FinMap.Entries.{put}
use Rattle.vfs_base.specs.Path.{Path, path_cmp}
use Rattle.vfs_base.specs.declared.errno.Errno.{Errno}
use Rattle.vfs_base.specs.declared.errno.Errno.TheVariants as errno
use Rattle.vfs_base.specs.declared.kinds.NodeKind.{NodeKind}
use Rattle.vfs_base.specs.declared.reply.Reply.TheVariants as reply
use Rattle.vfs_model.specs.Chain.{◌>>=◌, ◌>>◌, refuse◌when◌, refuse_by}
use Rattle.vfs_model.specs.Lookup.{asked_path, covering_mount, has_folder_within, has_mount_below, has_nodes, is_below, is_file, is_folder, is_point, is_prefix, is_read_only, is_there, is_working_directory, node_at, rest_of, walk_refusal, with_tree}
use Rattle.vfs_model.specs.NameSteps.{after_loss, done}
use Rattle.vfs_model.specs.Namespace.{Tree, same_path, tree_of}
use Rattle.vfs_model.specs.NamespaceOutcome.{NamespaceOutcome, answers}
use Rattle.vfs_model.specs.declared.namespace.Namespace.{Namespace}

-- the nodes at and below the old path, as they stand from the new path on
abbrev pub carried : Path → Path → Tree → Tree
carried old new tree = map (λ entry. (new ++ drop (length old) entry.0, entry.1)) (filter (λ entry. is_prefix old entry.0) tree)

-- the nodes that stay where they are; what stood at the new path is replaced
abbrev pub left_behind : Path → Path → Tree → Tree
left_behind old new tree = filter (λ entry. not (is_prefix old entry.0) && not (same_path entry.0 new)) tree

abbrev pub put_entry : Tree → (Path × NodeKind) → Tree
put_entry tree entry = put path_cmp entry.0 entry.1 tree

-- the tree in which old with all below it stands at new
unfoldable pub moved : Path → Path → Tree → Tree
moved old new tree = fold put_entry (left_behind old new tree) (carried old new tree)

-- the namespace in which old with all below it stands at new, in the same mount
unfoldable pub with_moved : Namespace → Path → Path → Namespace
with_moved n old new =
    let number = (covering_mount n old).number in
    with_tree n number (moved (rest_of n old) (rest_of n new) (tree_of n number))

-- POSIX.1-2017, rename: what is refused for two paths, also where they are the same
unfoldable pub rename_refusals : Namespace → Path → Path → Result (Unit {0}) Errno
rename_refusals n old new = do
  refuse errno.EBUSY when (is_point n old || is_point n new)
  refuse_by (walk_refusal n old)
  refuse errno.ENOENT when (not (is_there n old))
  refuse_by (walk_refusal n new)
  refuse errno.EXDEV when (not ((covering_mount n old).number == (covering_mount n new).number))
  refuse errno.EROFS when (is_read_only n old)

-- what else is refused where the two paths differ
unfoldable pub move_refusals : Namespace → Path → Path → Result (Unit {0}) Errno
move_refusals n old new = do
  refuse errno.EINVAL when (is_below old new)
  refuse errno.ENOTDIR when (is_folder n old && is_file n new)
  refuse errno.EISDIR when (is_file n old && is_folder n new)
  refuse errno.ENOTEMPTY when (is_folder n new && has_nodes n new)
  refuse errno.EBUSY when (is_folder n old && has_folder_within n old)
  refuse errno.EBUSY when (is_folder n old && has_mount_below n old)
  refuse errno.EBUSY when (is_working_directory n new)

-- the move, where the two paths differ; a replaced file is freed unless it is held
unfoldable pub move_at : Namespace → Path → Path → Result NamespaceOutcome Errno
move_at n old new = do
  move_refusals n old new
  done (after_loss (with_moved n old new) (node_at n new))

unfoldable pub rename_at : Namespace → Path → Path → Result NamespaceOutcome Errno
rename_at n old new = do
  rename_refusals n old new
  if same_path old new then answers reply.Done n [] else move_at n old new

abbrev pub rename_step : Namespace → ℕ → List ℕ → List ℕ → Result NamespaceOutcome Errno
rename_step n k old_text new_text = do
  old ← asked_path n k old_text
  new ← asked_path n k new_text
  rename_at n old new
