-- Making and removing names, looking at them, and working directories.
use Rattle.std.specs.Prelude.{ℕ, ◌+◌, ◌-◌, ◌==◌, Bool, not, ◌&&◌, Option, Some, None, List, [], length, map, filter, Result, slice_index_or}
use Rattle.vfs_base.specs.Path.{Path}
use Rattle.vfs_base.specs.declared.errno.Errno.{Errno}
use Rattle.vfs_base.specs.declared.errno.Errno.TheVariants as errno
use Rattle.vfs_base.specs.declared.kinds.NodeKind.{NodeKind}
use Rattle.vfs_base.specs.declared.kinds.NodeKind.TheVariants as node
use Rattle.vfs_base.specs.declared.reply.ListEntry.{ListEntry}
use Rattle.vfs_base.specs.declared.reply.Reply.TheVariants as reply
use Rattle.vfs_model.specs.Chain.{◌>>=◌, ◌>>◌, refuse◌when◌, refuse_by, wanted}
use Rattle.vfs_model.specs.FileLife.{Rows, free_if_unused}
use Rattle.vfs_model.specs.Lookup.{asked_path, covering_mount, has_nodes, is_below, is_file, is_folder, is_full, is_point, is_read_only, is_there, is_working_directory, node_at, rest_of, walk_refusal, with_node, with_tree}
use Rattle.vfs_model.specs.Namespace.{folder_of, same_path, tree_of, with_folder_of}
use Rattle.vfs_model.specs.NamespaceOutcome.{NamespaceOutcome, answers, tells}
use Rattle.vfs_model.specs.declared.namespace.Namespace.{Namespace}

-- POSIX.1-2017, mkdir
unfoldable pub mkdir_refusals : Namespace → Path → Result (Unit {0}) Errno
mkdir_refusals n path = do
  refuse_by (walk_refusal n path)
  refuse errno.EEXIST when (is_there n path)
  refuse errno.EROFS when (is_read_only n path)
  refuse errno.ENOSPC when (is_full n path)

abbrev pub mkdir_step : Namespace → ℕ → List ℕ → Result NamespaceOutcome Errno
mkdir_step n k text = do
  path ← asked_path n k text
  mkdir_refusals n path
  answers reply.Done (with_node n path node.Dir) []

-- the namespace without the node at the path
unfoldable pub without_node : Namespace → Path → Namespace
without_node n path =
    let number = (covering_mount n path).number in
    with_tree n number (filter (λ entry. not (same_path entry.0 (rest_of n path))) (tree_of n number))

-- POSIX.1-2017, rmdir
unfoldable pub rmdir_refusals : Namespace → Path → Result (Unit {0}) Errno
rmdir_refusals n path = do
  refuse errno.EBUSY when (is_point n path)
  refuse_by (walk_refusal n path)
  refuse errno.ENOENT when (not (is_there n path))
  refuse errno.ENOTDIR when (is_file n path)
  refuse errno.EROFS when (is_read_only n path)
  refuse errno.ENOTEMPTY when (has_nodes n path)
  refuse errno.EBUSY when (is_working_directory n path)

abbrev pub rmdir_step : Namespace → ℕ → List ℕ → Result NamespaceOutcome Errno
rmdir_step n k text = do
  path ← asked_path n k text
  rmdir_refusals n path
  answers reply.Done (without_node n path) []

-- POSIX.1-2017, unlink
unfoldable pub unlink_refusals : Namespace → Path → Result (Unit {0}) Errno
unlink_refusals n path = do
  refuse_by (walk_refusal n path)
  refuse errno.ENOENT when (not (is_there n path))
  refuse errno.EPERM when (is_folder n path)
  refuse errno.EROFS when (is_read_only n path)

-- a file that has lost its place is freed unless it is held
abbrev pub after_loss : Namespace → Option NodeKind → Rows
after_loss n (Some (node.File file kind)) = free_if_unused n file.row
after_loss n (Some node.Dir) = record { next = n; changes = [] }
after_loss n None = record { next = n; changes = [] }

abbrev pub done : Rows → Result NamespaceOutcome Errno
done rows = answers reply.Done rows.next rows.changes

abbrev pub unlink_step : Namespace → ℕ → List ℕ → Result NamespaceOutcome Errno
unlink_step n k text = do
  path ← asked_path n k text
  unlink_refusals n path
  done (after_loss (without_node n path) (node_at n path))

-- POSIX.1-2017, stat
abbrev pub stat_step : Namespace → ℕ → List ℕ → Result NamespaceOutcome Errno
stat_step n k text = do
  path ← asked_path n k text
  refuse_by (walk_refusal n path)
  there ← wanted errno.ENOENT (node_at n path)
  tells n (reply.Node there)

-- a folder is wanted at the path
unfoldable pub folder_refusals : Namespace → Path → Result (Unit {0}) Errno
folder_refusals n path = do
  refuse_by (walk_refusal n path)
  refuse errno.ENOENT when (not (is_there n path))
  refuse errno.ENOTDIR when (is_file n path)

-- the path is that of an entry in the folder
abbrev pub is_entry_of : Path → Path → Bool
is_entry_of folder path = is_below folder path && length path == length folder + 1

abbrev pub last_name : Path → List ℕ
last_name path = slice_index_or path (length path - 1) []

-- what is in the folder at the path, in byte order of the names
abbrev pub entries_at : Namespace → Path → List ListEntry
entries_at n path =
    map (λ entry. record { name = last_name entry.0; node = entry.1 })
    (filter (λ entry. is_entry_of (rest_of n path) entry.0) (tree_of n (covering_mount n path).number))

abbrev pub list_step : Namespace → ℕ → List ℕ → Result NamespaceOutcome Errno
list_step n k text = do
  path ← asked_path n k text
  folder_refusals n path
  tells n (reply.Listing path (entries_at n path))

-- POSIX.1-2017, chdir
abbrev pub chdir_step : Namespace → ℕ → List ℕ → Result NamespaceOutcome Errno
chdir_step n k text = do
  path ← asked_path n k text
  folder_refusals n path
  answers (reply.At path) (with_folder_of n k path) []

abbrev pub home_step : Namespace → ℕ → Result NamespaceOutcome Errno
home_step n k = answers reply.Done (with_folder_of n k []) []

-- POSIX.1-2017, getcwd
abbrev pub cwd_step : Namespace → ℕ → Result NamespaceOutcome Errno
cwd_step n k = tells n (reply.At (folder_of n k))
