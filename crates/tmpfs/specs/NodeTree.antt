-- What a contract sees of a `NodeTree`.
use Rattle.std.specs.Prelude.{◌≡◌, Bool, true, false, None, List, [], ◌∷◌, drop, map, filter}
use Rattle.std.specs.FinMap.Entries.{find as value_at}
use Rattle.vfs_base.specs.Path.{Path, path_cmp}
use Rattle.vfs_base.specs.declared.kinds.NodeKind.{NodeKind}
use Rattle.vfs_base.specs.declared.kinds.NodeKind.TheVariants as node
use Rattle.vfs_base.specs.declared.reply.ListEntry.{ListEntry}
use Rattle.vfs_model.specs.NameSteps.{is_entry_of, last_name}
use Rattle.vfs_model.specs.Namespace.{Tree}

-- the node is a folder
abbrev pub is_dir : NodeKind → Bool
is_dir node.Dir = true
is_dir (node.File file kind) = false

-- what is in the folder at the path, in byte order of the names
abbrev pub entries_in : Path → Tree → List ListEntry
entries_in path tree = map (λ entry. record { name = last_name entry.0; node = entry.1 }) (filter (λ entry. is_entry_of path entry.0) tree)

-- the root comes first, is a folder, and does not come again
pub record IsRooted (names : Tree) : Type 0 where
  pub first : names ≡ ([], node.Dir) ∷ drop 1 names
  pub once : value_at path_cmp [] (drop 1 names) ≡ None
