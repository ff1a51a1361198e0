-- What stands directly below a path, and whether anything stands below it.
use Rattle.std.specs.Prelude.{ℕ, Bool, not, ◌&&◌, List, [], ◌∷◌, ◌++◌, map, filter}
use Rattle.std.specs.List.{list_any}
use Rattle.vfs_base.specs.Path.{Path}
use Rattle.vfs_model.specs.Lookup.{is_below, is_prefix}
use Rattle.vfs_model.specs.NameSteps.{is_entry_of, last_name}
use Rattle.node_maps.specs.NodeMap.{NodeMap}

module _ {T : Type 0} where
  -- a node stands below the path
  abbrev pub has_below : Path → NodeMap T → Bool
  has_below path tree = list_any (λ entry. is_below path entry.0) tree

  -- a node stands below the path, and neither at this name there nor below that
  abbrev pub has_beside : Path → List ℕ → NodeMap T → Bool
  has_beside path name tree = list_any (λ entry. is_below path entry.0 && not (is_prefix (path ++ name ∷ []) entry.0)) tree

  -- the nodes directly below the path, each by its name, in byte order of the names
  abbrev pub listed : Path → NodeMap T → List (List ℕ × T)
  listed path tree = map (λ entry. (last_name entry.0, entry.1)) (filter (λ entry. is_entry_of path entry.0) tree)
