-- What lies below a folder, and where it stands once the folder has moved. A node is of any kind `N`.
use Rattle.std.specs.Prelude.{◌≡◌, None, [], ◌∷◌, ◌++◌, drop, filter, length, map}
use Rattle.std.specs.FinMap.Entries.{find as value_at}
use Rattle.vfs_base.specs.Path.{Path, path_cmp}
use Rattle.vfs_model.specs.Lookup.{is_below}
use Rattle.node_maps.specs.NodeMap.{NodeMap, without}

-- the least path below the folder: no name comes before that of the one byte 1
abbrev pub least_below : Path → Path
least_below folder = folder ++ (1 ∷ []) ∷ []

module _ {N : Type 0} where
  -- the nodes below the folder
  abbrev pub below_in : Path → NodeMap N → NodeMap N
  below_in folder tree = filter (λ entry. is_below folder entry.0) tree

  -- the nodes, each at the path that it has once old stands at new
  abbrev pub carried_to : Path → Path → NodeMap N → NodeMap N
  carried_to old new nodes = map (λ entry. (new ++ drop (length old) entry.0, entry.1)) nodes

  -- the nodes without the one at the path of the entry
  abbrev pub without_entry : NodeMap N → (Path × N) → NodeMap N
  without_entry tree entry = without entry.0 tree

  -- what stands at the path of no entry stands there as before
  abbrev pub KeepsOthers : NodeMap N → NodeMap N → NodeMap N → Type 0
  KeepsOthers entries old new = (path : Path) → value_at path_cmp path entries ≡ None → value_at path_cmp path new ≡ value_at path_cmp path old
