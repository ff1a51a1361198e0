-- How a `DentryTable` keeps its dentries.
use Rattle.std.specs.Prelude.{◌≡◌, ◌≢◌, ◌⊎◌, ℕ, true, false, Some, None, []}
use Rattle.std.specs.FinMap.Entries.{find as value_at}
use Rattle.vfs_base.specs.Path.{Path, path_cmp}
use Rattle.vfs_model.specs.Lookup.{is_prefix}
use Rattle.node_maps.specs.NodeMap.{NodeMap}
use Rattle.name_tree.specs.Listed.{has_below}

-- a dentry that nothing wants: it has no holder, and none stands below it
pub record IsBare (table : NodeMap ℕ) (path : Path) : Type 0 where
  pub value : value_at path_cmp path table ≡ Some 0
  pub below : has_below path table ≡ false

-- a dentry stands at the root, and at the path of the room; so one stands at each place between
pub record HasPlaces (table : NodeMap ℕ) (room : Path) : Type 0 where
  pub root : value_at path_cmp [] table ≢ None
  pub last : value_at path_cmp room table ≢ None

-- no dentry is bare but along the room, a path, whose places are there; along `[]` stands the root alone
pub record IsTidy (table : NodeMap ℕ) (room : Path) : Type 0 where
  pub along : (q : Path) → IsBare table q → is_prefix q room ≡ true
  pub places : HasPlaces table room

-- no dentry is bare but along the room or the path
pub record IsTidyBut (table : NodeMap ℕ) (room path : Path) : Type 0 where
  pub along : (q : Path) → IsBare table q → (is_prefix q room ≡ true) ⊎ (is_prefix q path ≡ true)
  pub places : HasPlaces table room
