-- The nodes that come along a path, so that one stands at each place.
use Rattle.std.specs.Prelude.{◌≡◌, ℕ, zero, suc, Option, Some, None, take}
use Rattle.std.specs.FinMap.Entries.{find as value_at, put}
use Rattle.vfs_base.specs.Path.{Path, path_cmp}
use Rattle.node_maps.specs.NodeMap.{NodeMap}

module _ {T : Type 0} where
  -- the tree with a node put at the path, unless one was found
  abbrev pub put_unless : Option T → Path → T → NodeMap T → NodeMap T
  put_unless None path value tree = put path_cmp path value tree
  put_unless (Some found) path value tree = tree

  -- the tree in which a node stands at the path; one that comes has this value
  abbrev pub with_node : Path → T → NodeMap T → NodeMap T
  with_node path value tree = put_unless (value_at path_cmp path tree) path value tree

  -- the tree in which a node stands behind each of so many names of the path
  abbrev pub entered : ℕ → Path → T → NodeMap T → NodeMap T
  entered zero path value tree = tree
  entered (suc count) path value tree = with_node (take (suc count) path) value (entered count path value tree)

  -- nodes have come behind some first names of the path
  pub record EntersFront (old new : NodeMap T) (path : Path) (value : T) : Type 0 where
    pub count : ℕ
    pub tree : new ≡ entered count path value old
