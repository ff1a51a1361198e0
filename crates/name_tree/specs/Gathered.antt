-- All nodes from one on, each at its path.
use Rattle.std.specs.Prelude.{ℕ, ◌-◌, Option, List, ◌++◌, length, fold}
use Rattle.vfs_base.specs.Path.{Path}
use Rattle.node_maps.specs.NodeMap.{NodeMap}
use Rattle.name_tree.specs.Layout.{entries_in, found_in, paths_within, with_found}
use Rattle.name_tree.specs.declared.node.Node.{Node}

module _ {T : Type 0} where
  -- what is found at these paths, in front of which a path stands, put onto values by path
  abbrev pub found_onto : (Path → Option T) → Path → List Path → NodeMap T → NodeMap T
  found_onto found front paths tree = fold (λ tree path. with_found (found (front ++ path)) (front ++ path) tree) tree paths

  -- the values with those of the node at a path, whose slot is given, and of all nodes below it
  abbrev pub gathered : List (Option (Node T)) → Path → ℕ → NodeMap T → NodeMap T
  gathered nodes path slot tree = found_onto (found_in nodes) path (paths_within (entries_in nodes) (length nodes - length path) slot) tree
