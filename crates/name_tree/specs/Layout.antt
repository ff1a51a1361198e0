-- How a `NameTree` lays out its nodes. No public clause cites this module.
use Rattle.std.specs.Prelude.{◌≡◌, ◌≢◌, ℕ, zero, suc, Bool, not, nat_eq, Option, Some, None, List, [], ◌∷◌, length, map, fold, option_and_then, flat_map, slice_index_or}
use Rattle.std.specs.BTreeMap.{get}
use Rattle.std.specs.Cmp.Lexicographic.{pointwise, slice_cmp}
use Rattle.std.specs.FinMap.Entries.{put}
use Rattle.std.specs.List.{list_any}
use Rattle.std.specs.Map.{keys_of}
use Rattle.std.specs.Ordering.{nat_cmp}
use Rattle.std.specs.declared.cmp.Ordering.{Ordering}
use Rattle.vfs_base.specs.Path.{Path, path_cmp}
use Rattle.node_maps.specs.NodeMap.{NodeMap}
use Rattle.name_tree.specs.declared.node.Node.{Node}

-- the order of names: by their bytes
abbrev pub name_cmp : List ℕ → List ℕ → Ordering
name_cmp = slice_cmp nat_cmp

-- an entry has another name
abbrev pub has_other : List ℕ → List (List ℕ × ℕ) → Bool
has_other name entries = list_any (λ key. not (pointwise nat_eq key name)) (keys_of entries)

-- which slot has the node of this name below the node of a slot
abbrev pub Child : Type 0
Child = ℕ → List ℕ → Option ℕ

-- the slot to which a path leads from a slot on
abbrev pub walk : Child → ℕ → Path → Option ℕ
walk child slot [] = Some slot
walk child slot (name ∷ names) = option_and_then (λ below. walk child below names) (child slot name)

module _ {T : Type 0} where
  -- the value of the node to which a path leads from the root on
  abbrev pub found_at : (ℕ → Option T) → Child → Path → Option T
  found_at value child path = option_and_then value (walk child 0 path)

  -- the root is there and nobody's entry; each entry leads to a node, and to each node leads one entry at most
  pub record IsTree (value : ℕ → Option T) (child : Child) : Type 0 where
    pub root : value 0 ≢ None
    pub root_free : (slot : ℕ) (name : List ℕ) → child slot name ≢ Some 0
    pub live : (slot : ℕ) (name : List ℕ) (below : ℕ) → child slot name ≡ Some below → value below ≢ None
    pub once : (a b : ℕ) (n m : List ℕ) (below : ℕ) → child a n ≡ Some below → child b m ≡ Some below → (a ≡ b) × (n ≡ m)

  -- the entries of a node, if there is one
  abbrev pub entries_of : Option (Node T) → List (List ℕ × ℕ)
  entries_of None = []
  entries_of (Some node) = node.entries.entries

  -- the slot of a node's entry of this name
  abbrev pub entry_of : Option (Node T) → List ℕ → Option ℕ
  entry_of None name = None
  entry_of (Some node) name = get name_cmp node.entries name

  -- the value of a node, if there is one
  abbrev pub value_of : Option (Node T) → Option T
  value_of None = None
  value_of (Some node) = Some node.value

  abbrev pub entries_in : List (Option (Node T)) → ℕ → List (List ℕ × ℕ)
  entries_in nodes slot = entries_of (slice_index_or nodes slot None)

  abbrev pub child_in : List (Option (Node T)) → Child
  child_in nodes slot name = entry_of (slice_index_or nodes slot None) name

  abbrev pub value_in : List (Option (Node T)) → ℕ → Option T
  value_in nodes slot = value_of (slice_index_or nodes slot None)

  -- the value of the node at a path
  abbrev pub found_in : List (Option (Node T)) → Path → Option T
  found_in nodes path = found_at (value_in nodes) (child_in nodes) path

-- the paths of at most so many names that lead somewhere from a slot on
abbrev pub paths_within : (ℕ → List (List ℕ × ℕ)) → ℕ → ℕ → List Path
paths_within entries zero slot = [] ∷ []
paths_within entries (suc count) slot =
    [] ∷ flat_map (λ entry. map (λ path. entry.0 ∷ path) (paths_within entries count entry.1)) (entries slot)

module _ {T : Type 0} where
  -- the values by path, with one more where it is there
  abbrev pub with_found : Option T → Path → NodeMap T → NodeMap T
  with_found None path tree = tree
  with_found (Some value) path tree = put path_cmp path value tree

  -- what is found at these paths, in the order of paths
  abbrev pub found_among : (Path → Option T) → List Path → NodeMap T
  found_among found paths = fold (λ tree path. with_found (found path) path tree) [] paths

  -- the values by path: no path is longer than there are slots
  unfoldable pub tree_of : List (Option (Node T)) → NodeMap T
  tree_of nodes = found_among (found_in nodes) (paths_within (entries_in nodes) (length nodes) 0)

  -- the nodes make one tree, and each of them stands in it
  pub record IsSound (nodes : List (Option (Node T))) (count : ℕ) : Type 0 where
    pub tree : IsTree (value_in nodes) (child_in nodes)
    pub counted : count ≡ length (tree_of nodes)
