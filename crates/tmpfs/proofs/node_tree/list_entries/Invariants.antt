use Rattle.std.proofs.Common.{◌≡◌, ◌++◌, map}
use Rattle.std.specs.Vec.Iter.{into_iter_items}
use Rattle.tmpfs.proofs.Rooted.{entry_of}
use Rattle.tmpfs.proofs.node_tree.list_entries.Given as goal

abbrev pub invariant-loop-name : goal.invariant-loop-name
invariant-loop-name l = l.entries ++ map entry_of (into_iter_items l.name-iterator) ≡ map entry_of l.fn.nodes
