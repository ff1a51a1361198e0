use Rattle.std.proofs.Common.{◌≡◌, drop}
use Rattle.name_tree.specs.Layout.{child_in, walk}
use Rattle.name_tree.proofs.node.slot_of.Given as goal

abbrev pub invariant-loop-name : goal.invariant-loop-name
invariant-loop-name g l = walk (child_in l.nodes.slots) l.slot (drop l.name-index l.path) ≡ walk (child_in l.nodes.slots) 0 l.path
