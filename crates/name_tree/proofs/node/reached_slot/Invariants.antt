use Rattle.std.proofs.Common.{◌≡◌, Some, take}
use Rattle.name_tree.specs.Layout.{child_in, walk}
use Rattle.name_tree.proofs.node.reached_slot.Given as goal

abbrev pub invariant-loop-at : goal.invariant-loop-at
invariant-loop-at g l = walk (child_in l.nodes.slots) 0 (take l.at l.path) ≡ Some l.slot
