use Rattle.std.proofs.Common.{◌-◌, length}
use Rattle.name_tree.proofs.Gathers.{IsGathering}
use Rattle.name_tree.proofs.listing.+gather.Given as goal

abbrev pub decreases-gather : goal.decreases-gather
decreases-gather g l = length l.nodes.now.slots - length l.path.now

abbrev pub invariant-loop-name : goal.invariant-loop-name
invariant-loop-name g l = IsGathering l.nodes.slots l.fn.path l.path l.slot l.name-iterator l.fn.found.entries l.found.entries
