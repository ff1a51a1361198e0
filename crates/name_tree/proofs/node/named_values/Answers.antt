use Rattle.std.proofs.Common.{None, get_or, sym}
use Rattle.name_tree.proofs.NodeSlots.{none-ordered}
use Rattle.name_tree.proofs.node.named_values.Goals as goal

pub returns-in-None-clause-ordered : goal.returns-in-None-clause-ordered
returns-in-None-clause-ordered g c = none-ordered (get_or c.args.nodes.now.slots c.args.slot None) (sym c.in-None.ensures)
