use Rattle.std.proofs.Common.{None, sym}
use Rattle.name_tree.proofs.NodeSlots.{Redirects-set}
use Rattle.name_tree.proofs.links.leave.Goals as goal

pub returns-clause-entry : goal.returns-clause-entry
returns-clause-entry g c =
    Redirects-set c.args.nodes.now.slots c.args.slot c.in-Some.node.now _ c.args.name.now None (sym c.in-Some.ensures.value) (λ other. c.remove.ensures.updates.0 other)
