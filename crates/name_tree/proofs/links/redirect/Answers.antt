use Rattle.std.proofs.Common.{Some, sym}
use Rattle.name_tree.proofs.NodeSlots.{Redirects-set}
use Rattle.name_tree.proofs.links.redirect.Goals as goal

pub returns-clause-entry : goal.returns-clause-entry
returns-clause-entry g c =
    Redirects-set c.args.nodes.now.slots c.args.slot c.in-Some.node.now _ c.args.name.now (Some c.args.to) (sym c.in-Some.ensures.value) (λ other. c.set_entry.ensures other)
