use Rattle.name_tree.proofs.NodeSlots.{Relinks-vacated}
use Rattle.name_tree.proofs.links.replace_below.Goals as goal

pub returns-clause-nodes : goal.returns-clause-nodes
returns-clause-nodes g c =
    Relinks-vacated c.args.nodes.now.slots c.redirect.new.nodes.slots c.leave.new.nodes.slots c.remove-value.new.self.slots c.args.at c.args.to c.args.slot c.args.gone
    c.args.name.now c.args.other.now c.requires.target c.redirect.ensures.entry c.redirect.ensures.values c.leave.ensures.entry c.leave.ensures.values
    (λ key. c.requires.bare key) c.remove-value.ensures.updates.changed c.remove-value.ensures.updates.others
