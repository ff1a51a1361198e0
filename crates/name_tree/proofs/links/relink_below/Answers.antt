use Rattle.std.proofs.Common.{◌≡◌, Some, sym, ap, ◌∙◌}
use Rattle.name_tree.proofs.NodeSlots.{Relinks-vacated}
use Rattle.name_tree.specs.Layout.{child_in}
use Rattle.name_tree.proofs.links.relink_below.Goals as goal

pub returns-in-Some-clause-ok : goal.returns-in-Some-clause-ok
returns-in-Some-clause-ok g c =
    let before : child_in c.args.nodes.now.slots c.args.to c.args.other.now ≡ Some c.in-Some.gone =
    ap (child_in c.args.nodes.now.slots c.args.to) (sym c.in_ok-copy.ensures) ∙ sym c.in_ok-replaced.ensures.before ∙ c.in-Some.is in
    Relinks-vacated c.args.nodes.now.slots c.enter.new.nodes.slots c.leave.new.nodes.slots c.remove-value.new.self.slots c.args.at c.args.to c.args.slot c.in-Some.gone
    c.args.name.now c.args.other.now before (rw c.in_ok-copy.ensures at c.in_ok-replaced.ensures.entry) c.in_ok-replaced.ensures.values c.leave.ensures.entry c.leave.ensures.values
    (λ key. c.requires.bare c.in-Some.gone key before) c.remove-value.ensures.updates.changed c.remove-value.ensures.updates.others
