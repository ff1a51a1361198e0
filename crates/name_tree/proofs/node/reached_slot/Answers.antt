use Rattle.std.proofs.Common.{None, Some, sym, ap, ◌∙◌}
use Rattle.name_tree.specs.Layout.{child_in}
use Rattle.name_tree.proofs.Walks.{walk-more}
use Rattle.name_tree.proofs.node.reached_slot.Goals as goal

pub returns-in-None-clause-ends : goal.returns-in-None-clause-ends
returns-in-None-clause-ends g c = λ l.
    walk-more (child_in c.args.nodes.now.slots) c.args.path.now c.loop-at.at c.loop-at.slot c.index-path-at.result None l c.loop-at.invariant
    (ap (child_in c.args.nodes.now.slots c.loop-at.slot) (sym c.index-path-at.is) ∙ sym c.child_of.ensures ∙ c.in-None.is)

pub loop-at-preserved : goal.loop-at-preserved
loop-at-preserved g c =
    walk-more (child_in c.args.nodes.now.slots) c.args.path.now c.loop-at.at c.loop-at.slot c.index-path-at.result (Some c.in-Some.below) c.loop-at-test.true c.loop-at.invariant
    (ap (child_in c.args.nodes.now.slots c.loop-at.slot) (sym c.index-path-at.is) ∙ sym c.child_of.ensures ∙ c.in-Some.is)
