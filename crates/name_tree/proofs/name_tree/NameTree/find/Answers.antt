use Rattle.std.proofs.Common.{None, Some, option_copied, sym, ap, ◌∙◌}
use Rattle.name_tree.proofs.Belows.{below-nothing}
use Rattle.name_tree.proofs.Calls.{at-walk, root-there}
use Rattle.name_tree.proofs.Walks.{live-walk}
use Rattle.name_tree.specs.Layout.{value_of}
use Rattle.name_tree.proofs.name_tree.NameTree.find.Goals as goal

pub returns-in_err-slot-clause-value : goal.returns-in_err-slot-clause-value
returns-in_err-slot-clause-value g c = ap option_copied c.from_residual.ensures ∙ sym (at-walk c.self.invariant c.self.view_is c.args.path.now None (sym c.in_err-slot.ensures))

pub returns-in_err-slot-clause-root : goal.returns-in_err-slot-clause-root
returns-in_err-slot-clause-root g c = root-there c.self.invariant c.self.view_is

pub returns-in_err-slot-clause-above : goal.returns-in_err-slot-clause-above
returns-in_err-slot-clause-above g c = rw c.from_residual.ensures (below-nothing c.self.invariant c.self.view_is c.args.path.now (sym c.in_err-slot.ensures))

pub returns-in_err-node-clause-value : goal.returns-in_err-node-clause-value
returns-in_err-node-clause-value g c =
    ap option_copied c.from_residual-in_err-node.ensures
    ∙ sym (at-walk c.self.invariant c.self.view_is c.args.path.now (Some c.in_ok-slot.slot) (sym c.in_ok-slot.ensures) ∙ ap value_of (sym c.in_err-node.ensures))

pub returns-in_err-node-clause-root : goal.returns-in_err-node-clause-root
returns-in_err-node-clause-root g c = root-there c.self.invariant c.self.view_is

pub returns-in_err-node-clause-above : goal.returns-in_err-node-clause-above
returns-in_err-node-clause-above g c = absurd (live-walk c.self.invariant.tree c.args.path.now c.in_ok-slot.slot (sym c.in_ok-slot.ensures) (ap value_of (sym c.in_err-node.ensures)))

pub returns-clause-value : goal.returns-clause-value
returns-clause-value g c = sym (at-walk c.self.invariant c.self.view_is c.args.path.now (Some c.in_ok-slot.slot) (sym c.in_ok-slot.ensures) ∙ ap value_of (sym c.in_ok-node.ensures))

pub returns-clause-root : goal.returns-clause-root
returns-clause-root g c = root-there c.self.invariant c.self.view_is
