use Rattle.std.proofs.Common.{sym, ◌∙◌}
use Rattle.name_tree.proofs.Besides.{beside-entries, beside-nothing}
use Rattle.name_tree.proofs.name_tree.NameTree.has_beside.Goals as goal

pub returns-in-Some : goal.returns-in-Some
returns-in-Some g c = c.has_other.ensures ∙ sym (beside-entries c.self.invariant c.self.view_is c.args.path.now c.args.name.now c.in-Some.slot (sym c.in-Some.ensures))

pub returns-in-None : goal.returns-in-None
returns-in-None g c = sym (beside-nothing c.self.invariant c.self.view_is c.args.path.now c.args.name.now (sym c.in-None.ensures))
