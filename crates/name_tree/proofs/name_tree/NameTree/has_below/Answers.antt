use Rattle.std.proofs.Common.{sym, ◌∙◌}
use Rattle.name_tree.proofs.Belows.{below-entries, below-nothing}
use Rattle.name_tree.proofs.name_tree.NameTree.has_below.Goals as goal

pub returns-in-Some : goal.returns-in-Some
returns-in-Some g c = c.has_entries.ensures ∙ sym (below-entries c.self.invariant c.self.view_is c.args.path.now c.in-Some.slot (sym c.in-Some.ensures))

pub returns-in-None : goal.returns-in-None
returns-in-None g c = sym (below-nothing c.self.invariant c.self.view_is c.args.path.now (sym c.in-None.ensures))
