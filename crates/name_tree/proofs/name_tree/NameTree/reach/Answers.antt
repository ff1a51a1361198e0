use Rattle.std.proofs.Common.{None, Some, option_copied, sym, ap, ◌∙◌}
use Rattle.name_tree.proofs.Calls.{at-walk}
use Rattle.name_tree.proofs.Walks.{live-walk}
use Rattle.name_tree.specs.Layout.{value_of}
use Rattle.name_tree.proofs.name_tree.NameTree.reach.Goals as goal

pub unreachable-requires : goal.unreachable-requires
unreachable-requires g c = live-walk c.self.invariant.tree _ c.reached_slot-count.result.1 c.reached_slot-count.ensures.leads (ap value_of (sym c.get.ensures ∙ ap option_copied c.in-None.is))

pub returns-clause-value : goal.returns-clause-value
returns-clause-value g c = at-walk c.self.invariant c.self.view_is _ (Some c.reached_slot-count.result.1) c.reached_slot-count.ensures.leads ∙ ap value_of (sym c.get.ensures ∙ ap option_copied c.in-Some.is)

pub returns-clause-ends : goal.returns-clause-ends
returns-clause-ends g c = λ l. at-walk c.self.invariant c.self.view_is _ None (c.reached_slot-count.ensures.ends l)
