use Rattle.std.proofs.Common.{Some, None, Ok, false, sym, ◌∙◌}
use Rattle.vfs_plain.proofs.Calls.{entry-takes}
use Rattle.vfs_plain.proofs.TakenEntries.{over-refuses}
use Rattle.vfs_plain.proofs.stage.Stage.take.Goals as goal

pub returns-then-self : goal.returns-then-self
returns-then-self c = λ s stands.
    over-refuses c.args.self.now c.args.deck.now s c.args.entry.now (sym stands.is_over ∙ c.if-self.true)

pub returns-in-Some : goal.returns-in-Some
returns-in-Some c =
    entry-takes c.take_step.result c.args.self.now c.take_step.new.self c.args.deck.now c.args.entry.now (Some c.in-Some.step)
    c.if-self.false (λ deck s stands. sym c.in-Some.is ∙ c.in_ok-step.ensures.step deck s stands) c.take_step.ensures

pub returns-in-None : goal.returns-in-None
returns-in-None c =
    entry-takes (Ok false) c.args.self.now c.args.self.now c.args.deck.now c.args.entry.now None
    c.if-self.false (λ deck s stands. sym c.in-None.is ∙ c.in_ok-step.ensures.step deck s stands) (λ s stands. tt)
