use Rattle.std.proofs.Common.{refl, sym, ◌∙◌}
use Rattle.vfs_plain.proofs.TakenEntries.{takes-step}
use Rattle.vfs_plain.proofs.stage.Stage.take_step.Goals as goal

pub returns : goal.returns
returns c = λ s stands.
    takes-step c.args.self.now _ c.tell.new.self c.args.deck.now.acts s c.args.entry.now c.args.step.now c.in_ok-reply.reply
    stands (sym c.in_ok-fits.ensures ∙ c.if-not-branch.false) c.in_ok-reply.ensures.ok refl refl c.in_ok-tell.ensures
