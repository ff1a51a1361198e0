use Rattle.std.proofs.Common.{refl, sym, ◌∙◌}
use Rattle.vfs_plain.proofs.Playing.{exit-plays}
use Rattle.vfs_plain.proofs.script_session.ScriptSession.hear.Goals as goal

pub returns-else-self-clause-plays : goal.returns-else-self-clause-plays
returns-else-self-clause-plays c = λ heard p.
    exit-plays c.args.self.now _ c.args.acts.now c.args.reply.now heard (sym c.args.self.now.pending ∙ c.if-self.false) refl refl refl
    c.exited.ensures.rest c.exited.ensures.ready c.exited.ensures.exits p
