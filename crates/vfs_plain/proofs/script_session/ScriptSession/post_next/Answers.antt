use Rattle.std.proofs.Common.{refl}
use Rattle.vfs_plain.proofs.Calls.{turn-more, turn-over}
use Rattle.vfs_plain.proofs.script_session.ScriptSession.post_next.Goals as goal

pub returns-in-Some-clause-more : goal.returns-in-Some-clause-more
returns-in-Some-clause-more c =
    turn-more c.post_line.result c.args.self.now _ c.post_line.new.self c.args.acts.now c.in-Some.line.now
    c.post_line.ensures refl refl refl c.in-Some.ensures.found

pub returns-in-Some-clause-over : goal.returns-in-Some-clause-over
returns-in-Some-clause-over c =
    turn-over c.post_line.result c.args.self.now _ c.post_line.new.self c.args.acts.now c.in-Some.line.now
    c.post_line.ensures refl refl refl c.in-Some.ensures.found
