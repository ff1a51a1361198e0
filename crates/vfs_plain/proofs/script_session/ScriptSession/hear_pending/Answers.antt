use Rattle.vfs_plain.proofs.Calls.{hears-last, hears-more}
use Rattle.vfs_plain.proofs.script_session.ScriptSession.hear_pending.Goals as goal

pub returns-then-branch-clause-plays : goal.returns-then-branch-clause-plays
returns-then-branch-clause-plays c =
    hears-last c.args.self.now c.take_in.new.self c.args.acts.now c.args.reply.now c.in_ok-take_in.field-0 c.requires
    c.in_ok-take_in.ensures c.post_lines.result c.post_lines.new.self c.if-branch.true c.post_lines.ensures.plays

pub returns-else-branch-clause-plays : goal.returns-else-branch-clause-plays
returns-else-branch-clause-plays c =
    hears-more c.args.self.now c.take_in.new.self c.args.acts.now c.args.reply.now c.in_ok-take_in.field-0 c.requires
    c.in_ok-take_in.ensures c.if-branch.false
