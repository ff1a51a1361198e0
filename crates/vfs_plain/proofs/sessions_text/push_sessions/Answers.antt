use Rattle.vfs_plain.proofs.Calls.{texts-more}
use Rattle.vfs_plain.proofs.sessions_text.push_sessions.Goals as goal

pub loop-session-preserved : goal.loop-session-preserved
loop-session-preserved c =
    texts-more c.loop-session.out c.push_session.new.out c.args.acts.now c.args.sessions.now c.loop-session.session-index
    c.session-item.result _ c.loop-session-test.true c.session-item.is c.in_ok-push_session.ensures c.loop-session.invariant
