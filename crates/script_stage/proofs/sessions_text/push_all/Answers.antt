use Rattle.script_stage.proofs.ShownTexts.{texts_more}
use Rattle.script_stage.proofs.sessions_text.push_all.Goals as goal

pub loop-place-preserved : goal.loop-place-preserved
loop-place-preserved c =
    texts_more c.loop-place.place c.session_at.result c.args.acts.now c.args.sessions.now c.index-sessions-place.result c.text.result.now
    c.loop-place.out c.push_session.new.out _ c.loop-place-test.true c.index-sessions-place.is c.session_at.ensures c.text.ensures
    (c.in_ok-push_session.ensures {u = tt}) c.loop-place.invariant
