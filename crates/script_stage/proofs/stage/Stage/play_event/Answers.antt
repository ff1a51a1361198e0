use Rattle.script_stage.proofs.stage.Stage.play_event.Goals as goal

pub returns-in-Session-clause-err : goal.returns-in-Session-clause-err
returns-in-Session-clause-err g c = rw c.in-Session.is c.play_session.ensures.err

pub returns-in-Session-clause-ok : goal.returns-in-Session-clause-ok
returns-in-Session-clause-ok g c = rw c.in-Session.is c.play_session.ensures.ok
