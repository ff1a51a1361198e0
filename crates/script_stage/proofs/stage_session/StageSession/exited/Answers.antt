use Rattle.std.proofs.Common.{refl}
use Rattle.script_stage.proofs.SessionLemmas.{exit-stands}
use Rattle.script_stage.proofs.stage_session.StageSession.exited.Goals as goal

pub returns-clause-follows : goal.returns-clause-follows
returns-clause-follows c = exit-stands c.args.self.now _ c.exited.ensures.rest c.exited.ensures.ready c.exited.ensures.exits refl
