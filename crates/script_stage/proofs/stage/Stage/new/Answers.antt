use Rattle.std.proofs.Common.{refl}
use Rattle.script_stage.proofs.Ending.{start-stands}
use Rattle.script_stage.proofs.stage.Stage.new.Goals as goal

pub returns-clause-stands : goal.returns-clause-stands
returns-clause-stands g c script opens =
    let sessions = c.in_ok-sessions.ensures {u = tt} in
    start-stands _ script opens c.new.ensures.items refl sessions.count sessions.each

pub returns-clause-fresh : goal.returns-clause-fresh
returns-clause-fresh g c = (c.in_ok-sessions.ensures {u = tt}).fresh 0
