use Rattle.dfs_run.proofs.EndingLemmas.{closes_open}
use Rattle.dfs_run.proofs.StandingLemmas.{leaves_open}
use Rattle.dfs_run.proofs.shell.close.Goals as goal
use Rattle.script_stage.specs.Scenes.{told_entries}

pub returns-in-Err-clause-closes : goal.returns-in-Err-clause-closes
returns-in-Err-clause-closes g c =
    closes_open c.args.stage c.give_up.result.0.schedule (told_entries c.close.new.self) (g.W.StepWorld.seen c.give_up.result.0.world).faults (g.K.Sink.written c.args.sink.now)
    c.give_up.result.1
    (leaves_open c.args.stage c.close.new.self (g.W.StepWorld.seen c.give_up.result.0.world).faults c.in-Err.ensures.err c.close.ensures.goes_on c.give_up.ensures.rising)
    c.give_up.ensures.schedule c.give_up.ensures.fault
