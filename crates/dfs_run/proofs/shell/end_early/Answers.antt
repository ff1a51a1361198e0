use Rattle.std.proofs.Common.{Some, ap}
use Rattle.dfs_run.proofs.EndingLemmas.{stops_closed, stops_open}
use Rattle.dfs_run.proofs.StandingLemmas.{leaves_open}
use Rattle.dfs_run.proofs.shell.end_early.Goals as goal
use Rattle.dfs_run.specs.Causes.{note_of}
use Rattle.script_stage.specs.Scenes.{told_entries}
use Rattle.step_world.specs.WorldView.{WorldView}

pub returns-in-Ok : goal.returns-in-Ok
returns-in-Ok g c = record {
  stops =
      stops_closed c.args.stop c.args.stage c.close.new.self c.finish.result.schedule (g.W.StepWorld.seen c.finish.result.world).faults (Some c.note.result) c.requires c.in-Ok.ensures.ok
      c.close.ensures.goes_on c.finish.ensures.schedule (ap (λ (v : WorldView). v.faults) c.finish.ensures.world) (ap Some c.note.ensures);
}

pub returns-in-Err : goal.returns-in-Err
returns-in-Err g c = record {
  stops =
      stops_open (note_of c.args.stop) c.args.stage c.give_up.result.0.schedule (told_entries c.close.new.self) (g.W.StepWorld.seen c.give_up.result.0.world).faults c.give_up.result.1
      (leaves_open c.args.stage c.close.new.self (g.W.StepWorld.seen c.give_up.result.0.world).faults c.in-Err.ensures.err c.close.ensures.goes_on c.give_up.ensures.rising)
      c.give_up.ensures.schedule c.give_up.ensures.fault;
}
