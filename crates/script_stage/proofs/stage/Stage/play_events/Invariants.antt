use Rattle.std.proofs.Common.{drop, map}
use Rattle.vfs_model.specs.Turns.{Steps}
use Rattle.script_stage.proofs.stage.Stage.play_events.Given as goal
use Rattle.script_stage.specs.Standing.{Leads, StandsAt}

abbrev pub invariant-loop-who : goal.invariant-loop-who
invariant-loop-who g l = Leads StandsAt l.fn.self l.self (map Steps l.events) (map Steps (drop l.who-index l.events))
