use Rattle.script_stage.proofs.ClosingAll.{LeftUpTo}
use Rattle.script_stage.proofs.stage.Stage.leave_all.Given as goal
use Rattle.script_stage.specs.Scenes.{GoesOn}

abbrev pub invariant-loop-place : goal.invariant-loop-place
invariant-loop-place g l = LeftUpTo l.fn.self l.self l.place × GoesOn l.fn.self l.self
