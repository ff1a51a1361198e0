use Rattle.script_stage.proofs.ClosingAll.{RanUpTo}
use Rattle.script_stage.proofs.stage.Stage.run_all.Given as goal
use Rattle.script_stage.specs.Scenes.{GoesOn}

abbrev pub invariant-loop-place : goal.invariant-loop-place
invariant-loop-place g l = RanUpTo l.fn.self l.self l.place × GoesOn l.fn.self l.self
