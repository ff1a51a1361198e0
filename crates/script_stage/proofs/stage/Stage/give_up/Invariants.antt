use Rattle.std.proofs.Common.{◌≡◌}
use Rattle.script_stage.proofs.stage.Stage.give_up.Given as goal
use Rattle.script_stage.specs.Scenes.{Halts}

abbrev pub invariant-loop-place : goal.invariant-loop-place
invariant-loop-place g l = Halts l.fn.self l.self
