use Rattle.std.proofs.Common.{◌-◌, ◌^◌, ◌∷◌, [], length}
use Rattle.vfs_model.specs.Turns.{RunOut}
use Rattle.script_stage.proofs.stage.Stage.run_out.Given as goal
use Rattle.script_stage.specs.Scenes.{GoesOn}
use Rattle.script_stage.specs.Standing.{Leads, OthersStay, StandsAt}

abbrev pub invariant-loop : goal.invariant-loop
invariant-loop g l =
    Leads StandsAt l.fn.self l.self (RunOut l.k ∷ []) (RunOut l.k ∷ []) × OthersStay l.fn.self.sessions l.self.sessions l.k
    × GoesOn l.fn.self l.self

abbrev pub decreases-loop : goal.decreases-loop
decreases-loop g l = 2 ^ 64 - length l.self.schedule
