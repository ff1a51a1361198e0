use Rattle.std.proofs.Common.{◌-◌, ◌^◌, ◌∷◌, [], length}
use Rattle.vfs_model.specs.Turns.{Leaves}
use Rattle.script_stage.proofs.stage.Stage.leave.Given as goal
use Rattle.script_stage.specs.Scenes.{GoesOn}
use Rattle.script_stage.specs.Standing.{IsIdle, Leads, LeavesAt, OthersStay}

abbrev pub invariant-loop : goal.invariant-loop
invariant-loop g l =
    Leads LeavesAt l.fn.self l.self (Leaves l.k ∷ []) (Leaves l.k ∷ [])
    × OthersStay l.fn.self.sessions l.self.sessions l.k
    × IsIdle l.self.sessions l.k
    × GoesOn l.fn.self l.self

abbrev pub decreases-loop : goal.decreases-loop
decreases-loop g l = 2 ^ 64 - length l.self.schedule
