use Rattle.std.proofs.Common.{◌≢◌, length}
use Rattle.msh_session.specs.SessionTalks.{exits_left}
use Rattle.vfs_model.specs.FaultCounts.{NoneFalls}
use Rattle.script_stage.proofs.closing.leave_unseen.Given as goal
use Rattle.script_stage.specs.declared.phase.Phase.TheVariants as phase

abbrev pub invariant-exits : goal.invariant-exits
invariant-exits g l =
    (l.session.phase ≢ phase.Asking) × NoneFalls (g.W.StepWorld.seen l.initial.world).faults (g.W.StepWorld.seen l.world).faults

abbrev pub decreases-exits : goal.decreases-exits
decreases-exits g l = length (exits_left l.session.session)
