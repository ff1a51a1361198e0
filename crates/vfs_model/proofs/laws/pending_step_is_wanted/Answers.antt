use Rattle.vfs_model.proofs.GrowingRuns.{pending-wanted}
use Rattle.vfs_model.proofs.laws.pending_step_is_wanted.Goals as goal

pub returns : goal.returns
returns c posted more replies h = pending-wanted posted more replies h
