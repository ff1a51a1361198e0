use Rattle.vfs_model.proofs.SizedSteps.{step-sized}
use Rattle.vfs_model.proofs.laws.marked_step_keeps_sizes.Goals as goal

pub returns : goal.returns
returns c n k asked m s = step-sized n k asked m s
