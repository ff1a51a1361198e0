use Rattle.std.proofs.Common.{ap}
use Rattle.vfs_model.proofs.RefusedSteps.{is_refusal, step-unchanged}
use Rattle.vfs_model.proofs.laws.refused_step_changes_nothing.Goals as goal

pub returns : goal.returns
returns c n k asked m errno h e = step-unchanged n k asked m h (ap is_refusal e)
