use Rattle.vfs_model.proofs.SizedSteps.{answered-sized}
use Rattle.vfs_model.proofs.laws.step_keeps_sizes.Goals as goal

pub returns : goal.returns
returns c n k asked outcome s e = answered-sized n k asked outcome s e
