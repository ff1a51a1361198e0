use Rattle.std.proofs.Common.{ap}
use Rattle.vfs_model.proofs.RefusedSteps.{is_refusal}
use Rattle.vfs_model.proofs.WorldLaws.{refused-leaves}
use Rattle.vfs_model.proofs.laws.refused_world_stays_same.Goals as goal

pub returns : goal.returns
returns c w asker asked m errno h e = refused-leaves w asker asked m h (ap is_refusal e)
