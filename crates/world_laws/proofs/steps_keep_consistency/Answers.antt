use Rattle.world_laws.proofs.steps.WorldSteps.{step-consistent}
use Rattle.world_laws.proofs.steps_keep_consistency.Goals as goal

pub returns : goal.returns
returns c w asker asked m consistent numbered may fits = step-consistent w asker asked m consistent numbered may fits
