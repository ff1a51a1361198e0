use Rattle.world_laws.proofs.kept_files_stay.Goals as goal
use Rattle.world_laws.proofs.steps.VolumeSteps.{kept-stays}

pub returns : goal.returns
returns c w asker asked m name = kept-stays w asker asked m name
