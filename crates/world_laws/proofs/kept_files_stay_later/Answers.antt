use Rattle.world_laws.proofs.kept_files_stay_later.Goals as goal
use Rattle.world_laws.proofs.steps.VolumeSteps.{kept-stays-later}

pub returns : goal.returns
returns c run w name = kept-stays-later run w name
