use Rattle.world_laws.proofs.steps.WorldSteps.{run-consistent}
use Rattle.world_laws.proofs.runs_keep_consistency.Goals as goal

pub returns : goal.returns
returns c run w consistent may = run-consistent run w consistent may
