use Rattle.world_laws.proofs.steps.StepsBehind.{run-goes-on}
use Rattle.world_laws.proofs.runs_go_on_behind.Goals as goal

pub returns : goal.returns
returns c before run w v consistent may behind = run-goes-on before run w v consistent may behind
