use Rattle.world_laws.proofs.steps.StepsBehind.{step-goes-on}
use Rattle.world_laws.proofs.steps_go_on_behind.Goals as goal

pub returns : goal.returns
returns c before w v asker asked m consistent behind = step-goes-on before w v asker asked m consistent behind
