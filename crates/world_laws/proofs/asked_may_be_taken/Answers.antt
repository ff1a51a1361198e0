use Rattle.world_laws.proofs.steps.WorldSteps.{asked-taken}
use Rattle.world_laws.proofs.asked_may_be_taken.Goals as goal

pub returns : goal.returns
returns c w asker asked may = asked-taken w asker asked may
