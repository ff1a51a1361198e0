use Rattle.world_laws.proofs.schedule_leaves_surely.Goals as goal
use Rattle.world_laws.proofs.steps.SureLeaving.{schedule_leaves_surely}

pub returns : goal.returns
returns c = schedule_leaves_surely
