use Rattle.world_laws.proofs.leaving_needs_no_memory.Goals as goal
use Rattle.world_laws.proofs.steps.SureLeaving.{leaving_needs_no_memory}

pub returns : goal.returns
returns c = leaving_needs_no_memory
