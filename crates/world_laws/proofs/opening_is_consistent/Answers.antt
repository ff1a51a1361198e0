use Rattle.world_laws.proofs.steps.Opening.{opened-consistent}
use Rattle.world_laws.proofs.opening_is_consistent.Goals as goal

pub returns : goal.returns
returns c deck describe = opened-consistent deck describe
