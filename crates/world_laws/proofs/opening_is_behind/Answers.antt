use Rattle.world_laws.proofs.steps.WorldBehind.{opening-is-behind}
use Rattle.world_laws.proofs.opening_is_behind.Goals as goal

pub returns : goal.returns
returns c before deck describe = opening-is-behind before deck describe
