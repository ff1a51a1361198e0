use Rattle.world_laws.proofs.steps.WorldBehind.{has-one-behind}
use Rattle.world_laws.proofs.worlds_have_one_behind.Goals as goal

pub returns : goal.returns
returns c before w consistent = has-one-behind before w consistent
