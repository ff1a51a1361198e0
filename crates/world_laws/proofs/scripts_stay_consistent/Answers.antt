use Rattle.world_laws.proofs.steps.ScriptKeeping.{script-consistent}
use Rattle.world_laws.proofs.scripts_stay_consistent.Goals as goal

pub returns : goal.returns
returns c deck describe schedule s numbered e = script-consistent deck describe schedule s numbered e
