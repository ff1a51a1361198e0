use Rattle.vfs_model.proofs.OwnLines.{session-asks-its-own}
use Rattle.world_laws.proofs.steps.ScriptAsking.{script-asks}
use Rattle.world_laws.proofs.script_steps_may_be_asked.Goals as goal

pub returns : goal.returns
returns c deck describe schedule s asker asked all there last e wanted =
    script-asks session-asks-its-own deck describe schedule s asker asked all there last e wanted
