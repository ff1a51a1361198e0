use Rattle.vfs_model.proofs.OwnLines.{session-asks-its-own}
use Rattle.world_laws.proofs.steps.ScriptAsking.{end-asks}
use Rattle.world_laws.proofs.script_end_may_be_asked.Goals as goal

pub returns : goal.returns
returns c deck describe schedule s asked all e given wanted = end-asks session-asks-its-own deck describe schedule s asked all e given wanted
