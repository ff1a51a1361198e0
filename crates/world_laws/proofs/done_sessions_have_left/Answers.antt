use Rattle.vfs_model.proofs.OwnLines.{session-asks-its-own}
use Rattle.world_laws.proofs.steps.ScriptAsking.{sessions-leave}
use Rattle.world_laws.proofs.done_sessions_have_left.Goals as goal

pub returns : goal.returns
returns c deck describe schedule s k all above within e given done = sessions-leave session-asks-its-own deck describe schedule s k all above within e given done
