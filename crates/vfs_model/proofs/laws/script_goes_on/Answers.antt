use Rattle.vfs_model.proofs.TurnEnds.{replay-goes, shell-goes}
use Rattle.vfs_model.proofs.laws.script_goes_on.Goals as goal

pub returns : goal.returns
returns c deck describe schedule h = (shell-goes deck describe schedule h, replay-goes deck describe schedule h)
