use Rattle.vfs_model.proofs.TurnLemmas.{replays-unique, shells-unique}
use Rattle.vfs_model.proofs.laws.script_says_turns.Goals as goal

pub returns : goal.returns
returns c deck describe one other e = (shells-unique deck describe one other e, replays-unique deck describe one other e)
