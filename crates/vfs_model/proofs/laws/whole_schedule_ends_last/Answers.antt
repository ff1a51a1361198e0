use Rattle.vfs_model.proofs.BlockLemmas.{whole-last}
use Rattle.vfs_model.proofs.laws.whole_schedule_ends_last.Goals as goal

pub returns : goal.returns
returns c deck describe schedule e = whole-last deck describe schedule e
