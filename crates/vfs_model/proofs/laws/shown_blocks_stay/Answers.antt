use Rattle.vfs_model.proofs.GrowingRuns.{shown-stays}
use Rattle.vfs_model.proofs.laws.shown_blocks_stay.Goals as goal

pub returns : goal.returns
returns c deck describe front rest before after k e f = shown-stays deck describe front rest before after k e f
