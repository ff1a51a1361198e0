use Rattle.vfs_model.proofs.CountedHolders.{holders-are-counted}
use Rattle.vfs_model.proofs.laws.holders_are_counted.Goals as goal

pub returns : goal.returns
returns c n = holders-are-counted n
