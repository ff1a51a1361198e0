use Rattle.vfs_model.proofs.SizedStart.{sized_start}
use Rattle.vfs_model.proofs.laws.opening_is_sized.Goals as goal

pub returns : goal.returns
returns c roms describe small few = sized_start roms describe small few
