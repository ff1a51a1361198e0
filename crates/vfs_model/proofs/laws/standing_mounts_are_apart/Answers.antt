use Rattle.vfs_model.proofs.MountsApart.{standing-apart}
use Rattle.vfs_model.proofs.laws.standing_mounts_are_apart.Goals as goal

pub returns : goal.returns
returns c n stand = standing-apart n stand
