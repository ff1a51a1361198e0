use Rattle.vfs_model.proofs.CoveringMounts.{covering_mount-longest}
use Rattle.vfs_model.proofs.laws.covering_mount_is_longest.Goals as goal

pub returns : goal.returns
returns c n path e = covering_mount-longest n path e
