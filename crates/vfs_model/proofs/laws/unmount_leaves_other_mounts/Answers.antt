use Rattle.vfs_model.proofs.MountLaws.{unmounted-leaves}
use Rattle.vfs_model.proofs.laws.unmount_leaves_other_mounts.Goals as goal

pub returns : goal.returns
returns c n number path r h = unmounted-leaves n number path r h
