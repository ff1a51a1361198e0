use Rattle.vfs_model.proofs.EmptyMounts.{empty-changes-nothing}
use Rattle.vfs_model.proofs.laws.empty_mount_changes_no_node.Goals as goal

pub returns : goal.returns
returns c n mount path apart h k l d e = empty-changes-nothing n mount path apart h k l d e
