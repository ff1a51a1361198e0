use Rattle.vfs_model.proofs.MountLaws.{mounted-below, mounted-beside}
use Rattle.vfs_model.proofs.laws.mount_shows_its_tree.Goals as goal

pub returns : goal.returns
returns c n mount tree path e h k l = (mounted-below n mount tree path e h l, mounted-beside n mount tree path k)
