use Rattle.vfs_model.proofs.MovedLaws.{moved-at, moved-away, moved-beside}
use Rattle.vfs_model.proofs.laws.moved_subtree_stands.Goals as goal

pub returns : goal.returns
returns c old new tree s h = (λ rest. moved-at old new tree rest s h, moved-away old new tree, moved-beside old new tree)
