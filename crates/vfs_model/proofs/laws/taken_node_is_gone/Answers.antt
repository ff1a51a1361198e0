use Rattle.vfs_model.proofs.NodeLaws.{taken-here, taken-other}
use Rattle.vfs_model.proofs.laws.taken_node_is_gone.Goals as goal

pub returns : goal.returns
returns c n path apart l h = (taken-here n path l h, taken-other n path apart l)
