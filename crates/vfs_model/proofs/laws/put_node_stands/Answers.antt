use Rattle.vfs_model.proofs.NodeLaws.{put-here, put-other}
use Rattle.vfs_model.proofs.laws.put_node_stands.Goals as goal

pub returns : goal.returns
returns c n path new apart l h = (put-here n path new l h, put-other n path new apart l)
