use Rattle.vfs_model.proofs.SmallCaches.{reclaim-leaves-few}
use Rattle.vfs_model.proofs.laws.reclaim_leaves_few.Goals as goal

pub returns : goal.returns
returns c run = reclaim-leaves-few run
