use Rattle.vfs_model.proofs.SmallCaches.{none-dirty}
use Rattle.vfs_model.proofs.laws.write_back_leaves_none_dirty.Goals as goal

pub returns : goal.returns
returns c run = none-dirty run
