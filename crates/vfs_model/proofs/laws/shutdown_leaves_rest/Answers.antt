use Rattle.vfs_model.proofs.Rests.{shutdown-leaves-rest}
use Rattle.vfs_model.proofs.laws.shutdown_leaves_rest.Goals as goal

pub returns : goal.returns
returns c w asker m h = shutdown-leaves-rest w asker m h
