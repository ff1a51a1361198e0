use Rattle.vfs_model.proofs.WorkerLaws.{flush-leaves, reclaim-leaves}
use Rattle.vfs_model.proofs.laws.worker_changes_nothing.Goals as goal

pub returns : goal.returns
returns c w asker row m = (flush-leaves w asker row m, reclaim-leaves w asker row m)
