use Rattle.vfs_model.proofs.Rests.{rest-stays-same}
use Rattle.vfs_model.proofs.laws.rest_stays_same.Goals as goal

pub returns : goal.returns
returns c n used h = rest-stays-same n used h
