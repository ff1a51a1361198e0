use Rattle.vfs_model.proofs.WrittenBytes.{written-is-read}
use Rattle.vfs_model.proofs.laws.written_is_read.Goals as goal

pub returns : goal.returns
returns c f id off piece e = written-is-read f id off piece e
