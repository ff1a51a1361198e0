use Rattle.vfs_model.proofs.WrittenBytes.{writes-piece}
use Rattle.vfs_model.proofs.laws.write_moves_its_piece.Goals as goal

pub returns : goal.returns
returns c off byte piece bytes = writes-piece off byte piece bytes
