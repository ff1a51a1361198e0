use Rattle.vfs_model.proofs.OpeningLaws.{opening-consistent}
use Rattle.vfs_model.proofs.laws.opening_world_is_consistent.Goals as goal

pub returns : goal.returns
returns c roms describe closed = opening-consistent roms describe closed
