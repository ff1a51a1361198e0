use Rattle.cell_volume.proofs.MountedLemmas.{ordered-entries}
use Rattle.cell_volume.proofs.moves.put_moved.Goals as goal

pub returns-clause-ordered : goal.returns-clause-ordered
returns-clause-ordered c = ordered-entries c.insert.new.self.entries c.insert.ensures.ordered
