use Rattle.std.proofs.Common.{drop}
use Rattle.vfs_base.specs.Path.{AllAre}
use Rattle.vfs_model.specs.Sizes.{HasFewCells}
use Rattle.case_worlds.proofs.outcomes.have_few_cells.Given as goal

abbrev pub invariant-loop-shape : goal.invariant-loop-shape
invariant-loop-shape l = AllAre HasFewCells (drop l.shape-index l.volumes) → AllAre HasFewCells l.volumes
