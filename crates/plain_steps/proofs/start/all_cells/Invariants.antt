use Rattle.std.proofs.Common.{◌≡◌, ◌++◌, drop, map}
use Rattle.vfs_model.specs.Homes.{empty_cells}
use Rattle.plain_steps.proofs.start.all_cells.Given as goal

abbrev pub invariant-loop-shape : goal.invariant-loop-shape
invariant-loop-shape l = l.cells ++ map empty_cells (drop l.shape-index l.shapes) ≡ map empty_cells l.shapes
