use Rattle.std.proofs.Common.{◌≡◌, map, take}
use Rattle.vfs_outside.specs.Volume.{total_counts}
use Rattle.vfs_outside.proofs.parts.sum_of_counts.Given as goal

abbrev pub invariant-loop-cell : goal.invariant-loop-cell
invariant-loop-cell g l = l.sum ≡ total_counts (map g.B.Block.counts (take l.cell-index l.cells))
