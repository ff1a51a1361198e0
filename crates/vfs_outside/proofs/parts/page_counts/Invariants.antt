use Rattle.std.proofs.Common.{◌≡◌, map, take}
use Rattle.vfs_outside.proofs.parts.page_counts.Given as goal

abbrev pub invariant-loop-cell : goal.invariant-loop-cell
invariant-loop-cell g l = l.counts ≡ map g.B.Block.pages (take l.cell-index l.cells)
