use Rattle.std.proofs.Common.{arith}
use Rattle.cell_volume.proofs.CellLoops.{cleared-back, cleared-front}
use Rattle.cell_volume.proofs.cells.clear_marks.Goals as goal

pub loop-cell-preserved : goal.loop-cell-preserved
loop-cell-preserved g c = record {
  front = cleared-front c.loop-cell.cells c.args.cells.now c.loop-cell.cell-index c.cell-item.result (omega arith) c.loop-cell-test.true c.loop-cell.invariant.front c.loop-cell.invariant.back;
  back = cleared-back c.loop-cell.cells c.args.cells.now c.loop-cell.cell-index _ c.loop-cell.invariant.back;
}
