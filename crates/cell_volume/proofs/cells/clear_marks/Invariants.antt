use Rattle.std.proofs.Common.{◌≡◌, map, take, drop}
use Rattle.cell_volume.specs.Cells.{without_mark}
use Rattle.cell_volume.proofs.cells.clear_marks.Given as goal

abbrev pub invariant-loop-cell : goal.invariant-loop-cell
invariant-loop-cell g l = record {
  front : take l.cell-index l.cells ≡ map without_mark (take l.cell-index l.initial.cells);
  back : drop l.cell-index l.cells ≡ drop l.cell-index l.initial.cells;
}
