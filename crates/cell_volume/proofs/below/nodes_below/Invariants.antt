use Rattle.std.proofs.Common.{◌≡◌, ◌++◌}
use Rattle.cell_volume.proofs.BelowRanges.{Rest}
use Rattle.cell_volume.specs.Below.{below_in}
use Rattle.cell_volume.proofs.below.nodes_below.Given as goal

abbrev pub invariant-loop-path : goal.invariant-loop-path
invariant-loop-path l = record {
  below : l.below ++ below_in l.folder l.path-iterator ≡ below_in l.folder l.nodes.entries;
  rest : Rest l.folder l.path-iterator;
}
