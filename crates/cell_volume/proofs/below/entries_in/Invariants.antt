use Rattle.std.proofs.Common.{◌≡◌, ◌++◌}
use Rattle.cell_volume.proofs.BelowRanges.{Rest}
use Rattle.cell_volume.specs.MountedVolume.{entries_at}
use Rattle.cell_volume.proofs.below.entries_in.Given as goal

abbrev pub invariant-loop-path : goal.invariant-loop-path
invariant-loop-path l = record {
  entries : l.entries ++ entries_at l.path-iterator l.folder ≡ entries_at l.nodes.entries l.folder;
  rest : Rest l.folder l.path-iterator;
}
