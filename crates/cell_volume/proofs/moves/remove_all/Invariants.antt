use Rattle.std.proofs.Common.{◌≡◌, T, fold, take}
use Rattle.std.specs.FinMap.Entries.{is_sorted}
use Rattle.vfs_base.specs.Path.{path_cmp}
use Rattle.cell_volume.specs.Below.{without_entry}
use Rattle.cell_volume.proofs.moves.remove_all.Given as goal

abbrev pub invariant-loop-path : goal.invariant-loop-path
invariant-loop-path l = record {
  left : l.nodes.entries ≡ fold without_entry l.initial.nodes.entries (take l.path-index l.gone);
  ordered : T (is_sorted path_cmp l.nodes.entries);
}
