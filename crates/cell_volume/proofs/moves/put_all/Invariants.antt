use Rattle.std.proofs.Common.{◌≡◌, T, fold, take}
use Rattle.std.specs.FinMap.Entries.{is_sorted}
use Rattle.vfs_base.specs.Path.{path_cmp}
use Rattle.node_maps.specs.NodeMap.{put_entry}
use Rattle.cell_volume.proofs.moves.put_all.Given as goal

abbrev pub invariant-loop-path : goal.invariant-loop-path
invariant-loop-path l = record {
  puts : l.nodes.entries ≡ fold put_entry l.initial.nodes.entries (take l.path-index l.carried);
  ordered : T (is_sorted path_cmp l.nodes.entries);
}
