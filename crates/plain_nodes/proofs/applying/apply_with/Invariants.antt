use Rattle.std.proofs.Common.{◌≡◌, drop, map}
use Rattle.std.specs.Prelude.{fold}
use Rattle.vfs_model.specs.Homes.{change_row}
use Rattle.plain_nodes.specs.Changes.{row_change}
use Rattle.plain_nodes.specs.Contents.{contents_of}
use Rattle.plain_nodes.proofs.applying.apply_with.Given as goal

abbrev pub invariant-loop-place : goal.invariant-loop-place
invariant-loop-place l = record {
  changed : fold change_row l.world (map row_change (drop l.place l.changes)) ≡ fold change_row l.fn.world (map row_change l.changes);
  namespace : l.world.namespace ≡ l.fn.world.namespace;
  later : drop l.place l.contents ≡ contents_of l.fn.world.namespace.roms (map row_change (drop l.place l.changes));
}
