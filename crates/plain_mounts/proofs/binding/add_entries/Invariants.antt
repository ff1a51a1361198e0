use Rattle.std.proofs.Common.{◌≡◌, ◌++◌, List, map}
use Rattle.std.specs.Vec.Iter.{into_iter_items}
use Rattle.vfs_model.specs.Lookup.{with_tree}
use Rattle.vfs_model.specs.declared.namespace.RomImage.{RomImage}
use Rattle.plain_nodes.specs.Changes.{row_change}
use Rattle.plain_mounts.specs.Leaving.{rows_so_far}
use Rattle.plain_nodes.specs.Contents.{contents_of}
use Rattle.plain_mounts.specs.Mounting.{IsReady, add_entries, brought_by}
use Rattle.plain_mounts.proofs.binding.add_entries.Given as goal

abbrev pub invariant-loop-path : goal.invariant-loop-path
invariant-loop-path l = record {
  next : add_entries l.mount (rows_so_far (with_tree l.namespace l.mount.number l.tree.items) l.changes.items) (into_iter_items l.path-iterator)
      ≡ add_entries l.mount (rows_so_far (with_tree l.initial.namespace l.mount.number l.initial.tree.items) l.initial.changes.items) l.fn.content;
  contents : (roms : List RomImage) → contents_of roms (map row_change l.changes.items) ++ brought_by roms (into_iter_items l.path-iterator)
      ≡ contents_of roms (map row_change l.initial.changes.items) ++ brought_by roms l.fn.content;
  ready : IsReady l.namespace (into_iter_items l.path-iterator) l.tree l.changes;
}
