use Rattle.std.proofs.Common.{◌≡◌, ◌++◌, drop, filter}
use Rattle.std.specs.List.{filter_map, flat_map}
use Rattle.vfs_base.specs.declared.kinds.FsType.TheVariants as fs
use Rattle.vfs_model.specs.Content.{same_type}
use Rattle.vfs_model.specs.Namespace.{tree_of}
use Rattle.vfs_model.specs.Tables.{cell_files, file_of_node}
use Rattle.plain_reports.proofs.tables.linked_on_cells.Given as goal

abbrev pub invariant-loop-mount : goal.invariant-loop-mount
invariant-loop-mount l =
    l.files
    ++ flat_map (λ mount. filter_map (λ entry. file_of_node entry.1) (tree_of l.namespace mount.number))
    (filter (λ mount. same_type mount.fs fs.Cell) (drop l.mount-index l.namespace.mounts))
    ≡ cell_files l.namespace
