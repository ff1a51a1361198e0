use Rattle.std.proofs.Common.{◌≡◌, ◌++◌, drop}
use Rattle.std.specs.List.{filter_map}
use Rattle.vfs_model.specs.Holders.{path_in_mount, paths_of_row}
use Rattle.plain_reports.proofs.holders.push_row.Given as goal

abbrev pub invariant-loop-mount : goal.invariant-loop-mount
invariant-loop-mount l = l.paths ++ filter_map (path_in_mount l.namespace l.row) (drop l.mount-index l.mounts) ≡ l.fn.paths ++ paths_of_row l.namespace l.row
