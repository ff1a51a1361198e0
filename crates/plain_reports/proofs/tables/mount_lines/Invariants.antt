use Rattle.std.proofs.Common.{◌≡◌, ◌++◌, drop, map}
use Rattle.vfs_model.specs.Namespace.{all_mounts}
use Rattle.vfs_model.specs.Tables.{mount_line}
use Rattle.plain_reports.proofs.tables.mount_lines.Given as goal

abbrev pub invariant-loop-mount : goal.invariant-loop-mount
invariant-loop-mount l =
    l.lines ++ map (mount_line l.namespace) (drop l.mount-index l.namespace.mounts) ≡ map (mount_line l.namespace) (all_mounts l.namespace)
