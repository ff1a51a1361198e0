use Rattle.std.proofs.Common.{◌≡◌, drop}
use Rattle.vfs_model.specs.Lookup.{nearest}
use Rattle.plain_nodes.proofs.lookup.covering_mount.Given as goal

abbrev pub invariant-loop-mount : goal.invariant-loop-mount
invariant-loop-mount l =
    nearest l.path l.found (drop l.mount-index l.namespace.mounts) ≡ nearest l.path l.namespace.root l.namespace.mounts
