use Rattle.std.proofs.Common.{◌≡◌, drop}
use Rattle.vfs_model.specs.Lookup.{nearest}
use Rattle.mount_tree.proofs.mounts.nearest.Given as goal

abbrev pub invariant-loop-mount : goal.invariant-loop-mount
invariant-loop-mount l = nearest l.path l.found (drop l.mount-index l.others) ≡ nearest l.path l.fn.found l.others
