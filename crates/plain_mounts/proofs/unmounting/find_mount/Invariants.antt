use Rattle.std.proofs.Common.{◌≡◌, drop, find}
use Rattle.vfs_model.specs.Namespace.{same_path}
use Rattle.plain_mounts.proofs.unmounting.find_mount.Given as goal

abbrev pub invariant-loop-mount : goal.invariant-loop-mount
invariant-loop-mount l =
    find (λ mount. same_path mount.point l.path) (drop l.mount-index l.mounts) ≡ find (λ mount. same_path mount.point l.path) l.mounts
