use Rattle.std.proofs.Common.{◌≡◌, drop}
use Rattle.std.specs.Prelude.{find}
use Rattle.vfs_model.specs.Namespace.{same_path}
use Rattle.mount_tree.proofs.mounts.find_at.Given as goal

abbrev pub invariant-loop-mount : goal.invariant-loop-mount
invariant-loop-mount l =
    find (λ mount. same_path mount.point l.point) (drop l.mount-index l.mounts) ≡ find (λ mount. same_path mount.point l.point) l.mounts
