use Rattle.std.proofs.Common.{◌≡◌, ◌==◌, drop}
use Rattle.std.specs.Prelude.{find}
use Rattle.mount_tree.proofs.mounts.find_numbered.Given as goal

abbrev pub invariant-loop-mount : goal.invariant-loop-mount
invariant-loop-mount l =
    find (λ mount. mount.number == l.number) (drop l.mount-index l.mounts) ≡ find (λ mount. mount.number == l.number) l.mounts
