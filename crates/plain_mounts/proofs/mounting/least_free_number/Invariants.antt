use Rattle.std.proofs.Common.{◌≡◌, ◌+◌, ◌-◌, ◌==◌}
use Rattle.std.specs.Prelude.{not}
use Rattle.std.specs.List.{list_any, position_or_len, range_with_len}
use Rattle.vfs_model.specs.MountStep.{least_free_mount}
use Rattle.vfs_model.specs.Namespace.{all_mounts}
use Rattle.plain_mounts.proofs.mounting.least_free_number.Given as goal

abbrev pub invariant-loop-number : goal.invariant-loop-number
invariant-loop-number l =
    l.number + position_or_len (λ number. not (list_any (λ mount. mount.number == number) (all_mounts l.namespace))) (range_with_len l.number (16 - l.number))
    ≡ least_free_mount l.namespace
