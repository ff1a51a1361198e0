use Rattle.std.proofs.Common.{◌≡◌, ◌+◌, ◌-◌}
use Rattle.std.specs.Prelude.{not}
use Rattle.std.specs.List.{position_or_len, range_with_len}
use Rattle.mount_tree.specs.MountList.{has_number, least_free_number}
use Rattle.mount_tree.proofs.mount_tree.least_free_number.Given as goal

abbrev pub invariant-loop-number : goal.invariant-loop-number
invariant-loop-number l =
    l.number + position_or_len (λ number. not (has_number (record { root = l.root; others = l.others }) number)) (range_with_len l.number (16 - l.number))
    ≡ least_free_number (record { root = l.root; others = l.others })
