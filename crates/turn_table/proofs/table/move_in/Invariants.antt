use Rattle.std.proofs.Common.{◌≡◌, ◌+◌, ◌≤◌, ◌++◌, reverse, vec_len, vec_capacity}
use Rattle.turn_table.specs.Values.{row_slots}
use Rattle.turn_table.proofs.table.move_in.Given as goal

abbrev pub invariant-loop-value : goal.invariant-loop-value
invariant-loop-value g l =
    (row_slots l.others.items ++ reverse l.slots.items ≡ row_slots l.initial.others.items)
    × (vec_len l.slots + vec_len l.others ≤ vec_len l.initial.others)
    × (vec_capacity l.slots ≡ vec_capacity l.initial.slots)
    × (vec_capacity l.others ≡ vec_capacity l.initial.others)

abbrev pub decreases-loop-value : goal.decreases-loop-value
decreases-loop-value g l = vec_len l.others
