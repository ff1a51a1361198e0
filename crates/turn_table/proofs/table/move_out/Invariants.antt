use Rattle.std.proofs.Common.{◌≡◌, ◌+◌, ◌≤◌, ◌++◌, drop, reverse, vec_len, vec_capacity}
use Rattle.turn_table.specs.Values.{row_slots}
use Rattle.turn_table.proofs.table.move_out.Given as goal

abbrev pub invariant-loop-slot : goal.invariant-loop-slot
invariant-loop-slot g l =
    (row_slots l.others.items ++ reverse l.slots.items ≡ drop 1 l.fn.slots.items)
    × (vec_len l.slots + vec_len l.others ≤ vec_capacity l.others)

abbrev pub decreases-loop-slot : goal.decreases-loop-slot
decreases-loop-slot g l = vec_len l.slots
