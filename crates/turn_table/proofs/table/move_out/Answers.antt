use Rattle.turn_table.proofs.Slots.{last_is_row}
use Rattle.turn_table.proofs.table.move_out.Goals as goal

pub row_in-requires : goal.row_in-requires
row_in-requires g c = let held = c.requires.slots in last_is_row _ _ _ _ c.args.slots.items held.0 held.1 held.2 c.in-Some.ensures.items c.loop-slot.invariant.0
