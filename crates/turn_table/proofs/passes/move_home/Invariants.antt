use Rattle.std.proofs.Common.{◌≡◌, ℕ, ◌<◌, ◌≤◌, true, false, length, slice_get, slice_index_or, Some, vec_capacity}
use Rattle.std.specs.Slots.{slots_filled, slots_items, slots_len}
use mathlib.Core.Option.{some}
use lib.ListN.{get_elem?}
use Rattle.turn_table.specs.declared.held.Held.{Held}
use Rattle.turn_table.proofs.passes.move_home.Given as goal

abbrev pub invariant-loop-part : goal.invariant-loop-part
invariant-loop-part g l = record {
  count : length l.values.items ≡ l.part;
  room : 1025 ≤ vec_capacity l.values;
  items : slots_items l.closed.slots ≡ slots_items l.initial.closed.slots;
  len : slots_len l.closed.slots ≡ 1025;
  full : (k : ℕ) → l.part ≤ k → k < 1025 → slice_index_or (slots_filled l.closed.slots) k false ≡ true;
  empty : (k : ℕ) → k < l.part → slice_index_or (slots_filled l.closed.slots) k false ≡ false;
  moved : (k : ℕ) (value : Held g.row.A.Denot g.row.B.Denot) → slice_get l.values.items k ≡ Some value → get_elem? (slots_items l.initial.closed.slots) k ≡ some (Some value);
}
