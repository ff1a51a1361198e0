-- How the devices of a table are laid out.
use Rattle.std.specs.Prelude.{ℕ, ◌-◌, Option, None, List, [], length, map, option_and_then, option_map, slice_get, slice_index_or, slice_set}
use Rattle.vfs_outside.specs.Chars.{CharsContents}
use Rattle.devfs.specs.DeviceTable.{DeviceEntry, shown}
use Rattle.devfs.specs.declared.slots.Slot.{Slot}

-- what a contract sees of a slot, of whose device these functions tell
abbrev pub entry_of : {C : Type 0} → (C → Option CharsContents) → (C → ℕ) → Slot C → DeviceEntry
entry_of contents faults slot = record { name = slot.name; device = option_map (shown contents faults) slot.device }

-- what a contract sees of the slots
abbrev pub entries_of : {C : Type 0} → (C → Option CharsContents) → (C → ℕ) → List (Slot C) → List DeviceEntry
entries_of contents faults slots = map (entry_of contents faults) slots

-- the device at the end, where it is home
abbrev pub last_device : {C : Type 0} → List (Slot C) → Option C
last_device slots = option_and_then (λ slot. slot.device) (slice_get slots (length slots - 1))

-- the slots with this device, or none, at the place, if there is such a place
abbrev pub with_device : {C : Type 0} → List (Slot C) → ℕ → Option C → List (Slot C)
with_device slots place device =
    slice_set slots place (record { name = (slice_index_or slots place (record { name = []; device = None })).name; device = device })
