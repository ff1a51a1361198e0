-- What a contract sees of a vnode table: its slots, by row.
use Rattle.std.specs.Prelude.{◌≡◌, ℕ, ◌+◌, ◌-◌, ◌≤◌, ◌==◌, Bool, true, false, not, ◌&&◌, nat_lt, Option, Some, None, List, length, filter_map, slice_index_or, slice_set, if◌then◌else◌}
use Rattle.std.specs.List.{enumerate_from, position_or_len}
use Rattle.vfs_base.specs.declared.ids.FileId.{FileId}
use Rattle.vfs_base.specs.declared.limits.TheConstants.{ROWS}
use Rattle.vnode_table.specs.declared.vnode_slot.VnodeSlot.{VnodeSlot}

-- the slots of all rows, in the order of rows
abbrev pub SlotTable : Type 0
SlotTable = List VnodeSlot

-- the slot of a row that has had no file
abbrev pub opening_slot : VnodeSlot
opening_slot = record { generation = 0; bound = false; linked = false; references = 0 }

-- the slot of a row
abbrev pub slot_at : SlotTable → ℕ → VnodeSlot
slot_at table row = slice_index_or table (row - 1) opening_slot

-- the table in which the slot of a row is changed, and no other one
abbrev pub with_slot : SlotTable → ℕ → (VnodeSlot → VnodeSlot) → SlotTable
with_slot table row change = slice_set table (row - 1) (change (slot_at table row))

-- the file that a row has
abbrev pub file_at : SlotTable → ℕ → Option FileId
file_at table row =
    if (slot_at table row).bound then Some (record { row = row; generation = (slot_at table row).generation }) else None

-- a slot becomes one with a file of its next generation
abbrev pub bound_slot : VnodeSlot → VnodeSlot
bound_slot slot = record slot { generation = slot.generation + 1; bound = true }

-- a slot loses its file, and keeps the generation
abbrev pub unbound_slot : VnodeSlot → VnodeSlot
unbound_slot slot = record slot { bound = false }

-- a slot's file has a name, or none
abbrev pub linked_slot : Bool → VnodeSlot → VnodeSlot
linked_slot on slot = record slot { linked = on }

-- a slot's file has one more reference
abbrev pub held_slot : VnodeSlot → VnodeSlot
held_slot slot = record slot { references = slot.references + 1 }

-- a slot's file has one reference less
abbrev pub released_slot : VnodeSlot → VnodeSlot
released_slot slot = record slot { references = slot.references - 1 }

-- neither linked nor held
abbrev pub is_unused : VnodeSlot → Bool
is_unused slot = not slot.linked && slot.references == 0

-- without a file, and with a generation left for one
abbrev pub is_free : VnodeSlot → Bool
is_free slot = not slot.bound && nat_lt slot.generation 18446744073709551615

-- the file that a row takes when it is bound
abbrev pub next_file : ℕ → VnodeSlot → FileId
next_file row slot = record { row = row; generation = slot.generation + 1 }

-- the same of a free row alone
abbrev pub file_to_bind : ℕ → VnodeSlot → Option FileId
file_to_bind row slot = if is_free slot then Some (next_file row slot) else None

-- the files that the free rows take when they are bound, by row, of the slots from a row on
abbrev pub free_files_from : ℕ → SlotTable → List FileId
free_files_from row slots = filter_map (λ entry. file_to_bind entry.0 entry.1) (enumerate_from row slots)

-- the files that the free rows take when they are bound, by row
abbrev pub free_files : SlotTable → List FileId
free_files table = free_files_from 1 table

-- the least free row, or 1025 where none is free
abbrev pub least_free_row : SlotTable → ℕ
least_free_row table = position_or_len is_free table + 1

-- what holds of each slot
pub record IsSoundSlot (slot : VnodeSlot) : Type 0 where
  -- a row without a file is neither linked nor held
  pub unbound : slot.bound ≡ false → is_unused slot ≡ true
  pub bound : slot.bound ≡ true → 1 ≤ slot.generation

-- what holds of each table
pub record IsSound (table : SlotTable) : Type 0 where
  pub size : length table ≡ ROWS
  pub slots : (row : ℕ) → IsSoundSlot (slot_at table row)

-- the file is that of a free row's next generation
pub record IsFreeRow (table : SlotTable) (file : FileId) : Type 0 where
  pub least : 1 ≤ file.row
  pub within : file.row ≤ length table
  pub free : is_free (slot_at table file.row) ≡ true
  pub unbound : (slot_at table file.row).bound ≡ false
  pub next : file ≡ next_file file.row (slot_at table file.row)
