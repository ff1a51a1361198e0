-- What holds of each slot, when one slot changes.
use Rattle.std.proofs.Common.{◌≡◌, ◌≢◌, ℕ, ◌-◌, ◌==◌, ◌<◌, ◌≤◌, ◌⊎◌, inl, inr, Bool, true, false, Some, length, slice_index_or, slice_set, replicate, refl, sym, ap, subst, ◌∙◌, arith, get_or-set_same, get_or-set_other}
use Rattle.std.proofs.lemmas.Bool.{cases_lt}
use Rattle.std.proofs.lemmas.Bool.Decides.{eqb_tells}
use Rattle.std.proofs.lemmas.List.{get_or-replicate, get_or_past, length-replicate, length-set, set_past}
use Rattle.std.proofs.lemmas.Option.{cond_some}
use Rattle.vfs_base.specs.declared.ids.FileId.{FileId}
use Rattle.vnode_table.specs.SlotTable.{IsSound, IsSoundSlot, SlotTable, file_at, opening_slot, slot_at}
use Rattle.vnode_table.specs.declared.vnode_slot.VnodeSlot.{VnodeSlot}

-- a row that has a file is bound
pub is_bound : (table : SlotTable) (row : ℕ) (file : FileId) → file_at table row ≡ Some file → (slot_at table row).bound ≡ true
is_bound table row file is = (cond_some (slot_at table row).bound (record { row = row; generation = (slot_at table row).generation }) file is).0

-- a bound slot may change in what its file is used by
pub bound-sound : (slot : VnodeSlot) (linked : Bool) (references : ℕ) → slot.bound ≡ true → IsSoundSlot slot →
    IsSoundSlot (record slot { linked = linked; references = references })
bound-sound slot linked references bound sound = record {
  unbound = λ no. absurd (cc (no, bound));
  bound = sound.bound;
}

pub opening-sound : IsSoundSlot opening_slot
opening-sound = record { unbound = λ _. refl; bound = λ yes. absurd (cc yes) }

slot-set : (slots : SlotTable) (place at : ℕ) (slot : VnodeSlot) → IsSoundSlot (slice_index_or slots at opening_slot) → IsSoundSlot slot →
    IsSoundSlot (slice_index_or (slice_set slots place slot) at opening_slot)
slot-set slots place at slot old new = by (eqb_tells at place) (cases_lt place (length slots))
  where
    by : (((at == place) ≡ true) × (at ≡ place)) ⊎ (((at == place) ≡ false) × (at ≢ place)) → (place < length slots) ⊎ (length slots ≤ place) →
        IsSoundSlot (slice_index_or (slice_set slots place slot) at opening_slot)
    by (inl same) (inl within) =
        subst IsSoundSlot
        (sym (ap (λ k. slice_index_or (slice_set slots place slot) k opening_slot) same.1 ∙ get_or-set_same slots place slot opening_slot within)) new
    by (inl same) (inr past) = subst IsSoundSlot (ap (λ xs. slice_index_or xs at opening_slot) (sym (set_past slots place slot past))) old
    by (inr other) _ = subst IsSoundSlot (sym (get_or-set_other slots place at slot opening_slot other.1)) old

pub sound-set : (slots : SlotTable) (place : ℕ) (slot : VnodeSlot) → IsSound slots → IsSoundSlot slot → IsSound (slice_set slots place slot)
sound-set slots place slot sound new = record {
  size = length-set slots place slot ∙ sound.size;
  slots = λ row. slot-set slots place (row - 1) slot (sound.slots row) new;
}

opening-at : (n at : ℕ) → (at < n) ⊎ (n ≤ at) → IsSoundSlot (slice_index_or (replicate n opening_slot) at opening_slot)
opening-at n at (inl within) = subst IsSoundSlot (sym (get_or-replicate n at opening_slot opening_slot within)) opening-sound
opening-at n at (inr past) =
    let length_is = length-replicate n opening_slot in
    subst IsSoundSlot (sym (get_or_past (replicate n opening_slot) at opening_slot (omega arith))) opening-sound

pub sound-opening : (n : ℕ) → n ≡ 1024 → IsSound (replicate n opening_slot)
sound-opening n is = record {
  size = length-replicate n opening_slot ∙ is;
  slots = λ row. opening-at n (row - 1) (cases_lt (row - 1) n);
}
