use Rattle.std.proofs.Common.{◌≡◌, ℕ, ◌<◌, ◌/◌, Bool, length, slice_index_or, ap, ◌∙◌, arith}
use Rattle.std.proofs.lemmas.List.{get_or_read}
use Rattle.vnode_table.specs.SlotTable.{SlotTable, is_free, opening_slot}
use Rattle.vnode_table.specs.declared.vnode_slot.VnodeSlot.{VnodeSlot}
use Rattle.vnode_table.proofs.Recounts.{block-counts, block-room, counted-set}
use Rattle.vnode_table.proofs.SoundSlots.{sound-set}
use Rattle.vnode_table.proofs.vnode_table.VnodeTable.replace.Goals as goal

pub recount-requires-clause-room : goal.recount-requires-clause-room
recount-requires-clause-room c =
    block-room c.self.inside.slots.items c.self.inside.blocks c.self.inside.total _ c.self.invariant.1

-- the slot that is replaced
old-free : (slots : SlotTable) (place : ℕ) (slot : VnodeSlot) (was : Bool) → length slots ≡ 1024 → place < 1024 → was ≡ is_free slot →
    slot ≡ slice_index_or slots place slot → was ≡ is_free (slice_index_or slots place opening_slot)
old-free slots place slot was size below is at = is ∙ ap is_free (get_or_read slots place slot (omega arith) at opening_slot)

pub recount-requires-clause-counted : goal.recount-requires-clause-counted
recount-requires-clause-counted c =
    let slots = c.self.inside.slots.items in
    let place = c.place-place.result in
    let size = c.self.invariant.1.size in
    let was = old-free slots place c.index.result.now c.is_free-was.result size c.place-place.ensures.below c.is_free-was.ensures c.index.ensures in
    rw (was, c.self.invariant.1.each (place / 64)) (block-counts slots place (omega (arith, size, c.place-place.ensures.below)))

pub invariant_of-self : goal.invariant_of-self
invariant_of-self c =
    let slots = c.self.inside.slots.items in
    let place = c.place-place.result in
    let size = c.self.invariant.1.size in
    let was = old-free slots place c.index.result.now c.is_free-was.result size c.place-place.ensures.below c.is_free-was.ensures c.index.ensures in
    rw (c.recount.ensures, c.recount-self-inside.ensures, c.is_free-is.ensures, was) (
      sound-set slots place c.args.slot c.self.invariant.0 c.requires,
      counted-set slots c.self.inside.blocks c.self.inside.total place c.args.slot c.self.invariant.1 (omega (arith, size, c.place-place.ensures.below)),
    )
