-- Slots and paths of rows, of which one changes.
use Rattle.std.proofs.Common.{◌≡◌, ◌≢◌, ℕ, ◌-◌, ◌<◌, Option, None, List, length, ◌⊎◌, inl, inr, sym, ap, ◌∙◌, slice_index_or}
use Rattle.std.proofs.lemmas.Bool.Decides.{eqb_tells}
use Rattle.std.proofs.lemmas.List.{get_or-set_other, get_or-set_same}
use Rattle.vfs_base.specs.Path.{Path}
use Rattle.vnode_table.specs.SlotTable.{SlotTable, opening_slot, slot_at, with_slot}
use Rattle.vnode_table.specs.declared.vnode_slot.VnodeSlot.{VnodeSlot}
use Rattle.holders.specs.Holding.{path_at, with_path}

pub same-or-other : (a b : ℕ) → (a ≡ b) ⊎ (a ≢ b)
same-or-other a b = elim (eqb_tells a b) [ inl h ↦ inl h.1 | inr h ↦ inr h.1 ]

pub own-slot : (rows : SlotTable) (row at : ℕ) (change : VnodeSlot → VnodeSlot) → row - 1 < length rows → at - 1 ≡ row - 1 → slot_at (with_slot rows row change) at ≡ change (slot_at rows row)
own-slot rows row at change l e =
    ap (λ k. slice_index_or (with_slot rows row change) k opening_slot) e ∙ get_or-set_same rows (row - 1) (change (slot_at rows row)) opening_slot l

pub other-slot : (rows : SlotTable) (row at : ℕ) (change : VnodeSlot → VnodeSlot) → at - 1 ≢ row - 1 → slot_at (with_slot rows row change) at ≡ slot_at rows at
other-slot rows row at change other = get_or-set_other rows (row - 1) (at - 1) (change (slot_at rows row)) opening_slot other

-- a fact of each slot, where one changes
pub at-slot : {X : Type 0} (g : VnodeSlot → X) (rows : SlotTable) (row at : ℕ) (change : VnodeSlot → VnodeSlot) → row - 1 < length rows → ((s : VnodeSlot) → g (change s) ≡ g s) →
    g (slot_at (with_slot rows row change) at) ≡ g (slot_at rows at)
at-slot g rows row at change l same = elim (same-or-other (at - 1) (row - 1)) [
  | inl e ↦ ap g (own-slot rows row at change l e) ∙ same (slot_at rows row) ∙ ap (λ k. g (slice_index_or rows k opening_slot)) (sym e)
  | inr other ↦ ap g (other-slot rows row at change other)
]

pub own-path : (paths : List (Option Path)) (row at : ℕ) (path : Option Path) → row - 1 < length paths → at - 1 ≡ row - 1 → path_at (with_path paths row path) at ≡ path
own-path paths row at path l e =
    ap (λ k. slice_index_or (with_path paths row path) k None) e ∙ get_or-set_same paths (row - 1) path None l

pub other-path : (paths : List (Option Path)) (row at : ℕ) (path : Option Path) → at - 1 ≢ row - 1 → path_at (with_path paths row path) at ≡ path_at paths at
other-path paths row at path other = get_or-set_other paths (row - 1) (at - 1) path None other
