use Rattle.std.proofs.Common.{◌≡◌, ◌<◌, sym, subst, true}
use Rattle.vnode_table.specs.SlotTable.{is_unused, slot_at}
use Rattle.holders.proofs.Rows.{counted-free}
use Rattle.holders.proofs.holders.Holders.free.Goals as goal

pub invariant_of-self : goal.invariant_of-self
invariant_of-self c =
    rw c.unbind.ensures
    (counted-free c.self.invariant c.args.row (subst (λ h. is_unused (slot_at h.rows c.args.row) ≡ true) (sym c.self.view_is) c.requires)
    (subst (λ n. n < 1024) c.place.ensures.value c.place.ensures.below))
