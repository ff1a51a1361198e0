use Rattle.std.proofs.Common.{refl, rules}
use Rattle.vnode_table.proofs.Recounts.{opened}
use Rattle.vnode_table.proofs.vnode_table.VnodeTable.new.Goals as goal

pub invariant_of-result : goal.invariant_of-result
invariant_of-result c = opened c.in_ok-slots.slots.items 1024 refl (search rules)
