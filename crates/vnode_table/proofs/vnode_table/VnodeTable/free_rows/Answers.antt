use Rattle.std.proofs.Common.{sym, ◌∙◌}
use Rattle.vnode_table.proofs.FreeFiles.{length-free_files}
use Rattle.vnode_table.proofs.vnode_table.VnodeTable.free_rows.Goals as goal

pub returns : goal.returns
returns c = rw (← c.self.view_is) (c.self.invariant.1.all ∙ sym (length-free_files 1 c.self.inside.slots.items))
