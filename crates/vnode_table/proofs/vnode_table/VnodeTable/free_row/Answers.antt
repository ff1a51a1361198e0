use Rattle.std.proofs.Common.{rules}
use Rattle.vnode_table.proofs.FreeFiles.{found-row}
use Rattle.vnode_table.proofs.vnode_table.VnodeTable.free_row.Goals as goal

pub returns-clause-free : goal.returns-clause-free
returns-clause-free c = found-row c.args.self.now c.args.nth c.nth_free_file.result (search rules)
