use Rattle.vfs_outside.proofs.MemBlockLemmas.{whole_zeros}
use Rattle.vfs_outside.proofs.mem_block.MemBlock.new.Goals as goal

pub invariant_of-result : goal.invariant_of-result
invariant_of-result c = rw c.in_ok-zero_pages.ensures (whole_zeros c.args.pages c.ranges.pages.fits)
