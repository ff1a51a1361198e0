use Rattle.std.proofs.Common.{refl}
use Rattle.vfs_outside.specs.MemBlock.{zero_page}
use Rattle.vfs_outside.proofs.mem_block.zero_page.Goals as goal

pub returns : goal.returns
unfolding zero_page
returns c = refl
