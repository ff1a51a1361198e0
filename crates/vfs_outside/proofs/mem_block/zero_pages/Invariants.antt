use Rattle.std.proofs.Common.{◌≡◌, ◌≤◌, replicate}
use Rattle.vfs_outside.specs.MemBlock.{zero_page}
use Rattle.vfs_outside.proofs.mem_block.zero_pages.Given as goal

abbrev pub invariant-loop : goal.invariant-loop
invariant-loop l = record {
  within : l.counter ≤ l.count;
  pages : l.pages.items ≡ replicate l.counter zero_page;
}
