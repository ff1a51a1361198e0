use Rattle.std.proofs.Common.{◌∷◌, ◌++◌, [], ap, ◌∙◌, arith}
use Rattle.std.proofs.lemmas.List.{replicate_more}
use Rattle.vfs_outside.specs.MemBlock.{zero_page}
use Rattle.vfs_outside.proofs.mem_block.zero_pages.Goals as goal

pub loop-preserved : goal.loop-preserved
loop-preserved c = record {
  within = omega arith;
  pages = rw c.in_ok-push.ensures.items (rw c.zero_page.ensures (ap (λ pages. pages ++ zero_page ∷ []) c.loop.invariant.pages ∙ replicate_more c.loop.counter zero_page));
}
