use Rattle.std.proofs.Common.{◌∙◌, arith}
use Rattle.vnode_table.proofs.FreeFiles.{block-passed}
use Rattle.vnode_table.proofs.free_files.nth_free_file.Goals as goal

pub loop-block-preserved : goal.loop-block-preserved
loop-block-preserved c =
    block-passed c.args.slots.now c.loop-block.block c.loop-block.left c.from-count.result c.args.nth
    (omega (arith, c.requires.size, c.requires.places)) (c.from-count.ensures ∙ c.requires.each c.loop-block.block) c.if-left-count.false c.loop-block.invariant
