use Rattle.std.proofs.Common.{refl}
use Rattle.cell_file.specs.CellFile.{seen}
use Rattle.cell_file.proofs.Empty.{empty-file}
use Rattle.cell_file.proofs.cell_file.CellFile.empty.Goals as goal

pub invariant_of-result : goal.invariant_of-result
invariant_of-result g c =
    let P = g.B.Block.pages in let C = g.B.Block.contents in let N = g.B.Block.counts in
    empty-file (seen P C N c.args.space c.args.device 0) refl c.requires.device c.requires.few c.requires.fresh.0 c.requires.fresh.1 c.pages-pages.ensures.whole
