use Rattle.vfs_model.proofs.BlockLemmas.{each-block-shows}
use Rattle.vfs_model.proofs.laws.each_block_shows_its_line.Goals as goal

pub returns : goal.returns
returns c lines replies i h = each-block-shows lines replies i h
