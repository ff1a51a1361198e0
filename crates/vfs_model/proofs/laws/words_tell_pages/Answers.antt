use Rattle.vfs_model.proofs.PageSets.{words-tell-pages}
use Rattle.vfs_model.proofs.laws.words_tell_pages.Goals as goal

pub returns : goal.returns
returns c = words-tell-pages
