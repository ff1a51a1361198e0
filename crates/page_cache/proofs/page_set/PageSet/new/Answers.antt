use Rattle.std.proofs.Common.{refl}
use Rattle.page_cache.specs.StoredSet.{pages_in}
use Rattle.page_cache.proofs.page_set.PageSet.new.Goals as goal

pub returns : goal.returns
unfolding pages_in
returns c = refl
