use Rattle.page_cache.proofs.page_set.PageSet.cut.Given as goal
use Rattle.page_cache.proofs.StoredSets.{AreCut}

abbrev pub invariant-loop-place : goal.invariant-loop-place
invariant-loop-place l = AreCut l.fn.self.words l.self.words l.keep l.place
