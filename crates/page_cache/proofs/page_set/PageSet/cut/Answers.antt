use Rattle.std.proofs.Common.{◌≡◌, arith, subst}
use Rattle.page_cache.proofs.page_set.PageSet.cut.Goals as goal
use Rattle.page_cache.proofs.StoredSets.{AreCut, cut-pages}

pub returns : goal.returns
returns c =
    let last : c.loop-place.place ≡ 16 = omega arith in
    cut-pages c.args.self.now.words c.loop-place.self.words c.args.keep
    (subst (AreCut c.args.self.now.words c.loop-place.self.words c.args.keep) last c.loop-place.invariant)
