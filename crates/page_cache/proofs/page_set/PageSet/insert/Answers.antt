use Rattle.std.proofs.Common.{rules}
use Rattle.page_cache.proofs.page_set.PageSet.insert.Goals as goal
use Rattle.page_cache.proofs.StoredSets.{inserted-page}

pub returns : goal.returns
returns c = inserted-page c.args.self.now.words c.args.page c.from.result c.from.ensures (search rules) c.requires
