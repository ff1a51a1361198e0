use Rattle.vfs_model.proofs.SmallCaches.{cache-stays-small}
use Rattle.vfs_model.proofs.laws.cache_stays_small.Goals as goal

pub returns : goal.returns
returns c number f cache asked h = cache-stays-small number f cache asked h
