use Rattle.std.proofs.Common.{◌≡◌, ℕ, ◌<◌, slice_index_or}
use Rattle.page_cache.proofs.page_set.PageSet.pop_first.Given as goal

abbrev pub invariant-loop-place : goal.invariant-loop-place
invariant-loop-place l = (l.self.words ≡ l.fn.self.words) × ((i : ℕ) → i < l.place → slice_index_or l.self.words i 0 ≡ 0)
