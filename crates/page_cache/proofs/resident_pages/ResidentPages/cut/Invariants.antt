use Rattle.std.proofs.Common.{◌≡◌, ◌≤◌, filter, length, nat_lt}
use Rattle.std.specs.List.{AllByRecursion}
use Rattle.page_cache.proofs.Held.{AreToGo}
use Rattle.page_cache.proofs.resident_pages.ResidentPages.cut.Given as goal
use Rattle.page_cache.specs.Layout.{AreHeld, cached_pages}
use Rattle.page_cache.specs.StoredSet.{pages_in}

abbrev pub decreases-loop-page : goal.decreases-loop-page
decreases-loop-page l = length (pages_in l.pages.words)

-- the pages below the first one to go stay as they are, and those from it on are still to go
abbrev pub invariant-loop-page : goal.invariant-loop-page
invariant-loop-page l = record {
  held : AreHeld l.self-inside.pages;
  below : filter (λ c. nat_lt c.page l.keep) (cached_pages l.self-inside.pages.entries) ≡ filter (λ c. nat_lt c.page l.keep) l.fn.self;
  above : AllByRecursion (λ page. l.keep ≤ page) (pages_in l.pages.words);
  to_go : AreToGo l.keep (pages_in l.pages.words) l.self-inside.pages.entries;
}
