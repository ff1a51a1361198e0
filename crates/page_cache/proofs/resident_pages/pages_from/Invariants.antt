use Rattle.std.proofs.Common.{◌≡◌, ◌<◌, filter, fold, nat_le}
use Rattle.std.specs.BTreeSet.{insert_key}
use Rattle.std.specs.List.{AllByRecursion}
use Rattle.std.specs.Ordering.{nat_cmp}
use Rattle.vfs_base.specs.declared.limits.TheConstants.{CELL_PAGES_MAX}
use Rattle.page_cache.proofs.resident_pages.pages_from.Given as goal
use Rattle.page_cache.specs.Layout.{numbers_of}
use Rattle.page_cache.specs.StoredSet.{pages_in}

-- the pages so far and those that are left are all
abbrev pub invariant-loop-page : goal.invariant-loop-page
invariant-loop-page l = record {
  within : AllByRecursion (λ e. e.0 < CELL_PAGES_MAX) l.page-iterator;
  all : fold (λ pages e. insert_key nat_cmp pages e.0) (pages_in l.above.words) (filter (λ e. nat_le l.keep e.0) l.page-iterator) ≡ numbers_of (filter (λ e. nat_le l.keep e.0) l.pages.entries);
}
