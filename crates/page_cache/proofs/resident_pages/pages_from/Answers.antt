use Rattle.std.proofs.Common.{ℕ, List, ◌<◌, ◌∙◌, ap, fold, filter, nat_le, subst, sym}
use Rattle.std.proofs.lemmas.Map.Iter.{rest_all, rest_more}
use Rattle.std.specs.BTreeSet.{insert_key}
use Rattle.std.specs.List.{AllByRecursion}
use Rattle.std.specs.Map.Iter.{deref_pair}
use Rattle.std.specs.Ordering.{nat_cmp}
use Rattle.vfs_base.specs.declared.limits.TheConstants.{CELL_PAGES_MAX}
use Rattle.page_cache.specs.StoredSet.{pages_in}
use Rattle.page_cache.specs.declared.resident_pages.Page.{Page}
use Rattle.page_cache.proofs.resident_pages.pages_from.Goals as goal

pub insert-requires : goal.insert-requires
insert-requires c =
    let more = rest_more deref_pair c.loop-page.page-iterator c.next.new.self c.next.result (c.in-Some.page, c.in-Some._held) c.in-Some.is c.next.ensures.steps in
    (subst (AllByRecursion (λ (e : ℕ × Page). e.0 < CELL_PAGES_MAX)) more c.loop-page.invariant.within).0

pub returns : goal.returns
returns c =
    let done = rest_all deref_pair c.loop-page.page-iterator c.next.new.self c.next.result c.in-None.is c.next.ensures.steps in
    sym (ap (λ (rest : List (ℕ × Page)). fold (λ pages e. insert_key nat_cmp pages e.0) (pages_in c.loop-page.above.words) (filter (λ e. nat_le c.args.keep e.0) rest)) done)
    ∙ c.loop-page.invariant.all
