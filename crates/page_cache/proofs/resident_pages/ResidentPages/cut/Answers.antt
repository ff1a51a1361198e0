use Rattle.std.proofs.Common.{ℕ, List, ◌<◌, ◌≤◌, ◌∙◌, ap, arith, filter, length, nat_lt, subst, sym}
use Rattle.std.specs.List.{AllByRecursion}
use Rattle.vfs_base.specs.declared.limits.TheConstants.{CELL_PAGES_MAX}
use Rattle.vfs_model.specs.PageList.{CachedPage}
use Rattle.page_cache.specs.Layout.{AreHeld, cached_pages}
use Rattle.page_cache.specs.StoredSet.{pages_in}
use Rattle.page_cache.proofs.Held.{AreToGo, all-below, below-stays, gone, held-removed, keys-within}
use Rattle.page_cache.proofs.ToGo.{all-above, all-to-go}
use Rattle.page_cache.proofs.resident_pages.ResidentPages.cut.Goals as goal

pub pages_from-pages-requires : goal.pages_from-pages-requires
pages_from-pages-requires c = record {
  within = keys-within (λ page. page < CELL_PAGES_MAX) c.self.inside.pages.entries
      (subst (AllByRecursion (λ (cached : CachedPage). cached.page < CELL_PAGES_MAX)) (sym c.self.view_is) c.requires.within);
}

pub loop-page-init : goal.loop-page-init
loop-page-init c = record {
  held = c.self.invariant;
  below = ap (λ (pages : List CachedPage). filter (λ c'. nat_lt c'.page c.args.keep) pages) c.self.view_is;
  above = subst (AllByRecursion (λ page. c.args.keep ≤ page)) (sym c.pages_from-pages.ensures) (all-above c.args.keep c.self.inside.pages.entries);
  to_go = subst (λ (pages : List ℕ). AreToGo c.args.keep pages c.self.inside.pages.entries) (sym c.pages_from-pages.ensures) (all-to-go c.args.keep c.self.inside.pages.entries);
}

pub loop-page-preserved : goal.loop-page-preserved
loop-page-preserved c =
    let first = (c.in-Some.ensures {u = tt}).first in
    let above = subst (AllByRecursion (λ page. c.args.keep ≤ page)) first c.loop-page.invariant.above in
    let entries = c.loop-page.self-inside.pages.entries in
    let left = c.pop.ensures.entries in
    record {
      held = subst AreHeld (sym left) (held-removed c.loop-page.self-inside.pages c.in-Some.page c.loop-page.invariant.held);
      below = ap (λ pages. filter (λ c'. nat_lt c'.page c.args.keep) (cached_pages pages.entries)) left
          ∙ below-stays c.args.keep c.in-Some.page entries above.0 ∙ c.loop-page.invariant.below;
      above = above.1;
      to_go = subst (λ pages. AreToGo c.args.keep (pages_in c.pop_first.new.self.words) pages.entries) (sym left)
          (gone c.args.keep c.in-Some.page (pages_in c.pop_first.new.self.words) entries c.loop-page.invariant.held.once
          (subst (λ (pages : List ℕ). AreToGo c.args.keep pages entries) first c.loop-page.invariant.to_go));
    }

pub loop-page-smaller : goal.loop-page-smaller
loop-page-smaller c =
    let first = ap (λ (pages : List ℕ). length pages) (c.in-Some.ensures {u = tt}).first in
    omega (arith, first)

pub invariant_of-self : goal.invariant_of-self
invariant_of-self c = c.loop-page.invariant.held

pub returns : goal.returns
returns c =
    let entries = c.loop-page.self-inside.pages.entries in
    let none = (c.in_default.ensures {u = tt}).none in
    sym (all-below c.args.keep entries (subst (λ (pages : List ℕ). AreToGo c.args.keep pages entries) none c.loop-page.invariant.to_go)) ∙ c.loop-page.invariant.below
