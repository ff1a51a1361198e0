use Rattle.std.proofs.Common.{List, [], ◌<◌, ◌∙◌, ap, map, subst, sym}
use Rattle.std.specs.List.{AllByRecursion}
use Rattle.vfs_base.specs.declared.limits.TheConstants.{CELL_PAGES_MAX}
use Rattle.vfs_model.specs.Cache.{dirty_pages}
use Rattle.vfs_model.specs.PageList.{CachedPage, slot_of}
use Rattle.vfs_model.specs.declared.cache.CacheState.{CacheState}
use Rattle.page_cache.proofs.Held.{dirty-numbers, keys-within}
use Rattle.page_cache.proofs.resident_pages.ResidentPages.dirty.Goals as goal

pub dirty_pages-requires : goal.dirty_pages-requires
dirty_pages-requires c = record {
  within = keys-within (λ page. page < CELL_PAGES_MAX) c.self.inside.pages.entries
      (subst (AllByRecursion (λ (cached : CachedPage). cached.page < CELL_PAGES_MAX)) (sym c.self.view_is) c.requires.within);
}

pub returns : goal.returns
returns c =
    c.dirty_pages.ensures ∙ dirty-numbers [] c.self.inside.pages.entries
    ∙ ap (λ (pages : List CachedPage). let cache : CacheState = record { resident = map slot_of pages; stored = [] } in dirty_pages cache) c.self.view_is
