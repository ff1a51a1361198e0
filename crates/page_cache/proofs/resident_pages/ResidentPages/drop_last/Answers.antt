use Rattle.std.proofs.Common.{List, ◌-◌, ◌∙◌, ap, length, subst, sym, take}
use Rattle.page_cache.specs.Layout.{AreHeld, cached_pages}
use Rattle.vfs_model.specs.PageList.{CachedPage}
use Rattle.page_cache.proofs.Held.{count, front-pages, held-front}
use Rattle.page_cache.proofs.resident_pages.ResidentPages.drop_last.Goals as goal

pub invariant_of-self : goal.invariant_of-self
invariant_of-self c = subst AreHeld (sym c.pop_lru.ensures.entries) (held-front c.self.inside.pages _ c.self.invariant)

pub returns : goal.returns
returns c =
    let entries = c.self.inside.pages.entries in
    ap (λ pages. cached_pages pages.entries) c.pop_lru.ensures.entries ∙ front-pages (length entries - 1) entries
    ∙ ap (λ n. take (n - 1) (cached_pages entries)) (sym (count entries)) ∙ ap (λ (pages : List CachedPage). take (length pages - 1) pages) c.self.view_is
