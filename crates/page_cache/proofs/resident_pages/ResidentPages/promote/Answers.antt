use Rattle.std.proofs.Common.{List, ◌∙◌, ap, subst, sym}
use Rattle.page_cache.specs.Layout.{AreHeld, cached_pages}
use Rattle.page_cache.specs.Resident.{holds_page, with_front}
use Rattle.vfs_model.specs.PageList.{CachedPage}
use Rattle.page_cache.proofs.Held.{fronted, held, held-fronted, stayed}
use Rattle.page_cache.proofs.resident_pages.ResidentPages.promote.Goals as goal

pub invariant_of-self : goal.invariant_of-self
invariant_of-self c = subst AreHeld (sym c.promote.ensures.entries) (held-fronted c.self.inside.pages c.args.page c.self.invariant)

pub returns-clause-there : goal.returns-clause-there
returns-clause-there c =
    c.promote.ensures.value ∙ sym (held c.args.page c.self.inside.pages.entries) ∙ ap (λ (pages : List CachedPage). holds_page pages c.args.page) c.self.view_is

pub returns-clause-front : goal.returns-clause-front
returns-clause-front c there =
    ap (λ pages. cached_pages pages.entries) c.promote.ensures.entries
    ∙ fronted c.args.page c.self.inside.pages.entries c.self.invariant.once (sym c.promote.ensures.value ∙ there)
    ∙ ap (with_front c.args.page) c.self.view_is

pub returns-clause-absent : goal.returns-clause-absent
returns-clause-absent c absent =
    ap (λ pages. cached_pages pages.entries) c.promote.ensures.entries
    ∙ ap cached_pages (stayed c.args.page c.self.inside.pages.entries (sym c.promote.ensures.value ∙ absent)) ∙ c.self.view_is
