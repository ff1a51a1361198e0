use Rattle.std.proofs.Common.{arith, List, take_all, ◌∷◌, ◌-◌, ◌≤◌, ◌∙◌, ap, length, subst, sym}
use Rattle.page_cache.specs.Layout.{AreHeld, cached_pages}
use Rattle.page_cache.specs.Resident.{clean_page, holds_page}
use Rattle.vfs_model.specs.PageList.{CachedPage}
use Rattle.page_cache.proofs.Held.{count, held-put, put-new}
use Rattle.page_cache.proofs.resident_pages.ResidentPages.add.Goals as goal

pub invariant_of-self-2 : goal.invariant_of-self-2
invariant_of-self-2 c =
    let absent = ap (λ (pages : List CachedPage). holds_page pages c.args.page) c.self.view_is ∙ c.requires.absent in
    subst AreHeld (sym (c.in_ok-pushed.ensures {u = tt}).entries) (held-put c.self.inside.pages c.args.page _ absent c.requires.whole c.self.invariant)

pub returns-clause-ok : goal.returns-clause-ok
returns-clause-ok c =
    let absent = ap (λ (pages : List CachedPage). holds_page pages c.args.page) c.self.view_is ∙ c.requires.absent in
    let entries = c.self.inside.pages.entries in
    let few : length entries ≤ c.self.inside.pages.cap - 1 =
    (let cap = c.self.invariant.room in let room = c.requires.room in let same = count entries in let seen = ap (λ (pages : List CachedPage). length pages) c.self.view_is in omega (arith, cap, room, same, seen)) in
    ap (λ pages. cached_pages pages.entries) (c.in_ok-pushed.ensures {u = tt}).entries
    ∙ ap cached_pages (put-new c.self.inside.pages c.args.page _ absent)
    ∙ ap (λ rest. clean_page c.args.page c.args.bytes.items ∷ cached_pages rest) (take_all (c.self.inside.pages.cap - 1) entries few)
    ∙ ap (λ (pages : List CachedPage). clean_page c.args.page c.args.bytes.items ∷ pages) c.self.view_is
