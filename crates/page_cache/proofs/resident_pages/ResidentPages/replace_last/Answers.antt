use Rattle.std.proofs.Common.{ℕ, Result, List, ◌∷◌, ◌≡◌, ◌∙◌, ◌-◌, ap, arith, false, length, subst, sym, take, OnOk}
use Rattle.vfs_base.specs.declared.limits.TheConstants.{RESIDENT_PAGES}
use Rattle.vfs_base.specs.declared.no_memory.NoMemory.{NoMemory}
use Rattle.vfs_model.specs.PageList.{CachedPage}
use Rattle.page_cache.specs.Layout.{AreHeld, cached_pages}
use Rattle.page_cache.specs.Resident.{clean_page}
use Rattle.page_cache.specs.declared.resident_pages.Page.{Page}
use Rattle.page_cache.proofs.Held.{absent-in, count, front-pages, held-put, left-last, left-whole, put-new}
use Rattle.page_cache.proofs.resident_pages.ResidentPages.replace_last.Goals as goal
use Rattle.page_cache.proofs.resident_pages.ResidentPages.replace_last.Goals.{in-Ok-Some, in-Err}

pub unreachable-requires : goal.unreachable-requires
unreachable-requires c =
    let full : length c.self.inside.pages.entries ≡ RESIDENT_PAGES = sym (count c.self.inside.pages.entries) ∙ ap (λ (pages : List CachedPage). length pages) c.self.view_is ∙ c.requires.full in
    left-last c.self.inside.pages c.args.page (record { is_dirty = false; bytes = c.replace-bytes.result }) (absent-in _ _ c.args.page c.self.view_is c.requires.absent) full c.self.invariant (sym (c.in-Ok-None.ensures {u = tt}).old ∙ c.in-Ok-None.field-0-is)

pub invariant_of-self : goal.invariant_of-self
invariant_of-self c =
    elim c.match-push.branch [
      | in-Ok-Some w ↦ subst AreHeld (sym (w.in-Ok-Some.ensures {u = tt}).entries)
          (held-put c.self.inside.pages c.args.page _ (absent-in _ _ c.args.page c.self.view_is c.requires.absent) (ap (λ v. length v.items) c.replace-bytes.ensures.value ∙ c.requires.whole) c.self.invariant)
      | in-Err w ↦ subst AreHeld (sym (w.in-Err.ensures {u = tt}).err) c.self.invariant
    ]

pub returns-clause-ok : goal.returns-clause-ok
returns-clause-ok c =
    let entries = c.self.inside.pages.entries in
    let full : length entries ≡ RESIDENT_PAGES = sym (count entries) ∙ ap (λ (pages : List CachedPage). length pages) c.self.view_is ∙ c.requires.full in
    let last : c.self.inside.pages.cap - 1 ≡ length c.args.self.now - 1 = (let cap = c.self.invariant.room in let seen = c.requires.full in omega (arith, cap, seen)) in
    elim c.match-push.branch [
      | in-Ok-Some w ↦ subst (λ (r : Result (Unit {0}) NoMemory). OnOk r (cached_pages c.push.new.self.entries ≡ clean_page c.args.page c.args.frame.now.items ∷ take (length c.args.self.now - 1) c.args.self.now)) (sym w.result-is)
          (ap (λ pages. cached_pages pages.entries) (w.in-Ok-Some.ensures {u = tt}).entries
          ∙ ap cached_pages (put-new c.self.inside.pages c.args.page (record { is_dirty = false; bytes = c.replace-bytes.result }) (absent-in _ _ c.args.page c.self.view_is c.requires.absent))
          ∙ ap (λ (items : List ℕ). clean_page c.args.page items ∷ cached_pages (take (c.self.inside.pages.cap - 1) entries)) (ap (λ v. v.items) c.replace-bytes.ensures.value)
          ∙ ap (λ pages. clean_page c.args.page c.args.frame.now.items ∷ pages) (front-pages (c.self.inside.pages.cap - 1) entries)
          ∙ ap (λ n. clean_page c.args.page c.args.frame.now.items ∷ take n (cached_pages entries)) last
          ∙ ap (λ (pages : List CachedPage). clean_page c.args.page c.args.frame.now.items ∷ take (length c.args.self.now - 1) pages) c.self.view_is)
      | in-Err w ↦ subst (λ (r : Result (Unit {0}) NoMemory). OnOk r (cached_pages c.push.new.self.entries ≡ clean_page c.args.page c.args.frame.now.items ∷ take (length c.args.self.now - 1) c.args.self.now)) (sym w.result-is) tt
    ]

pub returns-clause-frame : goal.returns-clause-frame
returns-clause-frame c =
    elim c.match-push.branch [
      | in-Ok-Some w ↦ ap (λ v. length v.items) w.frame-is
          ∙ left-whole c.self.inside.pages c.args.page (record { is_dirty = false; bytes = c.replace-bytes.result }) (w.in-Ok-Some.field-0-0-0, w.in-Ok-Some.left) (absent-in _ _ c.args.page c.self.view_is c.requires.absent) c.self.invariant
          (sym (w.in-Ok-Some.ensures {u = tt}).old ∙ w.in-Ok-Some.field-0-is)
      | in-Err w ↦ ap (λ v. length v.items) w.frame-is ∙ ap (λ (pushed : ℕ × Page). length pushed.1.bytes.items) (w.in-Err.ensures {u = tt}).value_returned
          ∙ ap (λ v. length v.items) c.replace-bytes.ensures.value ∙ c.requires.whole
    ]
