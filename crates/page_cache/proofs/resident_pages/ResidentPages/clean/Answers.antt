use Rattle.std.proofs.Common.{List, ◌∙◌, ap, map, subst, sym}
use Rattle.std.specs.Option.{option_copied_mut}
use Rattle.vfs_model.specs.PageList.{CachedPage}
use Rattle.page_cache.specs.Layout.{AreHeld, cached_pages}
use Rattle.page_cache.specs.Resident.{cleaned}
use Rattle.page_cache.specs.declared.resident_pages.ResidentPages.TheInside.{Inside}
use Rattle.page_cache.proofs.Held.{cleaned-other, held-set, marked, stays-mapped, whole-value}
use Rattle.page_cache.proofs.resident_pages.ResidentPages.clean.Goals as goal
use Rattle.page_cache.proofs.resident_pages.ResidentPages.clean.Goals.{in-Some, in_default}

pub invariant_of-self : goal.invariant_of-self
invariant_of-self c = elim c.match-peek_mut.branch [
  | in-Some w ↦
      let some = sym c.peek_mut.ensures.value ∙ ap option_copied_mut w.in-Some.is in
      let whole = whole-value c.args.page c.self.inside.pages.entries w.in-Some.held.now c.self.invariant.whole some in
      subst (λ (i : Inside). AreHeld i.pages) (sym w.self-inside-is) (held-set c.self.inside.pages c.args.page _ whole c.self.invariant)
  | in_default w ↦ subst (λ (i : Inside). AreHeld i.pages) (sym w.self-inside-is) c.self.invariant
]

pub returns : goal.returns
returns c = elim c.match-peek_mut.branch [
  | in-Some w ↦
      let some = sym c.peek_mut.ensures.value ∙ ap option_copied_mut w.in-Some.is in
      ap (λ (i : Inside). cached_pages i.pages.entries) w.self-inside-is
      ∙ marked c.args.page w.in-Some.held.now c.self.inside.pages.entries c.self.invariant.once some
      ∙ ap (λ (pages : List CachedPage). map (cleaned c.args.page) pages) c.self.view_is
  | in_default w ↦
      let none = sym c.peek_mut.ensures.value ∙ ap option_copied_mut w.in_default.is in
      ap (λ (i : Inside). cached_pages i.pages.entries) w.self-inside-is
      ∙ stays-mapped c.args.page (cleaned c.args.page) c.self.inside.pages.entries none (cleaned-other c.args.page)
      ∙ ap (λ (pages : List CachedPage). map (cleaned c.args.page) pages) c.self.view_is
]
