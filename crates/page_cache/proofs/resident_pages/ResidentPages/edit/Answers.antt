use Rattle.std.proofs.Common.{arith, List, ◌∙◌, ap, length, map, refl, subst, sym}
use Rattle.std.specs.Option.{option_copied_mut}
use Rattle.vfs_model.specs.PageList.{CachedPage}
use Rattle.page_cache.specs.Layout.{AreHeld, cached_pages}
use Rattle.page_cache.specs.Resident.{edited, spliced}
use Rattle.page_cache.specs.declared.resident_pages.ResidentPages.TheInside.{Inside}
use Rattle.page_cache.proofs.Held.{edited-one, edited-other, held-set, spliced-length, stays-mapped, whole-value}
use Rattle.page_cache.proofs.resident_pages.ResidentPages.edit.Goals as goal
use Rattle.page_cache.proofs.resident_pages.ResidentPages.edit.Goals.{in-Some, in_default}

pub splice-requires : goal.splice-requires
splice-requires c =
    let some = sym c.peek_mut.ensures.value ∙ ap option_copied_mut c.in-Some.is in
    let whole = whole-value c.args.page c.self.inside.pages.entries c.in-Some.held.now c.self.invariant.whole some in
    omega (arith, whole, c.from.ensures, c.requires.fits)

pub invariant_of-self : goal.invariant_of-self
invariant_of-self c = elim c.match-peek_mut.branch [
  | in-Some w ↦
      let some = sym c.peek_mut.ensures.value ∙ ap option_copied_mut w.in-Some.is in
      let whole = whole-value c.args.page c.self.inside.pages.entries w.in-Some.held.now c.self.invariant.whole some in
      subst (λ (i : Inside). AreHeld i.pages) (sym w.self-inside-is) (held-set c.self.inside.pages c.args.page _
      (ap length w.splice.ensures ∙ spliced-length w.from.result c.args.piece.now w.in-Some.held.now.bytes.items (omega (arith, whole, w.from.ensures, c.requires.fits)) ∙ whole) c.self.invariant)
  | in_default w ↦ subst (λ (i : Inside). AreHeld i.pages) (sym w.self-inside-is) c.self.invariant
]

pub returns : goal.returns
returns c = elim c.match-peek_mut.branch [
  | in-Some w ↦
      let some = sym c.peek_mut.ensures.value ∙ ap option_copied_mut w.in-Some.is in
      ap (λ (i : Inside). cached_pages i.pages.entries) w.self-inside-is
      ∙ edited-one c.args.page c.args.at c.args.piece.now w.in-Some.held.now _ c.self.inside.pages.entries c.self.invariant.once some
      (refl, w.splice.ensures ∙ ap (λ at. spliced at c.args.piece.now w.in-Some.held.now.bytes.items) w.from.ensures)
      ∙ ap (λ (pages : List CachedPage). map (edited c.args.page c.args.at c.args.piece.now) pages) c.self.view_is
  | in_default w ↦
      let none = sym c.peek_mut.ensures.value ∙ ap option_copied_mut w.in_default.is in
      ap (λ (i : Inside). cached_pages i.pages.entries) w.self-inside-is
      ∙ stays-mapped c.args.page (edited c.args.page c.args.at c.args.piece.now) c.self.inside.pages.entries none (edited-other c.args.page c.args.at c.args.piece.now)
      ∙ ap (λ (pages : List CachedPage). map (edited c.args.page c.args.at c.args.piece.now) pages) c.self.view_is
]
