-- Files of a new mount that are still to come have other cells and devices than the one that comes now.
use Rattle.std.proofs.Common.{◌≡◌, ◌≢◌, ℕ, ◌+◌, ◌<◌, false, T, Some, None, [], ◌∷◌, length, slice_index_or, sym, ap, subst, ◌∙◌, arith}
use Rattle.std.proofs.lemmas.List.Sums.{sum_by-cons}
use Rattle.std.specs.FinMap.Entries.{below_all, is_sorted}
use Rattle.std.specs.Ordering.{is_lt}
use Rattle.vfs_base.specs.Path.{Path, path_cmp}
use Rattle.vfs_model.specs.Boxes.{lies_on_cell, one_if}
use Rattle.vfs_model.specs.Content.{Content}
use Rattle.vfs_model.specs.MountStep.{origin_backing}
use Rattle.vfs_model.specs.Namespace.{Tree}
use Rattle.vfs_model.specs.declared.namespace.Mount.{Mount}
use Rattle.vfs_model.specs.declared.namespace.Namespace.{Namespace}
use Rattle.vfs_model.specs.declared.namespace.Origin.{Origin}
use Rattle.vfs_model.specs.declared.namespace.Origin.TheVariants as origin
use Rattle.vfs_model.specs.declared.world.Homes.{Homes}
use Rattle.world_laws.proofs.lists.Lists.{t-first, t-second}
use Rattle.world_laws.proofs.parts.AtHome.{AtHome}
use Rattle.world_laws.proofs.parts.Binding.{own-cell}
use Rattle.world_laws.proofs.parts.Emptying.{not-one}
use Rattle.world_laws.proofs.steps.BoundFiles.{AllApart, Apart}
use Rattle.world_laws.proofs.steps.Filling.{AllFit, Fill, FitsOrigin, begins_on, later-sorted, less-apart, pending}

module _ (mount : Mount) where
  -- another file has neither the cell nor the device of this one
  other-apart : (m : Namespace) (p q : Path) (begins other : Origin) (homes : Homes) → FitsOrigin mount m p begins → p ≢ q → FitsOrigin mount m q other →
      ((volume cell : ℕ) → begins ≡ origin.Cell volume cell → volume < length homes.cells → cell < length (slice_index_or homes.cells volume []) → begins_on volume cell (Some other) ≡ false) →
      Apart homes begins other
  other-apart m p q begins origin.Empty homes f apart g none = tt
  other-apart m p q begins (origin.Rom place path) homes f apart g none = tt
  other-apart m p q begins (origin.NewCell volume cell) homes f apart g none = tt
  other-apart m p q begins (origin.Cell volume cell) homes f apart g none = λ l k e.
      let yes = own-cell volume cell in
      let no = none volume cell e l k in
      absurd (cc)
  other-apart m p q begins (origin.Device device) homes f apart g none = λ e.
      let own = subst (FitsOrigin mount m p) e f in
      apart (own.3 ∙ sym g.3)

  all-apart : (m : Namespace) (p : Path) (begins : Origin) (homes : Homes) (left : Content) → FitsOrigin mount m p begins → T (below_all path_cmp p left) → AllFit mount m left →
      ((volume cell : ℕ) → begins ≡ origin.Cell volume cell → volume < length homes.cells → cell < length (slice_index_or homes.cells volume []) → pending left volume cell ≡ 0) →
      AllApart homes begins left
  all-apart m p begins homes [] f below fit none = tt
  all-apart m p begins homes ((q, None) ∷ left) f below fit none =
      all-apart m p begins homes left f (t-second (is_lt (path_cmp p q)) _ below) fit.1 (λ volume cell e l k.
      let one : pending ((q, None) ∷ left) volume cell ≡ 0 + pending left volume cell = sum_by-cons (λ entry. one_if (begins_on volume cell entry.1)) (q, None) left in
      let all = none volume cell e l k in
      omega (arith, one, all))
  all-apart m p begins homes ((q, Some other) ∷ left) f below fit none =
      let counted : (volume cell : ℕ) → pending ((q, Some other) ∷ left) volume cell ≡ one_if (begins_on volume cell (Some other)) + pending left volume cell =
      λ volume cell. sum_by-cons (λ entry. one_if (begins_on volume cell entry.1)) (q, Some other) left in (
        other-apart m p q begins other homes f (less-apart mount p q (t-first _ (below_all path_cmp p left) below)) fit.0 (λ volume cell e l k.
            let one = counted volume cell in
            let all = none volume cell e l k in
            not-one (begins_on volume cell (Some other)) (omega (arith, one, all))),
        all-apart m p begins homes left f (t-second (is_lt (path_cmp p q)) _ below) fit.1 (λ volume cell e l k.
            let one = counted volume cell in
            let all = none volume cell e l k in
            omega (arith, one, all)),
      )

  -- no file that is still to come begins with the cell or the device of the one that comes now
  pub fill-apart : (base m : Namespace) (tree : Tree) (behind left : Content) (p : Path) (begins : Origin) → Fill mount base m tree behind ((p, Some begins) ∷ left) →
      (homes : Homes) → AtHome homes m → AllApart homes begins left
  fill-apart base m tree behind left p begins f = λ homes a.
      all-apart m p begins homes left f.fit.0 (t-first _ (is_sorted path_cmp left) (later-sorted mount behind ((p, Some begins) ∷ left) f.order)) f.fit.1
      (λ volume cell e l k.
      let before = f.cells volume cell (subst (λ x. volume < x) a.volumes l) (subst (λ x. cell < x) (a.cells volume) k) in
      let one : pending ((p, Some begins) ∷ left) volume cell ≡ one_if (lies_on_cell volume cell (origin_backing begins)) + pending left volume cell =
      sum_by-cons (λ entry. one_if (begins_on volume cell entry.1)) (p, Some begins) left in
      let own : one_if (lies_on_cell volume cell (origin_backing begins)) ≡ 1 = ap (λ o. one_if (lies_on_cell volume cell (origin_backing o))) e ∙ ap one_if (own-cell volume cell) in
      omega (arith, before, one, own))
