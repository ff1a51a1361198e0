-- What is counted when nothing was opened yet.
use Rattle.std.proofs.Common.{◌≡◌, ℕ, ◌-◌, ◌*◌, ◌==◌, ◌&&◌, Option, Some, None, is_some, List, [], replicate, refl, sym, ap, ◌∙◌, arith, get_or, slice_index_or, slice_set, inl, inr}
use Rattle.std.specs.Prelude.{nat_lt}
use Rattle.std.proofs.lemmas.List.{get_or-replicate, get_or-set_other, get_or_past, length-replicate}
use Rattle.std.proofs.lemmas.List.Folds.{sum_by-replicate}
use Rattle.std.proofs.lemmas.Bool.{cases_lt}
use Rattle.std.specs.List.{sum_by}
use Rattle.vfs_base.specs.Path.{Path}
use Rattle.vfs_model.specs.FileLife.{refers_to}
use Rattle.vfs_model.specs.UmountSteps.{refers_to_mount}
use Rattle.node_maps.specs.NodeMap.{NodeMap}
use Rattle.dentry_table.specs.DentryTable.{count_at, one_at}
use Rattle.vnode_table.specs.Layout.{one_if}
use Rattle.vnode_table.specs.SlotTable.{opening_slot}
use Rattle.holders.proofs.Slots.{same-or-other}
use Rattle.holders.proofs.Opens.{different-number}
use Rattle.holders.specs.Counted.{IsCounted}
use Rattle.holders.specs.Holding.{holders_at, one_covered, one_referred, opening_holding, uses_of}

-- the places of a list of one thing
replicated : {X : Type 0} (n i : ℕ) (x : X) → get_or (replicate n x) i x ≡ x
replicated n i x = elim (cases_lt i n) [
  | inl l ↦ get_or-replicate n i x x l
  | inr past ↦ get_or_past (replicate n x) i x (let size = length-replicate n x in omega (arith, past, size))
]

nothing-from : {X : Type 0} (x : X) → None ≡ Some x → ⊥
nothing-from x e = absurd (cc)

pub opening-counted : (counts : NodeMap ℕ) → ((q : Path) → count_at counts q ≡ 9 * one_at q []) → IsCounted opening_holding counts (slice_set (replicate 16 0) 0 8)
unfolding holders_at uses_of
opening-counted counts e = record {
  places = record { rows = refl; paths = refl; references = refl; folders = refl; mounts = omega arith; root = refl };
  numbers = refl;
  numbered = λ place r f. absurd (nothing-from r (sym (replicated 256 place None) ∙ f));
  live = λ place r f. absurd (nothing-from r (sym (replicated 256 place None) ∙ f));
  references = λ row some.
      ap (λ s. s.references) (replicated 1024 (row - 1) opening_slot)
      ∙ sym (sum_by-replicate (λ reference. one_if (refers_to row reference)) 256 None);
  told = λ row. ap is_some (replicated {X = Option Path} 1024 (row - 1) None) ∙ sym (ap (λ s. s.linked && nat_lt 0 s.references) (replicated 1024 (row - 1) opening_slot));
  differ = λ place other path f g. absurd (nothing-from path (sym (replicated {X = Option Path} 1024 place None) ∙ f));
  dentries = λ q.
      let told = e q in
      let references : sum_by (one_referred opening_holding.paths q) (replicate 256 None) ≡ 256 * 0 = sum_by-replicate (one_referred opening_holding.paths q) 256 None in
      let folders : sum_by (one_at q) (replicate 8 []) ≡ 8 * one_at q [] = sum_by-replicate (one_at q) 8 [] in
      omega (arith, told, references, folders);
  uses = λ number l.
      let zeros : List ℕ = replicate 16 0 in
      let references : sum_by (λ r. one_if (refers_to_mount number r)) (replicate 256 None) ≡ 256 * 0 = sum_by-replicate (λ r. one_if (refers_to_mount number r)) 256 None in
      let folders : sum_by (one_covered opening_holding.mounts number) (replicate 8 []) ≡ 8 * one_if (0 == number) = sum_by-replicate (one_covered opening_holding.mounts number) 8 [] in
      elim (same-or-other number 0) [
        | inl z ↦
            let count : slice_index_or (slice_set zeros 0 8) number 0 ≡ 8 = ap (λ i. slice_index_or (slice_set zeros 0 8) i 0) z in
            let one : one_if (0 == number) ≡ 1 = ap (λ i. one_if (0 == i)) z in
            omega (arith, references, folders, count, one)
        | inr other ↦
            let count : slice_index_or (slice_set zeros 0 8) number 0 ≡ 0 = get_or-set_other zeros 0 number 8 0 other ∙ replicated {X = ℕ} 16 number 0 in
            let none : one_if (0 == number) ≡ 0 = ap one_if (different-number 0 number (λ f. other (sym f))) in
            omega (arith, references, folders, count, none)
      ];
}
