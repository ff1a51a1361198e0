-- Lemmas on the place of a path among the items of a rom.
use Rattle.std.proofs.Common.{◌≡◌, ℕ, ◌<◌, ◌≤◌, Option, Some, None, Err, List, length, get_or, refl, sym, ap, ◌∙◌, arith, inl, inr}
use Rattle.std.specs.List.{slice_get, HoldsAt}
use Rattle.std.specs.List.Sorted.{IsStrictlySortedBy, IsBinarySearchResult, IsNonDecreasingBy}
use Rattle.std.specs.Map.{keys_of}
use Rattle.std.specs.Ordering.{ordering_index, ordering_reverse}
use Rattle.std.specs.declared.cmp.Ordering.{Ordering}
use Rattle.std.specs.declared.cmp.Ordering.TheVariants.{Less, Equal, Greater}
use Rattle.std.proofs.lemmas.Bool.{cases_lt}
use Rattle.std.proofs.lemmas.Cmp.{eq_by_cmp_equiv}
use Rattle.std.proofs.lemmas.Map.Entries.{lookup_from_place, lookup_at_gap, length-keys_of}
use Rattle.std.proofs.lemmas.Map.Keys.{IsDistinct-from_sorted, Less-from_sorted}
use Rattle.std.proofs.lemmas.Option.{slice_get-get_or, slice_get_within, get_or_from_slice_get}
use Rattle.std.proofs.lemmas.List.{get_or-map}
use Rattle.vfs_base.specs.Path.{Path, path_cmp}
use Rattle.vfs_base.specs.PathLaws.{path_cmp_total, path_cmp_exact}
use Rattle.vfs_model.specs.Rom.{RomItems, item_at}

-- what is below b is no further above p than b is
index_rises : (a b p : Path) → path_cmp a b ≡ Less → ordering_index (path_cmp a p) ≤ ordering_index (path_cmp b p)
index_rises a b p below =
    let o = path_cmp_total in
    let turned : path_cmp p b ≡ Less → path_cmp b p ≡ Greater = λ h. o.antisymm b p ∙ ap ordering_reverse h in
    elim (path_cmp a p) as (λ r. path_cmp a p ≡ r → ordering_index r ≤ ordering_index (path_cmp b p)) [
      | Less ↦ λ _. omega arith
      | Equal ↦ λ e. rw (turned (sym (o.congr a p b e) ∙ below)) (omega arith)
      | Greater ↦ λ e. rw (turned (o.trans p a b (o.antisymm p a ∙ ap ordering_reverse e) below)) (omega arith)
    ] refl

module _ (items : RomItems) (sorted : IsStrictlySortedBy path_cmp (keys_of items)) (path : Path) where
  -- a binary search ends at the path's item
  pub item_found : (place : ℕ) (item : Path × Option (List ℕ)) → place < length items → HoldsAt (λ item. path_cmp item.0 path ≡ Equal) items place
      → item ≡ get_or items place item → item_at items path ≡ Some item.1
  item_found place item within equal is =
      let same : item.0 ≡ path = path_cmp_exact item.0 path (rw is (equal item)) in
      let there : slice_get items place ≡ Some item = slice_get-get_or items place item within ∙ ap Some (sym is) in
      let found = lookup_from_place (eq_by_cmp_equiv path_cmp_total) items place item.0 item.1 (IsDistinct-from_sorted path_cmp (keys_of items) sorted) there in
      rw same at found

  key_at : (i : ℕ) (d : Path × Option (List ℕ)) → i < length items → get_or (keys_of items) i d.0 ≡ (get_or items i d).0
  key_at i d within = get_or-map (λ item. item.0) items i d d.0 within

  rises : IsNonDecreasingBy (λ item. ordering_index (path_cmp item.0 path)) items
  rises i j d le within =
      let inside : j < length (keys_of items) = omega (arith, length-keys_of items) in
      let less : i < j → path_cmp (get_or items i d).0 (get_or items j d).0 ≡ Less = λ lt.
      rw (← key_at i d (omega arith), ← key_at j d within) (Less-from_sorted path_cmp (keys_of items) i j d.0 sorted lt inside) in
      elim (cases_lt i j) [
        | inl lt ↦ index_rises (get_or items i d).0 (get_or items j d).0 path (less lt)
        | inr ge ↦ let same : i ≡ j = omega arith in rw same (omega arith)
      ]

  -- or where it would be
  pub item_missing : (place : ℕ) → IsBinarySearchResult (λ item. path_cmp item.0 path) items (Err place) → item_at items path ≡ None
  item_missing place parted =
      let turned : (item : Path × Option (List ℕ)) (r : Ordering) → path_cmp item.0 path ≡ r → path_cmp path item.0 ≡ ordering_reverse r =
      λ item r h. path_cmp_total.antisymm path item.0 ∙ ap ordering_reverse h in
      let sides = parted rises in
      lookup_at_gap path_cmp_total path items place sorted
      (λ j item before is. turned item Less (rw (get_or_from_slice_get items j item item is) at (sides.0 j item (omega arith) before)))
      (λ item is. turned item Greater (rw (get_or_from_slice_get items place item item is) at (sides.1 place item (omega arith) (slice_get_within items place item is))))
