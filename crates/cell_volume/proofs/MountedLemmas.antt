-- What keeps a mounted volume as it has to be: a device that goes or comes home, and another record.
use Rattle.std.proofs.Common.{◌≡◌, ℕ, zero, suc, Bool, true, false, ◌&&◌, T, nat_le, Option, Some, None, IfSome, List, [], ◌∷◌, length, map, slice_index_or, slice_set, inl, inr, refl, sym, ap, subst, ◌∙◌, arith}
use Rattle.std.proofs.lemmas.Bool.Decides.{eqb_tells, nat_tests}
use Rattle.std.proofs.lemmas.List.{get_or-set_other, get_or-set_same, length-map, length-set, set_past}
use Rattle.std.specs.FinMap.Entries.{below_all, is_sorted}
use Rattle.std.specs.List.{AllByRecursion, list_all}
use Rattle.std.specs.List.Sorted.{IsStrictlySortedBy}
use Rattle.std.specs.Map.{keys_of}
use Rattle.std.specs.Ordering.{is_lt}
use Rattle.std.specs.declared.cmp.Ordering.TheVariants.{Less}
use Rattle.vfs_base.specs.Path.{Path, path_cmp}
use Rattle.vfs_base.specs.declared.limits.TheConstants.{VOLUME_CELLS_MAX}
use Rattle.vfs_outside.specs.Volume.{CellState, IsRecord, IsVolume, VolumeState, is_page_count}
use Rattle.cell_volume.proofs.PathFronts.{below-or-past}
use Rattle.cell_volume.proofs.RecordFiles.{Nodes, apart-record, closed-record, record-closed}
use Rattle.cell_volume.proofs.RecordSteps.{IsKept}
use Rattle.cell_volume.specs.MountedVolume.{ArePaths, IsMounted, MountedVolume, mounted, with_cell, with_record}

-- a record in the order of a map is in order
pub ordered-entries : {X : Type 0} (entries : List (Path × X)) → IsStrictlySortedBy path_cmp (keys_of entries) → T (is_sorted path_cmp entries)
unfolding IsStrictlySortedBy
ordered-entries [] h = tt
ordered-entries (e ∷ entries) h = t-both (below_all path_cmp e.0 entries) (is_sorted path_cmp entries) (below e.0 entries h.0) (ordered-entries entries h.1)
  where
    t-both : (a b : Bool) → T a → T b → T (a && b)
    t-both true b h k = k
    t-both false b h k = h

    below : {X : Type 0} (first : Path) (rest : List (Path × X)) → AllByRecursion (λ y. path_cmp first y ≡ Less) (keys_of rest) → T (below_all path_cmp first rest)
    below first [] k = tt
    below first (x ∷ rest) k = t-both (is_lt (path_cmp first x.0)) (below_all path_cmp first rest) (subst (λ o. T (is_lt o)) (sym k.0) tt) (below first rest k.1)

-- the record of a mounted volume
pub kept-mounted : (volume : MountedVolume) → IsMounted volume → IsKept (length volume.cells) volume.kept
kept-mounted volume is = record {
  closed = closed-record (length volume.cells) volume.kept is.ordered is.recorded;
  files = apart-record (length volume.cells) volume.kept is.recorded;
  paths = is.paths;
}

-- another record
pub mounted-record : (volume : MountedVolume) (kept : Nodes) → IsMounted volume → IsKept (length volume.cells) kept → IsMounted (with_record volume kept)
mounted-record volume kept is new = record {
  number = is.number;
  pages = is.pages;
  ordered = new.closed.sorted;
  recorded = record-closed (length volume.cells) kept new.closed new.files;
  paths = new.paths;
}

-- a device goes or comes home
pub mounted-cell : (volume : MountedVolume) (cell : ℕ) (device : Option CellState) → IsMounted volume →
    IfSome device (λ state. is_page_count state.pages ≡ true) → IsMounted (with_cell volume cell device)
mounted-cell volume cell device is h = record {
  number = simp length-set is.number;
  pages = λ at. elim (eqb_tells at cell) [
    | inl same ↦ elim (below-or-past cell (length volume.cells)) [
      | inl l ↦ subst (λ d. IfSome d (λ state. is_page_count state.pages ≡ true)) (sym (ap (λ k. slice_index_or (slice_set volume.cells cell device) k None) same.1 ∙ get_or-set_same volume.cells cell device None l)) h
      | inr l ↦ subst (λ cells. IfSome (slice_index_or cells at None) (λ state. is_page_count state.pages ≡ true)) (sym (set_past volume.cells cell device l)) (is.pages at)
    ]
    | inr other ↦ subst (λ d. IfSome d (λ state. is_page_count state.pages ≡ true)) (sym (get_or-set_other volume.cells cell at device None other.1)) (is.pages at)
  ];
  ordered = is.ordered;
  recorded = subst (λ cells. IsRecord cells volume.kept) (sym (length-set volume.cells cell device)) is.recorded;
  paths = is.paths;
}

b-first : (a b : Bool) → (a && b) ≡ true → a ≡ true
b-first true b h = refl
b-first false b h = absurd (cc)

b-second : (a b : Bool) → (a && b) ≡ true → b ≡ true
b-second true b h = h
b-second false b h = absurd (cc)

b-both : (a b : Bool) → a ≡ true → b ≡ true → (a && b) ≡ true
b-both true b h k = k
b-both false b h k = absurd (cc)

-- the pages of cells that are home
pages-home : (cells : List CellState) → list_all is_page_count (map (λ cell. cell.pages) cells) ≡ true → (at : ℕ) → IfSome (slice_index_or (map Some cells) at None) (λ state. is_page_count state.pages ≡ true)
pages-home [] h at = tt
pages-home (cell ∷ cells) h zero = b-first (is_page_count cell.pages) (list_all is_page_count (map (λ cell. cell.pages) cells)) h
pages-home (cell ∷ cells) h (suc at) = pages-home cells (b-second (is_page_count cell.pages) (list_all is_page_count (map (λ cell. cell.pages) cells)) h) at

home-pages : (cells : List CellState) → ((at : ℕ) → IfSome (slice_index_or (map Some cells) at None) (λ state. is_page_count state.pages ≡ true)) → list_all is_page_count (map (λ cell. cell.pages) cells) ≡ true
home-pages [] h = refl
home-pages (cell ∷ cells) h = b-both (is_page_count cell.pages) (list_all is_page_count (map (λ cell. cell.pages) cells)) (h zero) (home-pages cells (λ at. h (suc at)))

-- a volume as it is handed in is one that may be mounted
pub mounted-volume : (volume : VolumeState) → T (is_sorted path_cmp volume.kept) → ArePaths volume.kept → IsVolume volume → IsMounted (mounted volume)
mounted-volume volume sorted paths is = record {
  number =
      let few = b-first (nat_le (length (map (λ (cell : CellState). cell.pages) volume.cells)) VOLUME_CELLS_MAX) (list_all is_page_count (map (λ (cell : CellState). cell.pages) volume.cells)) is.cells in
      let len = length-map volume.cells (λ (cell : CellState). cell.pages) in
      let home = length-map volume.cells (λ (cell : CellState). Some cell) in
      grind (arith, nat_tests);
  pages = pages-home volume.cells (b-second (nat_le (length (map (λ (cell : CellState). cell.pages) volume.cells)) VOLUME_CELLS_MAX) (list_all is_page_count (map (λ (cell : CellState). cell.pages) volume.cells)) is.cells);
  ordered = sorted;
  recorded = subst (λ cells. IsRecord cells volume.kept) (sym (length-map volume.cells (λ (cell : CellState). Some cell))) is.kept;
  paths = paths;
}

-- and the other way round
pub volume-mounted : (volume : VolumeState) → IsMounted (mounted volume) → IsVolume volume
volume-mounted volume is = record {
  cells =
      let len = length-map volume.cells (λ (cell : CellState). cell.pages) in
      let home = length-map volume.cells (λ (cell : CellState). Some cell) in
      let few = is.number in
      b-both (nat_le (length (map (λ (cell : CellState). cell.pages) volume.cells)) VOLUME_CELLS_MAX) (list_all is_page_count (map (λ (cell : CellState). cell.pages) volume.cells))
      (grind (arith, nat_tests)) (home-pages volume.cells is.pages);
  kept = subst (λ cells. IsRecord cells volume.kept) (length-map volume.cells (λ (cell : CellState). Some cell)) is.recorded;
}
