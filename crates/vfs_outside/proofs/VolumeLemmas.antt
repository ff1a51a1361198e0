-- What volumes have of their cells, and what those that are home show.
use Rattle.std.proofs.Common.{◌≡◌, ℕ, zero, suc, ◌+◌, ◌<◌, Bool, true, false, ◌&&◌, List, [], ◌∷◌, ◌++◌, length, map, take, sym, ap, ◌∙◌, refl, arith}
use Rattle.std.specs.Prelude.{Option, Some, None, filter_map, get_or, nat_le, option_to_list, if◌then◌else◌}
use Rattle.std.specs.List.{list_all}
use Rattle.std.proofs.lemmas.List.{length-map, take_more}
use Rattle.std.proofs.lemmas.List.Elements.{filter_map-append}
use Rattle.std.proofs.lemmas.List.Folds.{list_all-map}
use Rattle.vfs_base.specs.Path.{Path}
use Rattle.vfs_base.specs.declared.describe.CellNode.{CellNode}
use Rattle.vfs_base.specs.declared.describe.Counts.{Counts}
use Rattle.vfs_base.specs.declared.limits.TheConstants.{VOLUME_CELLS_MAX}
use Rattle.vfs_outside.specs.Volume.{IsRecord, IsVolume, are_cells, cell_states, is_page_count}

-- an empty record is one over any cells
pub IsRecord-nil : (cells : ℕ) → IsRecord cells []
IsRecord-nil cells = record {
  bounded = omega arith;
  rootless = λ node found. absurd (omega (arith, found.1));
  parents = λ front name node found. absurd (omega (arith, found.1));
  on_cells = λ k d below. absurd (omega (arith, below));
  own_cells = λ i j d before below. absurd (omega (arith, below));
}

module _ {B : Type 0} (pages : B → ℕ) (contents : B → Option (List (List ℕ))) (counts : B → Counts) where
  -- the cells tell the pages of their block devices
  pub map-pages-cell_states : (cells : List B) → map (λ cell. cell.pages) (cell_states pages contents counts cells) ≡ map pages cells
  map-pages-cell_states [] = refl
  map-pages-cell_states (cell ∷ cells) = ap (λ more. pages cell ∷ more) (map-pages-cell_states cells)

  -- the cells tell the counts of their block devices
  pub map-counts-cell_states : (cells : List B) → map (λ cell. cell.counts) (cell_states pages contents counts cells) ≡ map counts cells
  map-counts-cell_states [] = refl
  map-counts-cell_states (cell ∷ cells) = ap (λ more. counts cell ∷ more) (map-counts-cell_states cells)

  -- a volume that keeps nothing, of cells that a volume may have
  pub IsVolume-empty : (name : List ℕ) (cells : List B) (kept : List (Path × CellNode)) → are_cells (map pages cells) ≡ true → kept ≡ [] →
      IsVolume (record { name = name; cells = cell_states pages contents counts cells; kept = kept })
  IsVolume-empty name cells kept fit none = record {
    cells = rw (map-pages-cell_states cells) fit;
    kept = rw none (IsRecord-nil (length (cell_states pages contents counts cells)));
  }

and-true : (a b : Bool) → (a && b) ≡ true → b ≡ true
and-true true b e = e
and-true false b e = absurd (cc)

-- the test of numbers of pages, over the cells that have them
pub are_cells_map : {B : Type 0} (pages : B → ℕ) (cells : List B) →
    are_cells (map pages cells) ≡ (nat_le (length cells) VOLUME_CELLS_MAX && list_all (λ cell. is_page_count (pages cell)) cells)
are_cells_map pages cells =
    ap (λ n. nat_le n VOLUME_CELLS_MAX && list_all is_page_count (map pages cells)) (length-map cells pages)
    ∙ ap (λ b. nat_le (length cells) VOLUME_CELLS_MAX && b) (list_all-map is_page_count pages cells)

-- each cell of a volume has a number of pages that a cell may have
pub cells_counted : (pages : List ℕ) → are_cells pages ≡ true → list_all is_page_count pages ≡ true
cells_counted pages e = and-true _ _ e

pub counted_at : {B : Type 0} (pages : B → ℕ) (cells : List B) (k : ℕ) (d : B) → list_all is_page_count (map pages cells) ≡ true →
    k < length cells → is_page_count (pages (get_or cells k d)) ≡ true
counted_at pages [] k d e below = absurd (omega (arith, below))
counted_at pages (cell ∷ cells) zero d e below = first (is_page_count (pages cell)) _ e
  where
    first : (a b : Bool) → (a && b) ≡ true → a ≡ true
    first true b e = refl
    first false b e = absurd (cc)
counted_at pages (cell ∷ cells) (suc k) d e below = counted_at pages cells k d (and-true _ _ e) (omega (arith, below))

-- what a number of pages is made of is there, where a cell may have so many
pub no_count : {X : Type 0} (test : Bool) (made : X) (result : Option X) → result ≡ (if test then Some made else None) → test ≡ true → result ≡ None → ⊥
no_count test made result is holds none =
    let some : result ≡ Some made = is ∙ ap (λ b. if b then Some made else None) holds in
    cc

filter_map-one : {X Y : Type 0} (h : X → Option Y) (x : X) → filter_map h (x ∷ []) ≡ option_to_list (h x)
filter_map-one h x = cases (h x)
  where
    cases : {Y : Type 0} (o : Option Y) → filter_map (λ (y : Option Y). y) (o ∷ []) ≡ option_to_list o
    cases None = refl
    cases (Some y) = refl

-- one more item
pub filter_map_more : {X Y : Type 0} (h : X → Option Y) (xs : List X) (i : ℕ) (x : X) → i < length xs → x ≡ get_or xs i x →
    filter_map h (take (i + 1) xs) ≡ filter_map h (take i xs) ++ option_to_list (h x)
filter_map_more h xs i x below is =
    ap (filter_map h) (take_more xs i x below)
    ∙ filter_map-append h (take i xs) (get_or xs i x ∷ [])
    ∙ ap (λ more. filter_map h (take i xs) ++ more) (filter_map-one h (get_or xs i x) ∙ ap (λ y. option_to_list (h y)) (sym is))
