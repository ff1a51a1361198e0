-- What the loops over cells keep.
use Rattle.std.proofs.Common.{◌≡◌, ℕ, zero, suc, ◌==◌, ◌+◌, ◌<◌, Bool, true, false, not, ◌&&◌, ◌||◌, List, [], ◌∷◌, ◌++◌, length, map, reverse, take, drop, get_or, set, inl, inr, refl, sym, ap, subst, ◌∙◌, arith}
use Rattle.std.proofs.lemmas.Bool.Decides.{eqb_tells}
use Rattle.std.proofs.lemmas.List.{drop-drop, drop-set-lt, get_or-drop, length-set, map-append, map_more, reverse-append, take_more_set}
use Rattle.std.proofs.lemmas.List.Elements.{filter_map-append}
use Rattle.std.proofs.lemmas.List.Folds.{list_any-append}
use Rattle.std.specs.List.{list_all, list_any}
use Rattle.vfs_base.specs.Path.{Path}
use Rattle.vfs_base.specs.declared.describe.CellNode.{CellNode}
use Rattle.vfs_base.specs.declared.describe.CellNode.TheVariants.{Dir, File}
use Rattle.vfs_outside.specs.Volume.{file_cells, node_cell}
use Rattle.cell_volume.proofs.CellLemmas.{mark_at-other, mark_at-same}
use Rattle.cell_volume.proofs.RecordFiles.{Nodes}
use Rattle.cell_volume.specs.Cells.{cell_at, with_mark, with_mark_of, without_mark}
use Rattle.cell_volume.specs.MountedVolume.{has_file}
use Rattle.cell_volume.specs.declared.cells.Cell.{Cell}

pub map-reversed : {X Y : Type 0} (f : X → Y) (xs : List X) → map f (reverse xs) ≡ reverse (map f xs)
map-reversed f [] = refl
map-reversed f (x ∷ xs) =
    ap (map f) (reverse-append (x ∷ []) xs) ∙ map-append f (reverse xs) (x ∷ []) ∙ ap (λ ys. ys ++ f x ∷ []) (map-reversed f xs) ∙ sym (reverse-append (f x ∷ []) (map f xs))

or-false : (a : Bool) → (a || false) ≡ a
or-false true = refl
or-false false = refl

or-true : (a b : Bool) → b ≡ true → (a || b) ≡ true
or-true true b e = refl
or-true false b e = e

module _ {B : Type 0} where
  -- the marks of the cells are cleared so far
  pub cleared-front : (cells start : List (Cell B)) (at : ℕ) (d : Cell B) → at < length cells → at < length start →
      take at cells ≡ map without_mark (take at start) → drop at cells ≡ drop at start →
      take (at + 1) (set cells at (without_mark (get_or cells at d))) ≡ map without_mark (take (at + 1) start)
  cleared-front cells start at d l m front back =
      let zero_on : at + 0 ≡ at = omega arith in
      let same : get_or cells at d ≡ get_or start at d =
      sym (get_or-drop at cells 0 d ∙ ap (λ k. get_or cells k d) zero_on) ∙ ap (λ xs. get_or xs 0 d) back ∙ get_or-drop at start 0 d ∙ ap (λ k. get_or start k d) zero_on in
      take_more_set cells at (without_mark (get_or cells at d)) l
      ∙ ap (λ xs. xs ++ without_mark (get_or cells at d) ∷ []) front
      ∙ ap (λ (cell : Cell B). map without_mark (take at start) ++ without_mark cell ∷ []) same
      ∙ sym (map_more without_mark start at d m)

  pub cleared-back : (cells start : List (Cell B)) (at : ℕ) (cell : Cell B) → drop at cells ≡ drop at start → drop (at + 1) (set cells at cell) ≡ drop (at + 1) start
  cleared-back cells start at cell back =
      drop-set-lt (at + 1) cells at cell (omega arith) ∙ sym (drop-drop 1 at cells) ∙ ap (drop 1) back ∙ drop-drop 1 at start

  -- a mark changes no device
  pub devices-with_mark_of : (cells : List (Cell B)) (node : CellNode) (has : Bool) → map (λ (cell : Cell B). cell.device) (with_mark_of cells node has) ≡ map (λ (cell : Cell B). cell.device) cells
  devices-with_mark_of cells Dir has = refl
  devices-with_mark_of cells (File cell size stored) has = by cells cell
    where
      by : (cells : List (Cell B)) (cell : ℕ) → map (λ (cell : Cell B). cell.device) (with_mark cells cell has) ≡ map (λ (cell : Cell B). cell.device) cells
      by [] cell = refl
      by (first ∷ cells) zero = refl
      by (first ∷ cells) (suc cell) = ap (λ devices. first.device ∷ devices) (by cells cell)

  pub none-marked : (cells : List (Cell B)) (place : ℕ) → list_all (λ (cell : Cell B). not cell.has_file) cells ≡ true → (cell_at cells place).has_file ≡ false
  none-marked [] place h = refl
  none-marked (cell ∷ cells) zero h = first cell.has_file (list_all (λ (cell : Cell B). not cell.has_file) cells) h
    where
      first : (a b : Bool) → (not a && b) ≡ true → a ≡ false
      first true b h = absurd (cc)
      first false b h = refl
  none-marked (cell ∷ cells) (suc place) h = none-marked cells place (later (not cell.has_file) (list_all (λ (cell : Cell B). not cell.has_file) cells) h)
    where
      later : (a b : Bool) → (a && b) ≡ true → b ≡ true
      later true b h = h
      later false b h = absurd (cc)

  -- the marks of one more node
  pub marked-more : (cells : List (Cell B)) (kept : Nodes) (path : Path) (node : CellNode) →
      ((place : ℕ) → place < length cells → (cell_at cells place).has_file ≡ has_file kept place) →
      (place : ℕ) → place < length (with_mark_of cells node true) → (cell_at (with_mark_of cells node true) place).has_file ≡ has_file (kept ++ (path, node) ∷ []) place
  marked-more cells kept path node marks place l =
      by node l
      ∙ sym (list_any-append (λ other. other == place) (file_cells kept) (file_cells ((path, node) ∷ [])))
      ∙ sym (ap (list_any (λ other. other == place)) (filter_map-append (λ (entry : Path × CellNode). node_cell entry.1) kept ((path, node) ∷ [])))
    where
      by : (node : CellNode) → place < length (with_mark_of cells node true) →
          (cell_at (with_mark_of cells node true) place).has_file ≡ (has_file kept place || has_file ((path, node) ∷ []) place)
      by Dir l = marks place l ∙ sym (or-false (has_file kept place))
      by (File cell size stored) l = elim (eqb_tells cell place) [
        | inl same ↦
            ap (λ k. (cell_at (with_mark cells cell true) k).has_file) (sym same.1)
            ∙ mark_at-same cells cell true (subst (λ k. k < length cells) (sym same.1) (simp length-set at l))
            ∙ sym (or-true (has_file kept place) ((cell == place) || false) (ap (λ b. b || false) same.0))
        | inr other ↦
            mark_at-other cells cell place true (λ e. other.1 (sym e)) ∙ marks place (simp length-set at l)
            ∙ sym (ap (λ b. has_file kept place || (b || false)) other.0 ∙ or-false (has_file kept place))
      ]

-- what stands behind no item is all
pub behind_none : {X Y : Type 0} (f : X → Y) (xs : List X) (ys zs : List Y) → xs ≡ [] → map f xs ++ ys ≡ zs → ys ≡ zs
behind_none f xs ys zs e h = sym (ap (λ xs. map f xs ++ ys) e) ∙ h
