-- Cells and what a contract sees of them: devices that go and come home, marks, and how many cells are spare.
use Rattle.std.proofs.Common.{◌≡◌, ◌≢◌, ℕ, zero, suc, ◌+◌, ◌<◌, Bool, false, cond, not, ◌&&◌, Option, Some, None, is_some, option_map, List, [], ◌∷◌, length, map, count_by, get_or, set, slice_index_or, slice_set, refl, sym, ap, ◌∙◌, arith}
use Rattle.std.proofs.lemmas.List.{get_or-set_other, get_or-set_same, length-map, ext_get_or, map-set}
use Rattle.std.proofs.lemmas.List.FromFn.{get_or-map-range_with_len, length-range_with_len}
use Rattle.std.proofs.lemmas.List.Sums.{sum_by-cons, sum_by-set}
use Rattle.std.specs.List.{position, position_or_len, range_with_len}
use Rattle.vfs_base.specs.declared.describe.Counts.{Counts}
use Rattle.vfs_outside.specs.Volume.{CellState}
use Rattle.cell_volume.proofs.RecordFiles.{Nodes}
use Rattle.cell_volume.specs.Cells.{MarksFiles, cell_at, is_spare_cell, state_of, states_of, with_device, with_mark, without_mark}
use Rattle.cell_volume.specs.MountedVolume.{MountedVolume, cell_state, has_file, is_spare, spare_cells}
use Rattle.cell_volume.specs.declared.cells.Cell.{Cell}

-- the element at a place, or the default past the end, and its image
pub get_or-mapped : {X Y : Type 0} (f : X → Y) (xs : List X) (place : ℕ) (d : X) → get_or (map f xs) place (f d) ≡ f (get_or xs place d)
get_or-mapped f [] place d = refl
get_or-mapped f (x ∷ xs) zero d = refl
get_or-mapped f (x ∷ xs) (suc place) d = get_or-mapped f xs place d

position_or_len-map : {X Y : Type 0} (f : X → Y) (test : Y → Bool) (xs : List X) → position_or_len test (map f xs) ≡ position_or_len (λ x. test (f x)) xs
position_or_len-map f test [] = refl
position_or_len-map f test (x ∷ xs) = rw (position_or_len-map f test xs) refl

pub position-map : {X Y : Type 0} (f : X → Y) (test : Y → Bool) (xs : List X) → position test (map f xs) ≡ position (λ x. test (f x)) xs
position-map f test xs = rw (position_or_len-map f test xs, length-map xs f) refl

pub count_by-map : {X Y : Type 0} (f : X → Y) (test : Y → Bool) (xs : List X) → count_by test (map f xs) ≡ count_by (λ x. test (f x)) xs
count_by-map f test [] = refl
count_by-map f test (x ∷ xs) =
    sum_by-cons (λ y. cond (test y) 1 0) (f x) (map f xs) ∙ ap (λ n. cond (test (f x)) 1 0 + n) (count_by-map f test xs)
    ∙ sym (sum_by-cons (λ x. cond (test (f x)) 1 0) x xs)

-- how many pass a test, where one item is replaced by another
pub count_by-set : {X : Type 0} (test : X → Bool) (xs : List X) (place : ℕ) (y d : X) → place < length xs →
    count_by test (set xs place y) + cond (test (get_or xs place d)) 1 0 ≡ count_by test xs + cond (test y) 1 0
count_by-set test xs place y d l = sum_by-set (λ x. cond (test x) 1 0) xs place y d l

module _ {B : Type 0} where
  abbrev none : Cell B
  none = record { device = None; has_file = false }

  -- the cell at a place after a change
  pub device_at-with_device : (cells : List (Cell B)) (place at : ℕ) (device : Option B) → (cell_at (with_device cells place device) at).has_file ≡ (cell_at cells at).has_file
  device_at-with_device [] place at device = refl
  device_at-with_device (cell ∷ cells) zero zero device = refl
  device_at-with_device (cell ∷ cells) zero (suc at) device = refl
  device_at-with_device (cell ∷ cells) (suc place) zero device = refl
  device_at-with_device (cell ∷ cells) (suc place) (suc at) device = device_at-with_device cells place at device

  pub mark_at-other : (cells : List (Cell B)) (place at : ℕ) (has_file : Bool) → at ≢ place → (cell_at (with_mark cells place has_file) at).has_file ≡ (cell_at cells at).has_file
  mark_at-other cells place at has_file h = ap (λ (cell : Cell B). cell.has_file) (get_or-set_other cells place at _ _ h)

  pub mark_at-same : (cells : List (Cell B)) (place : ℕ) (has_file : Bool) → place < length cells → (cell_at (with_mark cells place has_file) place).has_file ≡ has_file
  mark_at-same cells place has_file l = ap (λ (cell : Cell B). cell.has_file) (get_or-set_same cells place _ _ l)

  pub unmarked : (cells : List (Cell B)) (at : ℕ) → (cell_at (map without_mark cells) at).has_file ≡ false
  unmarked [] at = refl
  unmarked (cell ∷ cells) zero = refl
  unmarked (cell ∷ cells) (suc at) = unmarked cells at

  module _ (pages : B → ℕ) (contents : B → Option (List (List ℕ))) (counts : B → Counts) where
    -- a device goes or comes home
    pub states-with_device : (cells : List (Cell B)) (place : ℕ) (device : Option B) →
        states_of pages contents counts (with_device cells place device) ≡ slice_set (states_of pages contents counts cells) place (option_map (cell_state pages contents counts) device)
    states-with_device cells place device = map-set (state_of pages contents counts) cells place (record { device = device; has_file = (cell_at cells place).has_file })

    -- marks aren't seen
    pub states-with_mark : (cells : List (Cell B)) (place : ℕ) (has_file : Bool) → states_of pages contents counts (with_mark cells place has_file) ≡ states_of pages contents counts cells
    states-with_mark [] place has_file = refl
    states-with_mark (cell ∷ cells) zero has_file = refl
    states-with_mark (cell ∷ cells) (suc place) has_file = ap (λ states. state_of pages contents counts cell ∷ states) (states-with_mark cells place has_file)

    pub states-without_marks : (cells : List (Cell B)) → states_of pages contents counts (map without_mark cells) ≡ states_of pages contents counts cells
    states-without_marks [] = refl
    states-without_marks (cell ∷ cells) = ap (λ states. state_of pages contents counts cell ∷ states) (states-without_marks cells)

    -- what the device of a cell shows
    pub state_at : (cells : List (Cell B)) (place : ℕ) → slice_index_or (states_of pages contents counts cells) place None ≡ option_map (cell_state pages contents counts) (cell_at cells place).device
    state_at cells place = get_or-mapped (state_of pages contents counts) cells place none

    some-mapped : (device : Option B) → is_some (option_map (cell_state pages contents counts) device) ≡ is_some device
    some-mapped None = refl
    some-mapped (Some device) = refl

    -- for each cell, whether it is spare
    pub spare-cells : (name : List ℕ) (cells : List (Cell B)) (kept : Nodes) → MarksFiles cells kept →
        spare_cells (record { name = name; cells = states_of pages contents counts cells; kept = kept }) ≡ map is_spare_cell cells
    spare-cells name cells kept marks =
        let volume : MountedVolume = record { name = name; cells = states_of pages contents counts cells; kept = kept } in
        let number : length (states_of pages contents counts cells) ≡ length cells = length-map cells (state_of pages contents counts) in
        let len : length (spare_cells volume) ≡ length cells =
        length-map (range_with_len 0 (length (states_of pages contents counts cells))) (is_spare volume) ∙ length-range_with_len 0 (length (states_of pages contents counts cells)) ∙ number in
        ext_get_or false (spare_cells volume) (map is_spare_cell cells) (len ∙ sym (length-map cells is_spare_cell)) (λ at l.
        get_or-map-range_with_len (is_spare volume) 0 (length (states_of pages contents counts cells)) at at false (omega (arith, l, len, number)) (omega arith)
        ∙ ap (λ (state : Option CellState). is_some state && not (has_file kept at)) (state_at cells at)
        ∙ ap (λ b. b && not (has_file kept at)) (some-mapped (cell_at cells at).device)
        ∙ ap (λ b. is_some (cell_at cells at).device && not b) (sym (marks at (omega (arith, l, len))))
        ∙ sym (get_or-mapped is_spare_cell cells at none))
