-- A mounted volume as it is laid out stays so: at a device that goes or comes home, a node that comes or goes, and no node at all.
use Rattle.std.proofs.Common.{◌≡◌, ℕ, zero, suc, ◌<◌, Bool, true, false, not, ◌&&◌, T, if◌then◌else◌, is_some, count_by, slice_get, unwrap_or, option_and_then, Result, Ok, Err, OnOk, OnErr, Option, Some, None, IfSome, option_map, List, [], ◌∷◌, length, map, slice_index_or, inl, inr, refl, sym, ap, subst, ◌∙◌, arith}
use Rattle.std.proofs.lemmas.Bool.Decides.{eqb_tells}
use Rattle.std.proofs.lemmas.List.{get_or_past, length-map, length-set}
use Rattle.std.proofs.lemmas.Option.{same_Some}
use Rattle.std.specs.List.{list_all, list_any, position}
use Rattle.vfs_base.specs.declared.describe.CellNode.{CellNode}
use Rattle.vfs_base.specs.declared.describe.CellNode.TheVariants.{Dir, File}
use Rattle.vfs_base.specs.declared.describe.Counts.{Counts}
use Rattle.std.proofs.lemmas.List.Quantifiers.{position-Some}
use Rattle.std.specs.FinMap.Entries.{find as value_at, is_sorted, put}
use Rattle.vfs_base.specs.Path.{IsPath, Path, path_cmp}
use Rattle.vfs_model.specs.Lookup.{is_below, is_prefix}
use Rattle.node_maps.specs.IsFault.{AnswersBy}
use Rattle.node_maps.specs.NodeMap.{link_refusal, moved, rename_refusal, without}
use Rattle.node_maps.specs.declared.tree_fault.TreeFault.{TreeFault}
use Rattle.vfs_outside.specs.Volume.{CellState, IsVolume, cell_states, is_page_count, node_cell}
use Rattle.cell_volume.proofs.CellLemmas.{count_by-map, device_at-with_device, mark_at-other, mark_at-same, position-map, spare-cells, state_at, states-with_device, states-with_mark, states-without_marks, unmarked}
use Rattle.cell_volume.proofs.PathFronts.{below-or-past}
use Rattle.cell_volume.proofs.MountedLemmas.{kept-mounted, mounted-cell, mounted-record, mounted-volume}
use Rattle.cell_volume.proofs.RecordFiles.{Nodes, file_at, file_of, has_file-at}
use Rattle.cell_volume.proofs.RecordMoves.{found-both, moved-files-other, moved-files-own, moved-kept}
use Rattle.cell_volume.proofs.RecordSteps.{IsKept, empty-kept, keep-files, keep-kept, may-link, not-true, put-files-other, put-files-own, put-kept, without-files-other, without-files-own, without-kept}
use Rattle.cell_volume.specs.Cells.{IsLaidOut, MarksFiles, MarksNode, cell_at, is_spare_cell, new_cell, state_of, states_of, with_device, with_mark, with_mark_of, without_mark}
use Rattle.cell_volume.specs.MountedVolume.{ArePaths, IsMounted, MountedVolume, are_home, cell_state, file_device, has_file, is_dir, is_file, least_spare, new_file, spare_cells, spare_count, with_content, with_found, with_kept}
use Rattle.cell_volume.specs.declared.cells.Cell.{Cell}

module _ {B : Type 0} where
  -- marks after a device went or came home
  marks-device : (cells : List (Cell B)) (kept : Nodes) (place : ℕ) (device : Option B) → MarksFiles cells kept → MarksFiles (with_device cells place device) kept
  marks-device cells kept place device marks = λ at l. device_at-with_device cells place at device ∙ marks at (simp length-set at l)

  -- marks after a node came or went, where other cells have files as before
  marks-node : (cells : List (Cell B)) (kept now : Nodes) (node : CellNode) (has : Bool) → MarksFiles cells kept →
      ((cell : ℕ) → (node_cell node ≡ Some cell → ⊥) → has_file now cell ≡ has_file kept cell) →
      ((cell : ℕ) → node_cell node ≡ Some cell → has_file now cell ≡ has) → MarksFiles (with_mark_of cells node has) now
  marks-node cells kept now Dir has marks others own = λ at l. marks at l ∙ sym (others at (λ e. absurd (cc)))
  marks-node cells kept now (File cell size stored) has marks others own = λ at l. elim (eqb_tells at cell) [
    | inl same ↦
        ap (λ k. (slice_index_or (with_mark cells cell has) k (record { device = None; has_file = false })).has_file) same.1
        ∙ mark_at-same cells cell has (subst (λ k. k < length cells) same.1 (simp length-set at l))
        ∙ sym (own cell refl) ∙ ap (has_file now) (sym same.1)
    | inr other ↦ mark_at-other cells cell at has other.1 ∙ marks at (simp length-set at l) ∙ sym (others at (λ e. other.1 (let s : cell ≡ at = cc in sym s)))
  ]

  module _ (pages : B → ℕ) (contents : B → Option (List (List ℕ))) (counts : B → Counts) where
    -- what a contract sees
    abbrev pub view : List ℕ → List (Cell B) → Nodes → MountedVolume
    view name cells kept = record { name = name; cells = states_of pages contents counts cells; kept = kept }

    number : (cells : List (Cell B)) → length (states_of pages contents counts cells) ≡ length cells
    number cells = length-map cells (state_of pages contents counts)

    pub states-with_mark_of : (cells : List (Cell B)) (node : CellNode) (has : Bool) → states_of pages contents counts (with_mark_of cells node has) ≡ states_of pages contents counts cells
    states-with_mark_of cells Dir has = refl
    states-with_mark_of cells (File cell size stored) has = states-with_mark pages contents counts cells cell has

    length-with_mark_of : (cells : List (Cell B)) (node : CellNode) (has : Bool) → length (with_mark_of cells node has) ≡ length cells
    length-with_mark_of cells Dir has = refl
    length-with_mark_of cells (File cell size stored) has = length-set cells cell _

    module _ (name : List ℕ) (cells : List (Cell B)) (kept : Nodes) (room : List B) (memory : ℕ) (is : IsLaidOut (view name cells kept) cells room memory) where
      -- the record that it has
      pub laid-kept : IsKept (length cells) kept
      laid-kept = subst (λ n. IsKept n kept) (number cells) (kept-mounted (view name cells kept) is.mounted)

      -- a device goes or comes home
      pub laid-device : (place : ℕ) (device : Option B) → IfSome (option_map (cell_state pages contents counts) device) (λ state. is_page_count state.pages ≡ true) →
          IsLaidOut (view name (with_device cells place device) kept) (with_device cells place device) room memory
      laid-device place device h = record {
        mounted =
            let P : List (Option CellState) → Type 0 = λ states. IsMounted (record { name = name; cells = states; kept = kept }) in
            subst P (sym (states-with_device pages contents counts cells place device)) (mounted-cell (view name cells kept) place (option_map (cell_state pages contents counts) device) is.mounted h);
        marks = marks-device cells kept place device is.marks;
        empty = is.empty;
        reserved = simp length-set is.reserved;
      }

      -- a node comes or goes, with its mark
      pub laid-node : (now : Nodes) (node : CellNode) (has : Bool) → IsKept (length cells) now →
          ((cell : ℕ) → (node_cell node ≡ Some cell → ⊥) → has_file now cell ≡ has_file kept cell) →
          ((cell : ℕ) → node_cell node ≡ Some cell → has_file now cell ≡ has) →
          IsLaidOut (view name (with_mark_of cells node has) now) (with_mark_of cells node has) room memory
      laid-node now node has new others own = record {
        mounted =
            let P : List (Option CellState) → Type 0 = λ states. IsMounted (record { name = name; cells = states; kept = now }) in
            subst P (sym (states-with_mark_of cells node has))
            (mounted-record (view name cells kept) now is.mounted (subst (λ n. IsKept n now) (sym (number cells)) new));
        marks = marks-node cells kept now node has is.marks others own;
        empty = is.empty;
        reserved = let l = is.reserved in let m = length-with_mark_of cells node has in omega (arith, l, m);
      }

      -- no node is left
      pub laid-empty : IsLaidOut (view name (map without_mark cells) []) (map without_mark cells) room memory
      laid-empty = record {
        mounted =
            let P : List (Option CellState) → Type 0 = λ states. IsMounted (record { name = name; cells = states; kept = [] }) in
            subst P (sym (states-without_marks pages contents counts cells))
            (mounted-record (view name cells kept) [] is.mounted (empty-kept (length (states_of pages contents counts cells))));
        marks = λ at l. unmarked cells at;
        empty = is.empty;
        reserved = let l = is.reserved in let m = length-map cells without_mark in omega (arith, l, m);
      }

      -- each mark says whether a file has the cell, also past the last one
      pub laid-mark : (place : ℕ) → (cell_at cells place).has_file ≡ has_file kept place
      laid-mark place = elim (below-or-past place (length cells)) [
        | inl l ↦ is.marks place l
        | inr l ↦
            ap (λ (cell : Cell B). cell.has_file) (get_or_past cells place (record { device = None; has_file = false }) l)
            ∙ sym (not-true (has_file kept place) (λ e u.
            let file = file_of kept place laid-kept.closed.sorted e in
            let within = laid-kept.files.within file.path place file.is in
            absurd (omega (arith, l, within))))
      ]

      -- the device of a file's cell
      pub laid-file : (place : ℕ) (marked : Bool) → (cell_at cells place).has_file ≡ marked →
          file_device (view name cells kept) place ≡ (if marked then option_map (cell_state pages contents counts) (cell_at cells place).device else None)
      laid-file place marked e =
          ap (λ b. if b then slice_index_or (states_of pages contents counts cells) place None else None) (sym (laid-mark place) ∙ e)
          ∙ ap (λ (d : Option CellState). if marked then d else None) (state_at pages contents counts cells place)

      -- the spare cells
      pub laid-spare : spare_cells (view name cells kept) ≡ map is_spare_cell cells
      laid-spare = spare-cells pages contents counts name cells kept is.marks

      pub laid-least : least_spare (view name cells kept) ≡ position is_spare_cell cells
      laid-least = ap (position (λ spare. spare)) laid-spare ∙ position-map is_spare_cell (λ spare. spare) cells

      pub laid-count : spare_count (view name cells kept) ≡ count_by is_spare_cell cells
      laid-count = ap (count_by (λ spare. spare)) laid-spare ∙ count_by-map is_spare_cell (λ spare. spare) cells

      -- every device is home
      pub laid-home : are_home (view name cells kept) ≡ list_all (λ (cell : Cell B). is_some cell.device) cells
      laid-home = homes cells
        where
          one : (cell : Cell B) → is_some (state_of pages contents counts cell) ≡ is_some cell.device
          one cell = mapped cell.device
            where
              mapped : (device : Option B) → is_some (option_map (cell_state pages contents counts) device) ≡ is_some device
              mapped None = refl
              mapped (Some device) = refl

          homes : (cells : List (Cell B)) → list_all is_some (states_of pages contents counts cells) ≡ list_all (λ (cell : Cell B). is_some cell.device) cells
          homes [] = refl
          homes (cell ∷ cells) = ap (λ b. b && list_all is_some (states_of pages contents counts cells)) (one cell) ∙ ap (λ b. is_some cell.device && b) (homes cells)

      -- the cell of a node of the record is there and marked
      pub laid-marks : (path : Path) (node : CellNode) → value_at path_cmp path kept ≡ Some node → MarksNode cells node
      laid-marks path Dir h = tt
      laid-marks path (File cell size stored) h =
          let file : file_at kept path ≡ Some cell = ap (option_and_then node_cell) h in
          (laid-kept.files.within path cell file, laid-mark cell ∙ has_file-at kept path cell file)

      -- the node at the path goes
      pub laid-unlink : (path : Path) (node : CellNode) → value_at path_cmp path kept ≡ Some node → list_any (λ entry. is_below path entry.0) kept ≡ false →
          IsLaidOut (view name (with_mark_of cells node false) (without path kept)) (with_mark_of cells node false) room memory
      laid-unlink path node there bare = laid-node (without path kept) node false
          (without-kept (length cells) kept path node there bare laid-kept)
          (without-files-other (length cells) kept path node there bare laid-kept)
          (without-files-own (length cells) kept path node there bare laid-kept)

      -- a node comes to the path
      pub laid-link : (path : Path) (node : CellNode) → link_refusal is_dir kept path ≡ None → IsPath path →
          ((cell : ℕ) → node_cell node ≡ Some cell → (cell < length cells) × (has_file kept cell ≡ false)) →
          IsLaidOut (view name (with_mark_of cells node true) (put path_cmp path node kept)) (with_mark_of cells node true) room memory
      laid-link path node fits names own =
          let may = may-link kept path fits in
          laid-node (put path_cmp path node kept) node true
          (put-kept (length cells) kept path node may names laid-kept own)
          (put-files-other (length cells) kept path node may names laid-kept own)
          (put-files-own (length cells) kept path node may names laid-kept own)

      -- a folder comes to the path, or is refused
      pub laid-insert : (path : Path) (now : Nodes) (result : Result (Unit {0}) TreeFault) → IsPath path → OnOk result (now ≡ put path_cmp path Dir kept) →
          AnswersBy (link_refusal is_dir kept path) result → OnErr result (now ≡ kept) → IsLaidOut (view name cells now) cells room memory
      laid-insert path now (Ok done) names ok fault err =
          let P : Nodes → Type 0 = λ now. IsLaidOut (view name cells now) cells room memory in
          subst P (sym ok) (laid-link path Dir fault names (λ cell e. absurd (cc)))
      laid-insert path now (Err refusal) names ok fault err =
          let P : Nodes → Type 0 = λ now. IsLaidOut (view name cells now) cells room memory in
          subst P (sym err) is

      -- a node with all below it moves
      pub laid-rename : (old new : Path) → rename_refusal is_dir kept old new ≡ None → is_prefix old new ≡ false → is_prefix new old ≡ false →
          list_any (λ entry. is_below new entry.0) kept ≡ false → IsPath new →
          let node = unwrap_or (value_at path_cmp new kept) Dir in
          IsLaidOut (view name (with_mark_of cells node false) (moved old new kept)) (with_mark_of cells node false) room memory
      laid-rename old new fits apart beside bare names =
          let found = found-both kept old new fits in
          laid-node (moved old new kept) (unwrap_or (value_at path_cmp new kept) Dir) false
          (moved-kept (length cells) kept old new laid-kept found apart beside bare names)
          (moved-files-other (length cells) kept old new laid-kept found apart beside bare names)
          (moved-files-own (length cells) kept old new laid-kept found apart beside bare names)

      pub laid-replaced : (path : Path) → MarksNode cells (unwrap_or (value_at path_cmp path kept) Dir)
      laid-replaced path = by (value_at path_cmp path kept) refl
        where
          by : (found : Option CellNode) → value_at path_cmp path kept ≡ found → MarksNode cells (unwrap_or found Dir)
          by None e = tt
          by (Some node) e = laid-marks path node e

      -- the file at the path has another size
      pub laid-keep : (path : Path) (size : ℕ) (stored : List ℕ) → is_file kept path ≡ true → IsLaidOut (view name cells (with_kept kept path size stored)) cells room memory
      laid-keep path size stored file = by (value_at path_cmp path kept) refl file
        where
          put-there : (node : CellNode) → value_at path_cmp path kept ≡ Some node → is_some (node_cell node) ≡ true →
              IsLaidOut (view name cells (put path_cmp path (with_content node size stored) kept)) cells room memory
          put-there Dir e f = absurd (cc)
          put-there (File cell old pages) e f = laid-node (put path_cmp path (File cell size stored) kept) Dir true
              (keep-kept (length cells) kept path cell size stored old pages e laid-kept)
              (λ at h. keep-files (length cells) kept path cell size stored old pages e laid-kept at)
              (λ at h. absurd (cc))

          by : (found : Option CellNode) → value_at path_cmp path kept ≡ found → is_some (option_and_then node_cell found) ≡ true →
              IsLaidOut (view name cells (with_found kept path size stored found)) cells room memory
          by None e f = absurd (cc)
          by (Some node) e f = put-there node e f

  -- a cell that is out
  pub record Out (cells : List (Cell B)) (place : ℕ) : Type 0 where
    pub within : place < length cells
    pub device : (cell_at cells place).device ≡ None

  pub is-out : (pages : B → ℕ) (contents : B → Option (List (List ℕ))) (counts : B → Counts) (cells : List (Cell B)) (place : ℕ) →
      slice_get (states_of pages contents counts cells) place ≡ Some None → Out cells place
  is-out pages contents counts [] place h = absurd (cc)
  is-out pages contents counts (cell ∷ cells) zero h = record { within = omega arith; device = out cell.device (same_Some _ _ h) }
    where
      out : (device : Option B) → option_map (cell_state pages contents counts) device ≡ None → device ≡ None
      out None e = refl
      out (Some device) e = absurd (cc)
  is-out pages contents counts (cell ∷ cells) (suc place) h =
      let rest = is-out pages contents counts cells place h in
      record { within = (let l = rest.within in omega (arith, l)); device = rest.device }

  -- cells of devices that are all home
  pub states-devices : (pages : B → ℕ) (contents : B → Option (List (List ℕ))) (counts : B → Counts) (devices : List B) (cells : List (Cell B)) →
      map (λ (device : B). Some device) devices ≡ map (λ (cell : Cell B). cell.device) cells →
      map (λ (state : CellState). Some state) (cell_states pages contents counts devices) ≡ states_of pages contents counts cells
  states-devices pages contents counts devices cells e =
      by_devices devices ∙ ap (map (option_map (cell_state pages contents counts))) e ∙ by_cells cells
    where
      by_devices : (devices : List B) → map (λ (state : CellState). Some state) (cell_states pages contents counts devices) ≡ map (option_map (cell_state pages contents counts)) (map (λ (device : B). Some device) devices)
      by_devices [] = refl
      by_devices (device ∷ devices) = ap (λ states. Some (cell_state pages contents counts device) ∷ states) (by_devices devices)

      by_cells : (cells : List (Cell B)) → map (option_map (cell_state pages contents counts)) (map (λ (cell : Cell B). cell.device) cells) ≡ states_of pages contents counts cells
      by_cells [] = refl
      by_cells (cell ∷ cells) = ap (λ states. option_map (cell_state pages contents counts) cell.device ∷ states) (by_cells cells)

  pub new-devices : (devices : List B) → map (λ (device : B). Some device) devices ≡ map (λ (cell : Cell B). cell.device) (map new_cell devices)
  new-devices [] = refl
  new-devices (device ∷ devices) = ap (λ rest. Some device ∷ rest) (new-devices devices)

  pub new-unmarked : (devices : List B) → list_all (λ (cell : Cell B). not cell.has_file) (map new_cell devices) ≡ true
  new-unmarked [] = refl
  new-unmarked (device ∷ devices) = new-unmarked devices

  -- a cell that is spare is home
  pub spare-there : (cells : List (Cell B)) (place : ℕ) → position is_spare_cell cells ≡ Some place → (place < length cells) × (is_some (cell_at cells place).device ≡ true)
  spare-there cells place e =
      let at = position-Some is_spare_cell cells place (record { device = None; has_file = false }) e in
      (at.0, first (is_some (cell_at cells place).device) (not (cell_at cells place).has_file) at.1)
    where
      first : (a b : Bool) → (a && b) ≡ true → a ≡ true
      first true b h = refl
      first false b h = absurd (cc)

  -- a volume that is mounted anew
  pub laid-new : (pages : B → ℕ) (contents : B → Option (List (List ℕ))) (counts : B → Counts) (name : List ℕ) (devices : List B) (cells : List (Cell B)) (kept : Nodes) →
      IsVolume (record { name = name; cells = cell_states pages contents counts devices; kept = kept }) → T (is_sorted path_cmp kept) → ArePaths kept →
      map (λ (cell : Cell B). cell.device) cells ≡ map (λ (cell : Cell B). cell.device) (map new_cell devices) → IsMounted (view pages contents counts name cells kept)
  laid-new pages contents counts name devices cells kept is sorted paths e =
      let P : List (Option CellState) → Type 0 = λ states. IsMounted (record { name = name; cells = states; kept = kept }) in
      subst P (states-devices pages contents counts devices cells (new-devices devices ∙ sym e))
      (mounted-volume (record { name = name; cells = cell_states pages contents counts devices; kept = kept }) sorted paths is)

pub if-some : {X : Type 0} (found : Option X) (P : Type 0) → P → IfSome found (λ _. P)
if-some None P p = tt
if-some (Some x) P p = p

-- cells of devices are as many
pub same-number : {B : Type 0} (devices : List B) (cells : List (Cell B)) → map (λ (cell : Cell B). cell.device) cells ≡ map (λ (cell : Cell B). cell.device) (map new_cell devices) →
    length cells ≡ length devices
same-number devices cells e =
    sym (length-map cells (λ cell. cell.device)) ∙ ap (λ devices. length devices) e ∙ length-map (map new_cell devices) (λ cell. cell.device) ∙ length-map devices new_cell

-- the cell of a new file is there, and no file has it
pub own-cell : (cells : ℕ) (kept : Nodes) (own : ℕ) → own < cells → has_file kept own ≡ false →
    (cell : ℕ) → node_cell (new_file own) ≡ Some cell → (cell < cells) × (has_file kept cell ≡ false)
own-cell cells kept own within unused cell e =
    let same : own ≡ cell = cc in
    (subst (λ k. k < cells) same within, subst (λ k. has_file kept k ≡ false) same unused)
