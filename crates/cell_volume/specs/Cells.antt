-- How the cells of a mounted volume are laid out.
use Rattle.std.specs.Prelude.{◌≡◌, ℕ, ◌≤◌, ◌<◌, Bool, true, false, not, ◌&&◌, Option, Some, None, List, [], length, map, is_some, option_map, slice_index_or, slice_set}
use Rattle.vfs_base.specs.Path.{Path}
use Rattle.vfs_base.specs.declared.describe.CellNode.{CellNode}
use Rattle.vfs_base.specs.declared.describe.CellNode.TheVariants.{Dir, File}
use Rattle.vfs_base.specs.declared.describe.Counts.{Counts}
use Rattle.vfs_outside.specs.Volume.{CellState}
use Rattle.cell_volume.specs.MountedVolume.{IsMounted, MountedVolume, cell_state, has_file}
use Rattle.cell_volume.specs.declared.cells.Cell.{Cell}

module _ {B : Type 0} where
  -- what a contract sees of a cell, of whose device these functions tell
  abbrev pub state_of : (B → ℕ) → (B → Option (List (List ℕ))) → (B → Counts) → Cell B → Option CellState
  state_of pages contents counts cell = option_map (cell_state pages contents counts) cell.device

  -- what a contract sees of the cells
  abbrev pub states_of : (B → ℕ) → (B → Option (List (List ℕ))) → (B → Counts) → List (Cell B) → List (Option CellState)
  states_of pages contents counts cells = map (state_of pages contents counts) cells

  -- a cell whose device is home, and that no file has
  abbrev pub new_cell : B → Cell B
  new_cell device = record { device = Some device; has_file = false }

  abbrev pub is_spare_cell : Cell B → Bool
  is_spare_cell cell = is_some cell.device && not cell.has_file

  -- the cell at the place; past the end none is home, and no file has it
  abbrev pub cell_at : List (Cell B) → ℕ → Cell B
  cell_at cells place = slice_index_or cells place (record { device = None; has_file = false })

  -- the cells with this device, or none, at the place, if there is such a place
  abbrev pub with_device : List (Cell B) → ℕ → Option B → List (Cell B)
  with_device cells place device = slice_set cells place (record { device = device; has_file = (cell_at cells place).has_file })

  -- the cells, of which a file has the one at the place, or none has it
  abbrev pub with_mark : List (Cell B) → ℕ → Bool → List (Cell B)
  with_mark cells place has_file = slice_set cells place (record { device = (cell_at cells place).device; has_file = has_file })

  -- the cell, which no file has
  abbrev pub without_mark : Cell B → Cell B
  without_mark cell = record { device = cell.device; has_file = false }

  -- the same for the cell of a node, if it is a file
  abbrev pub with_mark_of : List (Cell B) → CellNode → Bool → List (Cell B)
  with_mark_of cells Dir has_file = cells
  with_mark_of cells (File cell size stored) has_file = with_mark cells cell has_file

  -- the cell of the node, if it is a file, is there and marked
  abbrev pub MarksNode : List (Cell B) → CellNode → Type 0
  MarksNode cells Dir = Unit {0}
  MarksNode cells (File cell size stored) = (cell < length cells) × ((cell_at cells cell).has_file ≡ true)

  -- a cell's mark says whether a file of the record has it
  abbrev pub MarksFiles : List (Cell B) → List (Path × CellNode) → Type 0
  MarksFiles cells kept = (place : ℕ) → place < length cells → (cell_at cells place).has_file ≡ has_file kept place

  -- A mounted volume as it is laid out: each cell has its mark, and there is memory for all devices.
  pub record IsLaidOut (volume : MountedVolume) (cells : List (Cell B)) (room : List B) (memory : ℕ) : Type 0 where
    pub mounted : IsMounted volume
    pub marks : MarksFiles cells volume.kept
    pub empty : room ≡ []
    pub reserved : length cells ≤ memory
