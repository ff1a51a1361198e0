-- What a contract sees of a volume and of a character device that are handed in.
use Rattle.std.specs.Prelude.{◌≡◌, ◌≢◌, ℕ, ◌-◌, ◌^◌, ◌≤◌, ◌<◌, ◌⊎◌, ◌&&◌, Bool, true, Option, Some, None, List, [], ◌∷◌, ◌++◌, length, map, min, sum_by, nat_le, filter_map, option_map, All, AllPairs, Contains}
use Rattle.std.specs.List.{list_all}
use Rattle.vfs_base.specs.Path.{Path}
use Rattle.vfs_base.specs.declared.describe.CellNode.{CellNode}
use Rattle.vfs_base.specs.declared.describe.CellNode.TheVariants.{Dir, File}
use Rattle.vfs_base.specs.declared.describe.CharsShape.{CharsShape}
use Rattle.vfs_base.specs.declared.describe.Counts.{Counts}
use Rattle.vfs_base.specs.declared.describe.VolumeShape.{VolumeShape}
use Rattle.vfs_base.specs.declared.limits.TheConstants.{CELL_PAGES_MAX, NODES, VOLUME_CELLS_MAX}
use Rattle.vfs_outside.specs.CallCount.{count_sum}
use Rattle.vfs_outside.specs.Chars.{CharsContents}

-- A cell: how many pages its block device has, what they hold where it tells that, and how often it was called.
pub record CellState : Type 0 where
  pub pages : ℕ
  pub contents : Option (List (List ℕ))
  pub counts : Counts

-- A volume: its name, its cells, and its record: what stands at each path while it is not mounted, in the order of paths.
pub record VolumeState : Type 0 where
  pub name : List ℕ
  pub cells : List CellState
  pub kept : List (Path × CellNode)

-- A character device: its name, what it tells of its input and output, and its faults.
pub record CharsState : Type 0 where
  pub name : List ℕ
  pub contents : Option CharsContents
  pub faults : ℕ

-- a cell may have so many pages
abbrev pub is_page_count : ℕ → Bool
is_page_count pages = nat_le 1 pages && nat_le pages CELL_PAGES_MAX

-- a volume may have cells of so many pages
abbrev pub are_cells : List ℕ → Bool
are_cells pages = nat_le (length pages) VOLUME_CELLS_MAX && list_all is_page_count pages

-- the cell that the node occupies
abbrev pub node_cell : CellNode → Option ℕ
node_cell Dir = None
node_cell (File cell size stored) = Some cell

-- the cells that files occupy
abbrev pub file_cells : List (Path × CellNode) → List ℕ
file_cells kept = filter_map (λ entry. node_cell entry.1) kept

-- the root, or a folder of the record
abbrev pub IsFolder : List (Path × CellNode) → Path → Type 0
IsFolder kept path = (path ≡ []) ⊎ Contains kept (path, Dir)

-- A record over so many cells: a tree that is not too large, in which each parent is a folder and each file has a cell for itself.
pub record IsRecord (cells : ℕ) (kept : List (Path × CellNode)) : Type 0 where
  pub bounded : length kept ≤ NODES
  pub rootless : (node : CellNode) → Contains kept ([], node) → ⊥
  pub parents : (front : Path) (name : List ℕ) (node : CellNode) → Contains kept (front ++ name ∷ [], node) → IsFolder kept front
  pub on_cells : All (λ cell. cell < cells) (file_cells kept)
  pub own_cells : AllPairs ◌≢◌ (file_cells kept)

-- cells of these block devices, of which these functions tell
abbrev pub cell_states : {B : Type 0} → (B → ℕ) → (B → Option (List (List ℕ))) → (B → Counts) → List B → List CellState
cell_states pages contents counts cells =
    map (λ cell. record { pages = pages cell; contents = contents cell; counts = counts cell }) cells

-- a volume that keeps nothing
abbrev pub empty_volume : List ℕ → List CellState → VolumeState
empty_volume name cells = record { name = name; cells = cells; kept = [] }

-- what holds of each volume
pub record IsVolume (volume : VolumeState) : Type 0 where
  pub cells : are_cells (map (λ cell. cell.pages) volume.cells) ≡ true
  pub kept : IsRecord (length volume.cells) volume.kept

-- what the volume shows of itself
abbrev pub volume_shape : VolumeState → VolumeShape
volume_shape volume = record { name = volume.name; pages = map (λ cell. cell.pages) volume.cells }

-- what the character device shows of itself
abbrev pub chars_shape : CharsState → CharsShape
chars_shape device = record { name = device.name; input = option_map (λ told. told.input) device.contents }

-- the sum, where a u64 holds it
abbrev pub total : (Counts → ℕ) → List Counts → ℕ
total count counts = min (sum_by count counts) (2 ^ 64 - 1)

-- the sum of each count
abbrev pub total_counts : List Counts → Counts
total_counts counts = record {
  reads = total (λ c. c.reads) counts;
  writes = total (λ c. c.writes) counts;
  faults = total (λ c. c.faults) counts;
}

-- the calls of the one and of the other
abbrev pub counts_sum : Counts → Counts → Counts
counts_sum counts more = record {
  reads = count_sum counts.reads more.reads;
  writes = count_sum counts.writes more.writes;
  faults = count_sum counts.faults more.faults;
}

-- how often the cells of the volume were called, all together
abbrev pub volume_counts : VolumeState → Counts
volume_counts volume = total_counts (map (λ cell. cell.counts) volume.cells)
