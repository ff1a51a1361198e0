-- What a contract sees of a volume that is mounted: its cells, each home or out at a file, and its record.
use Rattle.std.specs.Prelude.{◌≡◌, ℕ, ◌==◌, ◌≤◌, Bool, true, false, T, not, ◌&&◌, Option, Some, None, List, [], ◌∷◌, length, map, count_by, replicate, is_some, slice_index_or, slice_set, if◌then◌else◌, filter, option_and_then, IfSome}
use Rattle.std.specs.FinMap.Entries.{find as value_at, is_sorted, put}
use Rattle.std.specs.List.{list_all, list_any, position, range_with_len}
use Rattle.vfs_base.specs.Path.{IsPath, Path, path_cmp}
use Rattle.vfs_base.specs.declared.describe.CellNode.{CellNode}
use Rattle.vfs_base.specs.declared.describe.CellNode.TheVariants.{Dir, File}
use Rattle.vfs_base.specs.declared.describe.Counts.{Counts}
use Rattle.vfs_base.specs.declared.limits.TheConstants.{VOLUME_CELLS_MAX}
use Rattle.vfs_outside.specs.Volume.{CellState, IsRecord, VolumeState, file_cells, is_page_count, node_cell}
use Rattle.vfs_model.specs.NameSteps.{is_entry_of, last_name}
use Rattle.cell_volume.specs.declared.cell_entry.CellEntry.{CellEntry}

-- The name, what the device of each cell shows where it is home, and what stands at each path, in the order of paths.
pub record MountedVolume : Type 0 where
  pub name : List ℕ
  pub cells : List (Option CellState)
  pub kept : List (Path × CellNode)

-- a volume all of whose cells are home
abbrev pub mounted : VolumeState → MountedVolume
mounted volume = record { name = volume.name; cells = map Some volume.cells; kept = volume.kept }

-- what a device shows, of which these functions tell
abbrev pub cell_state : {B : Type 0} → (B → ℕ) → (B → Option (List (List ℕ))) → (B → Counts) → B → CellState
cell_state pages contents counts device = record { pages = pages device; contents = contents device; counts = counts device }

-- the volume with this device, or none, home at the cell, if there is such a cell
abbrev pub with_cell : MountedVolume → ℕ → Option CellState → MountedVolume
with_cell volume cell device = record { name = volume.name; cells = slice_set volume.cells cell device; kept = volume.kept }

-- the volume with another record
abbrev pub with_record : MountedVolume → List (Path × CellNode) → MountedVolume
with_record volume kept = record { name = volume.name; cells = volume.cells; kept = kept }

-- the device of the cell, where it is home
abbrev pub device_at : MountedVolume → ℕ → Option CellState
device_at volume cell = slice_index_or volume.cells cell None

-- every device is home
abbrev pub are_home : MountedVolume → Bool
are_home volume = list_all is_some volume.cells

-- a file of the record has the cell
abbrev pub has_file : List (Path × CellNode) → ℕ → Bool
has_file kept cell = list_any (λ other. other == cell) (file_cells kept)

-- the device of a cell that a file of the record has, where it is home
abbrev pub file_device : MountedVolume → ℕ → Option CellState
file_device volume cell = if has_file volume.kept cell then device_at volume cell else None

-- the cell's device is home, and no file of the record has the cell
abbrev pub is_spare : MountedVolume → ℕ → Bool
is_spare volume cell = is_some (device_at volume cell) && not (has_file volume.kept cell)

-- for each cell, whether it is spare
abbrev pub spare_cells : MountedVolume → List Bool
spare_cells volume = map (is_spare volume) (range_with_len 0 (length volume.cells))

-- the least spare cell
abbrev pub least_spare : MountedVolume → Option ℕ
least_spare volume = position (λ spare. spare) (spare_cells volume)

-- how many cells are spare
abbrev pub spare_count : MountedVolume → ℕ
spare_count volume = count_by (λ spare. spare) (spare_cells volume)

-- a node that is a folder
abbrev pub is_dir : CellNode → Bool
is_dir Dir = true
is_dir (File cell size stored) = false

-- a file on the cell, with no bytes and no stored page
abbrev pub new_file : ℕ → CellNode
new_file cell = File cell 0 (replicate 16 0)

-- a file on the cell of the node, of this size and with these pages stored
abbrev pub with_content : CellNode → ℕ → List ℕ → CellNode
with_content Dir size stored = Dir
with_content (File cell old pages) size stored = File cell size stored

-- the record in which the node that was found at the path, if there is one, has this size and these stored pages
abbrev pub with_found : List (Path × CellNode) → Path → ℕ → List ℕ → Option CellNode → List (Path × CellNode)
with_found kept path size stored None = kept
with_found kept path size stored (Some node) = put path_cmp path (with_content node size stored) kept

-- the record in which the file at the path has this size and these stored pages
abbrev pub with_kept : List (Path × CellNode) → Path → ℕ → List ℕ → List (Path × CellNode)
with_kept kept path size stored = with_found kept path size stored (value_at path_cmp path kept)

-- what stands in the record at a path; its root is a folder
abbrev pub node_in : List (Path × CellNode) → Path → Option CellNode
node_in kept [] = Some Dir
node_in kept (name ∷ names) = value_at path_cmp (name ∷ names) kept

-- a file stands at the path
abbrev pub is_file : List (Path × CellNode) → Path → Bool
is_file kept path = is_some (option_and_then node_cell (value_at path_cmp path kept))

-- what is in the folder at the path, in byte order of the names
abbrev pub entries_at : List (Path × CellNode) → Path → List CellEntry
entries_at kept path = map (λ entry. record { name = last_name entry.0; node = entry.1 }) (filter (λ entry. is_entry_of path entry.0) kept)

-- each node stands at a path of names
abbrev pub ArePaths : List (Path × CellNode) → Type 0
ArePaths kept = (path : Path) → is_some (value_at path_cmp path kept) ≡ true → IsPath path

-- what holds of a mounted volume at any time
pub record IsMounted (volume : MountedVolume) : Type 0 where
  pub number : length volume.cells ≤ VOLUME_CELLS_MAX
  pub pages : (cell : ℕ) → IfSome (device_at volume cell) (λ state. is_page_count state.pages ≡ true)
  pub ordered : T (is_sorted path_cmp volume.kept)
  pub recorded : IsRecord (length volume.cells) volume.kept
  pub paths : ArePaths volume.kept
