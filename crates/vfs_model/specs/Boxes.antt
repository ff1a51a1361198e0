-- Where cells and character devices are, and the whole record of what holds between steps.
use Rattle.std.specs.Prelude.{◌≡◌, ℕ, ◌+◌, ◌-◌, ◌*◌, ◌==◌, ◌≤◌, ◌<◌, Bool, true, false, not, ◌&&◌, Option, Some, None, List, [], ◌⊎◌, length, filter, count_by, slice_index_or, if◌then◌else◌}
use Rattle.std.specs.List.{list_any}
use Rattle.vfs_base.specs.declared.kinds.FsType.TheVariants as fs
use Rattle.vfs_base.specs.declared.kinds.Kind.{Kind}
use Rattle.vfs_base.specs.declared.limits.TheConstants.{HOLDS, MOUNTS, ROWS, SESSIONS}
use Rattle.vfs_model.specs.Consistency.{AllDiffer, FoldersStand, IsClosedTree, LivesFit, ReferencesLive, RowsUsed, agrees}
use Rattle.vfs_model.specs.Content.{is_mounted, no_rom, same_type}
use Rattle.vfs_model.specs.FileLife.{backing_of, no_device, volume_at, volume_named}
use Rattle.vfs_model.specs.FileStep.{is_cell}
use Rattle.vfs_model.specs.Lookup.{is_dir_node}
use Rattle.vfs_model.specs.Namespace.{all_mounts, generation_at, life_at, tree_of}
use Rattle.vfs_model.specs.ReferenceSteps.{is_device_kind}
use Rattle.vfs_model.specs.Homes.{cell_bytes, cell_capacity, device_home, file_at, no_home}
use Rattle.vfs_model.specs.declared.namespace.Backing.{Backing}
use Rattle.vfs_model.specs.declared.namespace.Backing.TheVariants as backing
use Rattle.vfs_model.specs.declared.namespace.KeptNode.{KeptNode}
use Rattle.vfs_model.specs.declared.namespace.KeptNode.TheVariants as kept
use Rattle.vfs_model.specs.declared.namespace.LiveFile.{LiveFile}
use Rattle.vfs_model.specs.declared.namespace.Mount.{Mount}
use Rattle.vfs_model.specs.declared.namespace.Namespace.{Namespace}
use Rattle.vfs_model.specs.declared.namespace.RomImage.{RomImage}
use Rattle.vfs_model.specs.declared.namespace.RomNode.{RomNode}
use Rattle.vfs_model.specs.declared.namespace.RomNode.TheVariants as rom
use Rattle.vfs_model.specs.declared.world.FileState.{FileState}
use Rattle.vfs_model.specs.declared.world.FileState.TheVariants as file
use Rattle.vfs_model.specs.declared.world.WorldState.{WorldState}

abbrev pub lies_on_cell : ℕ → ℕ → Backing → Bool
lies_on_cell volume cell backing.Memory = false
lies_on_cell volume cell (backing.Cell other at) = other == volume && at == cell
lies_on_cell volume cell (backing.Device device) = false

abbrev pub lies_on_device : ℕ → Backing → Bool
lies_on_device device backing.Memory = false
lies_on_device device (backing.Cell volume cell) = false
lies_on_device device (backing.Device other) = other == device

abbrev pub is_backed_by : (Backing → Bool) → Option LiveFile → Bool
is_backed_by test None = false
is_backed_by test (Some life) = test life.backing

abbrev pub is_kept_on : ℕ → KeptNode → Bool
is_kept_on cell kept.Dir = false
is_kept_on cell (kept.File other) = other == cell

abbrev pub is_kept_dir : Option KeptNode → Bool
is_kept_dir None = false
is_kept_dir (Some kept.Dir) = true
is_kept_dir (Some (kept.File cell)) = false

abbrev pub one_if : Bool → ℕ
one_if test = if test then 1 else 0

-- how many files have the cell: live ones, and ones that an unmounted volume keeps
abbrev pub cell_files : Namespace → ℕ → ℕ → ℕ
cell_files n volume cell =
    count_by (is_backed_by (lies_on_cell volume cell)) n.live_files + count_by (λ entry. is_kept_on cell entry.1) (volume_at n volume).kept

-- what a live file lies on is that of its kind
abbrev pub fits_kind : Option LiveFile → Bool
fits_kind None = true
fits_kind (Some life) = has_backing life.kind life.backing
  where
    has_backing : Kind → Backing → Bool
    has_backing kind backing.Memory = not (is_cell kind) && not (is_device_kind kind)
    has_backing kind (backing.Cell volume cell) = is_cell kind
    has_backing kind (backing.Device device) = is_device_kind kind

abbrev pub is_cell_mount : Mount → Bool
is_cell_mount mount = same_type mount.fs fs.Cell

-- each cell is spare or belongs to exactly one file, and a device is out exactly where a row has it
pub record BoxesPlaced (n : Namespace) : Type 0 where
  pub cells : (volume cell : ℕ) → volume < length n.volumes → cell < length (volume_at n volume).pages →
      cell_files n volume cell + one_if (slice_index_or (volume_at n volume).spare cell false) ≡ 1
  pub spares : (volume : ℕ) → length (volume_at n volume).spare ≡ length (volume_at n volume).pages
  pub devices : (device : ℕ) → device < length n.devices →
      count_by (is_backed_by (lies_on_device device)) n.live_files ≡ one_if (slice_index_or n.devices device no_device).is_out
  pub kinds : (row : ℕ) → fits_kind (life_at n row) ≡ true
  pub mounted : (volume : ℕ) → is_mounted n fs.Cell (volume_at n volume).name ≡ true → (volume_at n volume).kept ≡ []
  pub kept : (volume : ℕ) → IsClosedTree is_kept_dir (volume_at n volume).kept
  -- a volume is mounted once
  pub sources_differ : AllDiffer (λ mount. mount.source) (filter is_cell_mount (all_mounts n))
  -- the source of each cell mount is the name of a volume
  pub sources : (place : ℕ) (d : Mount) → place < length (all_mounts n) → is_cell_mount (slice_index_or (all_mounts n) place d) ≡ true →
      volume_named n (slice_index_or (all_mounts n) place d).source < length n.volumes
  -- of volumes with one name, which no description has, the first alone is ever mounted
  pub named : (volume : ℕ) → ((volume_at n volume).kept ≡ []) ⊎ (volume_named n (volume_at n volume).name ≡ volume)

abbrev pub is_rom_dir : Option RomNode → Bool
is_rom_dir None = false
is_rom_dir (Some rom.Dir) = true
is_rom_dir (Some (rom.File bytes)) = false

-- each rom is a tree of folders and files, as each manifest in its form means one
abbrev pub RomsClosed : List RomImage → Type 0
RomsClosed roms = (place : ℕ) → IsClosedTree is_rom_dir (slice_index_or roms place no_rom).nodes

-- the bytes that a file can have, where it is a file of bytes
abbrev pub file_capacity : FileState → ℕ
file_capacity (file.Unbound generation) = 0
file_capacity (file.Bytes generation kind capacity bytes) = capacity
file_capacity (file.Device generation input output) = 0

-- what lies on a cell, by a live file or at home, is no longer than the cell
pub record CellsFit (w : WorldState) : Type 0 where
  pub live : (row volume cell : ℕ) → backing_of (life_at w.namespace row) ≡ backing.Cell volume cell →
      file_capacity (file_at w row) ≤ cell_capacity w.namespace volume cell
  pub home : (volume cell : ℕ) → length (cell_bytes w.homes volume cell) ≤ cell_capacity w.namespace volume cell

-- What lies at home: each cell and each device of the namespace has its place. A cell has bytes at home only where an
-- unmounted volume keeps a file on it, and a device that is out has nothing at home.
pub record HomesFit (w : WorldState) : Type 0 where
  pub volumes : length w.homes.cells ≡ length w.namespace.volumes
  pub cells : (volume : ℕ) → length (slice_index_or w.homes.cells volume []) ≡ length (volume_at w.namespace volume).pages
  pub devices : length w.homes.devices ≡ length w.namespace.devices
  pub kept : (volume cell : ℕ) → list_any (λ entry. is_kept_on cell entry.1) (volume_at w.namespace volume).kept ≡ false → cell_bytes w.homes volume cell ≡ []
  pub out : (device : ℕ) → (slice_index_or w.namespace.devices device no_device).is_out ≡ true → device_home w.homes device ≡ no_home

-- how many places the lists of a world have
pub record HasSizes (w : WorldState) : Type 0 where
  pub files : length w.files ≡ ROWS
  pub live_files : length w.namespace.live_files ≡ ROWS
  pub generations : length w.namespace.generations ≡ ROWS
  pub trees : length w.namespace.trees ≡ MOUNTS
  pub working_directories : length w.namespace.working_directories ≡ SESSIONS
  pub mounts : length w.namespace.mounts ≤ MOUNTS - 1

-- what holds of the world between steps
pub record IsConsistent (w : WorldState) : Type 0 where
  -- each row's file is the live one, and has the row's generation
  pub rows_agree : (row : ℕ) → agrees (life_at w.namespace row) (generation_at w.namespace row) (file_at w row) ≡ true
  pub references_live : ReferencesLive w.namespace
  pub rows_used : RowsUsed w.namespace
  -- each session has a place for each of its references
  pub references_bounded : length w.namespace.references ≡ SESSIONS * HOLDS
  pub folders_stand : FoldersStand w.namespace
  pub trees_closed : (number : ℕ) → IsClosedTree is_dir_node (tree_of w.namespace number)
  pub boxes_placed : BoxesPlaced w.namespace
  pub live_files_fit : LivesFit w.namespace
  pub cells_fit : CellsFit w
  pub homes_fit : HomesFit w
  pub roms_closed : RomsClosed w.namespace.roms
  pub sizes : HasSizes w
