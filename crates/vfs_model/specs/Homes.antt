-- What rows become and what comes home: the plain world at the start, and its changes of rows.
use Rattle.std.specs.Prelude.{ℕ, ◌-◌, ◌*◌, Option, Some, None, unwrap_or, List, [], length, map, replicate, slice_index_or, slice_set}
use Rattle.std.specs.FinMap.Entries.{find as value_at}
use Rattle.vfs_base.specs.Path.{Path, path_cmp}
use Rattle.vfs_base.specs.declared.describe.CharsShape.{CharsShape}
use Rattle.vfs_base.specs.declared.describe.Describe.{Describe}
use Rattle.vfs_base.specs.declared.describe.VolumeShape.{VolumeShape}
use Rattle.vfs_base.specs.declared.kinds.Kind.TheVariants as kind
use Rattle.vfs_base.specs.declared.limits.TheConstants.{PAGE_SIZE, ROWS, TMP_FILE_MAX}
use Rattle.vfs_model.specs.Content.{no_rom}
use Rattle.vfs_model.specs.FileLife.{volume_at}
use Rattle.vfs_model.specs.Namespace.{opening_namespace}
use Rattle.vfs_model.specs.declared.namespace.End.{End}
use Rattle.vfs_model.specs.declared.namespace.End.TheVariants as end
use Rattle.vfs_model.specs.declared.namespace.Namespace.{Namespace}
use Rattle.vfs_model.specs.declared.namespace.Origin.{Origin}
use Rattle.vfs_model.specs.declared.namespace.Origin.TheVariants as origin
use Rattle.vfs_model.specs.declared.namespace.RomImage.{RomImage}
use Rattle.vfs_model.specs.declared.namespace.RomNode.{RomNode}
use Rattle.vfs_model.specs.declared.namespace.RomNode.TheVariants as rom
use Rattle.vfs_model.specs.declared.namespace.RowChange.{RowChange}
use Rattle.vfs_model.specs.declared.namespace.RowChange.TheVariants as change
use Rattle.vfs_model.specs.declared.world.DeviceHome.{DeviceHome}
use Rattle.vfs_model.specs.declared.world.FileState.{FileState}
use Rattle.vfs_model.specs.declared.world.FileState.TheVariants as file
use Rattle.vfs_model.specs.declared.world.Homes.{Homes}
use Rattle.vfs_model.specs.declared.world.WorldState.{WorldState}

-- a character device at home, with its input; a device that does not tell it counts as one without
abbrev pub opening_home : CharsShape → DeviceHome
opening_home shape = record { input = unwrap_or shape.input []; output = [] }

-- a formatted volume has no file on any cell
abbrev pub empty_cells : VolumeShape → List (List ℕ)
empty_cells shape = replicate (length shape.pages) []

-- the world at the start
unfoldable pub opening_world : List RomImage → Describe → WorldState
opening_world roms describe = record {
  namespace = opening_namespace roms describe;
  files = replicate ROWS (file.Unbound 0);
  homes = record { cells = map empty_cells describe.volumes; devices = map opening_home describe.chars };
}

-- the file of a row
abbrev pub file_at : WorldState → ℕ → FileState
file_at w row = slice_index_or w.files (row - 1) (file.Unbound 0)

abbrev pub with_file : WorldState → ℕ → FileState → WorldState
with_file w row f = record w { files = slice_set w.files (row - 1) f }

-- the bytes that lie at home on a cell
abbrev pub cell_bytes : Homes → ℕ → ℕ → List ℕ
cell_bytes homes volume cell = slice_index_or (slice_index_or homes.cells volume []) cell []

abbrev pub with_cell_bytes : Homes → ℕ → ℕ → List ℕ → Homes
with_cell_bytes homes volume cell bytes =
    record homes { cells = slice_set homes.cells volume (slice_set (slice_index_or homes.cells volume []) cell bytes) }

abbrev pub no_home : DeviceHome
no_home = record { input = []; output = [] }

abbrev pub device_home : Homes → ℕ → DeviceHome
device_home homes device = slice_index_or homes.devices device no_home

abbrev pub with_device_home : Homes → ℕ → DeviceHome → Homes
with_device_home homes device home = record homes { devices = slice_set homes.devices device home }

abbrev pub rom_node_bytes : Option RomNode → List ℕ
rom_node_bytes None = []
rom_node_bytes (Some rom.Dir) = []
rom_node_bytes (Some (rom.File bytes)) = bytes

-- the bytes of a rom's file
abbrev pub rom_bytes : Namespace → ℕ → Path → List ℕ
rom_bytes n place path = rom_node_bytes (value_at path_cmp path (slice_index_or n.roms place no_rom).nodes)

-- the bytes that a cell can hold
abbrev pub cell_capacity : Namespace → ℕ → ℕ → ℕ
cell_capacity n volume cell = PAGE_SIZE * slice_index_or (volume_at n volume).pages cell 0

-- the file that a row becomes
abbrev pub bound_file : WorldState → ℕ → Origin → FileState
bound_file w generation origin.Empty = file.Bytes generation kind.Tmp TMP_FILE_MAX []
bound_file w generation (origin.Rom place path) =
    let bytes = rom_bytes w.namespace place path in
    file.Bytes generation kind.Rom (length bytes) bytes
bound_file w generation (origin.Cell volume cell) =
    file.Bytes generation kind.Cell (cell_capacity w.namespace volume cell) (cell_bytes w.homes volume cell)
bound_file w generation (origin.NewCell volume cell) = file.Bytes generation kind.Cell (cell_capacity w.namespace volume cell) []
bound_file w generation (origin.Device device) =
    let home = device_home w.homes device in
    file.Device generation home.input home.output

-- what is at home after a row has taken what it begins with
abbrev pub homes_after_bind : Homes → Origin → Homes
homes_after_bind homes origin.Empty = homes
homes_after_bind homes (origin.Rom place path) = homes
homes_after_bind homes (origin.Cell volume cell) = with_cell_bytes homes volume cell []
homes_after_bind homes (origin.NewCell volume cell) = homes
homes_after_bind homes (origin.Device device) = with_device_home homes device no_home

abbrev pub bytes_of : FileState → List ℕ
bytes_of (file.Unbound generation) = []
bytes_of (file.Bytes generation kind capacity bytes) = bytes
bytes_of (file.Device generation input output) = []

abbrev pub home_of : FileState → DeviceHome
home_of (file.Unbound generation) = no_home
home_of (file.Bytes generation kind capacity bytes) = no_home
home_of (file.Device generation input output) = record { input = input; output = output }

-- what is at home after a file has come to its end
abbrev pub homes_after_end : Homes → FileState → End → Homes
homes_after_end homes f end.Nothing = homes
homes_after_end homes f (end.Spare volume cell) = homes
homes_after_end homes f (end.Kept volume cell) = with_cell_bytes homes volume cell (bytes_of f)
homes_after_end homes f (end.Device device) = with_device_home homes device (home_of f)

-- one change of a row
abbrev pub change_row : WorldState → RowChange → WorldState
change_row w (change.Bind bound begins) =
    record (with_file w bound.row (bound_file w bound.generation begins)) { homes = homes_after_bind w.homes begins }
change_row w (change.Free freed ending) =
    record (with_file w freed.row (file.Unbound freed.generation)) { homes = homes_after_end w.homes (file_at w freed.row) ending }

-- no bytes lie on the cells of a volume
abbrev pub with_empty_cells : Homes → ℕ → Homes
with_empty_cells homes volume =
    let emptied : List (List ℕ) = map (λ bytes. []) (slice_index_or homes.cells volume []) in
    record homes { cells = slice_set homes.cells volume emptied }
