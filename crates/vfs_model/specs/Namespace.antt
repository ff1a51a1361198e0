-- The parts of the plain namespace by number, and the opening one.
use Rattle.std.specs.Prelude.{ℕ, ◌+◌, ◌-◌, ◌*◌, Bool, true, false, Option, None, List, [], ◌∷◌, length, map, replicate, codes, slice_index_or, slice_set, slice_range}
use Rattle.std.specs.Cmp.Lexicographic.{pointwise}
use Rattle.std.specs.Prelude.{nat_eq}
use Rattle.vfs_base.specs.Path.{Path}
use Rattle.vfs_base.specs.declared.describe.CharsShape.{CharsShape}
use Rattle.vfs_base.specs.declared.describe.Describe.{Describe}
use Rattle.vfs_base.specs.declared.describe.VolumeShape.{VolumeShape}
use Rattle.vfs_base.specs.declared.ids.FileId.{FileId}
use Rattle.vfs_base.specs.declared.kinds.FsType.TheVariants as fs
use Rattle.vfs_base.specs.declared.kinds.NodeKind.{NodeKind}
use Rattle.vfs_base.specs.declared.limits.TheConstants.{HOLDS, MOUNTS, ROWS, SESSIONS}
use Rattle.vfs_model.specs.declared.namespace.DeviceState.{DeviceState}
use Rattle.vfs_model.specs.declared.namespace.LiveFile.{LiveFile}
use Rattle.vfs_model.specs.declared.namespace.Mount.{Mount}
use Rattle.vfs_model.specs.declared.namespace.Namespace.{Namespace}
use Rattle.vfs_model.specs.declared.namespace.Reference.{Reference}
use Rattle.vfs_model.specs.declared.namespace.RomImage.{RomImage}
use Rattle.vfs_model.specs.declared.namespace.VolumeState.{VolumeState}

-- what stands at each path of a file system, in the order of paths
abbrev pub Tree : Type 0
Tree = List (Path × NodeKind)

-- the texts are the same
abbrev pub same_bytes : List ℕ → List ℕ → Bool
same_bytes a b = pointwise nat_eq a b

-- the paths are the same
abbrev pub same_path : Path → Path → Bool
same_path p q = pointwise (pointwise nat_eq) p q

-- all mounts, in the order of mounting: `/` comes first
abbrev pub all_mounts : Namespace → List Mount
all_mounts n = n.root ∷ n.mounts

-- the tree of the mount with this number
abbrev pub tree_of : Namespace → ℕ → Tree
tree_of n number = slice_index_or n.trees number []

-- the live file of a row; rows are counted from 1
abbrev pub life_at : Namespace → ℕ → Option LiveFile
life_at n row = slice_index_or n.live_files (row - 1) None

-- the generation of a row
abbrev pub generation_at : Namespace → ℕ → ℕ
generation_at n row = slice_index_or n.generations (row - 1) 0

-- the file that a row has, or had last
abbrev pub file_of : Namespace → ℕ → FileId
file_of n row = record { row = row; generation = generation_at n row }

-- the working directory of a session; sessions are counted from 1
abbrev pub folder_of : Namespace → ℕ → Path
folder_of n k = slice_index_or n.working_directories (k - 1) []

-- the working directory of a session is the path
abbrev pub with_folder_of : Namespace → ℕ → Path → Namespace
with_folder_of n k path = record n { working_directories = slice_set n.working_directories (k - 1) path }

-- the references of a session by number, from 1 to 32
abbrev pub references_of : Namespace → ℕ → List (Option Reference)
references_of n k = slice_range n.references (HOLDS * (k - 1)) (HOLDS * k)

-- what stands at a number of a session's references
abbrev pub with_reference : Namespace → ℕ → ℕ → Option Reference → Namespace
with_reference n k number reference = record n { references = slice_set n.references (HOLDS * (k - 1) + (number - 1)) reference }

-- the mount of `/`: in memory, with the source word `none`
abbrev pub root_mount : Mount
root_mount = record { number = 0; point = []; fs = fs.Tmp; source = codes "none" }

-- a formatted volume: no names, and all cells spare
abbrev pub opening_volume : VolumeShape → VolumeState
opening_volume shape = record { name = shape.name; pages = shape.pages; spare = replicate (length shape.pages) true; kept = [] }

abbrev pub opening_device : CharsShape → DeviceState
opening_device shape = record { name = shape.name; is_out = false }

-- `/` without nodes, each session in `/`, all rows free with generation 0, and nothing mounted
unfoldable pub opening_namespace : List RomImage → Describe → Namespace
opening_namespace roms describe = record {
  root = root_mount;
  mounts = [];
  trees = replicate MOUNTS [];
  live_files = replicate ROWS None;
  generations = replicate ROWS 0;
  references = replicate (SESSIONS * HOLDS) None;
  working_directories = replicate SESSIONS [];
  volumes = map opening_volume describe.volumes;
  roms = roms;
  devices = map opening_device describe.chars;
  is_stopped = false;
}
