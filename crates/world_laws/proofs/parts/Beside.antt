-- What holds of a namespace stays where other parts of it change.
use Rattle.std.proofs.Common.{ℕ, Option, List}
use Rattle.vfs_base.specs.Path.{Path}
use Rattle.vfs_base.specs.declared.ids.FileId.{FileId}
use Rattle.vfs_base.specs.declared.kinds.Kind.{Kind}
use Rattle.vfs_model.specs.Boxes.{BoxesPlaced}
use Rattle.vfs_model.specs.Consistency.{FoldersStand, IsLive, LivesFit, ReferencesLive}
use Rattle.vfs_model.specs.Lookup.{covering_mount, node_at}
use Rattle.vfs_model.specs.Namespace.{Tree}
use Rattle.vfs_model.specs.declared.namespace.DeviceState.{DeviceState}
use Rattle.vfs_model.specs.declared.namespace.LiveFile.{LiveFile}
use Rattle.vfs_model.specs.declared.namespace.Namespace.{Namespace}
use Rattle.vfs_model.specs.declared.namespace.Reference.{Reference}
use Rattle.vfs_model.specs.declared.namespace.VolumeState.{VolumeState}

-- cells and devices do not hang on trees, folders, references and generations
pub boxes-beside : (n : Namespace) (trees : List Tree) (working_directories : List Path) (references : List (Option Reference)) (generations : List ℕ) →
    BoxesPlaced n → BoxesPlaced (record n { trees = trees; working_directories = working_directories; references = references; generations = generations })
boxes-beside n trees working_directories references generations boxes = record {
  cells = boxes.cells;
  spares = boxes.spares;
  devices = boxes.devices;
  kinds = boxes.kinds;
  mounted = boxes.mounted;
  kept = boxes.kept;
  sources_differ = boxes.sources_differ;
  sources = boxes.sources;
  named = boxes.named;
}

-- points and working directories do not hang on rows, references, volumes and devices
pub working_directories-beside : (n : Namespace) (live_files : List (Option LiveFile)) (generations : List ℕ) (references : List (Option Reference)) (volumes : List VolumeState) (devices : List DeviceState) →
    FoldersStand n → FoldersStand (record n { live_files = live_files; generations = generations; references = references; volumes = volumes; devices = devices })
unfolding node_at covering_mount
working_directories-beside n live_files generations references volumes devices f = record {
  working_directories = f.working_directories;
  short = f.short;
  root = f.root;
  points = f.points;
  points_differ = f.points_differ;
  numbers_differ = f.numbers_differ;
  numbers = f.numbers;
  nested = f.nested;
  unused = f.unused;
}

-- that a file lives hangs on lives and generations alone
pub alive-beside : (n m : Namespace) (id : FileId) (kind : Kind) (number : ℕ) →
    IsLive n id kind number → IsLive (record m { live_files = n.live_files; generations = n.generations }) id kind number
alive-beside n m id kind number live = record { row = live.row; generation = live.generation; life = live.life }

-- names and references do not hang on folders, volumes and devices
pub live-beside : (n : Namespace) (working_directories : List Path) (volumes : List VolumeState) (devices : List DeviceState) →
    ReferencesLive n → ReferencesLive (record n { working_directories = working_directories; volumes = volumes; devices = devices })
live-beside n working_directories volumes devices live = record {
  linked = λ number path id kind h. alive-beside n (record n { working_directories = working_directories; volumes = volumes; devices = devices }) id kind number (live.linked number path id kind h);
  held = λ place reference h. (alive-beside n (record n { working_directories = working_directories; volumes = volumes; devices = devices }) reference.file reference.kind reference.mount (live.held place reference h).0, (live.held place reference h).1);
}

-- live files and their mounts do not hang on trees, folders, references, generations and devices
pub live_files-beside : (n : Namespace) (trees : List Tree) (working_directories : List Path) (references : List (Option Reference)) (generations : List ℕ) (devices : List DeviceState) →
    LivesFit n → LivesFit (record n { trees = trees; working_directories = working_directories; references = references; generations = generations; devices = devices })
live_files-beside n trees working_directories references generations devices fit = fit
