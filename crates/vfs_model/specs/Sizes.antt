-- How many items the lists of a namespace have, and how long a folder is that a step tells.
use Rattle.std.specs.Prelude.{◌≡◌, ℕ, ◌≤◌, Bool, true, false, Ok, List, [], length, slice_index_or}
use Rattle.vfs_base.specs.Path.{AllAre, printed}
use Rattle.vfs_base.specs.declared.describe.Describe.{Describe}
use Rattle.vfs_base.specs.declared.describe.VolumeShape.{VolumeShape}
use Rattle.vfs_base.specs.declared.entry.Mark.{Mark}
use Rattle.vfs_base.specs.declared.reply.Reply.{Reply}
use Rattle.vfs_base.specs.declared.reply.Reply.TheVariants as reply
use Rattle.vfs_base.specs.declared.step.Step.{Step}
use Rattle.vfs_base.specs.declared.step.Step.TheVariants as step
use Rattle.vfs_model.specs.Consistency.{is_number}
use Rattle.vfs_model.specs.Content.{no_rom}
use Rattle.vfs_model.specs.FileLife.{volume_at}
use Rattle.vfs_model.specs.Namespace.{folder_of, opening_namespace, tree_of}
use Rattle.vfs_model.specs.NamespaceOutcome.{NamespaceOutcome}
use Rattle.vfs_model.specs.NamespaceStep.{namespace_answer, namespace_step}
use Rattle.vfs_model.specs.StepForms.{TellsFolder}
use Rattle.vfs_model.specs.declared.namespace.Namespace.{Namespace}
use Rattle.vfs_model.specs.declared.namespace.RomImage.{RomImage}

-- what code needs to number and to count what a namespace has
pub record IsSized (n : Namespace) : Type 0 where
  pub live_files : length n.live_files ≡ 1024
  pub generations : length n.generations ≡ 1024
  pub references : length n.references ≤ 256
  pub working_directories : length n.working_directories ≤ 8
  pub short : (k : ℕ) → length (printed (folder_of n k)) ≤ 1024
  pub mounts : length n.mounts ≤ 15
  pub places : length n.trees ≡ 16
  pub trees : (number : ℕ) → length (tree_of n number) ≤ 4096
  pub spares : (volume : ℕ) → length (volume_at n volume).spare ≤ 1024
  pub pages : (volume : ℕ) → length (volume_at n volume).pages ≤ 1024
  pub kept : (volume : ℕ) → length (volume_at n volume).kept ≤ 4096
  pub roms : (place : ℕ) → length (slice_index_or n.roms place no_rom).nodes ≤ 4096
  -- a number that no mount has is that of an empty tree
  pub unused : (number : ℕ) → is_number n number ≡ false → tree_of n number ≡ []

-- a step that is answered makes no list of the namespace longer than it may be
abbrev pub StepKeepsSizes : Type 0
StepKeepsSizes = (n : Namespace) (k : ℕ) (asked : Step) (outcome : NamespaceOutcome) → IsSized n →
    namespace_answer n k asked ≡ Ok outcome → IsSized outcome.next

-- nor does a step under a mark, or the end
abbrev pub MarkedStepKeepsSizes : Type 0
MarkedStepKeepsSizes = (n : Namespace) (k : ℕ) (asked : Step) (m : Mark) → IsSized n → IsSized (namespace_step n k asked m).next

-- a rom has no more nodes than a file system may have
abbrev pub IsSmallRom : RomImage → Type 0
IsSmallRom image = length image.nodes ≤ 4096

-- a volume has no more cells than it may have
abbrev pub HasFewCells : VolumeShape → Type 0
HasFewCells shape = length shape.pages ≤ 1024

-- the namespace at the start has the sizes that steps keep, where no rom and no volume is too large
abbrev pub OpeningIsSized : Type 0
OpeningIsSized = (roms : List RomImage) (describe : Describe) → AllAre IsSmallRom roms → AllAre HasFewCells describe.volumes →
    IsSized (opening_namespace roms describe)

-- the reply tells a folder alone
abbrev pub is_at : Reply → Bool
is_at (reply.At path) = true
is_at _ = false

-- the steps that tell a folder
abbrev pub tells_folder : Step → Bool
tells_folder (step.Chdir path) = true
tells_folder step.Cwd = true
tells_folder _ = false

-- only Chdir and Cwd tell a folder, and its printed path is not too long
pub record TellsShortFolder (asked : Step) (answer : Reply) : Type 0 where
  pub short : TellsFolder answer
  pub only : tells_folder asked ≡ false → is_at answer ≡ false

abbrev pub TellsShortFolders : Type 0
TellsShortFolders = (n : Namespace) (k : ℕ) (asked : Step) (m : Mark) → IsSized n → TellsShortFolder asked (namespace_step n k asked m).reply
