-- The commands of mounts and devices.
use Rattle.std.specs.Prelude.{ℕ, Bool, true, false, Option, Some, None, List, [], ◌∷◌, ◌++◌, codes, decimal, if◌then◌else◌}
use Rattle.std.specs.List.{flat_map}
use Rattle.vfs_base.specs.Path.{printed}
use Rattle.vfs_base.specs.declared.ids.FileId.{FileId}
use Rattle.vfs_base.specs.declared.kinds.DeviceClass.{DeviceClass}
use Rattle.vfs_base.specs.declared.kinds.DeviceClass.TheVariants as class
use Rattle.vfs_base.specs.declared.kinds.FsType.{FsType}
use Rattle.vfs_base.specs.declared.kinds.FsType.TheVariants as fs
use Rattle.vfs_base.specs.declared.reply.DeviceLine.{DeviceLine}
use Rattle.vfs_base.specs.declared.reply.HolderLine.{HolderLine}
use Rattle.vfs_base.specs.declared.reply.HolderPlace.{HolderPlace}
use Rattle.vfs_base.specs.declared.reply.HolderPlace.TheVariants as place
use Rattle.vfs_base.specs.declared.reply.MountLine.{MountLine}
use Rattle.vfs_base.specs.declared.reply.Reply.{Reply}
use Rattle.vfs_base.specs.declared.reply.Reply.TheVariants as reply
use Rattle.vfs_base.specs.declared.step.Step.TheVariants as step
use Rattle.vfs_model.specs.CommandText.{error_line, fails, line}
use Rattle.vfs_model.specs.CommandWords.{no_word, one_word, same_word, three_words}
use Rattle.vfs_model.specs.FolderCommands.{is_absent, one_step}
use Rattle.vfs_model.specs.Talk.{Talk, ask, shows}

abbrev pub mount : List (List ℕ) → Talk
mount words =
    three_words (codes "mount SOURCE POINT TYPE") (λ source point fs. one_step (codes "mount") point (step.Mount source point fs)) words

abbrev pub umount : List (List ℕ) → Talk
umount words = one_word (codes "umount POINT") (λ point. one_step (codes "umount") point (step.Umount point)) words

abbrev pub mkfs : List (List ℕ) → Talk
mkfs words = one_word (codes "mkfs VOLUME") (λ name. one_step (codes "mkfs") name (step.Mkfs name)) words

-- the words with a space between them
abbrev pub spaced : List ℕ → List (List ℕ) → List ℕ
spaced word [] = word
spaced word (next ∷ words) = word ++ codes " " ++ spaced next words

abbrev pub type_name : FsType → List ℕ
type_name fs.Tmp = codes "tmp"
type_name fs.Rom = codes "rom"
type_name fs.Cell = codes "cell"
type_name fs.Dev = codes "devfs"

abbrev pub mount_text : MountLine → List ℕ
mount_text mount =
    line (spaced mount.source (type_name mount.fs ∷ decimal mount.nodes ∷ decimal mount.spare ∷ printed mount.point ∷ []))

abbrev pub mounts_told : Reply → Talk
mounts_told (reply.MountList lines) = shows (flat_map mount_text lines)
mounts_told (reply.Refused errno) = shows (error_line (codes "df") errno)
mounts_told _ = shows []

abbrev pub df : List (List ℕ) → Talk
df words = no_word (codes "df") (ask step.Mounts mounts_told) words

abbrev pub class_name : DeviceClass → List ℕ
class_name class.Block = codes "block"
class_name class.Char = codes "char"
class_name class.Rom = codes "rom"

abbrev pub use_name : Bool → List ℕ
use_name true = codes "mounted"
use_name false = codes "free"

abbrev pub device_text : DeviceLine → List ℕ
device_text device = line (spaced device.name (class_name device.class ∷ use_name device.mounted ∷ []))

abbrev pub devices_told : Reply → Talk
devices_told (reply.DeviceList lines) = shows (flat_map device_text lines)
devices_told (reply.Refused errno) = shows (error_line (codes "list_device") errno)
devices_told _ = shows []

abbrev pub list_device : List (List ℕ) → Talk
list_device words = no_word (codes "list_device") (ask step.Devices devices_told) words

abbrev pub row_text : ℕ → List ℕ
row_text row = codes "row " ++ decimal row

abbrev pub place_text : HolderPlace → List ℕ
place_text (place.At path) = printed path
place_text (place.Row row) = codes "(" ++ row_text row ++ codes ")"

abbrev pub holder_text : HolderLine → List ℕ
holder_text holder = line (spaced (place_text holder.place) (decimal holder.count ∷ []))

abbrev pub holders_told : Reply → Talk
holders_told (reply.Holders lines) = shows (flat_map holder_text lines)
holders_told (reply.Refused errno) = shows (error_line (codes "dentries") errno)
holders_told _ = shows []

abbrev pub dentries : List (List ℕ) → Talk
dentries words = no_word (codes "dentries") (ask step.Dentries holders_told) words

-- a file that has gone since is passed over
abbrev pub synced : FileId → Talk → Reply → Talk
synced file go reply.Done = go
synced file go (reply.Refused errno) = if is_absent errno then go else fails (codes "sync") (row_text file.row) errno
synced file go _ = shows []

-- one file after the other; none is tried behind one that is refused
abbrev pub sync_files : List FileId → Talk
sync_files [] = shows []
sync_files (file ∷ files) = ask (step.Sync file) (synced file (sync_files files))

abbrev pub cells_told : Reply → Talk
cells_told (reply.Files files) = sync_files files
cells_told (reply.Refused errno) = shows (error_line (codes "sync") errno)
cells_told _ = shows []

abbrev pub sync : List (List ℕ) → Talk
sync words = no_word (codes "sync") (ask step.Cells cells_told) words

-- what a command of this family does with its words
abbrev pub mount_command : List ℕ → List (List ℕ) → Option Talk
mount_command name words =
    if same_word name (codes "mount") then Some (mount words)
    else if same_word name (codes "umount") then Some (umount words)
    else if same_word name (codes "mkfs") then Some (mkfs words)
    else if same_word name (codes "df") then Some (df words)
    else if same_word name (codes "list_device") then Some (list_device words)
    else if same_word name (codes "dentries") then Some (dentries words)
    else if same_word name (codes "sync") then Some (sync words)
    else None
