-- What the types of file systems and their sources offer to a mount.
use Rattle.std.specs.Prelude.{ℕ, Bool, true, false, ◌&&◌, is_some, Option, Some, None, List, [], ◌∷◌, map, fold, codes, count_by, slice_index_or, if◌then◌else◌}
use Rattle.std.specs.FinMap.Entries.{put}
use Rattle.std.specs.List.{list_any, position_or_len, enumerate_from}
use Rattle.vfs_base.specs.Path.{Path, path_cmp}
use Rattle.vfs_base.specs.declared.kinds.FsType.{FsType}
use Rattle.vfs_base.specs.declared.kinds.FsType.TheVariants as fs
use Rattle.vfs_model.specs.FileLife.{volume_at, volume_named}
use Rattle.vfs_model.specs.Namespace.{all_mounts, same_bytes}
use Rattle.vfs_model.specs.declared.namespace.KeptNode.{KeptNode}
use Rattle.vfs_model.specs.declared.namespace.KeptNode.TheVariants as kept
use Rattle.vfs_model.specs.declared.namespace.Namespace.{Namespace}
use Rattle.vfs_model.specs.declared.namespace.Origin.{Origin}
use Rattle.vfs_model.specs.declared.namespace.Origin.TheVariants as origin
use Rattle.vfs_model.specs.declared.namespace.RomImage.{RomImage}
use Rattle.vfs_model.specs.declared.namespace.RomNode.{RomNode}
use Rattle.vfs_model.specs.declared.namespace.RomNode.TheVariants as rom

-- the type that a word names
abbrev pub fs_type_of : List ℕ → Option FsType
fs_type_of word =
    if same_bytes word (codes "tmp") then Some fs.Tmp
    else if same_bytes word (codes "rom") then Some fs.Rom
    else if same_bytes word (codes "cell") then Some fs.Cell
    else if same_bytes word (codes "devfs") then Some fs.Dev
    else None

abbrev pub same_type : FsType → FsType → Bool
same_type fs.Tmp fs.Tmp = true
same_type fs.Rom fs.Rom = true
same_type fs.Cell fs.Cell = true
same_type fs.Dev fs.Dev = true
same_type _ _ = false

-- What a source has, in the order of paths: at each path a folder (None), or a file by what it begins with.
abbrev pub Content : Type 0
Content = List (Path × Option Origin)

-- the place of the rom with this name
abbrev pub rom_at : Namespace → List ℕ → ℕ
rom_at n source = position_or_len (λ image. same_bytes image.name source) n.roms

abbrev pub no_rom : RomImage
no_rom = record { name = []; nodes = [] }

abbrev pub rom_origin : ℕ → Path → RomNode → Option Origin
rom_origin place path rom.Dir = None
rom_origin place path (rom.File bytes) = Some (origin.Rom place path)

abbrev pub kept_origin : ℕ → KeptNode → Option Origin
kept_origin volume kept.Dir = None
kept_origin volume (kept.File cell) = Some (origin.Cell volume cell)

-- one file for each character device
abbrev pub device_content : Namespace → Content
device_content n =
    fold (λ content device. put path_cmp (device.1.name ∷ []) (Some (origin.Device device.0)) content) [] (enumerate_from 0 n.devices)

-- what a mount of this type and source begins with
abbrev pub content_of : Namespace → FsType → List ℕ → Content
content_of n fs.Tmp source = []
content_of n fs.Rom source =
    map (λ entry. (entry.0, rom_origin (rom_at n source) entry.0 entry.1)) (slice_index_or n.roms (rom_at n source) no_rom).nodes
content_of n fs.Cell source =
    map (λ entry. (entry.0, kept_origin (volume_named n source) entry.1)) (volume_at n (volume_named n source)).kept
content_of n fs.Dev source = device_content n

-- how many rows a mount would bind
abbrev pub file_count : Content → ℕ
file_count content = count_by (λ entry. is_some entry.1) content

-- a mount of this type has this source
abbrev pub is_mounted : Namespace → FsType → List ℕ → Bool
is_mounted n asked source = list_any (λ mount. same_type mount.fs asked && same_bytes mount.source source) (all_mounts n)
