-- Roms: read-only trees of folders and files.
use Rattle.std.specs.Prelude.{◌≡◌, ◌<◌, ◌≤◌, All, IfSome, ℕ, ◌==◌, Bool, true, not, ◌&&◌, ◌||◌, is_some, is_none, Option, List, [], ◌∷◌, length}
use Rattle.std.specs.BTreeMap.{is_at}
use Rattle.std.specs.List.{list_all}
use Rattle.std.specs.List.Sorted.{IsStrictlySortedBy}
use Rattle.std.specs.Map.{lookup, keys_of, values_of}
use Rattle.std.specs.Option.{option_flatten}
use Rattle.hex.specs.Hex.{IsBytes}
use Rattle.vfs_base.specs.Name.{is_name}
use Rattle.vfs_base.specs.Path.{Path, printed, path_cmp}
use Rattle.vfs_base.specs.declared.limits.TheConstants.{NODES, PATH_MAX}
use Rattle.vfs_model.specs.PlainName.{is_plain_name}
use Rattle.vfs_model.specs.NormalPath.{parent_of}

-- what stands at the paths of a rom, in their order: a file has its bytes, and a folder None
abbrev pub RomItems : Type 0
RomItems = List (Path × Option (List ℕ))

-- what stands at the path, if anything does
abbrev pub item_at : RomItems → Path → Option (Option (List ℕ))
item_at items path = lookup (is_at (path_cmp path)) items

-- the bytes of the file at the path
abbrev pub file_at : RomItems → Path → Option (List ℕ)
file_at items path = option_flatten (item_at items path)

-- an item can stand below the path: it is `/` or a folder
abbrev pub is_rom_folder : RomItems → Path → Bool
is_rom_folder items [] = true
is_rom_folder items (name ∷ names) =
    is_some (item_at items (name ∷ names)) && is_none (file_at items (name ∷ names))

-- a byte that a name may have in a manifest: no line feed, carriage return or space
abbrev pub is_rom_byte : ℕ → Bool
is_rom_byte byte = not (byte == 10 || byte == 13 || byte == 32)

-- a name that a path may have in a manifest
abbrev pub is_rom_name : List ℕ → Bool
is_rom_name name = is_name name && is_plain_name name && list_all is_rom_byte name

-- a manifest can have the path
pub record IsRomPath (path : Path) : Type 0 where
  pub below_root : 0 < length path
  pub short : length (printed path) ≤ PATH_MAX
  pub names : list_all is_rom_name path ≡ true

-- a manifest can mean these items
pub record IsRom (items : RomItems) : Type 0 where
  pub ordered : IsStrictlySortedBy path_cmp (keys_of items)
  pub few : length items ≤ NODES
  pub paths : All IsRomPath (keys_of items)
  pub parents : All (λ path. is_rom_folder items (parent_of path) ≡ true) (keys_of items)
  pub bytes : All (λ bytes. IfSome bytes IsBytes) (values_of items)
