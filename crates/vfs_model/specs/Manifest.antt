-- The text of a rom, and the folders and files that it means.
use Rattle.std.specs.Prelude.{ℕ, zero, suc, ◌+◌, ◌/◌, ◌==◌, Bool, not, ◌&&◌, nat_lt, nat_le, is_none, Option, Some, None, Result, Ok, Err, List, [], ◌∷◌, ◌++◌, length, take, drop, codes, if◌then◌else◌}
use Rattle.std.specs.BTreeMap.{insert_entry, is_at}
use Rattle.std.specs.List.{list_all, list_any, flat_map, before_first, after_first}
use Rattle.std.specs.Map.{set_value}
use Rattle.std.specs.Option.{option_and_then}
use Rattle.std.specs.Result.{result_ok}
use Rattle.hex.specs.Hex.{decode_of, encode_lower}
use Rattle.vfs_base.specs.Path.{Path, printed, path_cmp}
use Rattle.vfs_base.specs.declared.limits.TheConstants.{NODES, PATH_MAX}
use Rattle.vfs_model.specs.NormalPath.{parts_of, is_slash, parent_of}
use Rattle.vfs_model.specs.Rom.{RomItems, item_at, file_at, is_rom_folder, is_rom_name}
use Rattle.vfs_model.specs.Script.{input_lines}

-- the path that the text prints, if a manifest may have it: behind a first slash stand names, and a
-- slash between one and the next
abbrev pub rom_path : List ℕ → Option Path
rom_path [] = None
rom_path (first ∷ rest) =
    if is_slash first && nat_le (length (first ∷ rest)) PATH_MAX
    && list_all is_rom_name (parts_of rest)
    then Some (parts_of rest) else None

-- the bytes that one or more pairs of hexadecimal digits mean, of either case
abbrev pub rom_bytes : List ℕ → Option (List ℕ)
rom_bytes [] = None
rom_bytes (digit ∷ digits) = result_ok (decode_of (digit ∷ digits))

abbrev pub is_space : ℕ → Bool
is_space byte = byte == 32

-- what stands behind the first space, where one is
abbrev pub behind_space : List ℕ → Option (List ℕ)
behind_space fields = if list_any is_space fields then Some (after_first is_space fields) else None

-- the bytes in a file's first line: those that stand behind its path, or none
abbrev pub first_bytes : Option (List ℕ) → Option (List ℕ)
first_bytes None = Some []
first_bytes (Some text) = rom_bytes text

-- what the lines so far mean, and the file that a `+` line goes on with: that of the line before
pub record Draft : Type 0 where
  pub items : RomItems
  pub last_file : Option Path

-- the second step, where the first has a value
infixl 10 ◌>>=◌
abbrev pub ◌>>=◌ : {A B : Type 0} → Option A → (A → Option B) → Option B
a >>= f = option_and_then f a

-- a new item: there is room for it, nothing stands at its path, and its parent is a folder
abbrev pub with_item : RomItems → Path → Option (List ℕ) → Option RomItems
with_item items path bytes =
    if nat_lt (length items) NODES && is_none (item_at items path)
    && is_rom_folder items (parent_of path)
    then Some (insert_entry path_cmp items path bytes) else None

-- more bytes behind those of the file at the path, where one is
abbrev pub with_more : RomItems → Path → List ℕ → Option RomItems
with_more items path more = do
  bytes ← file_at items path
  Some (set_value (is_at (path_cmp path)) items (Some (bytes ++ more)))

-- `d PATH`
abbrev pub with_folder : Draft → List ℕ → Option Draft
with_folder draft text = do
  path ← rom_path text
  items ← with_item draft.items path None
  Some (record { items = items; last_file = None })

-- `f PATH` or `f PATH HEX`
abbrev pub with_file : Draft → List ℕ → Option Draft
with_file draft fields = do
  path ← rom_path (before_first is_space fields)
  bytes ← first_bytes (behind_space fields)
  items ← with_item draft.items path (Some bytes)
  Some (record { items = items; last_file = Some path })

-- `+ HEX`
abbrev pub with_bytes : Draft → List ℕ → Option Draft
with_bytes draft text = do
  path ← draft.last_file
  more ← rom_bytes text
  items ← with_more draft.items path more
  Some (record { items = items; last_file = Some path })

-- what the lines mean with this one, if it is in the form
abbrev pub with_line : Draft → List ℕ → Option Draft
with_line draft [] = None
with_line draft (kind ∷ []) = None
with_line draft (kind ∷ space ∷ fields) =
    if not (space == 32) then None
    else if kind == 100 then with_folder draft fields
    else if kind == 102 then with_file draft fields
    else if kind == 43 then with_bytes draft fields
    else None

-- what follows from the draft, or the number of the line where there is none
abbrev pub or_bad_line : ℕ → Option Draft → (Draft → Result RomItems ℕ) → Result RomItems ℕ
or_bad_line number None go = Err number
or_bad_line number (Some draft) go = go draft

-- what the draft means with these lines behind it, or the number of the first that is outside the
-- form, where the first of them has that number
abbrev pub items_from : ℕ → Draft → List (List ℕ) → Result RomItems ℕ
items_from number draft [] = Ok draft.items
items_from number draft (line ∷ lines) =
    or_bad_line number (with_line draft line) (λ next. items_from (number + 1) next lines)

-- what the text means, or the number of its first line that is outside the form, counted from 1
abbrev pub manifest_tree : List ℕ → Result RomItems ℕ
manifest_tree text = items_from 1 (record { items = []; last_file = None }) (input_lines text)

-- a line of bytes of a file
abbrev pub bytes_line : List ℕ → List ℕ
bytes_line bytes = codes "+ " ++ encode_lower bytes ++ 10 ∷ []

-- so many lines of 500 bytes, the last of which may be shorter
abbrev pub bytes_lines : ℕ → List ℕ → List ℕ
bytes_lines zero bytes = []
bytes_lines (suc count) bytes = bytes_line (take 500 bytes) ++ bytes_lines count (drop 500 bytes)

-- the lines of a file's bytes
abbrev pub bytes_text : List ℕ → List ℕ
bytes_text bytes = bytes_lines ((length bytes + 499) / 500) bytes

-- the lines of an item
abbrev pub item_text : Path → Option (List ℕ) → List ℕ
item_text path None = codes "d " ++ printed path ++ 10 ∷ []
item_text path (Some bytes) = codes "f " ++ printed path ++ 10 ∷ bytes_text bytes

-- the canonical form of the texts that mean this
abbrev pub manifest_text : RomItems → List ℕ
manifest_text items = flat_map (λ item. item_text item.0 item.1) items
