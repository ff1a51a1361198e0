-- The path that a text names, from a folder on. No file is looked at.
use Rattle.std.specs.Prelude.{ℕ, ◌-◌, ◌==◌, ◌||◌, Bool, nat_lt, nat_eq, List, [], ◌∷◌, ◌++◌, length, take, fold, codes, Result, Ok, Err, if◌then◌else◌}
use Rattle.std.specs.Cmp.Lexicographic.{pointwise}
use Rattle.std.specs.List.{list_any, slice_split}
use Rattle.vfs_base.specs.Path.{Path, printed}
use Rattle.vfs_base.specs.declared.limits.TheConstants.{NAME_MAX, PATH_MAX}

-- why a text names no path
pub data TextFault : Type 0 where
  Empty : TextFault
  BadByte : TextFault
  PathTooLong : TextFault
  NameTooLong : TextFault

abbrev pub is_slash : ℕ → Bool
is_slash byte = byte == 47

abbrev pub is_zero : ℕ → Bool
is_zero byte = byte == 0

-- the parts of a text, between its slashes
abbrev pub parts_of : List ℕ → List (List ℕ)
parts_of text = slice_split is_slash text

-- a part with more bytes than a name may have
abbrev pub is_long_part : List ℕ → Bool
is_long_part part = nat_lt NAME_MAX (length part)

-- the part that leads nowhere else
abbrev pub is_dot : List ℕ → Bool
is_dot part = pointwise nat_eq part (codes ".")

-- the part that leads up
abbrev pub is_dot_dot : List ℕ → Bool
is_dot_dot part = pointwise nat_eq part (codes "..")

-- the path without its last name; `/` stays as it is
abbrev pub parent_of : Path → Path
parent_of path = take (length path - 1) path

-- where a part leads: an empty part and `.` nowhere else, `..` up, any other part down
abbrev pub after_part : Path → List ℕ → Path
after_part path part =
    if length part == 0 || is_dot part then path
    else if is_dot_dot part then parent_of path
    else path ++ part ∷ []

-- where the parts start: at `/` where the text begins with a slash, and else at the folder
abbrev pub start_of : Path → List ℕ → Path
start_of folder [] = folder
start_of folder (byte ∷ text) = if is_slash byte then [] else folder

-- where the parts of the text lead, whatever faults it has
abbrev pub place_of : Path → List ℕ → Path
place_of folder text = fold after_part (start_of folder text) (parts_of text)

-- a path whose printed form is longer than a caller may ask for
abbrev pub is_long_path : Path → Bool
is_long_path path = nat_lt PATH_MAX (length (printed path))

-- the path that the text names from the folder on, or else its first fault
abbrev pub normal_path : Path → List ℕ → Result Path TextFault
normal_path folder text =
    if length text == 0 then Err Empty
    else if list_any is_zero text then Err BadByte
    else if nat_lt PATH_MAX (length text) then Err PathTooLong
    else if list_any is_long_part (parts_of text) then Err NameTooLong
    else if is_long_path (place_of folder text) then Err PathTooLong
    else Ok (place_of folder text)
