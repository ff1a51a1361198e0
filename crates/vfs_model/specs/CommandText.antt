-- The texts of commands: errors, usage, bytes, columns and numbers.
use Rattle.std.specs.Prelude.{ℕ, ◌==◌, Bool, false, not, ◌&&◌, nat_le, Option, Some, None, List, [], ◌∷◌, ◌++◌, length, codes, decimal, if◌then◌else◌}
use Rattle.std.specs.List.{flat_map, last_or}
use Rattle.hex.specs.Hex.{encode_lower}
use Rattle.vfs_base.specs.Errno.{name_of}
use Rattle.vfs_base.specs.declared.errno.Errno.{Errno}
use Rattle.vfs_model.specs.Shown.{padding}
use Rattle.vfs_model.specs.Talk.{Talk, shows}

-- a text and a line feed
abbrev pub line : List ℕ → List ℕ
line text = text ++ 10 ∷ []

abbrev pub is_other_byte : Option ℕ → Bool
is_other_byte None = false
is_other_byte (Some byte) = not (byte == 10)

-- a text that is not empty ends with a line feed: it gets one where it lacks one
abbrev pub whole_lines : List ℕ → List ℕ
whole_lines text = if is_other_byte (last_or None text) then line text else text

-- the line of an error: the command and the error's name
abbrev pub error_line : List ℕ → Errno → List ℕ
error_line command errno = line (command ++ codes ": " ++ name_of errno)

-- the line of an error: the command, what it failed at, and the error's name
abbrev pub subject_error_line : List ℕ → List ℕ → Errno → List ℕ
subject_error_line command subject errno = error_line (command ++ codes ": " ++ subject) errno

-- a text, and the line of an error on a line of its own
abbrev pub with_error : List ℕ → List ℕ → List ℕ → Errno → List ℕ
with_error text command subject errno = whole_lines text ++ subject_error_line command subject errno

-- the command ends at an error, with the text before it
abbrev pub fails_after : List ℕ → List ℕ → List ℕ → Errno → Talk
fails_after text command subject errno = shows (with_error text command subject errno)

-- the command ends at an error, and there is no text before it
abbrev pub fails : List ℕ → List ℕ → Errno → Talk
fails command subject errno = shows (subject_error_line command subject errno)

-- the words are not those of the form
abbrev pub usage : List ℕ → Talk
usage form = shows (line (codes "usage: " ++ form))

-- a byte as it is shown: printable ASCII as it is, but for the backslash, which is doubled
abbrev pub shown_byte : ℕ → List ℕ
shown_byte byte =
    if byte == 92 then 92 ∷ 92 ∷ []
    else if nat_le 32 byte && nat_le byte 126 then byte ∷ []
    else 92 ∷ 120 ∷ encode_lower (byte ∷ [])

abbrev pub shown_bytes : List ℕ → List ℕ
shown_bytes bytes = flat_map shown_byte bytes

-- how many bytes came, and the bytes
abbrev pub bytes_line : List ℕ → List ℕ
bytes_line bytes = line (decimal (length bytes) ++ codes ":" ++ shown_bytes bytes)

abbrev pub number_line : ℕ → List ℕ
number_line n = line (decimal n)

-- a name in a listing, and what stands behind it
abbrev pub column_line : List ℕ → List ℕ → List ℕ
column_line name text = line (name ++ padding name ++ text)
