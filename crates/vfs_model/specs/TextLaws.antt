-- Laws of the texts that are read and shown.
use Rattle.std.specs.Prelude.{◌≡◌, ℕ, ◌<◌, ◌≤◌, All, true, Some, Err, List, ◌++◌, length}
use Rattle.std.specs.List.{list_all}
use Rattle.vfs_model.specs.CommandText.{shown_bytes}
use Rattle.vfs_model.specs.Deck.{deck_of}
use Rattle.vfs_model.specs.Script.{first_bad_line, is_ended, raw_lines}

abbrev pub IsByte : ℕ → Type 0
IsByte byte = byte < 256

-- different bytes are shown differently
abbrev pub ShownBytesTellBytes : Type 0
ShownBytesTellBytes = (bytes others : List ℕ) → All IsByte bytes → All IsByte others → shown_bytes bytes ≡ shown_bytes others → bytes ≡ others

-- a line feed ends each line of what was read
abbrev pub HasWholeLines : List ℕ → Type 0
HasWholeLines read = list_all is_ended (raw_lines read) ≡ true

-- the line of this number is one of those that were read
abbrev pub IsLineOf : List ℕ → ℕ → Type 0
IsLineOf read number = number ≤ length (raw_lines read)

-- The first bad line of a shell's input, and of a script, is the same whatever stands behind the lines that were read whole.
pub record BadLineStays (read : List ℕ) (number : ℕ) : Type 0 where
  pub input : (rest : List ℕ) → first_bad_line read ≡ Some number → first_bad_line (read ++ rest) ≡ Some number
  pub input_back : (rest : List ℕ) → IsLineOf read number → first_bad_line (read ++ rest) ≡ Some number → first_bad_line read ≡ Some number
  pub script : (rest : List ℕ) → IsLineOf read number → deck_of read ≡ Err number → deck_of (read ++ rest) ≡ Err number

-- the first bad line depends on no later byte
abbrev pub BadLineNeedsNoLaterByte : Type 0
BadLineNeedsNoLaterByte = (read : List ℕ) (number : ℕ) → HasWholeLines read → BadLineStays read number
