-- The lines of an input, and the first that is outside the form.
use Rattle.std.specs.Prelude.{ℕ, ◌+◌, ◌-◌, ◌==◌, ◌||◌, Bool, nat_lt, Option, Some, None, List, [], ◌∷◌, length, take, map, filter, slice_index, if◌then◌else◌}
use Rattle.vfs_base.specs.declared.limits.TheConstants.{DECK_MAX}

-- the byte put in front of the first line
abbrev pub onto_first : ℕ → List (List ℕ) → List (List ℕ)
onto_first byte [] = (byte ∷ []) ∷ []
onto_first byte (line ∷ lines) = (byte ∷ line) ∷ lines

-- the lines as they stand, each with the line feed that ends it; the last may have none
abbrev pub raw_lines : List ℕ → List (List ℕ)
raw_lines [] = []
raw_lines (byte ∷ bytes) = if byte == 10 then (byte ∷ []) ∷ raw_lines bytes else onto_first byte (raw_lines bytes)

-- the last byte, or 0 where there is none
abbrev pub last_byte : List ℕ → ℕ
last_byte bytes = slice_index bytes (length bytes - 1)

-- all but the last byte
abbrev pub but_last : List ℕ → List ℕ
but_last bytes = take (length bytes - 1) bytes

-- without a carriage return at the end
abbrev pub without_return : List ℕ → List ℕ
without_return bytes = if last_byte bytes == 13 then but_last bytes else bytes

-- a line feed ends the line
abbrev pub is_ended : List ℕ → Bool
is_ended raw = last_byte raw == 10

-- the text of a line: without its line feed, and without a carriage return before that
abbrev pub line_text : List ℕ → List ℕ
line_text raw = if is_ended raw then without_return (but_last raw) else raw

-- the lines of an input to the shell
abbrev pub input_lines : List ℕ → List (List ℕ)
input_lines input = map line_text (raw_lines input)

-- the lines of the bytes read so far whose line feed was read
abbrev pub whole_lines : List ℕ → List (List ℕ)
whole_lines read = map line_text (filter is_ended (raw_lines read))

-- after that many bytes the line is too long, or has the byte after the greatest size of an input
abbrev pub is_bad_line : ℕ → List ℕ → Bool
is_bad_line size raw = nat_lt 1024 (length (line_text raw)) || nat_lt 16777216 (size + length raw)

-- the number of the first bad one of these lines, which come after that many bytes, from this number on
abbrev pub first_bad_from : ℕ → ℕ → List (List ℕ) → Option ℕ
first_bad_from number size [] = None
first_bad_from number size (raw ∷ raws) = if is_bad_line size raw then Some number else first_bad_from (number + 1) (size + length raw) raws

-- the number of the first line of an input that is outside the form, counted from 1
abbrev pub first_bad_line : List ℕ → Option ℕ
first_bad_line input = first_bad_from 1 0 (raw_lines input)

-- the number of the first of these lines in which the byte after the greatest size lies; they come after so many bytes
abbrev pub past_size_from : ℕ → ℕ → List (List ℕ) → Option ℕ
past_size_from number size [] = None
past_size_from number size (raw ∷ raws) =
    if nat_lt DECK_MAX (size + length raw) then Some number else past_size_from (number + 1) (size + length raw) raws

-- the number of the line that has the byte after the greatest size, counted from 1: all that an input must keep whose lines are not
-- looked at
abbrev pub first_line_past_size : List ℕ → Option ℕ
first_line_past_size input = past_size_from 1 0 (raw_lines input)
