-- The words of a line: it is split at blanks, and what stands between quotes is taken as it is.

use Rattle.std.specs.Prelude.{◌==◌, ◌||◌, ℕ, Bool, true, false, if◌then◌else◌, nat_lt, List, [], ◌∷◌, ◌++◌, length, map, filter, Option, Some, None, Result, Ok, Err}
use Rattle.std.specs.List.{list_any, slice_split, flat_map}
use Rattle.std.specs.Option.{option_map}

-- a space or a tab
abbrev pub is_blank : ℕ → Bool
is_blank byte = byte == 32 || byte == 9

-- the double quote
abbrev pub is_quote : ℕ → Bool
is_quote byte = byte == 34

-- what a line is made of: the blanks between its words, and the pieces of its words
pub data Part : Type 0 where
  Blank : Part
  Piece : List ℕ → Part

-- what a byte outside quotes is
abbrev pub part_of : ℕ → Part
part_of byte = if is_blank byte then Blank else Piece (byte ∷ [])

-- a part before others
abbrev pub part_before : Part → Option (List Part) → Option (List Part)
part_before part more = option_map (λ rest. part ∷ rest) more

-- the parts of a text that begins outside a quote, and of one that begins inside a quote, which has
-- these bytes so far; None where a quote isn't closed
abbrev mutual
  pub parts : List ℕ → Option (List Part)
  parts [] = Some []
  parts (byte ∷ text) =
      if is_quote byte then quoted_parts [] text
      else part_before (part_of byte) (parts text)

  pub quoted_parts : List ℕ → List ℕ → Option (List Part)
  quoted_parts quoted [] = None
  quoted_parts quoted (byte ∷ text) =
      if is_quote byte then part_before (Piece quoted) (parts text)
      else quoted_parts (quoted ++ byte ∷ []) text

abbrev pub is_blank_part : Part → Bool
is_blank_part Blank = true
is_blank_part (Piece bytes) = false

abbrev pub part_bytes : Part → List ℕ
part_bytes Blank = []
part_bytes (Piece bytes) = bytes

abbrev pub has_pieces : List Part → Bool
has_pieces [] = false
has_pieces (piece ∷ pieces) = true

-- the words: wherever pieces stand together between blanks, their bytes are one
abbrev pub words_of : List Part → List (List ℕ)
words_of line = map (flat_map part_bytes) (filter has_pieces (slice_split is_blank_part line))

-- why a line has no words
pub data LineFault : Type 0 where
  BadByte : LineFault
  OpenQuote : LineFault
  TooManyWords : LineFault

-- the most words of a line
abbrev pub max_words : ℕ
max_words = 10

-- the words that the parts make, or the fault that a quote is open or that there are too many
abbrev pub words_or_fault : Option (List Part) → Result (List (List ℕ)) LineFault
words_or_fault None = Err OpenQuote
words_or_fault (Some line) =
    if nat_lt max_words (length (words_of line)) then Err TooManyWords else Ok (words_of line)

-- the words of a line, or its first fault; a zero byte is one wherever it stands
abbrev pub line_words : List ℕ → Result (List (List ℕ)) LineFault
line_words line =
    if list_any (λ byte. byte == 0) line then Err BadByte else words_or_fault (parts line)
