-- The lines of a script: what each of them means, alone.
use Rattle.std.specs.Prelude.{ℕ, ◌+◌, ◌-◌, ◌==◌, Bool, true, false, not, ◌&&◌, ◌||◌, nat_le, Option, Some, None, option_map, List, [], ◌∷◌, take, drop, filter, codes, if◌then◌else◌}
use Rattle.std.specs.List.{list_all, list_any, slice_split}
use Rattle.vfs_base.specs.Name.{is_name}
use Rattle.vfs_base.specs.declared.deck.Act.{Act}
use Rattle.vfs_base.specs.declared.deck.Act.TheVariants as act
use Rattle.vfs_base.specs.declared.entry.Who.{Who}
use Rattle.vfs_base.specs.declared.limits.TheConstants.{SESSIONS}
use Rattle.vfs_model.specs.Manifest.{is_space}
use Rattle.vfs_model.specs.Namespace.{same_bytes}
use Rattle.vfs_model.specs.Schedule.{is_end, who_of}
use Rattle.vfs_model.specs.Script.{last_byte}

-- What a line of a script means.
pub data DeckLine : Type 0 where
  -- nothing: it is empty, of spaces alone, or begins with `#`
  Blank : DeckLine
  -- something is asked for
  Asks : Act → DeckLine
  -- the lines that follow, up to `end`, describe the rom of this name
  Opens : List ℕ → DeckLine

-- spaces alone, or `#` first
abbrev pub is_blank_line : List ℕ → Bool
is_blank_line line = list_all is_space line || same_bytes (take 1 line) (codes "#")

-- the number of the session that a digit names
abbrev pub session_digit : ℕ → Option ℕ
session_digit byte = if nat_le 49 byte && nat_le byte (48 + SESSIONS) then Some (byte - 48) else None

-- `k`, or `k` and a space and the text that is posted
abbrev pub post_of : Bool → List ℕ → Option Act
post_of go [] = None
post_of go (byte ∷ []) = option_map (λ k. act.Post k [] go) (session_digit byte)
post_of go (byte ∷ space ∷ text) =
    if space == 32 then option_map (λ k. act.Post k text go) (session_digit byte) else None

-- the text isn't empty
abbrev pub has_bytes : List ℕ → Bool
has_bytes [] = false
has_bytes (byte ∷ bytes) = true

-- what is no end
abbrev pub unless_end : Option Who → Option Who
unless_end None = None
unless_end (Some asker) = if is_end asker then None else Some asker

-- who an event is a step of: `k`, `fR` or `rR`
abbrev pub event_of : List ℕ → Option Who
event_of text = unless_end (who_of text)

-- an event before others, if all are events
abbrev pub event_before : Option Who → Option (List Who) → Option (List Who)
event_before None later = None
event_before (Some asker) None = None
event_before (Some asker) (Some askers) = Some (asker ∷ askers)

-- the events, if each of the texts is one
abbrev pub events_of : List (List ℕ) → Option (List Who)
events_of [] = Some []
events_of (text ∷ texts) = event_before (event_of text) (events_of texts)

-- what stands behind `!`: one or more events, with one or more spaces before each and none at the end
abbrev pub event_line : List ℕ → Option Act
event_line bytes =
    if same_bytes (take 1 bytes) (codes " ") && not (is_space (last_byte bytes))
    then option_map act.Events (events_of (filter has_bytes (slice_split is_space bytes))) else None

-- a rom is opened by its name, which has no space
abbrev pub rom_of : List ℕ → Option DeckLine
rom_of name = if is_name name && not (list_any is_space name) then Some (Opens name) else None

-- a line that isn't blank, by its first byte and what stands behind that
abbrev pub asked_of : ℕ → List ℕ → Option DeckLine
asked_of byte bytes =
    if byte == 64 then option_map Asks (post_of false bytes)
    else if byte == 33 then option_map Asks (event_line bytes)
    else if byte == 114 then (if same_bytes (take 3 bytes) (codes "om ") then rom_of (drop 3 bytes) else None)
    else option_map Asks (post_of true (byte ∷ bytes))

-- what a line outside a rom means, if it is in the form
abbrev pub deck_line : List ℕ → Option DeckLine
deck_line [] = Some Blank
deck_line (byte ∷ bytes) = if is_blank_line (byte ∷ bytes) then Some Blank else asked_of byte bytes
