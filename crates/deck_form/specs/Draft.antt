-- How a script goes on with a line that was read.
use Rattle.std.specs.Prelude.{◌≡◌, ℕ, Bool, true, None, Some, Option, List, Result, if◌then◌else◌}
use Rattle.std.specs.BTreeMap.{is_at}
use Rattle.std.specs.Cmp.Lexicographic.{slice_cmp}
use Rattle.std.specs.List.{list_any}
use Rattle.std.specs.Ordering.{nat_cmp}
use Rattle.vfs_base.specs.declared.deck.Deck.{Deck}
use Rattle.vfs_model.specs.Deck.{has_rom, or_bad_line, with_deck_line}
use Rattle.vfs_model.specs.DeckLine.{DeckLine, Opens, deck_line}
use Rattle.vfs_model.specs.Namespace.{same_bytes}
use Rattle.deck_form.specs.declared.deck.DeckFault.{DeckFault}
use Rattle.deck_form.specs.Lines.{LinesState, deck_with}
use Rattle.deck_form.specs.Reading.{StopsReadingDeck}

-- the name is one of these, which stand in byte order
abbrev pub has_name : List (List ℕ) → List ℕ → Bool
has_name names name = list_any (is_at (slice_cmp nat_cmp name)) names

-- the name was added to them
abbrev pub AddsName : List (List ℕ) → List (List ℕ) → List ℕ → Type 0
AddsName old new name = (other : List ℕ) → has_name new other ≡ (if same_bytes name other then true else has_name old other)

-- the names are those of the roms
abbrev pub KnowsRoms : List (List ℕ) → Deck → Type 0
KnowsRoms names deck = (name : List ℕ) → has_name names name ≡ has_rom deck name

-- what the script means with a line of this meaning, which was read last, and those that are left
abbrev pub deck_after : Deck → Option DeckLine → LinesState → Result Deck ℕ
deck_after deck line lines = or_bad_line lines.number (with_deck_line deck line) (deck_with lines)

-- what the script means with the lines that are left, outside a rom
abbrev pub deck_outside : Deck → LinesState → Result Deck ℕ
deck_outside deck lines = deck_with lines (record { deck = deck; rom = None })

-- the line was taken, and with it those of the rom that it opens
abbrev pub TakesLine : Deck → Deck → List ℕ → LinesState → LinesState → Type 0
TakesLine old new text before after = deck_after old (deck_line text) before ≡ deck_outside new after

-- the fault is that of the line, or of one of its rom's
abbrev pub StopsInLine : Deck → List ℕ → LinesState → DeckFault → Type 0
StopsInLine deck text lines = StopsReadingDeck (deck_after deck (deck_line text) lines)

-- the same of a line that opens a rom
abbrev pub TakesRom : Deck → Deck → List ℕ → LinesState → LinesState → Type 0
TakesRom old new name before after = deck_after old (Some (Opens name)) before ≡ deck_outside new after

abbrev pub StopsInNewRom : Deck → List ℕ → LinesState → DeckFault → Type 0
StopsInNewRom deck name lines = StopsReadingDeck (deck_after deck (Some (Opens name)) lines)
