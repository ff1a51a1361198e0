-- How the reading of a rom ends.
use Rattle.std.specs.Prelude.{◌≡◌, ℕ, None, Some, List, [], ◌∷◌, ◌++◌}
use Rattle.vfs_base.specs.declared.deck.Deck.{Deck}
use Rattle.vfs_base.specs.declared.deck.RomText.{RomText}
use Rattle.vfs_model.specs.Deck.{new_rom}
use Rattle.deck_form.specs.declared.deck.DeckFault.{DeckFault}
use Rattle.deck_form.specs.Lines.{LinesState, deck_with}
use Rattle.deck_form.specs.Reading.{StopsReadingDeck}

-- the lines that were read are the rom's, whatever the script has before them
abbrev pub EndsRom : LinesState → LinesState → List ℕ → RomText → Type 0
EndsRom old new name rom = (deck : Deck) → deck_with old (record { deck = deck; rom = Some (new_rom name) })
    ≡ deck_with new (record { deck = record deck { roms = deck.roms ++ rom ∷ [] }; rom = None })

-- the fault is that of the lines, whatever the script has before them
abbrev pub StopsInRom : LinesState → List ℕ → DeckFault → Type 0
StopsInRom lines name fault = (deck : Deck) → StopsReadingDeck (deck_with lines (record { deck = deck; rom = Some (new_rom name) })) fault
