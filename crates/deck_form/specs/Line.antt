-- What a line of a script means, as it is read.
use Rattle.std.specs.Prelude.{◌≡◌, ℕ, Bool, true, false, Some, None, List, [], ◌∷◌, ◌++◌}
use Rattle.vfs_base.specs.declared.entry.Who.{Who}
use Rattle.vfs_model.specs.DeckLine.{DeckLine as Meaning, Asks as asks, Blank as blank, Opens as opens, event_of}
use Rattle.deck_form.specs.declared.line.DeckLine.{DeckLine}
use Rattle.deck_form.specs.declared.line.DeckLine.TheVariants.{Blank, Asks, Opens}

-- what the line that was read means
abbrev pub meaning_of : DeckLine → Meaning
meaning_of Blank = blank
meaning_of (Asks act) = asks act
meaning_of (Opens name) = opens name

-- the event that the text is was pushed, or the text is none; an empty text leaves the list as it was
abbrev pub IsEventPushed : List ℕ → Bool → List Who → List Who → Type 0
IsEventPushed [] pushed old new = (pushed ≡ true) × (new ≡ old)
IsEventPushed (byte ∷ bytes) true old new = (asker : Who) × (event_of (byte ∷ bytes) ≡ Some asker) × (new ≡ old ++ asker ∷ [])
IsEventPushed (byte ∷ bytes) false old new = event_of (byte ∷ bytes) ≡ None
