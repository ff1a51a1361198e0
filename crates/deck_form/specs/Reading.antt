-- How the reading of scripts and schedules ends.
use Rattle.std.specs.Prelude.{◌≡◌, ℕ, Bool, true, false, Some, None, Result, Err, List, [], ◌∷◌, ◌++◌}
use Rattle.vfs_base.specs.declared.deck.Deck.{Deck}
use Rattle.vfs_base.specs.declared.entry.Entry.{Entry}
use Rattle.vfs_model.specs.Schedule.{entry_of}
use Rattle.deck_form.specs.declared.schedule.ScheduleFault.{ScheduleFault}
use Rattle.deck_form.specs.declared.schedule.ScheduleFault.TheVariants as schedule_fault
use Rattle.deck_form.specs.declared.deck.DeckFault.{DeckFault}
use Rattle.deck_form.specs.declared.deck.DeckFault.TheVariants as deck_fault

-- the fault is the first line that is outside the form; want of memory can come at any script
abbrev pub StopsReadingDeck : Result Deck ℕ → DeckFault → Type 0
StopsReadingDeck read deck_fault.NoMemory = Unit {0}
StopsReadingDeck read (deck_fault.Line line) = read ≡ Err line

-- the fault is the first entry that is outside the form; want of memory can come at any schedule
abbrev pub StopsReadingSchedule : Result (List Entry) ℕ → ScheduleFault → Type 0
StopsReadingSchedule read schedule_fault.NoMemory = Unit {0}
StopsReadingSchedule read (schedule_fault.BadEntry at) = read ≡ Err at

-- the entry that the text is was pushed, or the text is none
abbrev pub IsEntryPushed : List ℕ → Bool → List Entry → List Entry → Type 0
IsEntryPushed text true old new = (entry : Entry) × (entry_of text ≡ Some entry) × (new ≡ old ++ entry ∷ [])
IsEntryPushed text false old new = (entry_of text ≡ None) × (new ≡ old)
