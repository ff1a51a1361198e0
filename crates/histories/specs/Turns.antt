-- What the turns of a part tell: the entries among them, whose they are, and what calls a pass made.
use Rattle.std.specs.Prelude.{ℕ, ◌==◌, ◌<◌, Option, Some, None, List, [], ◌∷◌, filter, AllPairs, if◌then◌else◌}
use Rattle.vfs_base.specs.declared.ids.FileId.{FileId}
use Rattle.histories.specs.declared.entry.HistoryEntry.{HistoryEntry}

-- a turn: the entry that was made in it, or none
abbrev pub Turn : Type 0
Turn = Option HistoryEntry

-- a call of a pass: the part, and its entry
abbrev pub Call : Type 0
Call = ℕ × HistoryEntry

-- the files that references keep, by the references' places
abbrev pub References : Type 0
References = List (Option FileId)

-- the entries of the turns: the history of the part
abbrev pub entries : List Turn → List HistoryEntry
entries [] = []
entries (None ∷ turns) = entries turns
entries (Some entry ∷ turns) = entry ∷ entries turns

-- the entries that this pass made
abbrev pub entries_by : ℕ → List Turn → List HistoryEntry
entries_by pass turns = filter (λ entry. entry.pass == pass) (entries turns)

-- the entries of the calls that were made on this part
abbrev pub calls_on : ℕ → List Call → List HistoryEntry
calls_on part [] = []
calls_on part (call ∷ calls) = if call.0 == part then call.1 ∷ calls_on part calls else calls_on part calls

-- each entry has a greater stamp than those before it
abbrev pub StampsRise : List Turn → Type 0
StampsRise turns = AllPairs (λ earlier later. earlier.stamp < later.stamp) (entries turns)
