-- How a schedule is printed, and how a printed one is read.
use Rattle.std.specs.Prelude.{ℕ, ◌+◌, ◌-◌, ◌^◌, ◌==◌, ◌||◌, Bool, true, false, Option, Some, None, option_map, Result, Ok, Err, List, [], ◌∷◌, ◌++◌, take, drop, if◌then◌else◌}
use Rattle.std.specs.List.{flat_map, position_or_len, slice_split}
use Rattle.vfs_base.specs.Entry.{entry_text}
use Rattle.vfs_base.specs.declared.entry.Entry.{Entry}
use Rattle.vfs_base.specs.declared.entry.Mark.{Mark}
use Rattle.vfs_base.specs.declared.entry.Mark.TheVariants as mark
use Rattle.vfs_base.specs.declared.entry.Who.{Who}
use Rattle.vfs_base.specs.declared.entry.Who.TheVariants as who
use Rattle.vfs_base.specs.declared.limits.TheConstants.{ROWS, SESSIONS}
use Rattle.vfs_model.specs.Manifest.{is_space}
use Rattle.vfs_model.specs.Numeral.{number_within}
use Rattle.vfs_model.specs.Script.{but_last, is_ended}

-- a space and the entry
abbrev pub entry_word : Entry → List ℕ
entry_word entry = 32 ∷ entry_text entry

-- `#`, and the entries
abbrev pub schedule_text : List Entry → List ℕ
schedule_text entries = 35 ∷ flat_map entry_word entries

-- `#`, the entries, and a line feed
abbrev pub schedule_line : List Entry → List ℕ
schedule_line entries = 35 ∷ flat_map entry_word entries ++ 10 ∷ []

-- the end, where nothing stands behind its letter
abbrev pub end_of : List ℕ → Option Who
end_of [] = Some who.End
end_of (byte ∷ bytes) = None

-- who is meant by `k`, `fR`, `rR` or `z`
abbrev pub who_of : List ℕ → Option Who
who_of [] = None
who_of (byte ∷ bytes) =
    if byte == 102 then option_map who.Flush (number_within 1 ROWS bytes)
    else if byte == 114 then option_map who.Reclaim (number_within 1 ROWS bytes)
    else if byte == 122 then end_of bytes
    else option_map who.Session (number_within 1 SESSIONS (byte ∷ bytes))

-- the greatest number of bytes that a mark tells
abbrev pub most_moved : ℕ
most_moved = 2 ^ 64 - 1

-- what nothing, `!n` or `mn` says of a step
abbrev pub mark_of : List ℕ → Option Mark
mark_of [] = Some mark.Clear
mark_of (byte ∷ bytes) =
    if byte == 33 then option_map mark.Fault (number_within 0 most_moved bytes)
    else if byte == 109 then option_map mark.NoMem (number_within 0 most_moved bytes)
    else None

-- a mark other than Clear begins with `!` or `m`
abbrev pub begins_mark : ℕ → Bool
begins_mark byte = byte == 33 || byte == 109

-- an entry of both of its parts, where each is one
abbrev pub entry_with : Option Who → Option Mark → Option Entry
entry_with None m = None
entry_with (Some asker) None = None
entry_with (Some asker) (Some m) = Some (record { who = asker; mark = m })

-- the entry that the text is
abbrev pub entry_of : List ℕ → Option Entry
entry_of text =
    let ends = position_or_len begins_mark text in
    entry_with (who_of (take ends text)) (mark_of (drop ends text))

-- an entry before others, or its number where the text is none
abbrev pub entry_before : ℕ → Option Entry → Result (List Entry) ℕ → Result (List Entry) ℕ
entry_before at None later = Err at
entry_before at (Some entry) (Ok entries) = Ok (entry ∷ entries)
entry_before at (Some entry) (Err bad) = Err bad

-- the entries that the texts are, or the number of the first that is none, where the first has this number
abbrev pub entries_from : ℕ → List (List ℕ) → Result (List Entry) ℕ
entries_from at [] = Ok []
entries_from at (text ∷ texts) = entry_before at (entry_of text) (entries_from (at + 1) texts)

-- the parts behind the first one, where that is empty
abbrev pub behind_empty : List (List ℕ) → Option (List (List ℕ))
behind_empty [] = None
behind_empty ([] ∷ parts) = Some parts
behind_empty ((byte ∷ bytes) ∷ parts) = None

-- the texts of the entries: behind `#` there is a space before each of them
abbrev pub entry_texts : List ℕ → Option (List (List ℕ))
entry_texts [] = None
entry_texts (byte ∷ bytes) = if byte == 35 then behind_empty (slice_split is_space bytes) else None

-- the entries of the texts; without texts the first entry is outside the form
abbrev pub entries_of : Option (List (List ℕ)) → Result (List Entry) ℕ
entries_of None = Err 0
entries_of (Some texts) = entries_from 0 texts

-- the schedule that a line is, with its line feed or without, or the number of the first entry that is outside
-- the form, counted from 0
unfoldable pub schedule_entries : List ℕ → Result (List Entry) ℕ
schedule_entries line = entries_of (entry_texts (if is_ended line then but_last line else line))

-- the end, and nobody else
abbrev pub is_end : Who → Bool
is_end (who.Session k) = false
is_end (who.Flush row) = false
is_end (who.Reclaim row) = false
is_end who.End = true

-- the end is taken last
abbrev pub is_end_last : List Entry → Bool
is_end_last [] = false
is_end_last (entry ∷ []) = is_end entry.who
is_end_last (entry ∷ next ∷ entries) = is_end_last (next ∷ entries)
