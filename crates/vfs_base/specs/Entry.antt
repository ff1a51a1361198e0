-- How an entry of a schedule is printed.
use Rattle.std.specs.Prelude.{ℕ, List, [], ◌∷◌, ◌++◌}
use Rattle.std.specs.Fmt.{decimal}
use Rattle.vfs_base.specs.declared.entry.Mark.{Mark}
use Rattle.vfs_base.specs.declared.entry.Mark.TheVariants as mark
use Rattle.vfs_base.specs.declared.entry.Who.{Who}
use Rattle.vfs_base.specs.declared.entry.Who.TheVariants as who
use Rattle.vfs_base.specs.declared.entry.Entry.{Entry}

-- nothing, `!n` or `mn`
abbrev pub mark_text : Mark → List ℕ
mark_text mark.Clear = []
mark_text (mark.Fault n) = 33 ∷ decimal n
mark_text (mark.NoMem n) = 109 ∷ decimal n

-- `k`, `fR`, `rR` or `z`
abbrev pub who_text : Who → List ℕ
who_text (who.Session k) = decimal k
who_text (who.Flush row) = 102 ∷ decimal row
who_text (who.Reclaim row) = 114 ∷ decimal row
who_text who.End = 122 ∷ []

-- who took the step, and how it came out
abbrev pub entry_text : Entry → List ℕ
entry_text entry = who_text entry.who ++ mark_text entry.mark
