-- The status that the program ends with.
use Rattle.std.proofs.Math.Utf8.{encode}
use Rattle.std.specs.List.{flat_map}
use Rattle.std.specs.Prelude.{ℕ, Option, Some, None, List}
use Rattle.dfs_run.specs.declared.report.FaultNote.{FaultNote}
use Rattle.dfs_run.specs.declared.report.FaultNote.TheVariants as fault

abbrev pub status_of : Option FaultNote → ℕ
status_of None = 0
status_of (Some fault.NoMemory) = 1
status_of (Some fault.Usage) = 2
status_of (Some (fault.BadDeck line)) = 3
status_of (Some fault.ReadFault) = 4
status_of (Some fault.WriteFault) = 5
status_of (Some (fault.DeviceFault device)) = 6

-- a name as it is shown: each of its bytes as a character, in UTF-8
abbrev pub name_text : List ℕ → List ℕ
name_text name = flat_map encode name
