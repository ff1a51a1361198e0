-- Where the end of a run comes from: the counts of faults of the source and of the sink say it.
use Rattle.std.specs.Prelude.{◌≡◌, ℕ, ⊤, Option, Some, None, Result, Ok, Err}
use Rattle.vfs_outside.specs.Causes.{Rose}
use Rattle.dfs_run.specs.declared.line_stop.LineStop.{LineStop}
use Rattle.dfs_run.specs.declared.line_stop.LineStop.TheVariants as stop
use Rattle.dfs_run.specs.declared.report.FaultNote.{FaultNote}
use Rattle.dfs_run.specs.declared.report.FaultNote.TheVariants as fault

-- neither failed
abbrev pub IsQuiet : ℕ → ℕ → ℕ → ℕ → Type 0
IsQuiet source_before source_now sink_before sink_now = (source_now ≡ source_before) × (sink_now ≡ sink_before)

-- the reason in the report's words
abbrev pub note_of : LineStop → FaultNote
note_of stop.NoMemory = fault.NoMemory
note_of (stop.BadLine line) = fault.BadDeck line
note_of stop.ReadFault = fault.ReadFault
note_of stop.WriteFault = fault.WriteFault

-- the counts of the source and of the sink: the run ended at the first fault of either, and for no other reason behind it
abbrev pub HasCause : ℕ → ℕ → ℕ → ℕ → Option FaultNote → Type 0
HasCause source_before source_now sink_before sink_now None = IsQuiet source_before source_now sink_before sink_now
HasCause source_before source_now sink_before sink_now (Some fault.NoMemory) = ⊤
HasCause source_before source_now sink_before sink_now (Some fault.Usage) = IsQuiet source_before source_now sink_before sink_now
HasCause source_before source_now sink_before sink_now (Some (fault.BadDeck line)) = IsQuiet source_before source_now sink_before sink_now
HasCause source_before source_now sink_before sink_now (Some fault.ReadFault) = Rose source_before source_now × (sink_now ≡ sink_before)
HasCause source_before source_now sink_before sink_now (Some fault.WriteFault) = (source_now ≡ source_before) × Rose sink_before sink_now
HasCause source_before source_now sink_before sink_now (Some (fault.DeviceFault device)) = IsQuiet source_before source_now sink_before sink_now

-- the same of lines that were served
abbrev pub HasLineCause : {T : Type 0} → ℕ → ℕ → ℕ → ℕ → Result T LineStop → Type 0
HasLineCause source_before source_now sink_before sink_now (Ok served) = IsQuiet source_before source_now sink_before sink_now
HasLineCause source_before source_now sink_before sink_now (Err why) = HasCause source_before source_now sink_before sink_now (Some (note_of why))
