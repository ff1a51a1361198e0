-- How a replay ends, by its reason.
use Rattle.std.specs.Prelude.{◌≡◌, ◌⊎◌, ℕ, Bool, true, false, ⊤, Option, Some, None, Result, Err, Ok, List, [], take}
use Rattle.std.specs.Io.KnownBytes.{Appends}
use Rattle.vfs_base.specs.declared.deck.Deck.{Deck}
use Rattle.vfs_base.specs.declared.entry.Entry.{Entry}
use Rattle.vfs_model.specs.Deck.{deck_of}
use Rattle.vfs_model.specs.FaultCounts.{ByDevice}
use Rattle.vfs_model.specs.Transcript.{transcript}
use Rattle.vfs_model.specs.Turns.{script_tasks}
use Rattle.vfs_model.specs.declared.script_form.ScriptForm.TheVariants as form
use Rattle.vfs_outside.specs.Causes.{Rose}
use Rattle.dfs_input.specs.Known.{IsInput}
use Rattle.dfs_words.specs.declared.mode.Job.{Job}
use Rattle.dfs_words.specs.declared.mode.Job.TheVariants as job
use Rattle.dfs_run.specs.Ending.{ShellEnds}
use Rattle.dfs_run.specs.Headline.{ShowsFrontOf, ShowsNothing, ShowsPlainTree, ShowsScript, HasTranscript}
use Rattle.dfs_run.specs.Run.{OfInput, ReadsThrough, Run, Streams, run_for}
use Rattle.dfs_run.specs.declared.report.FaultNote.{FaultNote}
use Rattle.dfs_run.specs.declared.report.FaultNote.TheVariants as fault
use Rattle.dfs_run.specs.declared.script_stop.ScriptStop.{ScriptStop}
use Rattle.dfs_run.specs.declared.script_stop.ScriptStop.TheVariants as stop
use Rattle.script_stage.specs.Scenes.{Scene, Script, told_entries}
use Rattle.script_stage.specs.Standing.{ClosesAt, StandsAt}
use Rattle.step_world.specs.WorldView.{WorldView}

-- an input is read as this script
abbrev pub IsReadAs : Option (List ℕ) → Deck → Type 0
IsReadAs given deck = (input : List ℕ) × IsInput given input × (deck_of input ≡ Ok deck)

-- the reason in the report's words
abbrev pub script_note : ScriptStop → FaultNote
script_note stop.NoMemory = fault.NoMemory
script_note (stop.BadLine line) = fault.BadDeck line
script_note stop.ReadFault = fault.ReadFault

-- why no script was read of a source that had and has these bytes left
abbrev pub StopsScript : Option (List ℕ) → Option (List ℕ) → ScriptStop → Type 0
StopsScript given rest stop.NoMemory = ⊤
StopsScript given rest (stop.BadLine line) = ReadsThrough given rest × ((input : List ℕ) × IsInput given input × (deck_of input ≡ Err line))
StopsScript given rest stop.ReadFault = ⊤

-- the source's count of faults rose where the source failed, and else only where memory was wanting
abbrev pub HasScriptCause : {T : Type 0} → ℕ → ℕ → Result T ScriptStop → Type 0
HasScriptCause before now (Ok script) = now ≡ before
HasScriptCause before now (Err stop.NoMemory) = ⊤
HasScriptCause before now (Err (stop.BadLine line)) = now ≡ before
HasScriptCause before now (Err stop.ReadFault) = Rose before now

-- the ends of a replay before which the source was read through
abbrev pub reads_all : Option FaultNote → Bool
reads_all None = true
reads_all (Some (fault.BadDeck line)) = true
reads_all (Some fault.WriteFault) = true
reads_all (Some why) = false

-- the sink is untouched at each end of a replay but the two at which its transcript is written; at the ends before a script was
-- read no step was taken
abbrev pub LeavesSink : {K : Type 0} → Option FaultNote → List Entry → K → K → Type 0
LeavesSink None steps old new = ⊤
LeavesSink (Some fault.WriteFault) steps old new = ⊤
LeavesSink (Some fault.NoMemory) steps old new = new ≡ old
LeavesSink (Some why) steps old new = (new ≡ old) × (steps ≡ [])

-- a sink alone
abbrev pub written_io : Option (List ℕ) → Option (List ℕ) → Streams
written_io before now = record { given = None; rest = None; before = before; now = now }

-- the whole transcript was written
pub record ShowsWhole (deck : Deck) (run : Run) : Type 0 where
  pub text : List ℕ
  pub transcript : HasTranscript form.Replay deck run true text
  pub written : Appends run.io.before run.io.now text

-- how the run of a script ends, for this reason
abbrev pub PlaysFor : Option FaultNote → Script → List Entry → ByDevice → Option (List ℕ) → Option (List ℕ) → Type 0
PlaysFor None script steps last before now = ShowsWhole script.deck (run_for script (written_io before now) steps last None)
PlaysFor (Some fault.NoMemory) script steps last before now =
    (now ≡ before) × ((steps ≡ []) ⊎ ShowsFrontOf form.Replay script.deck false (run_for script (written_io before now) steps last None))
PlaysFor (Some fault.WriteFault) script steps last before now = ShowsFrontOf form.Replay script.deck true (run_for script (written_io before now) steps last None)
PlaysFor (Some why) script steps last before now = ⊥

-- the same of a stage at the start of this script
abbrev pub PlaysOn : Scene → Deck → Option FaultNote → List Entry → WorldView → Option (List ℕ) → Option (List ℕ) → Type 0
PlaysOn start deck told steps view before now =
    (script : Script) → script.deck ≡ deck → StandsAt start script (script_tasks script.deck) [] → PlaysFor told script steps view.faults before now

-- what a stage that took the end shows of this script
abbrev pub IsTranscript : Scene → Deck → List ℕ → Type 0
IsTranscript scene deck text =
    (script : Script) → script.deck ≡ deck → ClosesAt scene script [] → transcript form.Replay script.deck script.describe scene.schedule ≡ Some text

-- the transcript of a stage behind its end was written, or a front of it; where there is no memory for it nothing is, and the
-- schedule is told without exits
abbrev pub WritesTranscript : Option FaultNote → Script → Scene → List Entry → Option (List ℕ) → Option (List ℕ) → Type 0
WritesTranscript None script scene steps before now =
    (steps ≡ scene.schedule) × (text : List ℕ) × (transcript form.Replay script.deck script.describe scene.schedule ≡ Some text) × Appends before now text
WritesTranscript (Some fault.NoMemory) script scene steps before now = (steps ≡ told_entries scene) × (now ≡ before)
WritesTranscript (Some fault.WriteFault) script scene steps before now =
    (steps ≡ scene.schedule) × (text : List ℕ) × (transcript form.Replay script.deck script.describe scene.schedule ≡ Some text)
    × (count : ℕ) × Appends before now (take count text)
WritesTranscript (Some why) script scene steps before now = ⊥

-- the same, whatever script of this deck the stage has run
abbrev pub WritesFor : Option FaultNote → Deck → Scene → List Entry → Option (List ℕ) → Option (List ℕ) → Type 0
WritesFor told deck scene steps before now =
    (script : Script) → script.deck ≡ deck → ClosesAt scene script [] → WritesTranscript told script scene steps before now

-- the end of a replay of this input, for this reason
abbrev pub ReplayEndsFor : Option FaultNote → Run → List ℕ → Type 0
ReplayEndsFor None run input = ShowsPlainTree job.Replay run input
ReplayEndsFor (Some fault.NoMemory) run input = ShowsNothing run ⊎ ((run.io.now ≡ run.io.before) × ShowsScript false run input)
ReplayEndsFor (Some (fault.BadDeck line)) run input = (deck_of input ≡ Err line) × ShowsNothing run
ReplayEndsFor (Some fault.ReadFault) run input = ShowsNothing run
ReplayEndsFor (Some fault.WriteFault) run input = ShowsScript true run input
ReplayEndsFor (Some fault.Usage) run input = ⊥
ReplayEndsFor (Some (fault.DeviceFault device)) run input = ⊥

abbrev pub ReplayEnds : Run → Type 0
ReplayEnds run = OfInput run (ReplayEndsFor run.fault run)

-- the end of a run of this job
abbrev pub JobEnds : Job → Run → Type 0
JobEnds job.Shell run = ShellEnds run
JobEnds job.Replay run = ReplayEnds run
