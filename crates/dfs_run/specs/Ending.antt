-- How a run of the shell ends, by its reason.
use Rattle.std.specs.Prelude.{◌≡◌, ℕ, [], true, false, Option, Some, None, List, ◌++◌, take}
use Rattle.std.specs.Io.KnownBytes.{Appends}
use Rattle.vfs_base.specs.declared.entry.Entry.{Entry}
use Rattle.vfs_model.specs.FaultCounts.{ByDevice}
use Rattle.vfs_model.specs.Leaving.{IsBeforeLeaving, LeavesUnstarved}
use Rattle.vfs_model.specs.Schedule.{schedule_line}
use Rattle.vfs_model.specs.Script.{first_bad_line}
use Rattle.vfs_model.specs.ScriptRun.{has_ended, state_after}
use Rattle.vfs_model.specs.Transcript.{shown}
use Rattle.vfs_model.specs.Turns.{FollowsScript}
use Rattle.vfs_model.specs.declared.script_form.ScriptForm.TheVariants as form
use Rattle.dfs_input.specs.Known.{IsInput}
use Rattle.dfs_words.specs.declared.mode.Job.TheVariants as job
use Rattle.dfs_run.specs.Headline.{ShowsBlocks, ShowsFirstLines, ShowsLinesRead, ShowsPlainTree, lines_in_form}
use Rattle.dfs_run.specs.Run.{OfInput, Run, Streams, run_for}
use Rattle.dfs_run.specs.Standing.{Continues, StandsBehind, StopsBehind, with_lines}
use Rattle.dfs_run.specs.declared.report.FaultNote.{FaultNote}
use Rattle.dfs_run.specs.declared.report.FaultNote.TheVariants as fault
use Rattle.script_stage.specs.Scenes.{Scene, Script, told_entries}
use Rattle.script_stage.specs.Standing.{IsTakenOn}
use Rattle.step_world.specs.WorldView.{WorldView}

-- all lines are in the form, and all is shown
pub record EndsWell (run : Run) (input : List ℕ) : Type 0 where
  pub form : first_bad_line input ≡ None
  pub shows : ShowsPlainTree job.Shell run input
  pub front : ShowsFirstLines true run input

-- the line is the first outside the form, and all before it is shown
pub record EndsAtBadLine (line : ℕ) (run : Run) (input : List ℕ) : Type 0 where
  pub form : first_bad_line input ≡ Some line
  pub shows : ShowsBlocks (lines_in_form input) run
  pub front : ShowsFirstLines true run input

-- all lines that were read whole are shown
pub record EndsAtReadFault (run : Run) (input : List ℕ) : Type 0 where
  pub rest : List ℕ
  pub known : IsInput run.io.rest rest
  pub shows : ShowsLinesRead rest run input
  pub front : ShowsFirstLines true run input

-- the end of a run for this reason
abbrev pub EndsFor : Option FaultNote → Run → Type 0
EndsFor None run = OfInput run (EndsWell run)
EndsFor (Some fault.NoMemory) run = OfInput run (ShowsFirstLines false run)
EndsFor (Some fault.Usage) run = ⊥
EndsFor (Some (fault.BadDeck line)) run = OfInput run (EndsAtBadLine line run)
EndsFor (Some fault.ReadFault) run = OfInput run (EndsAtReadFault run)
EndsFor (Some fault.WriteFault) run = OfInput run (ShowsFirstLines true run)
EndsFor (Some (fault.DeviceFault device)) run = ⊥

abbrev pub ShellEnds : Run → Type 0
ShellEnds run = EndsFor run.fault run

-- the end of a run whose stage stood before the first line
abbrev pub EndsServed : Scene → Streams → List Entry → WorldView → Option FaultNote → Type 0
EndsServed start io steps view told =
    (base : Script) → StandsBehind start base [] [] → ShellEnds (run_for base io steps view.faults told)

-- The lines were run by these steps, the end was taken, and the lines' blocks are this text.
pub record HasBlocks (base : Script) (lines : List (List ℕ)) (steps : List Entry) (last : ByDevice) (text : List ℕ) : Type 0 where
  pub follows : FollowsScript form.Shell (with_lines base lines).deck base.describe steps
  pub taken : shown form.Shell (with_lines base lines).deck base.describe steps ≡ Some text
  pub whole : has_ended (state_after (with_lines base lines).deck base.describe steps) ≡ true
  pub taken_on : IsTakenOn (with_lines base lines) steps last
  pub unstarved : LeavesUnstarved (with_lines base lines).deck base.describe steps

-- By these steps the lines came so far; what was handed out is a front of their blocks, and no session left.
pub record HasFront (base : Script) (lines : List (List ℕ)) (steps : List Entry) (last : ByDevice) (handed : List ℕ) : Type 0 where
  pub later : List ℕ
  pub follows : FollowsScript form.Shell (with_lines base lines).deck base.describe steps
  pub taken : shown form.Shell (with_lines base lines).deck base.describe steps ≡ Some (handed ++ later)
  pub unended : has_ended (state_after (with_lines base lines).deck base.describe steps) ≡ false
  pub taken_on : IsTakenOn (with_lines base lines) steps last
  pub unstarved : LeavesUnstarved (with_lines base lines).deck base.describe steps
  pub before : IsBeforeLeaving (with_lines base lines).deck base.describe steps

-- the steps of a stage that stood behind lines, the end among them: the blocks are what was handed out
abbrev pub Closes : Scene → List Entry → ByDevice → Type 0
Closes scene steps last = (base : Script) (lines : List (List ℕ)) (handed : List ℕ) →
    StandsBehind scene base lines handed → HasBlocks base lines steps last handed × Continues scene steps

-- the steps of a stage that stood behind lines, without those by which the sessions left
abbrev pub LeavesOpen : Scene → List Entry → ByDevice → Type 0
LeavesOpen scene steps last = (base : Script) (lines : List (List ℕ)) (handed : List ℕ) →
    StandsBehind scene base lines handed → HasFront base lines steps last handed × Continues scene steps

-- the steps of a stage that want of memory stopped
abbrev pub KeepsSteps : Scene → List Entry → ByDevice → Type 0
KeepsSteps scene steps last = (base : Script) (lines : List (List ℕ)) (handed : List ℕ) →
    StopsBehind scene base lines handed → HasFront base lines steps last handed × Continues scene steps

-- the end was taken, and the schedule's line was written
pub record WritesEnd (scene : Scene) (steps : List Entry) (last : ByDevice) (before now : Option (List ℕ)) : Type 0 where
  pub closes : Closes scene steps last
  pub written : Appends before now (schedule_line steps)

-- the same, and a front of the line was written
pub record WritesEndFront (scene : Scene) (steps : List Entry) (last : ByDevice) (before now : Option (List ℕ)) : Type 0 where
  pub count : ℕ
  pub closes : Closes scene steps last
  pub written : Appends before now (take count (schedule_line steps))

-- a text was written, or a front of it where the sink failed
abbrev pub WritesText : Option FaultNote → Option (List ℕ) → Option (List ℕ) → List ℕ → Type 0
WritesText None before now text = Appends before now text
WritesText (Some fault.WriteFault) before now text = (count : ℕ) × Appends before now (take count text)
WritesText (Some why) before now text = ⊥

-- behind the end its schedule's line was written; where there is no memory for it nothing is, and the schedule is told without exits
abbrev pub WritesLine : Option FaultNote → Scene → List Entry → Option (List ℕ) → Option (List ℕ) → Type 0
WritesLine None scene steps before now = (steps ≡ scene.schedule) × Appends before now (schedule_line scene.schedule)
WritesLine (Some fault.NoMemory) scene steps before now = (steps ≡ told_entries scene) × (now ≡ before)
WritesLine (Some fault.WriteFault) scene steps before now =
    (steps ≡ scene.schedule) × (count : ℕ) × Appends before now (take count (schedule_line scene.schedule))
WritesLine (Some why) scene steps before now = ⊥

-- what is done behind the last line, by the reason for stopping there
abbrev pub ClosesFor : Option FaultNote → Scene → List Entry → ByDevice → Option (List ℕ) → Option (List ℕ) → Type 0
ClosesFor None scene steps last before now = WritesEnd scene steps last before now
ClosesFor (Some fault.NoMemory) scene steps last before now = LeavesOpen scene steps last × (now ≡ before)
ClosesFor (Some fault.WriteFault) scene steps last before now = WritesEndFront scene steps last before now
ClosesFor (Some why) scene steps last before now = ⊥

-- what is done where serving stopped early, for this reason: the end is taken, unless memory is wanting
abbrev pub StopsFor : FaultNote → Option FaultNote → Scene → List Entry → ByDevice → Type 0
StopsFor why None scene steps last = ⊥
StopsFor why (Some fault.NoMemory) scene steps last = LeavesOpen scene steps last
StopsFor why (Some told) scene steps last = (told ≡ why) × Closes scene steps last
