-- What a run shows of its input, by the schedule that it reports.
use Rattle.std.specs.Prelude.{◌≡◌, ◌⊎◌, ℕ, ◌≤◌, ◌-◌, Bool, IfSome, true, false, is_some, Option, Some, None, unwrap_or, option_map, Ok, List, [], ◌∷◌, ◌++◌, length, take, drop, filter, if◌then◌else◌}
use Rattle.std.specs.List.{concat}
use Rattle.std.specs.Result.{result_ok, result_err}
use Rattle.std.specs.Io.KnownBytes.{Appends}
use Rattle.vfs_base.specs.declared.deck.Deck.{Deck}
use Rattle.vfs_base.specs.declared.entry.Entry.{Entry}
use Rattle.vfs_base.specs.declared.entry.Mark.TheVariants as mark
use Rattle.vfs_base.specs.declared.entry.Who.TheVariants as who
use Rattle.vfs_model.specs.Deck.{deck_of, shell_deck}
use Rattle.vfs_model.specs.Leaving.{IsBeforeLeaving, LeavesUnstarved}
use Rattle.vfs_model.specs.Script.{first_bad_from, first_bad_line, input_lines, is_ended, raw_lines, whole_lines}
use Rattle.vfs_model.specs.ScriptRun.{RunState, has_ended, run_of, state_after}
use Rattle.vfs_model.specs.Tally.{is_faultless}
use Rattle.vfs_model.specs.Transcript.{shown, transcript}
use Rattle.vfs_model.specs.Turns.{FollowsScript}
use Rattle.vfs_model.specs.declared.script_form.ScriptForm.{ScriptForm}
use Rattle.vfs_model.specs.declared.script_form.ScriptForm.TheVariants as form
use Rattle.dfs_input.specs.LineReader.{is_past_form}
use Rattle.dfs_words.specs.declared.mode.Job.{Job}
use Rattle.dfs_words.specs.declared.mode.Job.TheVariants as job
use Rattle.dfs_run.specs.Run.{AfterReading, OfGiven, OfInput, Run}
use Rattle.dfs_run.specs.declared.report.FaultNote.{FaultNote}
use Rattle.dfs_run.specs.declared.report.FaultNote.TheVariants as fault
use Rattle.dfs_run.specs.declared.report.Report.{Report}
use Rattle.script_stage.specs.Scenes.{Script}
use Rattle.script_stage.specs.Standing.{IsTakenOn}

-- how the script of a job is run
abbrev pub script_form : Job → ScriptForm
script_form job.Shell = form.Shell
script_form job.Replay = form.Replay

-- the script that an input is: each line of a shell's is posted to its first session
abbrev pub input_script : Job → List ℕ → Option Deck
input_script job.Shell input = Some (shell_deck (input_lines input))
input_script job.Replay input = result_ok (deck_of input)

-- the number of the first line of an input that is outside its form
abbrev pub first_bad : Job → List ℕ → Option ℕ
first_bad job.Shell input = first_bad_line input
first_bad job.Replay input = result_err (deck_of input)

-- the script on the devices of a run
abbrev pub on_devices : Deck → Run → Script
on_devices deck run = record { deck = deck; describe = run.describe; counted = run.first }

-- The schedule follows the script, each of its entries can be taken, it is whole or not, and this is the transcript. Each fault of
-- a device among its marks has a rise of a device of that step, and memory was wanting nowhere where none is needed: so at no step
-- by which a session leaves, nor at the end. And no session leaves by a schedule that isn't whole.
pub record HasTranscript (shape : ScriptForm) (deck : Deck) (run : Run) (whole : Bool) (text : List ℕ) : Type 0 where
  pub follows : FollowsScript shape deck run.describe run.schedule
  pub taken : transcript shape deck run.describe run.schedule ≡ Some text
  pub ends : has_ended (state_after deck run.describe run.schedule) ≡ whole
  pub taken_on : IsTakenOn (on_devices deck run) run.schedule run.last
  pub unstarved : LeavesUnstarved deck run.describe run.schedule
  pub before : whole ≡ false → IsBeforeLeaving deck run.describe run.schedule

-- What was written behind what stood there is the transcript of the whole script, the schedule's line at its end.
pub record ShowsPlainTree (job : Job) (run : Run) (input : List ℕ) : Type 0 where
  pub deck : Deck
  pub text : List ℕ
  pub script : input_script job input ≡ Some deck
  pub transcript : HasTranscript (script_form job) deck run true text
  pub written : Appends run.io.before run.io.now text

-- What was written is a front of the transcript of this script.
pub record ShowsFrontOf (shape : ScriptForm) (deck : Deck) (whole : Bool) (run : Run) : Type 0 where
  pub text : List ℕ
  pub size : ℕ
  pub transcript : HasTranscript shape deck run whole text
  pub written : Appends run.io.before run.io.now (take size text)

-- Nothing was written, and no step was taken.
pub record ShowsNothing (run : Run) : Type 0 where
  pub schedule : run.schedule ≡ []
  pub written : run.io.now ≡ run.io.before

-- so many bytes have the blocks of all lines but the last
abbrev pub ShowsAllButLast : List (List ℕ) → Run → ℕ → Type 0
ShowsAllButLast lines run size =
    (s : RunState) → state_after (shell_deck lines) run.describe run.schedule ≡ Some s →
    length (concat (take (length lines - 1) (run_of (shell_deck lines) s 1).blocks)) ≤ size

-- The first lines of the input were posted, and a front of their transcript was written: at least the blocks of all of them but the
-- last, so that each block was written before the next line was run.
pub record ShowsFirstLines (whole : Bool) (run : Run) (input : List ℕ) : Type 0 where
  pub count : ℕ
  pub front : ShowsFrontOf form.Shell (shell_deck (take count (input_lines input))) whole run
  pub prompt : ShowsAllButLast (take count (input_lines input)) run front.size

-- The input is a script, and a front of its transcript was written.
pub record ShowsScript (whole : Bool) (run : Run) (input : List ℕ) : Type 0 where
  pub deck : Deck
  pub script : deck_of input ≡ Ok deck
  pub front : ShowsFrontOf form.Replay deck whole run

-- what a replay shows by its end: nothing before the script was read and run
abbrev pub ReplayShows : Option FaultNote → Run → List ℕ → Type 0
ReplayShows None run input = ShowsScript true run input
ReplayShows (Some fault.NoMemory) run input = ShowsNothing run ⊎ ((run.io.now ≡ run.io.before) × ShowsScript false run input)
ReplayShows (Some fault.WriteFault) run input = ShowsScript true run input
ReplayShows (Some why) run input = ShowsNothing run

-- the end was taken: at each end of a shell but want of memory
abbrev pub is_closed : Option FaultNote → Bool
is_closed (Some fault.NoMemory) = false
is_closed _ = true

-- what a run shows by its end: in a shell the first lines, and in a replay all or nothing
abbrev pub ShowsFront : Job → Run → List ℕ → Type 0
ShowsFront job.Shell run input = ShowsFirstLines (is_closed run.fault) run input
ShowsFront job.Replay run input = ReplayShows run.fault run input

-- These lines were run, the end was taken, and what was written is the blocks of the lines.
pub record ShowsBlocks (lines : List (List ℕ)) (run : Run) : Type 0 where
  pub text : List ℕ
  pub follows : FollowsScript form.Shell (shell_deck lines) run.describe run.schedule
  pub taken : shown form.Shell (shell_deck lines) run.describe run.schedule ≡ Some text
  pub whole : has_ended (state_after (shell_deck lines) run.describe run.schedule) ≡ true
  pub written : Appends run.io.before run.io.now text

-- the lines of bytes whose line feeds are among them, as they stand
abbrev pub ended_lines : List ℕ → List (List ℕ)
ended_lines read = filter is_ended (raw_lines read)

-- the bytes of a line that was begun, behind the last line feed
abbrev pub begun_line : List ℕ → List ℕ
begun_line read = drop (length (concat (ended_lines read))) read

-- the lines that were read whole are in their form, and so is what was read of a line behind them
pub record IsReadInForm (read : List ℕ) : Type 0 where
  pub lines : first_bad_from 1 0 (ended_lines read) ≡ None
  pub begun : is_past_form (length (concat (ended_lines read))) (begun_line read) ≡ false

-- what was read of the input is these bytes, in their form, and the blocks of the lines that stand whole in them are shown
pub record ShowsLinesRead (rest : List ℕ) (run : Run) (input : List ℕ) : Type 0 where
  pub read : List ℕ
  pub taken : input ≡ read ++ rest
  pub form : IsReadInForm read
  pub blocks : ShowsBlocks (whole_lines read) run

-- the lines of the input before the first one that is outside the form
abbrev pub lines_in_form : List ℕ → List (List ℕ)
lines_in_form input = unwrap_or (option_map (λ line. take (line - 1) (input_lines input)) (first_bad_line input)) (input_lines input)

-- the last entry is the end, which nothing stopped
pub record EndsClear (schedule : List Entry) : Type 0 where
  pub front : List Entry
  pub last : schedule ≡ front ++ record { who = who.End; mark = mark.Clear } ∷ []

-- how a run ends in which nothing failed: for want of memory, or by the form of the input; and no device's fault is among its marks
abbrev pub EndsByForm : Job → List Entry → ℕ → List ℕ → Type 0
EndsByForm job schedule status input = ((status ≡ 1) ⊎ (status ≡ (if is_some (first_bad job input) then 3 else 0))) × (is_faultless schedule ≡ true)

-- all of the job that the words ask for is shown
abbrev pub ShowsAll : Option Job → Run → Type 0
ShowsAll asked run = IfSome asked (λ job. OfInput run (ShowsPlainTree job run))

-- what is shown of the job where not all is
abbrev pub ShowsSome : Option Job → Run → Type 0
ShowsSome asked run = IfSome asked (λ job. OfInput run (ShowsFront job run))

-- of a shell the lines before the first one outside the form are shown
abbrev pub ShowsInForm : Option Job → Run → Type 0
ShowsInForm asked run = asked ≡ Some job.Shell → OfInput run (λ input. ShowsBlocks (lines_in_form input) run)

-- of a shell the lines that were read whole are shown
abbrev pub ShowsRead : Option Job → Run → Type 0
ShowsRead asked run = asked ≡ Some job.Shell → OfInput run (AfterReading run (λ rest. ShowsLinesRead rest run))

-- the note names the first line of the input that is outside the form
abbrev pub NamesFirstBad : Option Job → Option (List ℕ) → Option FaultNote → Type 0
NamesFirstBad asked given note = IfSome asked (λ job. OfGiven given (λ input. note ≡ option_map fault.BadDeck (first_bad job input)))

-- no line of the input is outside the form
abbrev pub HasForm : Option Job → Option (List ℕ) → Type 0
HasForm asked given = IfSome asked (λ job. OfGiven given (λ input. first_bad job input ≡ None))

-- the job ends for want of memory, or by the form of its input
abbrev pub EndsAsAsked : Option Job → Option (List ℕ) → Report → Type 0
EndsAsAsked asked given report = IfSome asked (λ job. OfGiven given (EndsByForm job report.schedule report.status))
