-- How serving stops, and why.
use Rattle.std.specs.Prelude.{◌≡◌, ℕ, ◌+◌, ◌≤◌, true, false, Option, List, [], filter, length, take, ⊤}
use Rattle.std.specs.Io.KnownBytes.{Appends, Consumes}
use Rattle.vfs_model.specs.Script.{is_ended, raw_lines}
use Rattle.dfs_input.specs.Known.{IsInput}
use Rattle.dfs_input.specs.LineReader.{BeginsBadLine, ReaderState, StopsInLine, ahead, is_past_form}
use Rattle.dfs_run.specs.Serving.{GivesUp, Moment, Posts, RunsLine, Serves}
use Rattle.dfs_run.specs.declared.line_stop.LineStop.{LineStop}
use Rattle.dfs_run.specs.declared.line_stop.LineStop.TheVariants as stop
use Rattle.script_stage.specs.Scenes.{Scene}

-- The line after these is outside the form, and nothing was done for it.
pub record MeetsBadLine (old : Moment) (scene : Scene) (sink : Option (List ℕ)) (place : ℕ) : Type 0 where
  pub now : Moment
  pub serves : Serves old now
  pub stage : scene ≡ now.stage
  pub written : sink ≡ now.written
  pub line : place ≡ now.number + 1
  pub bad : BeginsBadLine now.size now.ahead

-- the bytes break off in a line, which is in its form so far, before what the source has left
pub record BreaksOff (size : ℕ) (before after : Option (List ℕ)) : Type 0 where
  pub partial : List ℕ
  pub taken : Consumes before after partial
  pub none_whole : filter is_ended (raw_lines partial) ≡ []
  pub form : is_past_form size partial ≡ false

-- The source failed in the line after these, and nothing was done for it.
pub record MeetsReadFault (old : Moment) (scene : Scene) (sink left : Option (List ℕ)) : Type 0 where
  pub now : Moment
  pub serves : Serves old now
  pub stage : scene ≡ now.stage
  pub written : sink ≡ now.written
  pub unended : now.at_end ≡ false
  pub breaks : BreaksOff now.size now.ahead left

-- All lines were served, to the end of the input.
pub record ServesAll (old : Moment) (scene : Scene) (sink : Option (List ℕ)) : Type 0 where
  pub now : Moment
  pub serves : Serves old now
  pub stage : scene ≡ now.stage
  pub written : sink ≡ now.written
  pub over : IsInput now.ahead []

-- How serving stopped, by its reason.
abbrev pub Stops : Moment → Scene → Option (List ℕ) → Option (List ℕ) → LineStop → Type 0
Stops old stage sink left stop.NoMemory = Posts old stage sink false
Stops old stage sink left (stop.BadLine line) = MeetsBadLine old stage sink line
Stops old stage sink left stop.ReadFault = MeetsReadFault old stage sink left
Stops old stage sink left stop.WriteFault = Posts old stage sink true

-- Why no line came, by its reason.
abbrev pub StopsAtLine : ReaderState → ReaderState → Option (List ℕ) → Option (List ℕ) → LineStop → Type 0
StopsAtLine old new before after stop.NoMemory = ⊤
StopsAtLine old new before after (stop.BadLine line) = (line ≡ old.number + 1) × BeginsBadLine old.size (ahead old before)
StopsAtLine old new before after stop.ReadFault = StopsInLine old new before after
StopsAtLine old new before after stop.WriteFault = ⊥

-- the line was run, and a front of its block was written
pub record WritesFront (old new : Scene) (before now : Option (List ℕ)) (line : List ℕ) : Type 0 where
  pub text : List ℕ
  pub count : ℕ
  pub runs : RunsLine old new line text
  pub fits : count ≤ length text
  pub written : Appends before now (take count text)

-- the line was run, and its block was written
pub record WritesBlock (old new : Scene) (before now : Option (List ℕ)) (line : List ℕ) : Type 0 where
  pub text : List ℕ
  pub runs : RunsLine old new line text
  pub written : Appends before now text

-- Why a line's block was not written, by its reason.
abbrev pub StopsPosting : Scene → Scene → Option (List ℕ) → Option (List ℕ) → List ℕ → LineStop → Type 0
StopsPosting old new before now line stop.NoMemory = (now ≡ before) × GivesUp old new line
StopsPosting old new before now line (stop.BadLine place) = ⊥
StopsPosting old new before now line stop.ReadFault = ⊥
StopsPosting old new before now line stop.WriteFault = WritesFront old new before now line
