-- A run of the program, as the outside and its report tell it.
use Rattle.std.specs.Prelude.{ℕ, ◌≤◌, Option, List, length}
use Rattle.std.specs.Io.KnownBytes.{Consumes, IsAtEnd}
use Rattle.vfs_base.specs.declared.describe.Describe.{Describe}
use Rattle.vfs_base.specs.declared.entry.Entry.{Entry}
use Rattle.vfs_base.specs.declared.limits.TheConstants.{DECK_MAX}
use Rattle.vfs_model.specs.FaultCounts.{ByDevice, no_devices}
use Rattle.dfs_input.specs.Known.{IsInput}
use Rattle.script_stage.specs.Scenes.{Script}
use Rattle.dfs_run.specs.declared.report.FaultNote.{FaultNote}
use Rattle.dfs_run.specs.declared.report.Report.{Report}

-- What the source had left, and has left, where it tells that; and what the sink held, and holds, where it tells that.
pub record Streams : Type 0 where
  pub given : Option (List ℕ)
  pub rest : Option (List ℕ)
  pub before : Option (List ℕ)
  pub now : Option (List ℕ)

pub record Run : Type 0 where
  pub io : Streams
  -- what the devices show of themselves, and how many faults each counted before and has counted now
  pub describe : Describe
  pub first : ByDevice
  pub last : ByDevice
  -- the steps that are reported, and why the run ended early
  pub schedule : List Entry
  pub fault : Option FaultNote

-- what the streams tell before and now
abbrev pub streams : Option (List ℕ) → Option (List ℕ) → Option (List ℕ) → Option (List ℕ) → Streams
streams given rest before now = record { given = given; rest = rest; before = before; now = now }

-- the run of a script on its devices
abbrev pub run_for : Script → Streams → List Entry → ByDevice → Option FaultNote → Run
run_for base io schedule last fault =
    record { io = io; describe = base.describe; first = base.counted; last = last; schedule = schedule; fault = fault }

-- a fact of what a source gives: of the input that it told, or of one that there is where it tells nothing
abbrev pub OfGiven : Option (List ℕ) → (List ℕ → Type 0) → Type 0
OfGiven given P = (input : List ℕ) × IsInput given input × P input

-- a fact of the input of a run
abbrev pub OfInput : Run → (List ℕ → Type 0) → Type 0
OfInput run P = OfGiven run.io.given P

-- what a run was given is known to be its input, and what was left behind it
abbrev pub AfterReading : Run → (List ℕ → List ℕ → Type 0) → List ℕ → Type 0
AfterReading run P input = (rest : List ℕ) × IsInput run.io.rest rest × P rest input

-- the program as a whole: what is seen of its source and its sink, its devices, and its report; the devices have counted no fault,
-- since none can be handed in yet
abbrev pub run_of : Streams → Describe → Report → Run
run_of io describe report =
    record { io = io; describe = describe; first = no_devices; last = no_devices; schedule = report.schedule; fault = report.fault }

-- a source was read to its end, or past the greatest size of an input
abbrev pub ReadsThrough : Option (List ℕ) → Option (List ℕ) → Type 0
ReadsThrough old new = (bytes : List ℕ) × Consumes old new bytes × (length bytes ≤ DECK_MAX → IsAtEnd new)
