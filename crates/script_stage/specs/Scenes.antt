-- What a stage has, and where its schedule leads.
use Rattle.std.specs.Prelude.{◌≡◌, ℕ, ◌-◌, ◌≤◌, ◌==◌, Option, Some, None, List, [], ◌∷◌, ◌++◌, take, slice_index_or, slice_set, if◌then◌else◌}
use Rattle.std.specs.List.{flat_map}
use Rattle.vfs_base.specs.declared.deck.Deck.{Deck}
use Rattle.vfs_base.specs.declared.describe.Describe.{Describe}
use Rattle.vfs_base.specs.declared.entry.Entry.{Entry}
use Rattle.vfs_base.specs.declared.limits.TheConstants.{SESSIONS}
use Rattle.vfs_model.specs.FaultCounts.{ByDevice, NoneFalls}
use Rattle.vfs_model.specs.ScriptRun.{RunState, opening_state, state_after}
use Rattle.vfs_model.specs.Turns.{Posts, RunOut, Steps, Leaves, Task, keeps_turns, opening_agenda}
use Rattle.step_world.specs.WorldView.{WorldView}
use Rattle.script_stage.specs.declared.stage_session.StageSession.{StageSession}

-- A script, the devices that it is run on, and the faults that these had counted before.
pub record Script : Type 0 where
  pub deck : Deck
  pub describe : Describe
  pub counted : ByDevice

-- What is seen of the world, the sessions by number, and the schedule so far.
pub record Scene : Type 0 where
  pub view : WorldView
  pub sessions : List StageSession
  pub schedule : List Entry
  -- how many entries there were when the sessions began to leave
  pub leaves_at : Option ℕ

abbrev pub entries_before : Option ℕ → List Entry → List Entry
entries_before None schedule = schedule
entries_before (Some count) schedule = take count schedule

-- the entries before those by which the sessions leave: what is told of a run that ends early
abbrev pub told_entries : Scene → List Entry
told_entries scene = entries_before scene.leaves_at scene.schedule

-- Entries were added behind those that there were.
pub record GoesOn (old new : Scene) : Type 0 where
  pub later : List Entry
  pub schedule : new.schedule ≡ old.schedule ++ later
  pub leaves_at : new.leaves_at ≡ old.leaves_at

-- The same, and what is told early goes on behind them too.
pub record TellsMore (old new : Scene) : Type 0 where
  pub later : List Entry
  pub schedule : new.schedule ≡ old.schedule ++ later
  pub more : List Entry
  pub told : told_entries new ≡ old.schedule ++ more

-- a session is another one
abbrev pub with_session : Scene → ℕ → StageSession → Scene
with_session scene place session = record scene { sessions = slice_set scene.sessions place session }

-- the world took a step, and its entry is the last one
abbrev pub with_entry : Scene → WorldView → List StageSession → Entry → Scene
with_entry scene view sessions entry = record scene { view = view; sessions = sessions; schedule = scene.schedule ++ entry ∷ [] }

-- no entry was added
pub record Halts (old new : Scene) : Type 0 where
  pub schedule : new.schedule ≡ old.schedule
  pub leaves_at : new.leaves_at ≡ old.leaves_at
  pub rising : NoneFalls old.view.faults new.view.faults

-- the number of a session
abbrev pub IsNumber : ℕ → Type 0
IsNumber k = (1 ≤ k) × (k ≤ SESSIONS)

-- the lines that were posted so far to a session
abbrev pub posted_to : List (List (List ℕ)) → ℕ → List (List ℕ)
posted_to posted k = slice_index_or posted (k - 1) []

-- the lines that a task posts to a session
abbrev pub task_lines : ℕ → Task → List (List ℕ)
task_lines k (RunOut j) = []
task_lines k (Posts j text) = if j == k then text ∷ [] else []
task_lines k (Steps asker) = []
task_lines k (Leaves j) = []

-- the lines that tasks post to a session
abbrev pub lines_left : ℕ → List Task → List (List ℕ)
lines_left k tasks = flat_map (task_lines k) tasks

-- what was handed out of a session: something of the first one only
abbrev pub handed_of : List ℕ → ℕ → List ℕ
handed_of handed k = if k == 1 then handed else []

-- The schedule leads to this state, and what follows it is judged from there by these lines and tasks.
pub record Reaches (deck : Deck) (describe : Describe) (schedule : List Entry) (s : RunState) (posted : List (List (List ℕ))) (tasks : List Task) : Type 0 where
  pub taken : state_after deck describe schedule ≡ Some s
  pub turns : (more : List Entry) →
      keeps_turns deck (opening_state deck describe) (opening_agenda deck) (schedule ++ more)
      ≡ keeps_turns deck s (record { posted = posted; tasks = tasks }) more
