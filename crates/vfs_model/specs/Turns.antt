-- Whose turn it is: the order in which a script's lines ask for steps.
use Rattle.std.specs.Prelude.{◌≡◌, ℕ, ◌-◌, ◌==◌, Bool, true, false, ◌&&◌, is_some, Option, Some, None, List, [], ◌∷◌, ◌++◌, map, replicate, slice_index_or, slice_set, if◌then◌else◌}
use Rattle.std.specs.List.{flat_map}
use Rattle.vfs_base.specs.declared.deck.Act.{Act}
use Rattle.vfs_base.specs.declared.deck.Act.TheVariants as act
use Rattle.vfs_base.specs.declared.deck.Deck.{Deck}
use Rattle.vfs_base.specs.declared.describe.Describe.{Describe}
use Rattle.vfs_base.specs.declared.entry.Entry.{Entry}
use Rattle.vfs_base.specs.declared.entry.Who.{Who}
use Rattle.vfs_base.specs.declared.entry.Who.TheVariants as who
use Rattle.vfs_base.specs.declared.limits.TheConstants.{SESSIONS}
use Rattle.vfs_model.specs.Schedule.{is_end_last}
use Rattle.vfs_model.specs.Session.{SessionRun, exit_step, is_pending, session_run}
use Rattle.vfs_model.specs.ScriptRun.{RunState, heard_by, opening_state, sessions, take_entry}
use Rattle.vfs_model.specs.declared.script_form.ScriptForm.{ScriptForm}
use Rattle.vfs_model.specs.declared.script_form.ScriptForm.TheVariants as form

-- What is to be done, one after the other.
pub data Task : Type 0 where
  -- the session's pending command is run to its end
  RunOut : ℕ → Task
  -- the line is posted to the session
  Posts : ℕ → List ℕ → Task
  -- one step is taken
  Steps : Who → Task
  -- the session makes its exit steps
  Leaves : ℕ → Task

-- a line waits for the session's pending command, and events are steps in their order
abbrev pub act_tasks : Act → List Task
act_tasks (act.Post k text go) = RunOut k ∷ Posts k text ∷ (if go then RunOut k ∷ [] else [])
act_tasks (act.Events askers) = map Steps askers

-- the acts in their order; then the pending commands run out, the sessions leave, and the end comes
abbrev pub script_tasks : Deck → List Task
script_tasks deck = flat_map act_tasks deck.acts ++ map RunOut sessions ++ map Leaves sessions ++ Steps who.End ∷ []

-- The lines that were posted so far to each session, and what is still to be done.
pub record Agenda : Type 0 where
  pub posted : List (List (List ℕ))
  pub tasks : List Task

-- nothing is posted yet, and all is to be done
abbrev pub opening_agenda : Deck → Agenda
opening_agenda deck = record { posted = replicate SESSIONS []; tasks = script_tasks deck }

-- how far the lines that were posted so far to a session have come
abbrev pub posted_run : List (List (List ℕ)) → RunState → ℕ → SessionRun
posted_run posted s k = session_run (slice_index_or posted (k - 1) []) (heard_by s k)

-- the session, where the test holds
abbrev pub session_if : Bool → ℕ → Option Who
session_if test k = if test then Some (who.Session k) else None

-- who is to take an event's step: an event of a session with nothing pending is passed over
abbrev pub event_who : List (List (List ℕ)) → RunState → Who → Option Who
event_who posted s (who.Session k) = session_if (is_pending (posted_run posted s k)) k
event_who posted s (who.Flush row) = Some (who.Flush row)
event_who posted s (who.Reclaim row) = Some (who.Reclaim row)
event_who posted s who.End = Some who.End

-- who is to take a step for a task; none where it needs no step, or no further one
abbrev pub task_who : List (List (List ℕ)) → RunState → Task → Option Who
task_who posted s (RunOut k) = session_if (is_pending (posted_run posted s k)) k
task_who posted s (Posts k text) = None
task_who posted s (Steps asker) = event_who posted s asker
task_who posted s (Leaves k) = session_if (is_some (exit_step (posted_run posted s k))) k

-- what is left of a task after a step of it
abbrev pub task_rest : Task → List Task
task_rest (RunOut k) = RunOut k ∷ []
task_rest (Posts k text) = []
task_rest (Steps asker) = []
task_rest (Leaves k) = Leaves k ∷ []

-- the lines that are posted after a task that needs no step
abbrev pub posted_after : List (List (List ℕ)) → Task → List (List (List ℕ))
posted_after posted (RunOut k) = posted
posted_after posted (Posts k text) = slice_set posted (k - 1) (slice_index_or posted (k - 1) [] ++ text ∷ [])
posted_after posted (Steps asker) = posted
posted_after posted (Leaves k) = posted

-- Who takes the next step, and what is to be done after it.
pub record Turn : Type 0 where
  pub who : Who
  pub agenda : Agenda

-- the first task that needs a step says who takes it; the tasks before it are passed over
abbrev pub next_turn : RunState → List (List (List ℕ)) → List Task → Option Turn
next_turn s posted [] = None
next_turn s posted (task ∷ tasks) = by_who (task_who posted s task) (next_turn s (posted_after posted task) tasks)
  where
    by_who : Option Who → Option Turn → Option Turn
    by_who None later = later
    by_who (Some asker) later = Some (record { who = asker; agenda = record { posted = posted; tasks = task_rest task ++ tasks } })

-- the two are the same
abbrev pub same_who : Who → Who → Bool
same_who (who.Session j) (who.Session k) = j == k
same_who (who.Flush p) (who.Flush q) = p == q
same_who (who.Reclaim p) (who.Reclaim q) = p == q
same_who who.End who.End = true
same_who _ _ = false

-- there is a value, and it passes
abbrev pub is_some_and : {X : Type 0} → Option X → (X → Bool) → Bool
is_some_and None test = false
is_some_and (Some x) test = test x

-- each entry is of the one whose turn it is, from a state and an agenda on
abbrev pub keeps_turns : Deck → RunState → Agenda → List Entry → Bool
keeps_turns deck s agenda [] = true
keeps_turns deck s agenda (entry ∷ entries) =
    is_some_and (next_turn s agenda.posted agenda.tasks) (λ turn. same_who turn.who entry.who
    && is_some_and (take_entry deck s entry) (λ next. keeps_turns deck next turn.agenda entries))

-- A schedule follows the lines of the script: in `shell` and `replay` they say whose turn it is at each entry, and in
-- `run` only the end has its place.
unfoldable pub follows_script : ScriptForm → Deck → Describe → List Entry → Bool
follows_script form.Shell deck describe schedule = keeps_turns deck (opening_state deck describe) (opening_agenda deck) schedule
follows_script form.Replay deck describe schedule = keeps_turns deck (opening_state deck describe) (opening_agenda deck) schedule
follows_script form.Run deck describe schedule = is_end_last schedule

-- the schedule follows the lines of the script
abbrev pub FollowsScript : ScriptForm → Deck → Describe → List Entry → Type 0
FollowsScript shape deck describe schedule = follows_script shape deck describe schedule ≡ true
