-- Where a script at work stands: between two tasks, after want of memory, and after the end.
use Rattle.std.specs.Prelude.{◌≡◌, ℕ, ◌-◌, ◌<◌, ◌≤◌, ◌^◌, ◌==◌, true, false, Option, Some, None, List, [], ◌∷◌, ◌++◌, length, map, slice_get, slice_index_or}
use Rattle.vfs_base.specs.Path.{AllAre}
use Rattle.vfs_base.specs.declared.deck.Deck.{Deck}
use Rattle.vfs_base.specs.declared.entry.Entry.{Entry}
use Rattle.vfs_base.specs.declared.entry.Mark.{Mark}
use Rattle.vfs_base.specs.declared.entry.Who.{Who}
use Rattle.vfs_base.specs.declared.entry.Who.TheVariants as who
use Rattle.vfs_base.specs.declared.limits.TheConstants.{SESSIONS}
use Rattle.vfs_base.specs.declared.reply.Reply.{Reply}
use Rattle.vfs_base.specs.declared.step.Step.{Step}
use Rattle.vfs_base.specs.declared.step.Step.TheVariants as step
use Rattle.vfs_model.specs.Deck.{session_lines}
use Rattle.vfs_model.specs.FaultCounts.{ByDevice, CountsRise, NoneFalls, no_devices}
use Rattle.vfs_model.specs.Leaving.{IsBeforeLeaving, StarvesOnlyInNeed}
use Rattle.vfs_model.specs.Homes.{opening_world}
use Rattle.vfs_model.specs.ScriptRun.{RunState, heard_by, opening_state, rom_image, sessions, state_after}
use Rattle.vfs_model.specs.Transcript.{session_text}
use Rattle.vfs_model.specs.Tally.{is_fault}
use Rattle.vfs_model.specs.Turns.{Leaves, RunOut, Steps, Task, keeps_turns, opening_agenda}
use Rattle.vfs_model.specs.declared.world.WorldState.{WorldState}
use Rattle.world_laws.specs.Scripts.{IsThere}
use Rattle.step_world.specs.Taking.{IsLeft, Takes}
use Rattle.step_world.specs.WorldView.{WorldView, told_world}
use Rattle.script_stage.specs.Scenes.{IsNumber, Reaches, Scene, Script, handed_of, lines_left, posted_to, told_entries}
use Rattle.script_stage.specs.Sessions.{AtExit, AtWork, is_through}
use Rattle.script_stage.specs.declared.phase.Phase.TheVariants as phase
use Rattle.script_stage.specs.declared.stage_session.StageSession.{StageSession}

-- how a session stands after lines and replies, when so much was handed out of it
abbrev pub Standing : Type 1
Standing = StageSession → List (List ℕ) → List Reply → List ℕ → Type 0

-- the session of this number stands so
pub record SessionAt (Stands : Standing) (sessions : List StageSession) (k : ℕ) (posted : List (List ℕ)) (heard : List Reply) (handed : List ℕ) : Type 0 where
  pub session : StageSession
  pub found : slice_get sessions (k - 1) ≡ Some session
  pub stands : Stands session posted heard handed

-- The schedule was taken on devices that have counted so many faults now: with each fault of a device its count rose, and memory was
-- wanting only where a step needs some.
pub record IsTakenOn (script : Script) (schedule : List Entry) (now : ByDevice) : Type 0 where
  pub trace : List ByDevice
  pub rises : CountsRise script.deck script.describe schedule trace
  pub begins : slice_index_or trace 0 no_devices ≡ script.counted
  pub ends : NoneFalls (slice_index_or trace (length schedule) no_devices) now
  pub sure : StarvesOnlyInNeed script.deck script.describe schedule

-- The schedule leads to a state of the script that is the scene's. Each session stands so after the lines that were
-- posted to it and the replies that it heard, and all its other lines are among the tasks.
pub record Plays (Stands : Standing) (scene : Scene) (script : Script) (tasks : List Task) (handed : List ℕ) : Type 0 where
  pub s : RunState
  pub posted : List (List (List ℕ))
  pub places : length posted ≡ SESSIONS
  pub heard : length s.heard ≡ SESSIONS
  pub count : length scene.sessions ≡ SESSIONS
  pub world : told_world scene.view ≡ Some s.world
  pub is_open : s.is_over ≡ false
  pub reaches : Reaches script.deck script.describe scene.schedule s posted tasks
  pub taken_on : IsTakenOn script scene.schedule scene.view.faults
  pub there : AllAre (λ entry. IsThere entry.who) scene.schedule
  pub each : (k : ℕ) → IsNumber k → SessionAt Stands scene.sessions k (posted_to posted k) (heard_by s k) (handed_of handed k)
  pub left : (k : ℕ) → IsNumber k → session_lines script.deck k ≡ posted_to posted k ++ lines_left k tasks

-- the script is at work, and these tasks are to be done
pub record StandsAt (scene : Scene) (script : Script) (tasks : List Task) (handed : List ℕ) : Type 0 where
  pub plays : Plays AtWork scene script tasks handed
  pub stays : scene.leaves_at ≡ None
  pub before : IsBeforeLeaving script.deck script.describe scene.schedule

-- Where a run ends early, as for want of memory: no session has left by the entries that are told of it, and what they show is what
-- was handed out, and maybe more.
pub record StopsAt (scene : Scene) (script : Script) (handed : List ℕ) : Type 0 where
  pub s : RunState
  pub taken : state_after script.deck script.describe (told_entries scene) ≡ Some s
  pub is_open : s.is_over ≡ false
  pub turns : keeps_turns script.deck (opening_state script.deck script.describe) (opening_agenda script.deck) (told_entries scene) ≡ true
  pub taken_on : IsTakenOn script (told_entries scene) scene.view.faults
  pub before : IsBeforeLeaving script.deck script.describe (told_entries scene)
  pub later : List ℕ
  pub shown : session_text script.deck s 1 ≡ handed ++ later

-- the sessions leave, no line is left, and these tasks are to be done
pub record LeavesAt (scene : Scene) (script : Script) (tasks : List Task) (handed : List ℕ) : Type 0 where
  pub plays : Plays AtExit scene script tasks handed
  pub lines : (k : ℕ) → lines_left k tasks ≡ []
  pub begun : (count : ℕ) × (scene.leaves_at ≡ Some count) × (count ≤ length scene.schedule)
  pub stops : StopsAt scene script handed

-- what a session is shown in all is what was handed out of it, and then its text
pub record IsShown (scene : Scene) (deck : Deck) (s : RunState) (k : ℕ) (handed : List ℕ) : Type 0 where
  pub session : StageSession
  pub found : slice_get scene.sessions (k - 1) ≡ Some session
  pub shown : session_text deck s k ≡ handed_of handed k ++ session.text

-- the world took the end under this mark, and nothing behind it
pub record TookEnd (view : WorldView) (m : Mark) : Type 0 where
  pub before : WorldView
  pub reply : Reply
  pub takes : Takes before view who.End step.Shutdown (reply, m)

-- a world that is the script's at the start
pub record Opens (script : Script) (view : WorldView) : Type 0 where
  pub world : told_world view ≡ Some (opening_world (map rom_image script.deck.roms) script.describe)
  pub counted : view.faults ≡ script.counted

-- the world is told, and is the definition's, but for what lies at home on cells where a device stopped the end
pub record EndsIn (view : WorldView) (m : Mark) (w : WorldState) : Type 0 where
  pub last : WorldState
  pub told : told_world view ≡ Some last
  pub left : IsLeft (is_fault m) w last

-- After the end, which has the last entry.
pub record ClosesAt (scene : Scene) (script : Script) (handed : List ℕ) : Type 0 where
  pub s : RunState
  pub taken : state_after script.deck script.describe scene.schedule ≡ Some s
  pub is_over : s.is_over ≡ true
  pub count : length scene.sessions ≡ SESSIONS
  pub turns : keeps_turns script.deck (opening_state script.deck script.describe) (opening_agenda script.deck) scene.schedule ≡ true
  pub taken_on : IsTakenOn script scene.schedule scene.view.faults
  pub there : AllAre (λ entry. IsThere entry.who) scene.schedule
  pub each : (k : ℕ) → IsNumber k → IsShown scene script.deck s k handed
  pub front : List Entry
  pub mark : Mark
  pub last : scene.schedule ≡ front ++ record { who = who.End; mark = mark } ∷ []
  pub world : EndsIn scene.view mark s.world
  pub stops : StopsAt scene script handed

-- nothing is pending in the first session, and it showed nothing that was not handed out
abbrev pub IsFresh : Scene → Type 0
IsFresh scene = (p : StageSession) → slice_get scene.sessions 0 ≡ Some p → (p.phase ≡ phase.Idle) × (p.text ≡ [])

-- the same of each session
abbrev pub AreFresh : List StageSession → Type 0
AreFresh all = (i : ℕ) (p : StageSession) → slice_get all i ≡ Some p → (p.phase ≡ phase.Idle) × (p.text ≡ [])

-- how a scene stands at tasks of a script
abbrev pub Place : Type 1
Place = Scene → Script → List Task → List ℕ → Type 0

-- some tasks are led to others, whatever is to be done behind them
abbrev pub Leads : Place → Scene → Scene → List Task → List Task → Type 0
Leads At old new before after =
    (script : Script) (tasks : List Task) (handed : List ℕ) →
    At old script (before ++ tasks) handed → At new script (after ++ tasks) handed

-- these tasks are done
abbrev pub Does : Scene → Scene → List Task → Type 0
Does old new done = Leads StandsAt old new done []

-- these tasks were not all done, for want of memory
abbrev pub Stops : Place → Scene → Scene → List Task → Type 0
Stops At old new undone =
    (script : Script) (tasks : List Task) (handed : List ℕ) →
    At old script (undone ++ tasks) handed → StopsAt new script handed

-- the same between lines
abbrev pub Breaks : Scene → Scene → List Task → Type 0
Breaks old new undone = Stops StandsAt old new undone

-- what is to be done when all pending commands are run out
abbrev pub leaving_tasks : List Task
leaving_tasks = map Leaves sessions ++ Steps who.End ∷ []

-- what is to be done behind a script's lines
abbrev pub closing_tasks : List Task
closing_tasks = map RunOut sessions ++ leaving_tasks

-- the session's pending command took a step, for the running out or for an event
abbrev pub TakesTurn : Scene → Scene → ℕ → Type 0
TakesTurn old new k = Leads StandsAt old new (RunOut k ∷ []) (RunOut k ∷ []) × Does old new (Steps (who.Session k) ∷ [])

-- an entry was added, and there is room in memory for no more than these
abbrev pub Grows : Scene → Scene → Type 0
Grows old new = (length old.schedule < length new.schedule) × (length new.schedule ≤ 2 ^ 64)

-- nothing is pending in the session
abbrev pub IsIdle : List StageSession → ℕ → Type 0
IsIdle all k = (p : StageSession) → slice_get all (k - 1) ≡ Some p → p.phase ≡ phase.Idle

-- a command of the session asks a step
abbrev pub IsAsking : List StageSession → ℕ → Type 0
IsAsking all k = (p : StageSession) → slice_get all (k - 1) ≡ Some p → p.phase ≡ phase.Asking

-- the session has made its exit steps
abbrev pub IsThrough : List StageSession → ℕ → Type 0
IsThrough all k = (p : StageSession) → slice_get all (k - 1) ≡ Some p → is_through p ≡ true

-- the sessions but one are as before
abbrev pub OthersStay : List StageSession → List StageSession → ℕ → Type 0
OthersStay old new k = (j : ℕ) → IsNumber j → (k == j) ≡ false → slice_get new (j - 1) ≡ slice_get old (j - 1)

-- a fact of each session up to this number
abbrev pub EachUpTo : ℕ → (ℕ → Type 0) → Type 0
EachUpTo last holds = (k : ℕ) → IsNumber k → k ≤ last → holds k

-- the worker's step of a row
abbrev pub IsWork : Who → Step → Type 0
IsWork (who.Session k) asked = ⊥
IsWork (who.Flush row) asked = asked ≡ step.Flush row
IsWork (who.Reclaim row) asked = asked ≡ step.Reclaim row
IsWork who.End asked = ⊥
