-- A world with its sessions, where a script stands.
use Rattle.std.specs.Prelude.{◌≡◌, ℕ, ◌+◌, ◌-◌, Bool, true, false, Option, Some, None, List, [], ◌∷◌, ◌++◌, Result, Ok, Err, drop, length, slice_get, slice_index_or, if◌then◌else◌}
use Rattle.std.specs.List.{flat_map}
use Rattle.std.specs.Option.{option_or}
use Rattle.vfs_base.specs.declared.deck.Act.{Act}
use Rattle.vfs_base.specs.declared.deck.Deck.{Deck}
use Rattle.vfs_base.specs.declared.entry.Entry.{Entry}
use Rattle.vfs_base.specs.declared.entry.Who.{Who}
use Rattle.vfs_base.specs.declared.entry.Who.TheVariants as who
use Rattle.vfs_base.specs.declared.limits.TheConstants.{SESSIONS}
use Rattle.vfs_base.specs.declared.reply.Reply.{Reply}
use Rattle.vfs_base.specs.declared.step.Step.{Step}
use Rattle.vfs_base.specs.declared.step.Step.TheVariants as step
use Rattle.vfs_model.specs.Schedule.{is_end, schedule_line}
use Rattle.vfs_model.specs.ScriptRun.{RunState, has_ended, heard_after, take_entries, untaken_from}
use Rattle.vfs_model.specs.Transcript.{session_title}
use Rattle.plain_steps.specs.declared.plain_fault.PlainFault.{PlainFault}
use Rattle.plain_steps.specs.declared.plain_fault.PlainFault.TheVariants as fault
use Rattle.vfs_plain.specs.ScriptSessions.{Plays, has_line}
use Rattle.vfs_plain.specs.SessionSteps.{TakesReply, next_step}
use Rattle.vfs_plain.specs.declared.script_session.ScriptSession.{ScriptSession}
use Rattle.vfs_plain.specs.declared.stage.Stage.{Stage}

-- the session is the one of this place among all, and stands where its replies lead it
pub record PlaysAt (p : ScriptSession) (acts : List Act) (heard : List Reply) (place : ℕ) : Type 0 where
  pub number : p.k ≡ place + 1
  pub plays : Plays p acts heard

-- these sessions, the first ones of all, had no reply yet
abbrev pub AllStart : List ScriptSession → List Act → Type 0
AllStart sessions acts = (place : ℕ) (p : ScriptSession) → slice_get sessions place ≡ Some p → PlaysAt p acts [] place

-- one more session, of this number and at its start, stands behind those that there are
pub record AddsSession (old new : List ScriptSession) (acts : List Act) (k : ℕ) : Type 0 where
  pub session : ScriptSession
  pub items : new ≡ old ++ session ∷ []
  pub number : session.k ≡ k
  pub plays : Plays session acts []

-- all sessions stand where these replies lead them
pub record AllPlay (sessions : List ScriptSession) (acts : List Act) (heard : List (List Reply)) : Type 0 where
  pub count : length sessions ≡ SESSIONS
  pub hearers : length heard ≡ SESSIONS
  pub each : (place : ℕ) (p : ScriptSession) → slice_get sessions place ≡ Some p →
      PlaysAt p acts (slice_index_or heard place []) place

-- the world and the sessions are those of this state of the script
pub record StandsAt (stage : Stage) (acts : List Act) (s : RunState) : Type 0 where
  pub world : stage.world ≡ s.world
  pub sessions : AllPlay stage.sessions.items acts s.heard
  pub is_over : stage.is_over ≡ s.is_over

-- an entry was taken, exactly where it can be
abbrev pub TakesTo : Stage → List Act → Bool → Option RunState → Type 0
TakesTo stage acts true (Some next) = StandsAt stage acts next
TakesTo stage acts true None = ⊥
TakesTo stage acts false (Some next) = ⊥
TakesTo stage acts false None = Unit {0}

-- what a session shows, with its title, if the script posts to it
abbrev pub titled_text : List Act → ScriptSession → List ℕ
titled_text acts p = if has_line p.k acts then session_title p.k ++ p.text else []

-- the step is the one that this one takes next
abbrev pub AsksStep : List ScriptSession → Who → Step → Type 0
AsksStep sessions (who.Session k) asked = (p : ScriptSession) → slice_get sessions (k - 1) ≡ Some p → next_step p.session ≡ Some asked
AsksStep sessions (who.Flush row) asked = asked ≡ step.Flush row
AsksStep sessions (who.Reclaim row) asked = asked ≡ step.Reclaim row
AsksStep sessions who.End asked = asked ≡ step.Shutdown

-- the one who took a step takes this reply
abbrev pub TakesReplyOf : List ScriptSession → Who → Reply → Type 0
TakesReplyOf sessions (who.Session k) reply = (p : ScriptSession) → slice_get sessions (k - 1) ≡ Some p → TakesReply p.session reply
TakesReplyOf sessions (who.Flush row) reply = Unit {0}
TakesReplyOf sessions (who.Reclaim row) reply = Unit {0}
TakesReplyOf sessions who.End reply = Unit {0}

-- the script's state after a reply was told: the world stays
abbrev pub told : RunState → Who → Reply → RunState
told s asker reply = record { world = s.world; heard = heard_after s.heard asker reply; is_over = is_end asker }

-- so many entries of the schedule were taken from this state on
pub record Reaches (stage : Stage) (deck : Deck) (s : RunState) (schedule : List Entry) (place : ℕ) : Type 0 where
  pub now : RunState
  pub stands : StandsAt stage deck.acts now
  pub entries : take_entries deck s schedule ≡ take_entries deck now (drop place schedule)
  pub untaken : untaken_from 0 deck s schedule ≡ untaken_from place deck now (drop place schedule)

-- all entries were taken from this state on, and the last one was the end
pub record TakesWhole (stage : Stage) (deck : Deck) (s : RunState) (schedule : List Entry) : Type 0 where
  pub next : RunState
  pub stands : StandsAt stage deck.acts next
  pub entries : take_entries deck s schedule ≡ Some next
  pub untaken : untaken_from 0 deck s schedule ≡ None
  pub ended : next.is_over ≡ true

-- the place of the first entry that can't be taken from this state on, or what is missing behind the last
abbrev pub gap_at : Deck → RunState → List Entry → Option ℕ
gap_at deck s schedule =
    option_or (untaken_from 0 deck s schedule)
    (if has_ended (take_entries deck s schedule) then None else Some (length schedule))

-- all entries were taken and the end was, or it is told why not
abbrev pub TakesAll : Stage → Deck → RunState → List Entry → Result (Unit {0}) PlainFault → Type 0
TakesAll stage deck s schedule (Ok passed) = TakesWhole stage deck s schedule
TakesAll stage deck s schedule (Err fault.NoMemory) = Unit {0}
TakesAll stage deck s schedule (Err fault.Untold) = ⊥
TakesAll stage deck s schedule (Err (fault.BadRom index)) = ⊥
TakesAll stage deck s schedule (Err (fault.NoSchedule at)) = gap_at deck s schedule ≡ Some at

-- what all sessions show, and the schedule's line
abbrev pub whole_text : List Act → Stage → List Entry → List ℕ
whole_text acts stage schedule = flat_map (titled_text acts) stage.sessions.items ++ schedule_line schedule

-- all entries were taken from this state on and this is shown, or it is told why not
abbrev pub ShowsAll : Stage → Deck → RunState → List Entry → Result (List ℕ) PlainFault → Type 0
ShowsAll stage deck s schedule (Ok text) = TakesWhole stage deck s schedule × (text ≡ whole_text deck.acts stage schedule)
ShowsAll stage deck s schedule (Err why) = TakesAll stage deck s schedule (Err why)
