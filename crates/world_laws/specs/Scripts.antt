-- What holds of the world where a script stands after any schedule.
use Rattle.std.specs.Prelude.{◌≡◌, ℕ, ◌<◌, ◌≤◌, true, false, Some, List, [], ◌∷◌}
use Rattle.vfs_base.specs.Path.{AllAre}
use Rattle.vfs_base.specs.declared.deck.Deck.{Deck}
use Rattle.vfs_base.specs.declared.describe.Describe.{Describe}
use Rattle.vfs_base.specs.declared.entry.Entry.{Entry}
use Rattle.vfs_base.specs.declared.entry.Who.{Who}
use Rattle.vfs_base.specs.declared.entry.Who.TheVariants as who
use Rattle.vfs_base.specs.declared.limits.TheConstants.{SESSIONS}
use Rattle.vfs_base.specs.declared.reply.Reply.TheVariants as reply
use Rattle.vfs_base.specs.declared.step.Step.{Step}
use Rattle.vfs_model.specs.Asking.{MayAsk}
use Rattle.vfs_model.specs.Boxes.{IsConsistent}
use Rattle.vfs_model.specs.ExitLaws.{HasLeft, gives_up}
use Rattle.vfs_model.specs.Schedule.{is_end}
use Rattle.vfs_model.specs.ScriptRun.{RunState, entry_step, is_done, opening_state, state_after, take_entry}
use Rattle.vfs_model.specs.World.{world_step}
use Rattle.world_laws.specs.Keeping.{HasNumber}

-- each entry's session has a number
abbrev pub AreNumbered : List Entry → Type 0
AreNumbered schedule = AllAre (λ entry. HasNumber entry.who) schedule

-- where a script stands after any schedule, the world is consistent
abbrev pub ScriptsStayConsistent : Type 0
ScriptsStayConsistent = (deck : Deck) (describe : Describe) (schedule : List Entry) (s : RunState) → AreNumbered schedule →
    state_after deck describe schedule ≡ Some s → IsConsistent s.world

-- a session that there is: sessions are numbered from 1
abbrev pub IsThere : Who → Type 0
IsThere (who.Session k) = (0 < k) × (k ≤ SESSIONS)
IsThere (who.Flush row) = Unit {0}
IsThere (who.Reclaim row) = Unit {0}
IsThere who.End = Unit {0}

-- where a script stands after any schedule, each session may ask the step that it wants, and the worker each of its
-- own. The end is left out: it may ask only at rest, and a session whose Close was refused for want of memory is done
-- and still has its reference. What the end may ask is told below.
abbrev pub ScriptStepsMayBeAsked : Type 0
ScriptStepsMayBeAsked = (deck : Deck) (describe : Describe) (schedule : List Entry) (s : RunState) (asker : Who) (asked : Step) →
    AllAre (λ entry. IsThere entry.who) schedule → IsThere asker → is_end asker ≡ false →
    state_after deck describe schedule ≡ Some s → entry_step deck s asker ≡ Some asked → MayAsk s.world asker asked

-- each step of the schedule that gives up a reference of the session, or goes back to `/`, is answered Done
abbrev pub AreGivenUp : ℕ → Deck → RunState → List Entry → Type 0
AreGivenUp k deck s [] = Unit {0}
AreGivenUp k deck s (entry ∷ entries) =
    (entry.who ≡ who.Session k → (asked : Step) → entry_step deck s entry.who ≡ Some asked → gives_up asked ≡ true →
    (world_step s.world entry.who asked entry.mark).reply ≡ reply.Done)
    × ((next : RunState) → take_entry deck s entry ≡ Some next → AreGivenUp k deck next entries)

-- A session that is done has left: it has no reference, and stands in `/`, where each step by which it gave up was answered Done.
abbrev pub DoneSessionsHaveLeft : Type 0
DoneSessionsHaveLeft = (deck : Deck) (describe : Describe) (schedule : List Entry) (s : RunState) (k : ℕ) →
    AllAre (λ entry. IsThere entry.who) schedule → 0 < k → k ≤ SESSIONS → state_after deck describe schedule ≡ Some s →
    AreGivenUp k deck (opening_state deck describe) schedule → is_done deck s k ≡ true → HasLeft s.world.namespace k

-- so what the end wants, where all sessions are done, it may ask
abbrev pub ScriptEndMayBeAsked : Type 0
ScriptEndMayBeAsked = (deck : Deck) (describe : Describe) (schedule : List Entry) (s : RunState) (asked : Step) →
    AllAre (λ entry. IsThere entry.who) schedule → state_after deck describe schedule ≡ Some s →
    ((k : ℕ) → AreGivenUp k deck (opening_state deck describe) schedule) → entry_step deck s who.End ≡ Some asked → MayAsk s.world who.End asked
