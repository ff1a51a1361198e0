-- The start, the end, and what stands when memory is wanted.
use Rattle.std.proofs.Common.{◌≡◌, ℕ, zero, suc, ◌-◌, ◌==◌, Bool, true, false, cond, Some, None, List, [], ◌∷◌, ◌++◌, length, get_or, map, replicate, refl, sym, ap, ap₂, ◌∙◌, subst, arith, append_assoc, append-nil}
use Rattle.std.specs.Prelude.{is_none}
use Rattle.std.specs.List.{concat, flat_map, list_all}
use Rattle.std.proofs.Math.Seq.{take-length}
use Rattle.std.proofs.lemmas.Grind.{flat_map-append}
use Rattle.vfs_base.specs.Path.{AllAre}
use Rattle.vfs_base.specs.declared.deck.Act.{Act}
use Rattle.vfs_base.specs.declared.deck.Act.TheVariants as act
use Rattle.vfs_base.specs.declared.deck.Deck.{Deck}
use Rattle.vfs_base.specs.declared.describe.Describe.{Describe}
use Rattle.vfs_base.specs.declared.entry.Entry.{Entry}
use Rattle.vfs_base.specs.declared.entry.Mark.{Mark}
use Rattle.vfs_base.specs.declared.entry.Who.{Who}
use Rattle.vfs_base.specs.declared.entry.Who.TheVariants as who
use Rattle.vfs_base.specs.declared.limits.TheConstants.{SESSIONS}
use Rattle.vfs_base.specs.declared.reply.Reply.{Reply}
use Rattle.vfs_base.specs.declared.step.Step.TheVariants as step
use Rattle.vfs_model.specs.Deck.{posted_to as act_lines, session_lines}
use Rattle.vfs_model.specs.Leaving.{IsBeforeLeaving}
use Rattle.vfs_model.specs.ScriptRun.{RunState, entry_step, heard_by, is_done, opening_state, sessions, state_after, state_after_step, take_entry}
use Rattle.vfs_model.specs.Session.{session_run, wanted_step}
use Rattle.vfs_model.specs.Turns.{Leaves, RunOut, Steps, Task, act_tasks, keeps_turns, opening_agenda, script_tasks}
use Rattle.vfs_model.specs.Tally.{is_fault}
use Rattle.vfs_model.specs.World.{WorldOutcome, world_step}
use Rattle.vfs_model.specs.declared.world.WorldState.{WorldState}
use Rattle.world_laws.specs.Scripts.{IsThere}
use Rattle.step_world.specs.Taking.{IsLeft, Takes}
use Rattle.step_world.specs.WorldView.{WorldView, told_world}
use Rattle.script_stage.proofs.Counting.{no-entry, none-falls, taken-more, taken-none, tells-next}
use Rattle.script_stage.proofs.Moving.{there-more}
use Rattle.script_stage.proofs.Reaching.{entry-taken, starts, steps, turns-kept}
use Rattle.script_stage.proofs.SessionLemmas.{exit-shows, exit-wants, idle-leaves, work-shows}
use Rattle.script_stage.proofs.Stopping.{stops-later, told-halted, told-same}
use Rattle.script_stage.specs.Scenes.{Halts, IsNumber, Reaches, Scene, Script, entries_before, handed_of, lines_left, posted_to, task_lines, told_entries, with_entry}
use Rattle.script_stage.specs.Sessions.{AtWork}
use Rattle.script_stage.specs.Standing.{ClosesAt, EndsIn, IsIdle, IsTakenOn, IsThrough, LeavesAt, Opens, SessionAt, StandsAt, StopsAt}

one-is-number : IsNumber 1
one-is-number = (omega arith, omega arith)

-- at work all entries are told
told-all : (scene : Scene) → scene.leaves_at ≡ None → told_entries scene ≡ scene.schedule
told-all scene e = ap (λ x. entries_before x scene.schedule) e

-- between lines a run may end early
pub work-here : (scene : Scene) (script : Script) (tasks : List Task) (handed : List ℕ) → StandsAt scene script tasks handed → StopsAt scene script handed
work-here scene script tasks handed standing =
    let at = standing.plays in
    let a = at.each 1 one-is-number in
    let more = work-shows a.session (posted_to at.posted 1) (lines_left 1 tasks) (heard_by at.s 1) handed a.stands in
    let told = told-all scene standing.stays in
    record {
      s = at.s;
      taken = ap (state_after script.deck script.describe) told ∙ at.reaches.taken;
      is_open = at.is_open;
      turns =
          ap (keeps_turns script.deck (opening_state script.deck script.describe) (opening_agenda script.deck)) told
          ∙ turns-kept script.deck script.describe scene.schedule at.s at.posted tasks at.reaches;
      taken_on = subst (λ l. IsTakenOn script l scene.view.faults) (sym told) at.taken_on;
      before = subst (IsBeforeLeaving script.deck script.describe) (sym told) standing.before;
      later = more.0;
      shown = ap (λ x. concat (session_run x (heard_by at.s 1)).blocks) (at.left 1 one-is-number) ∙ more.1;
    }

pub work-stops : (old new : Scene) (script : Script) (tasks : List Task) (handed : List ℕ) → Halts old new → StandsAt old script tasks handed → StopsAt new script handed
work-stops old new script tasks handed halts at =
    stops-later old new script handed (told-halted old new halts) halts.rising (work-here old script tasks handed at)

pub exit-stops : (old new : Scene) (script : Script) (tasks : List Task) (handed : List ℕ) → Halts old new → LeavesAt old script tasks handed → StopsAt new script handed
exit-stops old new script tasks handed halts at = stops-later old new script handed (told-halted old new halts) halts.rising at.stops

-- the place at which the sessions begin to leave
abbrev pub from_here : Scene → Scene
from_here scene = record scene { leaves_at = Some (length scene.schedule) }

-- where nothing is pending and no line is left the sessions begin to leave
pub begins-leaving : (scene : Scene) (script : Script) (tasks : List Task) (handed : List ℕ) → ((k : ℕ) → IsNumber k → IsIdle scene.sessions k) →
    ((k : ℕ) → lines_left k tasks ≡ []) → StandsAt scene script tasks handed → LeavesAt (from_here scene) script tasks handed
begins-leaving scene script tasks handed idle empty standing =
    let at = standing.plays in
    let told : told_entries (from_here scene) ≡ told_entries scene = take-length scene.schedule ∙ sym (told-all scene standing.stays) in
    record {
      plays = record {
        s = at.s;
        posted = at.posted;
        places = at.places;
        heard = at.heard;
        count = at.count;
        world = at.world;
        is_open = at.is_open;
        reaches = at.reaches;
        taken_on = at.taken_on;
        there = at.there;
        each = λ k n. (let a = at.each k n in record {
          session = a.session;
          found = a.found;
          stands = idle-leaves a.session (posted_to at.posted k) (heard_by at.s k) (handed_of handed k) a.stands (idle k n a.session a.found);
        });
        left = at.left;
      };
      lines = empty;
      begun = (length scene.schedule, refl, omega arith);
      stops = stops-later scene (from_here scene) script handed told (none-falls scene.view.faults) (work-here scene script tasks handed standing);
    }

all-numbers : (p : ℕ → Bool) → ((k : ℕ) → IsNumber k → p k ≡ true) → list_all p sessions ≡ true
all-numbers p h =
    rw (h 1 (omega arith, omega arith), h 2 (omega arith, omega arith), h 3 (omega arith, omega arith), h 4 (omega arith, omega arith), h 5 (omega arith, omega arith), h 6 (omega arith, omega arith), h 7 (omega arith, omega arith), h 8 (omega arith, omega arith)) refl

-- all lines of a session are posted where the sessions leave
all-posted : (scene : Scene) (script : Script) (tasks : List Task) (handed : List ℕ) (k : ℕ) → IsNumber k → (at : LeavesAt scene script tasks handed) →
    session_lines script.deck k ≡ posted_to at.plays.posted k
all-posted scene script tasks handed k n at =
    at.plays.left k n ∙ ap (λ x. posted_to at.plays.posted k ++ x) (at.lines k) ∙ append-nil (posted_to at.plays.posted k)

-- the world behind the end
ends-in : (view : WorldView) (m : Mark) (defined last : WorldState) → told_world view ≡ Some last → IsLeft (is_fault m) defined last → EndsIn view m defined
ends-in view m defined last told left = record { last = last; told = told; left = left }

-- the end is taken
pub ends : (old : Scene) (next : WorldView) (taken : Reply × Mark) → ((k : ℕ) → IsNumber k → IsThrough old.sessions k) → Takes old.view next who.End step.Shutdown taken →
    (script : Script) (handed : List ℕ) → LeavesAt old script (Steps who.End ∷ []) handed →
    ClosesAt (with_entry old next old.sessions (record { who = who.End; mark = taken.1 })) script handed
ends old next taken through takes = λ script handed leaving.
    let at = leaving.plays in
    let entry : Entry = record { who = who.End; mark = taken.1 } in
    let new : Scene = with_entry old next old.sessions entry in
    let told = tells-next old.view next at.s.world who.End step.Shutdown taken at.world takes in
    let outcome : WorldOutcome = record { reply = taken.0; next = (world_step at.s.world who.End step.Shutdown taken.1).next } in
    let s : RunState = state_after_step at.s who.End outcome in
    let done : (k : ℕ) → IsNumber k → is_done script.deck at.s k ≡ true = λ k n. (let a = at.each k n in
    ap (λ x. is_none (wanted_step (session_run x (heard_by at.s k)))) (all-posted old script (Steps who.End ∷ []) handed k n leaving)
    ∙ ap is_none (exit-wants a.session (posted_to at.posted k) (heard_by at.s k) (handed_of handed k) a.stands)
    ∙ through k n a.session a.found) in
    let wants : entry_step script.deck at.s who.End ≡ Some step.Shutdown = rw (all-numbers (is_done script.deck at.s) done) refl in
    let is_taken : take_entry script.deck at.s entry ≡ Some s =
    entry-taken script.deck at.s entry step.Shutdown outcome at.is_open wants told.takes.fits
    (ap (λ r. record { reply = r; next = (world_step at.s.world who.End step.Shutdown taken.1).next }) told.takes.reply) in
    let reaches = steps script.deck script.describe old.schedule at.s s at.posted (Steps who.End) [] entry refl is_taken at.reaches in
    record {
      s = s;
      taken = reaches.taken;
      is_over = refl;
      count = at.count;
      turns = turns-kept script.deck script.describe (old.schedule ++ entry ∷ []) s at.posted [] reaches;
      taken_on = taken-more script old.view next old.schedule who.End step.Shutdown taken at.s at.world at.reaches.taken wants takes at.taken_on;
      there = there-more old.schedule entry at.there tt;
      each = λ k n. (let a = at.each k n in record {
        session = a.session;
        found = a.found;
        shown =
            ap (λ x. concat (session_run x (heard_by at.s k)).blocks) (all-posted old script (Steps who.End ∷ []) handed k n leaving)
            ∙ exit-shows a.session (posted_to at.posted k) (heard_by at.s k) (handed_of handed k) a.stands;
      });
      front = old.schedule;
      mark = taken.1;
      last = refl;
      world = ends-in next taken.1 (world_step at.s.world who.End step.Shutdown taken.1).next told.world told.told told.takes.next;
      stops = stops-later old new script handed (told-same old new entry leaving.begun refl refl) takes.rising leaving.stops;
    }

abbrev no_lines : List (List ℕ)
no_lines = []

abbrev no_replies : List Reply
no_replies = []

get-line : (n j : ℕ) → get_or (replicate n no_lines) j no_lines ≡ no_lines
get-line zero j = refl
get-line (suc n) zero = refl
get-line (suc n) (suc j) = get-line n j

get-reply : (n j : ℕ) → get_or (replicate n no_replies) j no_replies ≡ no_replies
get-reply zero j = refl
get-reply (suc n) zero = refl
get-reply (suc n) (suc j) = get-reply n j

steps-lines : (k : ℕ) (askers : List Who) → lines_left k (map Steps askers) ≡ []
steps-lines k [] = refl
steps-lines k (asker ∷ askers) = steps-lines k askers

tasks-of : (k : ℕ) (a : Act) → lines_left k (act_tasks a) ≡ act_lines k a
tasks-of k (act.Post j text true) = append-nil (cond (j == k) (text ∷ []) [])
tasks-of k (act.Post j text false) = append-nil (cond (j == k) (text ∷ []) [])
tasks-of k (act.Events askers) = steps-lines k askers

acts-lines : (k : ℕ) (acts : List Act) → lines_left k (flat_map act_tasks acts) ≡ flat_map (act_lines k) acts
acts-lines k [] = refl
acts-lines k (a ∷ acts) =
    flat_map-append (task_lines k) (act_tasks a) (flat_map act_tasks acts) ∙ ap₂ (λ x y. x ++ y) (tasks-of k a) (acts-lines k acts)

-- the lines of all tasks of a script are those of its acts
pub script-lines : (k : ℕ) (deck : Deck) → lines_left k (script_tasks deck) ≡ session_lines deck k
script-lines k deck =
    ap (lines_left k) (
    append_assoc (flat_map act_tasks deck.acts ++ map RunOut sessions) (map Leaves sessions) (Steps who.End ∷ [])
    ∙ append_assoc (flat_map act_tasks deck.acts) (map RunOut sessions) (map Leaves sessions ++ Steps who.End ∷ [])
    )
    ∙ flat_map-append (task_lines k) (flat_map act_tasks deck.acts) (map RunOut sessions ++ map Leaves sessions ++ Steps who.End ∷ [])
    ∙ append-nil (lines_left k (flat_map act_tasks deck.acts))
    ∙ acts-lines k deck.acts

abbrev no_bytes : List ℕ
no_bytes = []

none-handed : (b : Bool) → cond b no_bytes no_bytes ≡ no_bytes
none-handed true = refl
none-handed false = refl

-- a stage at the start
pub start-stands : (scene : Scene) (script : Script) → Opens script scene.view → scene.schedule ≡ [] → scene.leaves_at ≡ None →
    length scene.sessions ≡ SESSIONS → ((k : ℕ) → IsNumber k → SessionAt AtWork scene.sessions k [] [] []) →
    StandsAt scene script (script_tasks script.deck) []
start-stands scene script opens empty stays count each = record {
  plays = record {
    s = opening_state script.deck script.describe;
    posted = replicate SESSIONS [];
    places = refl;
    heard = refl;
    count = count;
    world = opens.world;
    is_open = refl;
    reaches =
        subst (λ x. Reaches script.deck script.describe x (opening_state script.deck script.describe) (replicate SESSIONS []) (script_tasks script.deck)) (sym empty)
        (starts script.deck script.describe);
    taken_on = subst (λ x. IsTakenOn script x scene.view.faults) (sym empty) (taken-none script scene.view.faults opens.counted);
    there = subst (AllAre (λ entry. IsThere entry.who)) (sym empty) tt;
    each = λ k n. (let a = each k n in record {
      session = a.session;
      found = a.found;
      stands =
          subst (λ x. AtWork a.session (posted_to (replicate SESSIONS []) k) (heard_by (opening_state script.deck script.describe) k) x) (sym (none-handed (k == 1)))
          (subst (λ x. AtWork a.session (posted_to (replicate SESSIONS []) k) x []) (sym (get-reply SESSIONS (k - 1)))
          (subst (λ x. AtWork a.session x [] []) (sym (get-line SESSIONS (k - 1))) a.stands));
    });
    left = λ k n. sym (script-lines k script.deck) ∙ ap (λ x. x ++ lines_left k (script_tasks script.deck)) (sym (get-line SESSIONS (k - 1)));
  };
  stays = stays;
  before = subst (IsBeforeLeaving script.deck script.describe) (sym empty) (no-entry script.deck script.describe _);
}
