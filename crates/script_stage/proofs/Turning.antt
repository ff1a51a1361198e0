-- Steps of the worker and of a session's pending command or exit.
use Rattle.std.proofs.Common.{◌≡◌, ℕ, ◌-◌, Bool, true, false, Some, List, [], ◌∷◌, ◌++◌, length, set, refl, sym, ap, ap₂, ◌∙◌, subst, append-nil, arith, length-append}
use Rattle.std.specs.Prelude.{is_some, not, slice_get, slice_index_or}
use Rattle.vfs_base.specs.declared.deck.Deck.{Deck}
use Rattle.vfs_base.specs.declared.describe.Describe.{Describe}
use Rattle.vfs_base.specs.declared.entry.Entry.{Entry}
use Rattle.vfs_base.specs.declared.entry.Mark.{Mark}
use Rattle.vfs_base.specs.declared.entry.Who.{Who}
use Rattle.vfs_base.specs.declared.entry.Who.TheVariants as who
use Rattle.vfs_base.specs.declared.reply.Reply.{Reply}
use Rattle.vfs_base.specs.declared.step.Step.{Step}
use Rattle.vfs_model.specs.Deck.{session_lines}
use Rattle.vfs_model.specs.Leaving.{is_leaving}
use Rattle.vfs_model.specs.NamespaceStep.{is_shutdown}
use Rattle.vfs_model.specs.ScriptRun.{RunState, entry_step, heard_by, state_after_step, take_entry}
use Rattle.vfs_model.specs.Session.{is_pending, session_run, wanted_step}
use Rattle.vfs_model.specs.Turns.{Leaves, RunOut, Steps, Task, posted_run, session_if, task_rest, task_who}
use Rattle.vfs_model.specs.World.{WorldOutcome, world_step}
use Rattle.world_laws.specs.Scripts.{IsThere}
use Rattle.step_world.specs.Taking.{Takes}
use Rattle.step_world.specs.WorldView.{WorldView}
use Rattle.script_stage.proofs.Counting.{entry-more, taken-more, tells-next}
use Rattle.script_stage.proofs.Moving.{exit-is, same-left, session-moves, there-more}
use Rattle.script_stage.proofs.Reaching.{entry-taken, steps}
use Rattle.script_stage.proofs.SessionLemmas.{asking-next, asking-pending, asking-wants, exit-wants}
use Rattle.script_stage.proofs.Stopping.{begun-more, stops-later, told-same}
use Rattle.script_stage.specs.Scenes.{IsNumber, Scene, Script, handed_of, lines_left, posted_to, with_entry}
use Rattle.script_stage.specs.SessionTurns.{TakesExit, TakesWanted}
use Rattle.script_stage.specs.Sessions.{AtExit, AtWork}
use Rattle.script_stage.specs.Standing.{IsWork, LeavesAt, Plays, StandsAt, TakesTurn}
use Rattle.script_stage.specs.declared.phase.Phase.TheVariants as phase
use Rattle.script_stage.specs.declared.stage_session.StageSession.{StageSession}

-- the scene after a step of a session
abbrev pub moved : Scene → WorldView → ℕ → StageSession → Mark → Scene
moved old next k p m = with_entry old next (set old.sessions (k - 1) p) (record { who = who.Session k; mark = m })

-- A session's pending command has taken a step.
pub record IsTurn (old : Scene) (next : WorldView) (k : ℕ) (before after : StageSession) (m : Mark) : Type 0 where
  pub number : IsNumber k
  pub found : slice_get old.sessions (k - 1) ≡ Some before
  pub asking : before.phase ≡ phase.Asking
  pub taken : TakesWanted before after old.view next k m

some-session : (a b : StageSession) → Some a ≡ Some b → a ≡ b
some-session a b e = cc

-- where its pending command takes a step a session does not leave yet
turn-stays : (lines : List (List ℕ)) (deck : Deck) (s : RunState) (k : ℕ) → session_lines deck k ≡ lines → is_pending (session_run lines (heard_by s k)) ≡ true →
    is_leaving deck s (who.Session k) ≡ false
turn-stays lines deck s k e pending = ap (λ x. not (is_pending (session_run x (heard_by s k)))) e ∙ ap not pending

turn-moves : (old : Scene) (next : WorldView) (k : ℕ) (before after : StageSession) (m : Mark) → IsTurn old next k before after m →
    (script : Script) (task : Task) (tasks : List Task) (handed : List ℕ) → (at : StandsAt old script (task ∷ tasks) handed) →
    ((b : Bool) → is_pending (posted_run at.plays.posted at.plays.s k) ≡ b → task_who at.plays.posted at.plays.s task ≡ session_if b k) →
    StandsAt (moved old next k after m) script (task_rest task ++ tasks) handed
turn-moves old next k before after m turn = λ script task tasks handed standing asks.
    let at = standing.plays in
    let a = at.each k turn.number in
    let same : a.session ≡ before = some-session a.session before (sym a.found ∙ turn.found) in
    let stands : AtWork before (posted_to at.posted k) (heard_by at.s k) (handed_of handed k) =
    subst (λ p. AtWork p (posted_to at.posted k) (heard_by at.s k) (handed_of handed k)) same a.stands in
    let pending : is_pending (posted_run at.posted at.s k) ≡ true =
    asking-pending before (posted_to at.posted k) (heard_by at.s k) (handed_of handed k) turn.taken.asked stands turn.asking turn.taken.wanted in
    let wants : entry_step script.deck at.s (who.Session k) ≡ Some turn.taken.asked =
    ap (λ x. wanted_step (session_run x (heard_by at.s k))) (at.left k turn.number)
    ∙ asking-wants before (posted_to at.posted k) (lines_left k (task ∷ tasks)) (heard_by at.s k) (handed_of handed k) turn.taken.asked stands turn.asking turn.taken.wanted in
    let still : is_pending (session_run (posted_to at.posted k ++ lines_left k (task ∷ tasks)) (heard_by at.s k)) ≡ true =
    ap is_some ((asking-next before (posted_to at.posted k) (lines_left k (task ∷ tasks)) (heard_by at.s k) (handed_of handed k) stands turn.asking).wanted ∙ turn.taken.wanted) in
    record {
      plays = session-moves AtWork old next k after (turn.taken.reply, m) turn.taken.asked script task tasks handed turn.number at (asks true pending) wants turn.taken.takes
          (turn.taken.follows (posted_to at.posted k) (heard_by at.s k) (handed_of handed k) stands);
      stays = standing.stays;
      before = entry-more script.deck script.describe _ old.schedule (record { who = who.Session k; mark = m }) at.s turn.taken.asked at.reaches.taken wants
          (turn-stays (posted_to at.posted k ++ lines_left k (task ∷ tasks)) script.deck at.s k (at.left k turn.number) still) standing.before;
    }

-- the pending command takes a step, to be run out or for an event
pub takes-turn : (old : Scene) (next : WorldView) (k : ℕ) (before after : StageSession) (m : Mark) → IsTurn old next k before after m →
    TakesTurn old (moved old next k after m) k
takes-turn old next k before after m turn = (
  λ script tasks handed at. turn-moves old next k before after m turn script (RunOut k) tasks handed at (λ b e. ap (λ x. session_if x k) e),
  λ script tasks handed at. turn-moves old next k before after m turn script (Steps (who.Session k)) tasks handed at (λ b e. ap (λ x. session_if x k) e),
)

-- the same of the scene that came of it
pub turn_taken : (old new : Scene) (next : WorldView) (k place : ℕ) (before after : StageSession) (m : Mark) → place ≡ k - 1 → IsTurn old next k before after m →
    new ≡ with_entry old next (set old.sessions place after) (record { who = who.Session k; mark = m }) → TakesTurn old new k
turn_taken old new next k place before after m e turn is =
    subst (λ x. TakesTurn old x k)
    (ap (λ i. with_entry old next (set old.sessions i after) (record { who = who.Session k; mark = m })) (sym e) ∙ sym is)
    (takes-turn old next k before after m turn)

-- A session has made an exit step.
pub record IsExit (old : Scene) (next : WorldView) (k : ℕ) (before after : StageSession) (m : Mark) : Type 0 where
  pub number : IsNumber k
  pub found : slice_get old.sessions (k - 1) ≡ Some before
  pub taken : TakesExit before after old.view next k m

pub exit-moves : (old : Scene) (next : WorldView) (k : ℕ) (before after : StageSession) (m : Mark) → IsExit old next k before after m →
    (script : Script) (tasks : List Task) (handed : List ℕ) → LeavesAt old script (Leaves k ∷ tasks) handed →
    LeavesAt (moved old next k after m) script (Leaves k ∷ tasks) handed
exit-moves old next k before after m exit = λ script tasks handed leaving.
    let at = leaving.plays in
    let a = at.each k exit.number in
    let same : a.session ≡ before = some-session a.session before (sym a.found ∙ exit.found) in
    let stands : AtExit before (posted_to at.posted k) (heard_by at.s k) (handed_of handed k) =
    subst (λ p. AtExit p (posted_to at.posted k) (heard_by at.s k) (handed_of handed k)) same a.stands in
    let lines : session_lines script.deck k ≡ posted_to at.posted k =
    at.left k exit.number ∙ ap (λ x. posted_to at.posted k ++ x) (leaving.lines k) ∙ append-nil (posted_to at.posted k) in
    let wants : entry_step script.deck at.s (who.Session k) ≡ Some exit.taken.asked =
    ap (λ x. wanted_step (session_run x (heard_by at.s k))) lines
    ∙ exit-wants before (posted_to at.posted k) (heard_by at.s k) (handed_of handed k) stands ∙ exit.taken.left in
    let turn : task_who at.posted at.s (Leaves k) ≡ Some (who.Session k) =
    ap (λ x. session_if (is_some x) k) (exit-is before (posted_to at.posted k) (heard_by at.s k) (handed_of handed k) stands ∙ exit.taken.left) in
    record {
      plays = session-moves AtExit old next k after (exit.taken.reply, m) exit.taken.asked script (Leaves k) tasks handed exit.number at turn wants exit.taken.takes
          (exit.taken.follows (posted_to at.posted k) (heard_by at.s k) (handed_of handed k) exit.taken.reply stands);
      lines = leaving.lines;
      begun = begun-more (moved old next k after m) old leaving.begun (omega (arith, length-append old.schedule (record { who = who.Session k; mark = m } ∷ []))) refl;
      stops = stops-later old (moved old next k after m) script handed
          (told-same old (moved old next k after m) (record { who = who.Session k; mark = m }) leaving.begun refl refl) exit.taken.takes.rising leaving.stops;
    }

-- what holds of a step that no session takes and that is not the end
record IsApart (deck : Deck) (s : RunState) (posted : List (List (List ℕ))) (asker : Who) (asked : Step) (outcome : WorldOutcome) : Type 0 where
  turn : task_who posted s (Steps asker) ≡ Some asker
  wants : entry_step deck s asker ≡ Some asked
  heard : (state_after_step s asker outcome).heard ≡ s.heard
  is_open : (state_after_step s asker outcome).is_over ≡ false
  no_end : is_shutdown asked ≡ false
  stays : is_leaving deck s asker ≡ false
  there : IsThere asker

work-apart : (deck : Deck) (s : RunState) (posted : List (List (List ℕ))) (asker : Who) (asked : Step) (outcome : WorldOutcome) → IsWork asker asked →
    IsApart deck s posted asker asked outcome
work-apart deck s posted (who.Session k) asked outcome e = absurd e
work-apart deck s posted (who.Flush row) asked outcome e =
    record { turn = refl; wants = ap Some (sym e); heard = refl; is_open = refl; no_end = ap is_shutdown e; stays = refl; there = tt }
work-apart deck s posted (who.Reclaim row) asked outcome e =
    record { turn = refl; wants = ap Some (sym e); heard = refl; is_open = refl; no_end = ap is_shutdown e; stays = refl; there = tt }
work-apart deck s posted who.End asked outcome e = absurd e

-- the worker takes a step for an event
pub work-moves : (old : Scene) (next : WorldView) (asker : Who) (asked : Step) (taken : Reply × Mark) → IsWork asker asked → Takes old.view next asker asked taken →
    (script : Script) (tasks : List Task) (handed : List ℕ) → StandsAt old script (Steps asker ∷ tasks) handed →
    StandsAt (with_entry old next old.sessions (record { who = asker; mark = taken.1 })) script tasks handed
work-moves old next asker asked taken work takes = λ script tasks handed standing.
    let at = standing.plays in
    let entry : Entry = record { who = asker; mark = taken.1 } in
    let told = tells-next old.view next at.s.world asker asked taken at.world takes in
    let outcome : WorldOutcome = record { reply = taken.0; next = told.world } in
    let s : RunState = state_after_step at.s asker outcome in
    let apart = work-apart script.deck at.s at.posted asker asked outcome work in
    let next_is : (world_step at.s.world asker asked taken.1).next ≡ told.world = same-left (is_shutdown asked) taken.1 _ told.world apart.no_end told.takes.next in
    let is_taken : take_entry script.deck at.s entry ≡ Some s =
    entry-taken script.deck at.s entry asked outcome at.is_open apart.wants told.takes.fits (ap₂ (λ r w. record { reply = r; next = w }) told.takes.reply next_is) in
    record {
      plays = record {
        s = s;
        posted = at.posted;
        places = at.places;
        heard = ap length apart.heard ∙ at.heard;
        count = at.count;
        world = told.told;
        is_open = apart.is_open;
        reaches = steps script.deck script.describe old.schedule at.s s at.posted (Steps asker) tasks entry apart.turn is_taken at.reaches;
        taken_on = taken-more script old.view next old.schedule asker asked taken at.s at.world at.reaches.taken apart.wants takes at.taken_on;
        there = there-more old.schedule entry at.there apart.there;
        each = λ k n. (let a = at.each k n in record {
          session = a.session;
          found = a.found;
          stands = subst (λ x. AtWork a.session (posted_to at.posted k) (slice_index_or x (k - 1) []) (handed_of handed k)) (sym apart.heard) a.stands;
        });
        left = at.left;
      };
      stays = standing.stays;
      before = entry-more script.deck script.describe _ old.schedule entry at.s asked at.reaches.taken apart.wants apart.stays standing.before;
    }
