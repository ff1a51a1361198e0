-- What stands after a task was passed over, after a line was posted, and after a step.
use Rattle.std.proofs.Common.{◌≡◌, ◌≢◌, ℕ, ◌-◌, ◌<◌, ◌==◌, ◌&&◌, Bool, true, false, cond, Option, Some, None, List, [], ◌∷◌, ◌++◌, length, set, refl, sym, ap, ap₂, ◌∙◌, subst, arith, append_assoc, get_or-set_same, get_or-set_other, length-set}
use Rattle.std.specs.Prelude.{is_some, is_none, slice_get}
use Rattle.std.proofs.lemmas.Bool.Decides.{nat_tests}
use Rattle.std.proofs.lemmas.Option.{slice_get-get_or}
use Rattle.vfs_base.specs.Path.{AllAre}
use Rattle.vfs_base.specs.declared.deck.Deck.{Deck}
use Rattle.vfs_base.specs.declared.describe.Describe.{Describe}
use Rattle.vfs_base.specs.declared.entry.Entry.{Entry}
use Rattle.vfs_base.specs.declared.entry.Mark.{Mark}
use Rattle.vfs_base.specs.declared.entry.Who.{Who}
use Rattle.vfs_base.specs.declared.entry.Who.TheVariants as who
use Rattle.vfs_base.specs.declared.limits.TheConstants.{SESSIONS}
use Rattle.vfs_base.specs.declared.reply.Reply.{Reply}
use Rattle.vfs_base.specs.declared.step.Step.{Step}
use Rattle.vfs_base.specs.declared.step.Step.TheVariants as step
use Rattle.vfs_model.proofs.OwnLines.{session-asks-its-own}
use Rattle.vfs_model.specs.Asking.{may_ask, may_ask_file}
use Rattle.vfs_model.specs.FileStep.{step_file}
use Rattle.vfs_model.specs.NamespaceStep.{is_shutdown}
use Rattle.vfs_model.specs.Tally.{is_fault}
use Rattle.vfs_model.specs.ScriptRun.{RunState, entry_step, heard_by, state_after_step, take_entry, state_after}
use Rattle.vfs_model.specs.Session.{SessionRun, exit_step, is_pending, session_run, wanted_step}
use Rattle.vfs_model.specs.Turns.{Leaves, Posts, RunOut, Steps, Task, posted_after, posted_run, session_if, task_rest, task_who}
use Rattle.vfs_model.specs.World.{WorldOutcome, world_step}
use Rattle.vfs_model.specs.declared.namespace.Namespace.{Namespace}
use Rattle.vfs_model.specs.declared.world.WorldState.{WorldState}
use Rattle.world_laws.proofs.steps.ScriptAsking.{script-asks}
use Rattle.world_laws.specs.Scripts.{IsThere}
use Rattle.step_world.specs.Taking.{IsLeft, Takes}
use Rattle.step_world.specs.WorldView.{WorldView}
use Rattle.msh_session.specs.SessionTalks.{exits_left}
use Rattle.script_stage.proofs.Counting.{taken-more, tells-next}
use Rattle.script_stage.proofs.Reaching.{entry-taken, passes, steps}
use Rattle.script_stage.proofs.SessionLemmas.{exit-idle, exit-wants, idle-leaves}
use Rattle.script_stage.specs.Scenes.{IsNumber, Reaches, Scene, Script, handed_of, lines_left, posted_to, task_lines, with_entry, with_session}
use Rattle.script_stage.specs.Sessions.{AtExit, AtWork, FollowsLine}
use Rattle.script_stage.specs.Standing.{IsIdle, IsThrough, LeavesAt, Plays, SessionAt, Standing, StandsAt}
use Rattle.script_stage.specs.declared.stage_session.StageSession.{StageSession}

pub got-same : (xs : List StageSession) (i : ℕ) (x : StageSession) → i < length xs → slice_get (set xs i x) i ≡ Some x
got-same xs i x h = slice_get-get_or (set xs i x) i x (omega (arith, length-set xs i x)) ∙ ap Some (get_or-set_same xs i x x h)

pub got-other : (xs : List StageSession) (i j : ℕ) (x : StageSession) → j ≢ i → j < length xs → slice_get (set xs i x) j ≡ slice_get xs j
got-other xs i j x other h =
    slice_get-get_or (set xs i x) j x (omega (arith, length-set xs i x))
    ∙ ap Some (get_or-set_other xs i j x x other)
    ∙ sym (slice_get-get_or xs j x h)

-- another number has another place
pub other-place : (k j : ℕ) → IsNumber k → IsNumber j → (k == j) ≡ false → (j - 1) ≢ (k - 1)
other-place k j r q e = λ f. (let is : (k == j) ≡ true = grind (arith, nat_tests, f, r.0, q.0) in absurd (cc))

-- one session stands anew, and the others as before
pub each-set : (Stands : Standing) (all : List StageSession) (k : ℕ) (p : StageSession)
    (lines lines' : ℕ → List (List ℕ)) (heard heard' : ℕ → List Reply) (out out' : ℕ → List ℕ) →
    IsNumber k → length all ≡ SESSIONS → Stands p (lines' k) (heard' k) (out' k) →
    ((j : ℕ) → IsNumber j → (k == j) ≡ false → (lines j ≡ lines' j) × (heard j ≡ heard' j) × (out j ≡ out' j)) →
    ((j : ℕ) → IsNumber j → SessionAt Stands all j (lines j) (heard j) (out j)) →
    (j : ℕ) → IsNumber j → SessionAt Stands (set all (k - 1) p) j (lines' j) (heard' j) (out' j)
each-set Stands all k p lines lines' heard heard' out out' n count now same each j r = by_same (k == j) refl
  where
    by_same : (b : Bool) → (k == j) ≡ b → SessionAt Stands (set all (k - 1) p) j (lines' j) (heard' j) (out' j)
    by_same true e =
        let is : k ≡ j = grind (arith, nat_tests) in
        subst (λ i. SessionAt Stands (set all (k - 1) p) i (lines' i) (heard' i) (out' i)) is
        (record { session = p; found = got-same all (k - 1) p (omega (arith, n.0, n.1, count)); stands = now })
    by_same false e =
        let a = each j r in
        let s = same j r e in
        record {
          session = a.session;
          found = got-other all (k - 1) (j - 1) p (other-place k j n r e) (omega (arith, r.0, r.1, count)) ∙ a.found;
          stands =
              subst (λ x. Stands a.session (lines' j) (heard' j) x) s.2
              (subst (λ x. Stands a.session (lines' j) x (out j)) s.1
              (subst (λ x. Stands a.session x (heard j) (out j)) s.0 a.stands));
        }

-- a task that posts nothing is passed over, where it needs no step
pub passes-task : (Stands : Standing) (scene : Scene) (script : Script) (task : Task) (tasks : List Task) (handed : List ℕ) →
    (at : Plays Stands scene script (task ∷ tasks) handed) → task_who at.posted at.s task ≡ None → posted_after at.posted task ≡ at.posted →
    ((j : ℕ) → task_lines j task ≡ []) → Plays Stands scene script tasks handed
passes-task Stands scene script task tasks handed at none same empty = record {
  s = at.s;
  posted = at.posted;
  places = at.places;
  heard = at.heard;
  count = at.count;
  world = at.world;
  is_open = at.is_open;
  reaches =
      subst (λ posted. Reaches script.deck script.describe scene.schedule at.s posted tasks) same
      (passes script.deck script.describe scene.schedule at.s at.posted task tasks none at.reaches);
  taken_on = at.taken_on;
  there = at.there;
  each = at.each;
  left = λ j r. at.left j r ∙ ap (λ x. posted_to at.posted j ++ (x ++ lines_left j tasks)) (empty j);
}

-- an idle session has nothing pending
pub idle-rests : (scene : Scene) (script : Script) (tasks : List Task) (handed : List ℕ) (k : ℕ) → IsNumber k → IsIdle scene.sessions k →
    (at : Plays AtWork scene script tasks handed) → is_pending (posted_run at.posted at.s k) ≡ false
idle-rests scene script tasks handed k n idle at =
    let a = at.each k n in
    exit-idle a.session (posted_to at.posted k) (heard_by at.s k) (handed_of handed k)
    (idle-leaves a.session (posted_to at.posted k) (heard_by at.s k) (handed_of handed k) a.stands (idle a.session a.found))

pub passes-run : (scene : Scene) (k : ℕ) (script : Script) (tasks : List Task) (handed : List ℕ) → IsNumber k → IsIdle scene.sessions k →
    StandsAt scene script (RunOut k ∷ tasks) handed → StandsAt scene script tasks handed
passes-run scene k script tasks handed n idle at = record {
  plays = passes-task AtWork scene script (RunOut k) tasks handed at.plays
      (ap (λ b. session_if b k) (idle-rests scene script (RunOut k ∷ tasks) handed k n idle at.plays)) refl (λ j. refl);
  stays = at.stays;
  before = at.before;
}

pub passes-event : (scene : Scene) (k : ℕ) (script : Script) (tasks : List Task) (handed : List ℕ) → IsNumber k → IsIdle scene.sessions k →
    StandsAt scene script (Steps (who.Session k) ∷ tasks) handed → StandsAt scene script tasks handed
passes-event scene k script tasks handed n idle at = record {
  plays = passes-task AtWork scene script (Steps (who.Session k)) tasks handed at.plays
      (ap (λ b. session_if b k) (idle-rests scene script (Steps (who.Session k) ∷ tasks) handed k n idle at.plays)) refl (λ j. refl);
  stays = at.stays;
  before = at.before;
}

exit-first : (run : SessionRun) → is_pending run ≡ false → wanted_step run ≡ exit_step run
exit-first run e = rw e refl

-- the exit step of a session that leaves
pub exit-is : (p : StageSession) (posted : List (List ℕ)) (heard : List Reply) (handed : List ℕ) → AtExit p posted heard handed →
    exit_step (session_run posted heard) ≡ slice_get (exits_left p.session) 0
exit-is p posted heard handed at =
    sym (exit-first (session_run posted heard) (exit-idle p posted heard handed at)) ∙ exit-wants p posted heard handed at

none-is : (x : Option Step) → is_none x ≡ true → x ≡ None
none-is None e = refl
none-is (Some asked) e = absurd (cc)

pub passes-exit : (scene : Scene) (k : ℕ) (script : Script) (tasks : List Task) (handed : List ℕ) → IsNumber k → IsThrough scene.sessions k →
    LeavesAt scene script (Leaves k ∷ tasks) handed → LeavesAt scene script tasks handed
passes-exit scene k script tasks handed n through at =
    let a = at.plays.each k n in
    let none : exit_step (posted_run at.plays.posted at.plays.s k) ≡ None =
    exit-is a.session (posted_to at.plays.posted k) (heard_by at.plays.s k) (handed_of handed k) a.stands
    ∙ none-is (slice_get (exits_left a.session.session) 0) (through a.session a.found) in
    record {
      plays = passes-task AtExit scene script (Leaves k) tasks handed at.plays (ap (λ x. session_if (is_some x) k) none) refl (λ j. refl);
      lines = at.lines;
      begun = at.begun;
      stops = at.stops;
    }

-- a line is posted
module _ (scene : Scene) (k : ℕ) (p : StageSession) (line : List ℕ) where
  line-plays : (script : Script) (tasks : List Task) (handed : List ℕ) → IsNumber k →
      ((old : StageSession) → slice_get scene.sessions (k - 1) ≡ Some old → FollowsLine old p line) →
      Plays AtWork scene script (Posts k line ∷ tasks) handed →
      Plays AtWork (with_session scene (k - 1) p) script tasks handed
  line-plays script tasks handed n follows at =
      let more = posted_to at.posted k ++ line ∷ [] in
      let posted = set at.posted (k - 1) more in
      let a = at.each k n in
      let within : k - 1 < length at.posted = omega (arith, n.0, n.1, at.places) in
      record {
        s = at.s;
        posted = posted;
        places = length-set at.posted (k - 1) more ∙ at.places;
        heard = at.heard;
        count = length-set scene.sessions (k - 1) p ∙ at.count;
        world = at.world;
        is_open = at.is_open;
        reaches = passes script.deck script.describe scene.schedule at.s at.posted (Posts k line) tasks refl at.reaches;
        taken_on = at.taken_on;
        there = at.there;
        each = each-set AtWork scene.sessions k p (posted_to at.posted) (posted_to posted) (heard_by at.s) (heard_by at.s) (handed_of handed) (handed_of handed) n at.count
            (subst (λ x. AtWork p x (heard_by at.s k) (handed_of handed k)) (sym (get_or-set_same at.posted (k - 1) more [] within))
            (follows a.session a.found (posted_to at.posted k) (heard_by at.s k) (handed_of handed k) a.stands))
            (λ j r e. (sym (get_or-set_other at.posted (k - 1) (j - 1) more [] (other-place k j n r e)), refl, refl)) at.each;
        left = λ j r. at.left j r ∙ moved j r (k == j) refl;
      }
    where
      moved : (j : ℕ) → IsNumber j → (b : Bool) → (k == j) ≡ b →
          posted_to at.posted j ++ ((cond b (line ∷ []) []) ++ lines_left j tasks)
          ≡ posted_to (set at.posted (k - 1) (posted_to at.posted k ++ line ∷ [])) j ++ lines_left j tasks
      moved j r true e =
          let is : k ≡ j = grind (arith, nat_tests) in
          let within : k - 1 < length at.posted = omega (arith, n.0, n.1, at.places) in
          sym (append_assoc (posted_to at.posted j) (line ∷ []) (lines_left j tasks))
          ∙ subst (λ i. (posted_to at.posted i ++ line ∷ []) ++ lines_left j tasks ≡ posted_to (set at.posted (k - 1) (posted_to at.posted k ++ line ∷ [])) i ++ lines_left j tasks) is
          (ap (λ x. x ++ lines_left j tasks) (sym (get_or-set_same at.posted (k - 1) (posted_to at.posted k ++ line ∷ []) [] within)))
      moved j r false e =
          ap (λ x. x ++ lines_left j tasks) (sym (get_or-set_other at.posted (k - 1) (j - 1) (posted_to at.posted k ++ line ∷ []) [] (other-place k j n r e)))

pub posts-line : (scene : Scene) (k : ℕ) (p : StageSession) (line : List ℕ) (script : Script) (tasks : List Task) (handed : List ℕ) → IsNumber k →
    ((old : StageSession) → slice_get scene.sessions (k - 1) ≡ Some old → FollowsLine old p line) →
    StandsAt scene script (Posts k line ∷ tasks) handed → StandsAt (with_session scene (k - 1) p) script tasks handed
posts-line scene k p line script tasks handed n follows at =
    record { plays = line-plays scene k p line script tasks handed n follows at.plays; stays = at.stays; before = at.before }

rest-lines : (posted : List (List (List ℕ))) (s : RunState) (task : Task) (tasks : List Task) (asker : Who) (j : ℕ) → task_who posted s task ≡ Some asker →
    lines_left j (task ∷ tasks) ≡ lines_left j (task_rest task ++ tasks)
rest-lines posted s (RunOut k) tasks asker j e = refl
rest-lines posted s (Posts k text) tasks asker j e = absurd (cc)
rest-lines posted s (Steps w) tasks asker j e = refl
rest-lines posted s (Leaves k) tasks asker j e = refl

-- each entry's asker is there, the new one's too
pub there-more : (schedule : List Entry) (last : Entry) → AllAre (λ entry. IsThere entry.who) schedule → IsThere last.who → AllAre (λ entry. IsThere entry.who) (schedule ++ last ∷ [])
there-more [] last all now = (now, tt)
there-more (entry ∷ schedule) last all now = (all.0, there-more schedule last all.1 now)

-- no session asks for the end
no-end : (n : Namespace) (k : ℕ) (asked : Step) → may_ask_file n k asked (step_file asked) ≡ true → is_shutdown asked ≡ false
no-end n k step.Shutdown e = absurd (cc)
no-end n k _ e = refl

session-asks : (deck : Deck) (describe : Describe) (schedule : List Entry) (s : RunState) (k : ℕ) (asked : Step) → AllAre (λ entry. IsThere entry.who) schedule → IsNumber k →
    state_after deck describe schedule ≡ Some s → entry_step deck s (who.Session k) ≡ Some asked → is_shutdown asked ≡ false
unfolding may_ask
session-asks deck describe schedule s k asked there n = λ taken wants.
    no-end s.world.namespace k asked (script-asks session-asks-its-own deck describe schedule s (who.Session k) asked there (omega (arith, n.0), n.1) refl taken wants)

pub same-left : (b : Bool) (m : Mark) (defined new : WorldState) → b ≡ false → IsLeft (b && is_fault m) defined new → defined ≡ new
same-left true m defined new e left = absurd (cc)
same-left false m defined new e left = left

-- a session's step is taken
pub session-moves : (Stands : Standing) (old : Scene) (next : WorldView) (k : ℕ) (p : StageSession) (taken : Reply × Mark) (asked : Step) →
    (script : Script) (task : Task) (tasks : List Task) (handed : List ℕ) → IsNumber k →
    (at : Plays Stands old script (task ∷ tasks) handed) →
    task_who at.posted at.s task ≡ Some (who.Session k) → entry_step script.deck at.s (who.Session k) ≡ Some asked →
    Takes old.view next (who.Session k) asked taken →
    Stands p (posted_to at.posted k) (heard_by at.s k ++ taken.0 ∷ []) (handed_of handed k) →
    Plays Stands (with_entry old next (set old.sessions (k - 1) p) (record { who = who.Session k; mark = taken.1 })) script (task_rest task ++ tasks) handed
session-moves Stands old next k p taken asked = λ script task tasks handed n at turn wants takes stands.
    let entry : Entry = record { who = who.Session k; mark = taken.1 } in
    let told = tells-next old.view next at.s.world (who.Session k) asked taken at.world takes in
    let outcome : WorldOutcome = record { reply = taken.0; next = told.world } in
    let s : RunState = state_after_step at.s (who.Session k) outcome in
    let more = heard_by at.s k ++ taken.0 ∷ [] in
    let within : k - 1 < length at.s.heard = omega (arith, n.0, n.1, at.heard) in
    let open_end : is_shutdown asked ≡ false = session-asks script.deck script.describe old.schedule at.s k asked at.there n at.reaches.taken wants in
    let next_is : (world_step at.s.world (who.Session k) asked taken.1).next ≡ told.world = same-left (is_shutdown asked) taken.1 _ told.world open_end told.takes.next in
    let is_taken : take_entry script.deck at.s entry ≡ Some s =
    entry-taken script.deck at.s entry asked outcome at.is_open wants told.takes.fits
    (ap₂ (λ r w. record { reply = r; next = w }) told.takes.reply next_is) in
    record {
      s = s;
      posted = at.posted;
      places = at.places;
      heard = length-set at.s.heard (k - 1) more ∙ at.heard;
      count = length-set old.sessions (k - 1) p ∙ at.count;
      world = told.told;
      is_open = refl;
      reaches = steps script.deck script.describe old.schedule at.s s at.posted task tasks entry turn is_taken at.reaches;
      taken_on = taken-more script old.view next old.schedule (who.Session k) asked taken at.s at.world at.reaches.taken wants takes at.taken_on;
      there = there-more old.schedule entry at.there (omega (arith, n.0), n.1);
      each = each-set Stands old.sessions k p (posted_to at.posted) (posted_to at.posted) (heard_by at.s) (heard_by s) (handed_of handed) (handed_of handed) n at.count
          (subst (λ x. Stands p (posted_to at.posted k) x (handed_of handed k)) (sym (get_or-set_same at.s.heard (k - 1) more [] within)) stands)
          (λ j r e. (refl, sym (get_or-set_other at.s.heard (k - 1) (j - 1) more [] (other-place k j n r e)), refl)) at.each;
      left = λ j r. at.left j r ∙ ap (λ x. posted_to at.posted j ++ x) (rest-lines at.posted at.s task tasks (who.Session k) j turn);
    }
