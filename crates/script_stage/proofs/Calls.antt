-- What a stage's calls come to.
use Rattle.std.proofs.Common.{◌≡◌, ℕ, ◌-◌, ◌<◌, Bool, true, false, Option, Some, None, Ok, Err, List, [], ◌∷◌, ◌++◌, length, set, get_or, refl, sym, ap, ◌∙◌, subst, arith, append_assoc, append-nil, length-append}
use Rattle.std.specs.Prelude.{◌≤◌, ◌^◌, IfNone, IfSome, OnErr, Result, is_none, slice_get}
use Rattle.std.proofs.lemmas.List.{set-get_or}
use Rattle.std.specs.Bool.{OnFalse, OnTrue}
use Rattle.std.proofs.lemmas.Option.{slice_get_read}
use Rattle.vfs_base.specs.declared.entry.Entry.{Entry}
use Rattle.vfs_base.specs.declared.entry.Mark.{Mark}
use Rattle.vfs_base.specs.declared.entry.Who.{Who}
use Rattle.vfs_base.specs.declared.entry.Who.TheVariants as who
use Rattle.vfs_base.specs.declared.reply.Reply.{Reply}
use Rattle.vfs_base.specs.declared.step.Step.{Step}
use Rattle.vfs_model.specs.Turns.{Leaves, Posts, RunOut, Steps, Task}
use Rattle.step_world.specs.Taking.{Takes}
use Rattle.step_world.specs.WorldView.{WorldView}
use Rattle.vfs_model.specs.FaultCounts.{NoneFalls}
use Rattle.script_stage.proofs.Counting.{falls-then, none-falls}
use Rattle.script_stage.proofs.Ending.{exit-stops, work-stops}
use Rattle.script_stage.proofs.Moving.{got-other, got-same, other-place, passes-event, passes-exit, passes-run, posts-line}
use Rattle.script_stage.proofs.Turning.{IsExit, exit-moves, turn_taken, work-moves}
use Rattle.script_stage.specs.Scenes.{GoesOn, Halts, IsNumber, Scene, Script, with_entry, with_session}
use Rattle.script_stage.specs.SessionTurns.{StaysThrough, TakesExit, TakesWanted}
use Rattle.script_stage.specs.Sessions.{FollowsLine, is_through}
use Rattle.script_stage.specs.Standing.{Breaks, Does, Grows, IsAsking, IsIdle, IsThrough, IsWork, Leads, LeavesAt, OthersStay, Place, StandsAt, Stops, TakesTurn}
use Rattle.script_stage.specs.declared.phase.Phase.{Phase}
use Rattle.script_stage.specs.declared.phase.Phase.TheVariants as phase
use Rattle.script_stage.specs.declared.stage_session.StageSession.{StageSession}

some-same : (a b : StageSession) → Some a ≡ Some b → a ≡ b
some-same a b e = cc

-- a number whose place is one of a session
pub numbered : (k place : ℕ) → place ≡ k - 1 → 1 ≤ k → place < 8 → IsNumber k
numbered k place e least below = (least, omega (arith, e, least, below))

pub post_done : (old : Scene) (k place : ℕ) (before after : StageSession) (line : List ℕ) → IsNumber k → place ≡ k - 1 →
    slice_get old.sessions place ≡ Some before → FollowsLine before after line →
    Does old (with_session old place after) (Posts k line ∷ [])
post_done old k place before after line n e found follows script tasks handed at =
    subst (λ i. StandsAt (with_session old i after) script tasks handed) (sym e)
    (posts-line old k after line script tasks handed n
    (λ p f. (let same : before ≡ p = some-same before p (sym found ∙ ap (slice_get old.sessions) e ∙ f) in subst (λ x. FollowsLine x after line) same follows)) at)

pub exit_taken : (old new : Scene) (next : WorldView) (k place : ℕ) (before after : StageSession) (m : Mark) → place ≡ k - 1 → IsExit old next k before after m →
    new ≡ with_entry old next (set old.sessions place after) (record { who = who.Session k; mark = m }) →
    Leads LeavesAt old new (Leaves k ∷ []) (Leaves k ∷ [])
exit_taken old new next k place before after m e exit is script tasks handed at =
    subst (λ x. LeavesAt x script (Leaves k ∷ tasks) handed)
    (ap (λ i. with_entry old next (set old.sessions i after) (record { who = who.Session k; mark = m })) (sym e) ∙ sym is)
    (exit-moves old next k before after m exit script tasks handed at)

pub work_taken : (old new : Scene) (next : WorldView) (asker : Who) (asked : Step) (m : Mark) (reply : Reply) → IsWork asker asked →
    Takes old.view next asker asked (reply, m) →
    new ≡ with_entry old next old.sessions (record { who = asker; mark = m }) →
    Does old new (Steps asker ∷ [])
work_taken old new next asker asked m reply work takes is script tasks handed at =
    subst (λ x. StandsAt x script tasks handed) (sym is)
    (work-moves old next asker asked (reply, m) work takes script tasks handed at)

pub others_stay : (old new : List StageSession) (k place : ℕ) (p : StageSession) → IsNumber k → place ≡ k - 1 → length old ≡ 8 → new ≡ set old place p → OthersStay old new k
others_stay old new k place p n e count is j r o =
    ap (λ x. slice_get x (j - 1)) (is ∙ ap (λ i. set old i p) e)
    ∙ got-other old (k - 1) (j - 1) p (other-place k j n r o) (omega (arith, r.0, r.1, count))

-- what is not there of the schedule is of no earlier moment
pub breaks_off : (old new : Scene) (undone : List Task) → Halts old new → Breaks old new undone
breaks_off old new undone halts script tasks handed at = work-stops old new script (undone ++ tasks) handed halts at

pub leaves_off : (old new : Scene) (undone : List Task) → Halts old new → Stops LeavesAt old new undone
leaves_off old new undone halts script tasks handed at = exit-stops old new script (undone ++ tasks) handed halts at

-- running out is done where nothing is pending any more
pub run_done : (a b : Scene) (k : ℕ) → IsNumber k → IsIdle b.sessions k → Leads StandsAt a b (RunOut k ∷ []) (RunOut k ∷ []) → Does a b (RunOut k ∷ [])
run_done a b k n idle leads script tasks handed at =
    passes-run b k script tasks handed n idle (leads script tasks handed at)

pub event_passed : (a : Scene) (k : ℕ) → IsNumber k → IsIdle a.sessions k → Does a a (Steps (who.Session k) ∷ [])
event_passed a k n idle script tasks handed at = passes-event a k script tasks handed n idle at

pub exits_done : (a b : Scene) (k : ℕ) → IsNumber k → IsThrough b.sessions k → Leads LeavesAt a b (Leaves k ∷ []) (Leaves k ∷ []) → Leads LeavesAt a b (Leaves k ∷ []) []
exits_done a b k n through leads script tasks handed at =
    passes-exit b k script tasks handed n through (leads script tasks handed at)

pub err_of : {T E P : Type 0} (r : Result T E) → P → OnErr r P
err_of (Ok x) p = tt
err_of (Err e) p = p

pub some_of : {T : Type 0} (o : Option T) (x : T) (P : T → Type 0) → o ≡ Some x → IfSome o P → P x
some_of o x P e h = subst (λ y. IfSome y P) e h

pub none_of : {T : Type 0} (o : Option T) (P : Type 0) → o ≡ None → IfNone o P → P
none_of o P e h = subst (λ y. IfNone y P) e h

-- the session that changed is idle as before
pub idle_stays : (old new : List StageSession) (k place : ℕ) (after : StageSession) → IsNumber k → place ≡ k - 1 → length old ≡ 8 → after.phase ≡ phase.Idle → new ≡ set old place after → IsIdle new k
idle_stays old new k place after n e count idle is p found =
    let same : after ≡ p =
    some-same after p (sym (got-same old place after (omega (arith, n.0, n.1, count, e))) ∙ ap (slice_get (set old place after)) e ∙ ap (λ x. slice_get x (k - 1)) (sym is) ∙ found) in
    ap (λ x. x.phase) (sym same) ∙ idle

-- an event of a session is a step of its command, or it is passed over
pub play_taken : (b : Bool) (old new : Scene) (k : ℕ) → IsNumber k → OnTrue b (TakesTurn old new k) → OnFalse b ((new ≡ old) × IsIdle old.sessions k) →
    Does old new (Steps (who.Session k) ∷ [])
play_taken true old new k n took passed = took.1
play_taken false old new k n took passed = subst (λ x. Does old x (Steps (who.Session k) ∷ [])) (sym passed.0) (event_passed old k n passed.1)

pub others_pass : (a b c : List StageSession) (k : ℕ) → OthersStay a b k → OthersStay b c k → OthersStay a c k
others_pass a b c k first second j r e = second j r e ∙ first j r e

found_at : (all : List StageSession) (k place : ℕ) (before : StageSession) → place ≡ k - 1 → place < 8 → length all ≡ 8 → before ≡ get_or all place before →
    slice_get all (k - 1) ≡ Some before
found_at all k place before e h count is = subst (λ i. slice_get all i ≡ Some before) e (slice_get_read all 8 place before (sym count) h is)

-- a call that posts a line
pub post_call : (now old : Scene) (k place : ℕ) (before after : StageSession) (line : List ℕ) → old ≡ now → IsNumber k → place ≡ k - 1 → place < 8 →
    length old.sessions ≡ 8 → before ≡ get_or old.sessions place before → FollowsLine before after line →
    Does now (with_session old place after) (Posts k line ∷ [])
post_call now old k place before after line same n e h count is follows =
    subst (λ s. Does s (with_session old place after) (Posts k line ∷ [])) same
    (post_done old k place before after line n e (slice_get_read old.sessions 8 place before (sym count) h is) follows)

-- the session is at what it is known to be at
pub asking_at : (now old : Scene) (k place : ℕ) (before : StageSession) → old ≡ now → place ≡ k - 1 → place < 8 → length old.sessions ≡ 8 →
    before ≡ get_or old.sessions place before → IsAsking now.sessions k → before.phase ≡ phase.Asking
asking_at now old k place before same e h count is asking =
    asking before (ap (λ s. slice_get s.sessions (k - 1)) (sym same) ∙ found_at old.sessions k place before e h count is)

-- a call that takes a pending command's step
pub turn_call : (now old new : Scene) (next : WorldView) (k place : ℕ) (before after : StageSession) (m : Mark) → old ≡ now → IsNumber k →
    place ≡ k - 1 → place < 8 → length old.sessions ≡ 8 → before ≡ get_or old.sessions place before → IsAsking now.sessions k →
    TakesWanted before after old.view next k m →
    new ≡ with_entry old next (set old.sessions place after) (record { who = who.Session k; mark = m }) →
    TakesTurn now new k
turn_call now old new next k place before after m same n e h count is asking taken new-is =
    subst (λ s. TakesTurn s new k) same
    (turn_taken old new next k place before after m e (record {
      number = n;
      found = found_at old.sessions k place before e h count is;
      asking = asking_at now old k place before same e h count is asking;
      taken = taken;
    }) new-is)

-- a call that makes an exit step
pub exit_call : (now old new : Scene) (next : WorldView) (k place : ℕ) (before after : StageSession) (m : Mark) → old ≡ now → IsNumber k →
    place ≡ k - 1 → place < 8 → length old.sessions ≡ 8 → before ≡ get_or old.sessions place before → TakesExit before after old.view next k m →
    new ≡ with_entry old next (set old.sessions place after) (record { who = who.Session k; mark = m }) →
    Leads LeavesAt now new (Leaves k ∷ []) (Leaves k ∷ [])
exit_call now old new next k place before after m same n e h count is taken new-is =
    subst (λ s. Leads LeavesAt s new (Leaves k ∷ []) (Leaves k ∷ [])) same
    (exit_taken old new next k place before after m e (record { number = n; found = found_at old.sessions k place before e h count is; taken = taken }) new-is)

-- a call of the worker
pub work_call : (now old new : Scene) (next : WorldView) (asker : Who) (asked : Step) (m : Mark) (reply : Reply) → old ≡ now → IsWork asker asked →
    Takes old.view next asker asked (reply, m) →
    new ≡ with_entry old next old.sessions (record { who = asker; mark = m }) →
    Does now new (Steps asker ∷ [])
work_call now old new next asker asked m reply same work takes is =
    subst (λ s. Does s new (Steps asker ∷ [])) same (work_taken old new next asker asked m reply work takes is)

pub others_call : (now old : Scene) (new : List StageSession) (k place : ℕ) (p : StageSession) → old ≡ now → IsNumber k → place ≡ k - 1 → length old.sessions ≡ 8 →
    new ≡ set old.sessions place p → OthersStay now.sessions new k
others_call now old new k place p same n e count is =
    subst (λ s. OthersStay s.sessions new k) same (others_stay old.sessions new k place p n e count is)

pub idle_call : (now old : Scene) (new : List StageSession) (k place : ℕ) (before after : StageSession) → old ≡ now → IsNumber k → place ≡ k - 1 → place < 8 →
    length old.sessions ≡ 8 → before ≡ get_or old.sessions place before → IsIdle now.sessions k → after.phase ≡ before.phase → new ≡ set old.sessions place after → IsIdle new k
idle_call now old new k place before after same n e h count is idle stays new-is =
    let found = found_at old.sessions k place before e h count is in
    idle_stays old.sessions new k place after n e count (stays ∙ idle before (ap (λ s. slice_get s.sessions (k - 1)) (sym same) ∙ found)) new-is

-- a session that is looked at is idle
pub idle_at : (now old : Scene) (k place : ℕ) (before : StageSession) → old ≡ now → place ≡ k - 1 → place < 8 → length old.sessions ≡ 8 →
    before ≡ get_or old.sessions place before → IsIdle now.sessions k → before.phase ≡ phase.Idle
idle_at now old k place before same e h count is idle =
    idle before (ap (λ s. slice_get s.sessions (k - 1)) (sym same) ∙ found_at old.sessions k place before e h count is)

pub not_asking_at : (p : Phase) → p ≡ phase.Idle → p ≡ phase.Asking → ⊥
not_asking_at p idle asking = let no : phase.Idle ≡ phase.Asking = sym idle ∙ asking in cc

-- a call that finds no exit step left changes nothing
pub through_call : (now old : Scene) (next : WorldView) (k place : ℕ) (before after : StageSession) → old ≡ now → place ≡ k - 1 → place < 8 → length old.sessions ≡ 8 →
    before ≡ get_or old.sessions place before → StaysThrough before after old.view next →
    (record old { view = next; sessions = set old.sessions place after } ≡ now) × IsThrough now.sessions k
through_call now old next k place before after same e h count is stays = (
  ap (λ v. record old { view = v; sessions = set old.sessions place after }) stays.world
      ∙ ap (λ all. record old { sessions = all }) (ap (set old.sessions place) (stays.session ∙ is) ∙ set-get_or old.sessions place before) ∙ same,
  λ p found.
      let found-old = found_at old.sessions k place before e h count is in
      let one : before ≡ p = some-same before p (sym found-old ∙ ap (λ s. slice_get s.sessions (k - 1)) same ∙ found) in
      ap is_through (sym one) ∙ ap is_none stays.none,
)

-- where nothing is pending any more the running out is done
pub run_end : (b : Bool) (now mid new : Scene) (k : ℕ) → IsNumber k → b ≡ false → OnFalse b ((new ≡ mid) × IsIdle mid.sessions k) →
    Leads StandsAt now mid (RunOut k ∷ []) (RunOut k ∷ []) → Does now new (RunOut k ∷ [])
run_end true now mid new k n e passed leads = absurd (cc)
run_end false now mid new k n e passed leads = subst (λ s. Does now s (RunOut k ∷ [])) (sym passed.0) (run_done now mid k n passed.1 leads)

-- where no exit step is left the session has left
pub leave_end : (b : Bool) (now mid new : Scene) (k : ℕ) → IsNumber k → b ≡ false → OnFalse b ((new ≡ mid) × IsThrough mid.sessions k) →
    Leads LeavesAt now mid (Leaves k ∷ []) (Leaves k ∷ []) → Leads LeavesAt now new (Leaves k ∷ []) []
leave_end true now mid new k n e passed leads = absurd (cc)
leave_end false now mid new k n e passed leads =
    subst (λ s. Leads LeavesAt now s (Leaves k ∷ []) []) (sym passed.0) (exits_done now mid k n passed.1 leads)

-- the schedule is that of the moment to which the tasks were led
pub stops_behind : (now mid new : Scene) (before after : List Task) → Halts mid new → Leads StandsAt now mid before after → Breaks now new before
stops_behind now mid new before after e leads script tasks handed at =
    work-stops mid new script (after ++ tasks) handed e (leads script tasks handed at)

pub leaves_behind : (now mid new : Scene) (before after : List Task) → Halts mid new → Leads LeavesAt now mid before after → Stops LeavesAt now new before
leaves_behind now mid new before after e leads script tasks handed at =
    exit-stops mid new script (after ++ tasks) handed e (leads script tasks handed at)

-- tasks that were not all done are not all done with more behind them
pub breaks_first : (a b : Scene) (before more : List Task) → Breaks a b before → Breaks a b (before ++ more)
breaks_first a b before more breaks script tasks handed at =
    breaks script (more ++ tasks) handed (subst (λ x. StandsAt a script x handed) (append_assoc before more tasks) at)

-- tasks are not all done where the first of them are, and the others are not
pub breaks_then : (a b c : Scene) (before more : List Task) → Does a b before → Breaks b c more → Breaks a c (before ++ more)
breaks_then a b c before more does breaks script tasks handed at =
    breaks script tasks handed
    (does script (more ++ tasks) handed (subst (λ x. StandsAt a script x handed) (append_assoc before more tasks) at))

-- what holds where a call took a step
pub took_of : {P : Type 0} (b : Bool) → b ≡ true → OnTrue b P → P
took_of true e p = p
took_of false e p = absurd (cc)

-- tasks are led on and stay
pub leads_again : (At : Place) (a b c : Scene) (tasks : List Task) → Leads At a b tasks tasks → Leads At b c tasks tasks → Leads At a c tasks tasks
leads_again At a b c tasks first second = λ script more handed at. second script more handed (first script more handed at)

pub does_then : (a b c : Scene) (before more : List Task) → Does a b before → Does b c more → Does a c (before ++ more)
does_then a b c before more first second = λ script tasks handed at.
    second script tasks handed (first script (more ++ tasks) handed (subst (λ x. StandsAt a script x handed) (append_assoc before more tasks) at))

-- a call that puts an entry behind the schedule
pub grows_call : (now old new : Scene) (next : WorldView) (all : List StageSession) (entry : Entry) → old ≡ now → length new.schedule ≤ 2 ^ 64 →
    new ≡ with_entry old next all entry → Grows now new
grows_call now old new next all entry same room is =
    let longer : length new.schedule ≡ length (old.schedule ++ entry ∷ []) = ap (λ s. length s.schedule) is in
    let before : length old.schedule ≡ length now.schedule = ap (λ s. length s.schedule) same in
    (omega (arith, longer, before, length-append old.schedule (entry ∷ [])), room)

-- nothing was entered
pub halts_same : (old new : Scene) → new ≡ old → Halts old new
halts_same old new e = subst (λ x. Halts old x) (sym e) (record { schedule = refl; leaves_at = refl; rising = none-falls old.view.faults })

-- nothing was entered behind what the call began with, though its world may have gone on
pub halts_call : (now old new : Scene) → old ≡ now → new.schedule ≡ old.schedule → new.leaves_at ≡ old.leaves_at → NoneFalls old.view.faults new.view.faults → Halts now new
halts_call now old new same schedule leaves rising = subst (λ x. Halts x new) same (record { schedule = schedule; leaves_at = leaves; rising = rising })

-- the world went on, and nothing was entered
pub halts_entered : (now old new : Scene) (view : WorldView) (all : List StageSession) → old ≡ now → NoneFalls old.view.faults view.faults →
    new ≡ record old { view = view; sessions = all } → Halts now new
halts_entered now old new view all same rising is =
    subst (λ x. Halts now x) (sym is) (halts_call now old (record old { view = view; sessions = all }) same refl refl rising)

pub halts_then : (a b c : Scene) → Halts a b → Halts b c → Halts a c
halts_then a b c p q = record {
  schedule = q.schedule ∙ p.schedule;
  leaves_at = q.leaves_at ∙ p.leaves_at;
  rising = falls-then a.view.faults b.view.faults c.view.faults p.rising q.rising;
}

pub goes_halted : (old new : Scene) → Halts old new → GoesOn old new
goes_halted old new halts = record { later = []; schedule = halts.schedule ∙ sym (append-nil old.schedule); leaves_at = halts.leaves_at }

pub goes_same : (old new : Scene) → new ≡ old → GoesOn old new
goes_same old new e = goes_halted old new (halts_same old new e)

pub goes_then : (a b c : Scene) → GoesOn a b → GoesOn b c → GoesOn a c
goes_then a b c p q = record {
  later = p.later ++ q.later;
  schedule = q.schedule ∙ ap (λ l. l ++ q.later) p.schedule ∙ append_assoc a.schedule p.later q.later;
  leaves_at = q.leaves_at ∙ p.leaves_at;
}

-- a call that puts an entry behind the schedule goes on by it
pub goes_call : (now old new : Scene) (next : WorldView) (all : List StageSession) (entry : Entry) → old ≡ now → new ≡ with_entry old next all entry → GoesOn now new
goes_call now old new next all entry same is = record {
  later = entry ∷ [];
  schedule = ap (λ s. s.schedule) is ∙ ap (λ s. s.schedule ++ entry ∷ []) same;
  leaves_at = ap (λ s. s.leaves_at) is ∙ ap (λ s. s.leaves_at) same;
}
