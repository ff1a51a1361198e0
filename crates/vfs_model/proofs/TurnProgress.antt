-- A replay goes on until its end: whoever's turn it is can take a step.
use Rattle.std.proofs.Common.{◌≡◌, ◌≢◌, ℕ, ◌-◌, ◌≤◌, ◌==◌, Bool, true, false, not, cond, ◌&&◌, Option, Some, None, List, [], ◌∷◌, ◌++◌, length, map, set, get_or, refl, sym, ap, ◌∙◌, subst, arith, append_assoc, append-nil, get_or-set_same, get_or-set_other, length-set}
use Rattle.std.specs.Prelude.{is_some, is_none}
use Rattle.std.specs.List.{list_all}
use Rattle.std.proofs.lemmas.Bool.Decides.{nat_tests}
use Rattle.vfs_base.specs.declared.deck.Deck.{Deck}
use Rattle.vfs_base.specs.declared.entry.Entry.{Entry}
use Rattle.vfs_base.specs.declared.entry.Mark.{Mark}
use Rattle.vfs_base.specs.declared.entry.Who.{Who}
use Rattle.vfs_base.specs.declared.entry.Who.TheVariants as who
use Rattle.vfs_base.specs.declared.limits.TheConstants.{SESSIONS}
use Rattle.vfs_base.specs.declared.step.Step.{Step}
use Rattle.vfs_base.specs.declared.step.Step.TheVariants as step
use Rattle.vfs_model.proofs.BlockLemmas.{take-over}
use Rattle.vfs_model.proofs.DoneSessions.{all-stay, done-stays, idle-stays, parts-done}
use Rattle.vfs_model.proofs.GrowingRuns.{entry-grows, pending-wanted}
use Rattle.vfs_model.specs.Deck.{session_lines}
use Rattle.vfs_model.specs.DeckLaws.{IsEvent}
use Rattle.vfs_model.specs.ScriptRun.{RunState, entry_step, heard_by, is_done, run_of, sessions, take_entry}
use Rattle.vfs_model.specs.Session.{exit_step, is_pending, session_run, wanted_step}
use Rattle.vfs_model.specs.Turns.{Agenda, Leaves, Posts, RunOut, Steps, Task, Turn, next_turn, posted_after, posted_run, session_if, task_rest, task_who}

abbrev pub InRange : ℕ → Type 0
InRange k = (1 ≤ k) × (k ≤ SESSIONS)

abbrev pub AreInRange : List ℕ → Type 0
AreInRange [] = Unit {0}
AreInRange (k ∷ ks) = InRange k × AreInRange ks

-- the lines that tasks post to a session
abbrev pub future : ℕ → List Task → List (List ℕ)
future k [] = []
future k (RunOut j ∷ tasks) = future k tasks
future k (Posts j text ∷ tasks) = (cond (j == k) (text ∷ []) []) ++ future k tasks
future k (Steps asker ∷ tasks) = future k tasks
future k (Leaves j ∷ tasks) = future k tasks

-- a task that a script's lines ask for
abbrev pub IsTask : Task → Type 0
IsTask (RunOut k) = InRange k
IsTask (Posts k text) = InRange k
IsTask (Steps asker) = IsEvent asker
IsTask (Leaves k) = ⊥

abbrev pub AreTasks : List Task → Type 0
AreTasks [] = Unit {0}
AreTasks (task ∷ tasks) = IsTask task × AreTasks tasks

abbrev pub leaving : List ℕ → List Task
leaving ks = map Leaves ks ++ Steps who.End ∷ []

abbrev pub running : List ℕ → List Task
running ks = map RunOut ks ++ leaving sessions

abbrev pub posted_by : List (List (List ℕ)) → ℕ → List (List ℕ)
posted_by posted k = get_or posted (k - 1) []

abbrev pub AllPosted : Deck → List (List (List ℕ)) → Type 0
AllPosted deck posted = (k : ℕ) → InRange k → posted_by posted k ≡ session_lines deck k

abbrev pub is_idle : Deck → RunState → ℕ → Bool
is_idle deck s k = not (is_pending (run_of deck s k))

-- the script's lines are at work
pub record IsFront (deck : Deck) (s : RunState) (agenda : Agenda) : Type 0 where
  pub over : s.is_over ≡ false
  pub places : length agenda.posted ≡ SESSIONS
  pub front : List Task
  pub tasks : agenda.tasks ≡ front ++ running sessions
  pub fits : AreTasks front
  pub promise : (k : ℕ) → InRange k → posted_by agenda.posted k ++ future k front ≡ session_lines deck k

-- all lines are posted, and the sessions before these have nothing pending
pub record IsRunning (deck : Deck) (s : RunState) (agenda : Agenda) : Type 0 where
  pub over : s.is_over ≡ false
  pub before : List ℕ
  pub rest : List ℕ
  pub parts : sessions ≡ before ++ rest
  pub ranges : AreInRange rest
  pub tasks : agenda.tasks ≡ running rest
  pub posted : AllPosted deck agenda.posted
  pub idle : list_all (is_idle deck s) before ≡ true

-- nothing is pending, and the sessions before these are done
pub record IsLeaving (deck : Deck) (s : RunState) (agenda : Agenda) : Type 0 where
  pub over : s.is_over ≡ false
  pub before : List ℕ
  pub rest : List ℕ
  pub parts : sessions ≡ before ++ rest
  pub ranges : AreInRange rest
  pub tasks : agenda.tasks ≡ leaving rest
  pub posted : AllPosted deck agenda.posted
  pub idle : list_all (is_idle deck s) sessions ≡ true
  pub done : list_all (is_done deck s) before ≡ true

-- where a replay can stand
pub data Good (deck : Deck) (s : RunState) (agenda : Agenda) : Type 0 where
  Front : IsFront deck s agenda → Good deck s agenda
  Running : IsRunning deck s agenda → Good deck s agenda
  Leaving : IsLeaving deck s agenda → Good deck s agenda
  Over : s.is_over ≡ true → agenda.tasks ≡ [] → Good deck s agenda

-- It is somebody's turn, whose step is there, and after it the replay stands well.
pub record GoesOn (deck : Deck) (s : RunState) (posted : List (List (List ℕ))) (tasks : List Task) : Type 0 where
  pub turn : Turn
  pub found : next_turn s posted tasks ≡ Some turn
  pub asked : Step
  pub wants : entry_step deck s turn.who ≡ Some asked
  pub keeps : (t : RunState) (m : Mark) → take_entry deck s (record { who = turn.who; mark = m }) ≡ Some t → Good deck t turn.agenda

all-split : (p : ℕ → Bool) (a b : List ℕ) → list_all p (a ++ b) ≡ true → (list_all p a ≡ true) × (list_all p b ≡ true)
all-split p [] b h = (refl, h)
all-split p (x ∷ a) b h =
    let parts = both (p x) (list_all p (a ++ b)) h in
    let more = all-split p a b parts.1 in (rw parts.0 more.0, more.1)
  where
    both : (x y : Bool) → (x && y) ≡ true → (x ≡ true) × (y ≡ true)
    both true y h = (refl, h)
    both false y h = absurd (cc)

all-push : (p : ℕ → Bool) (a : List ℕ) (x : ℕ) → list_all p a ≡ true → p x ≡ true → list_all p (a ++ x ∷ []) ≡ true
all-push p [] x h e = rw e refl
all-push p (y ∷ a) x h e =
    let parts = both (p y) (list_all p a) h in rw parts.0 (all-push p a x parts.1 e)
  where
    both : (x y : Bool) → (x && y) ≡ true → (x ≡ true) × (y ≡ true)
    both true y h = (refl, h)
    both false y h = absurd (cc)

not-true : (b : Bool) → not b ≡ true → b ≡ false
not-true true e = absurd (cc)
not-true false e = refl

none-is : {A : Type 0} (x : Option A) → x ≡ None → is_none x ≡ true
none-is x e = ap is_none e

-- the run of a session all of whose lines are posted
posted-is : (deck : Deck) (s : RunState) (posted : List (List (List ℕ))) (k : ℕ) → AllPosted deck posted → InRange k → posted_run posted s k ≡ run_of deck s k
posted-is deck s posted k h r = ap (λ lines. session_run lines (heard_by s k)) (h k r)

idle-all : (deck : Deck) (s t : RunState) (entry : Entry) (ks : List ℕ) → take_entry deck s entry ≡ Some t → list_all (is_idle deck s) ks ≡ true → list_all (is_idle deck t) ks ≡ true
idle-all deck s t entry ks e h = all-stay (is_idle deck s) (is_idle deck t) ks (λ k idle. ap not (idle-stays deck s t k (not-true _ idle) (entry-grows deck s t entry k e))) h

done-all : (deck : Deck) (s t : RunState) (entry : Entry) (ks : List ℕ) → take_entry deck s entry ≡ Some t → list_all (is_done deck s) ks ≡ true → list_all (is_done deck t) ks ≡ true
done-all deck s t entry ks e h = all-stay (is_done deck s) (is_done deck t) ks (λ k done. done-stays deck s t k done (entry-grows deck s t entry k e)) h

-- a task that needs no step is passed over
passed : (deck : Deck) (s : RunState) (posted : List (List (List ℕ))) (task : Task) (tasks : List Task) → task_who posted s task ≡ None →
    GoesOn deck s (posted_after posted task) tasks → GoesOn deck s posted (task ∷ tasks)
passed deck s posted task tasks e on = record { turn = on.turn; found = here ∙ on.found; asked = on.asked; wants = on.wants; keeps = on.keeps }
  where
    here : next_turn s posted (task ∷ tasks) ≡ next_turn s (posted_after posted task) tasks
    here = rw e refl

-- a task that needs a step says whose turn it is
turn-here : (s : RunState) (posted : List (List (List ℕ))) (task : Task) (tasks : List Task) (asker : Who) → task_who posted s task ≡ Some asker →
    next_turn s posted (task ∷ tasks) ≡ Some (record { who = asker; agenda = record { posted = posted; tasks = task_rest task ++ tasks } })
turn-here s posted task tasks asker e = rw e refl

first-true : (p : ℕ → Bool) (k : ℕ) (ks : List ℕ) → list_all p (k ∷ ks) ≡ true → p k ≡ true
first-true p k ks h = first (p k) (list_all p ks) h
  where
    first : (x y : Bool) → (x && y) ≡ true → x ≡ true
    first true y h = refl
    first false y h = absurd (cc)

idle-at : (deck : Deck) (s : RunState) (before : List ℕ) (k : ℕ) (ks : List ℕ) → list_all (is_idle deck s) (before ++ k ∷ ks) ≡ true → is_pending (run_of deck s k) ≡ false
idle-at deck s before k ks h = not-true _ (first-true (is_idle deck s) k ks (all-split (is_idle deck s) before (k ∷ ks) h).1)

all-in-range : AreInRange sessions
all-in-range = (
  (omega arith, omega arith),
  (
    (omega arith, omega arith),
    (
      (omega arith, omega arith),
      (
        (omega arith, omega arith),
        ((omega arith, omega arith), ((omega arith, omega arith), ((omega arith, omega arith), ((omega arith, omega arith), tt)))),
      ),
    ),
  ),
)

go-leaving : (deck : Deck) (s : RunState) (posted : List (List (List ℕ))) (before rest : List ℕ) → s.is_over ≡ false → sessions ≡ before ++ rest → AreInRange rest →
    AllPosted deck posted → list_all (is_idle deck s) sessions ≡ true → list_all (is_done deck s) before ≡ true → GoesOn deck s posted (leaving rest)
go-leaving deck s posted before [] over parts ranges all idle done =
    let whole : list_all (is_done deck s) sessions ≡ true = ap (list_all (is_done deck s)) (parts ∙ append-nil before) ∙ done in
    record {
      turn = record { who = who.End; agenda = record { posted = posted; tasks = [] } };
      found = refl;
      asked = step.Shutdown;
      wants = rw whole refl;
      keeps = λ t m e. Over (take-over deck s t _ e) refl;
    }
go-leaving deck s posted before (k ∷ ks) over parts ranges all idle done =
    by_exit (exit_step (posted_run posted s k)) refl
    (λ d. go-leaving deck s posted (before ++ k ∷ []) ks over (parts ∙ sym (append_assoc before (k ∷ []) ks)) ranges.1 all idle (all-push (is_done deck s) before k done d))
  where
    by_exit : (x : Option Step) → exit_step (posted_run posted s k) ≡ x → (is_done deck s k ≡ true → GoesOn deck s posted (leaving ks)) → GoesOn deck s posted (leaving (k ∷ ks))
    by_exit None e later =
        let same = posted-is deck s posted k all ranges.0 in
        let rests = idle-at deck s before k ks (ap (list_all (is_idle deck s)) (sym parts) ∙ idle) in
        passed deck s posted (Leaves k) (leaving ks) (ap (λ x. session_if (is_some x) k) e)
        (later (parts-done (run_of deck s k) rests (ap is_none (ap exit_step (sym same) ∙ e))))
    by_exit (Some asked) e later =
        let same = posted-is deck s posted k all ranges.0 in
        let rests = idle-at deck s before k ks (ap (list_all (is_idle deck s)) (sym parts) ∙ idle) in
        let exit : exit_step (run_of deck s k) ≡ Some asked = ap exit_step (sym same) ∙ e in
        record {
          turn = record { who = who.Session k; agenda = record { posted = posted; tasks = leaving (k ∷ ks) } };
          found = turn-here s posted (Leaves k) (leaving ks) (who.Session k) (ap (λ x. session_if (is_some x) k) e);
          asked = asked;
          wants = rw rests exit;
          keeps = λ t m f. Leaving (record {
            over = take-over deck s t _ f;
            before = before;
            rest = k ∷ ks;
            parts = parts;
            ranges = ranges;
            tasks = refl;
            posted = all;
            idle = idle-all deck s t _ sessions f idle;
            done = done-all deck s t _ before f done;
          });
        }

go-running : (deck : Deck) (s : RunState) (posted : List (List (List ℕ))) (before rest : List ℕ) → s.is_over ≡ false → sessions ≡ before ++ rest → AreInRange rest →
    AllPosted deck posted → list_all (is_idle deck s) before ≡ true → GoesOn deck s posted (running rest)
go-running deck s posted before [] over parts ranges all idle =
    go-leaving deck s posted [] sessions over refl all-in-range all (ap (list_all (is_idle deck s)) (parts ∙ append-nil before) ∙ idle) refl
go-running deck s posted before (k ∷ ks) over parts ranges all idle =
    by_wanted (posted_run posted s k).wanted refl
    (λ d. go-running deck s posted (before ++ k ∷ []) ks over (parts ∙ sym (append_assoc before (k ∷ []) ks)) ranges.1 all (all-push (is_idle deck s) before k idle d))
  where
    by_wanted : (x : Option Step) → (posted_run posted s k).wanted ≡ x → (is_idle deck s k ≡ true → GoesOn deck s posted (running ks)) → GoesOn deck s posted (running (k ∷ ks))
    by_wanted None e later =
        let same = posted-is deck s posted k all ranges.0 in
        passed deck s posted (RunOut k) (running ks) (ap (λ x. session_if (is_some x) k) e)
        (later (ap (λ r. not (is_pending r)) (sym same) ∙ ap (λ x. not (is_some x)) e))
    by_wanted (Some asked) e later =
        let same = posted-is deck s posted k all ranges.0 in
        let pending : (run_of deck s k).wanted ≡ Some asked = ap (λ r. r.wanted) (sym same) ∙ e in
        record {
          turn = record { who = who.Session k; agenda = record { posted = posted; tasks = running (k ∷ ks) } };
          found = turn-here s posted (RunOut k) (running ks) (who.Session k) (ap (λ x. session_if (is_some x) k) e);
          asked = asked;
          wants = rw pending refl;
          keeps = λ t m f. Running (record {
            over = take-over deck s t _ f;
            before = before;
            rest = k ∷ ks;
            parts = parts;
            ranges = ranges;
            tasks = refl;
            posted = all;
            idle = idle-all deck s t _ before f idle;
          });
        }

-- the step of a session that has a posted command pending
pending-step : (deck : Deck) (s : RunState) (posted more : List (List ℕ)) (k : ℕ) (asked : Step) → posted ++ more ≡ session_lines deck k →
    (session_run posted (heard_by s k)).wanted ≡ Some asked → entry_step deck s (who.Session k) ≡ Some asked
pending-step deck s posted more k asked e f =
    ap (λ lines. wanted_step (session_run lines (heard_by s k))) (sym e) ∙ pending-wanted posted more (heard_by s k) (ap is_some f) ∙ f

set-posted : (posted : List (List (List ℕ))) (j k : ℕ) (text : List ℕ) → length posted ≡ SESSIONS → InRange j → InRange k →
    posted_by (set posted (j - 1) (posted_by posted j ++ text ∷ [])) k ≡ posted_by posted k ++ cond (j == k) (text ∷ []) []
set-posted posted j k text h r q = by_same (j == k) refl
  where
    by_same : (b : Bool) → (j == k) ≡ b → posted_by (set posted (j - 1) (posted_by posted j ++ text ∷ [])) k ≡ posted_by posted k ++ cond b (text ∷ []) []
    by_same true e =
        let is : j ≡ k = grind (arith, nat_tests) in
        subst (λ i. posted_by (set posted (j - 1) (posted_by posted j ++ text ∷ [])) i ≡ posted_by posted i ++ text ∷ []) is
        (get_or-set_same posted (j - 1) (posted_by posted j ++ text ∷ []) [] (omega (arith, h, r.0, r.1)))
    by_same false e =
        let other : k - 1 ≢ j - 1 = λ f. (let is : (j == k) ≡ true = grind (arith, nat_tests, f, r.0, q.0) in absurd (cc)) in
        get_or-set_other posted (j - 1) (k - 1) (posted_by posted j ++ text ∷ []) [] other ∙ sym (append-nil (posted_by posted k))

go-front : (deck : Deck) (s : RunState) (posted : List (List (List ℕ))) (front : List Task) → s.is_over ≡ false → length posted ≡ SESSIONS → AreTasks front →
    ((k : ℕ) → InRange k → posted_by posted k ++ future k front ≡ session_lines deck k) → GoesOn deck s posted (front ++ running sessions)
go-front deck s posted [] over places fits promise =
    go-running deck s posted [] sessions over refl all-in-range (λ k r. sym (append-nil (posted_by posted k)) ∙ promise k r) refl
go-front deck s posted (RunOut k ∷ front) over places fits promise =
    by_wanted (posted_run posted s k).wanted refl (go-front deck s posted front over places fits.1 promise)
  where
    by_wanted : (x : Option Step) → (posted_run posted s k).wanted ≡ x → GoesOn deck s posted (front ++ running sessions) → GoesOn deck s posted (RunOut k ∷ front ++ running sessions)
    by_wanted None e on = passed deck s posted (RunOut k) (front ++ running sessions) (ap (λ x. session_if (is_some x) k) e) on
    by_wanted (Some asked) e on = record {
      turn = record { who = who.Session k; agenda = record { posted = posted; tasks = RunOut k ∷ front ++ running sessions } };
      found = turn-here s posted (RunOut k) (front ++ running sessions) (who.Session k) (ap (λ x. session_if (is_some x) k) e);
      asked = asked;
      wants = pending-step deck s (posted_by posted k) (future k front) k asked (promise k fits.0) e;
      keeps = λ t m f. Front (record { over = take-over deck s t _ f; places = places; front = RunOut k ∷ front; tasks = refl; fits = fits; promise = promise });
    }
go-front deck s posted (Posts j text ∷ front) over places fits promise =
    let now = set posted (j - 1) (posted_by posted j ++ text ∷ []) in
    let on = go-front deck s now front over (length-set posted (j - 1) (posted_by posted j ++ text ∷ []) ∙ places) fits.1
    (λ k r. ap (λ lines. lines ++ future k front) (set-posted posted j k text places fits.0 r)
    ∙ append_assoc (posted_by posted k) (cond (j == k) (text ∷ []) []) (future k front) ∙ promise k r) in
    record { turn = on.turn; found = on.found; asked = on.asked; wants = on.wants; keeps = on.keeps }
go-front deck s posted (Steps (who.Session k) ∷ front) over places fits promise =
    by_wanted (posted_run posted s k).wanted refl (go-front deck s posted front over places fits.1 promise)
  where
    by_wanted : (x : Option Step) → (posted_run posted s k).wanted ≡ x → GoesOn deck s posted (front ++ running sessions) → GoesOn deck s posted (Steps (who.Session k) ∷ front ++ running sessions)
    by_wanted None e on = passed deck s posted (Steps (who.Session k)) (front ++ running sessions) (ap (λ x. session_if (is_some x) k) e) on
    by_wanted (Some asked) e on = record {
      turn = record { who = who.Session k; agenda = record { posted = posted; tasks = front ++ running sessions } };
      found = turn-here s posted (Steps (who.Session k)) (front ++ running sessions) (who.Session k) (ap (λ x. session_if (is_some x) k) e);
      asked = asked;
      wants = pending-step deck s (posted_by posted k) (future k front) k asked (promise k fits.0) e;
      keeps = λ t m f. Front (record { over = take-over deck s t _ f; places = places; front = front; tasks = refl; fits = fits.1; promise = promise });
    }
go-front deck s posted (Steps (who.Flush row) ∷ front) over places fits promise = record {
  turn = record { who = who.Flush row; agenda = record { posted = posted; tasks = front ++ running sessions } };
  found = refl;
  asked = step.Flush row;
  wants = refl;
  keeps = λ t m f. Front (record { over = take-over deck s t _ f; places = places; front = front; tasks = refl; fits = fits.1; promise = promise });
}
go-front deck s posted (Steps (who.Reclaim row) ∷ front) over places fits promise = record {
  turn = record { who = who.Reclaim row; agenda = record { posted = posted; tasks = front ++ running sessions } };
  found = refl;
  asked = step.Reclaim row;
  wants = refl;
  keeps = λ t m f. Front (record { over = take-over deck s t _ f; places = places; front = front; tasks = refl; fits = fits.1; promise = promise });
}
go-front deck s posted (Steps who.End ∷ front) over places fits promise = absurd fits.0
go-front deck s posted (Leaves k ∷ front) over places fits promise = absurd fits.0

-- where a replay stands well and isn't over, it goes on
pub goes-on : (deck : Deck) (s : RunState) (agenda : Agenda) → Good deck s agenda → s.is_over ≡ false → GoesOn deck s agenda.posted agenda.tasks
goes-on deck s agenda (Front h) over = subst (GoesOn deck s agenda.posted) (sym h.tasks) (go-front deck s agenda.posted h.front over h.places h.fits h.promise)
goes-on deck s agenda (Running h) over = subst (GoesOn deck s agenda.posted) (sym h.tasks) (go-running deck s agenda.posted h.before h.rest over h.parts h.ranges h.posted h.idle)
goes-on deck s agenda (Leaving h) over = subst (GoesOn deck s agenda.posted) (sym h.tasks) (go-leaving deck s agenda.posted h.before h.rest over h.parts h.ranges h.posted h.idle h.done)
goes-on deck s agenda (Over e f) over = absurd (cc)
