-- A schedule that follows a script is whole, or goes on.
use Rattle.std.proofs.Common.{◌≡◌, ℕ, zero, suc, ◌-◌, ◌==◌, All, Bool, true, false, cond, ◌&&◌, Option, Some, None, List, [], ◌∷◌, ◌++◌, ◌⊎◌, inl, inr, ⊎_elim, map, get_or, replicate, refl, sym, ap, ap₂, ◌∙◌, subst, arith, append_assoc, append-nil}
use Rattle.std.specs.Option.{option_and_then}
use Rattle.std.specs.List.{flat_map}
use Rattle.std.proofs.lemmas.List.Elements.{All-head, All-tail}
use Rattle.vfs_base.specs.declared.deck.Act.{Act}
use Rattle.vfs_base.specs.declared.deck.Act.TheVariants as act
use Rattle.vfs_base.specs.declared.deck.Deck.{Deck}
use Rattle.vfs_base.specs.declared.describe.Describe.{Describe}
use Rattle.vfs_base.specs.declared.entry.Entry.{Entry}
use Rattle.vfs_base.specs.declared.entry.Mark.TheVariants as mark
use Rattle.vfs_base.specs.declared.entry.Who.{Who}
use Rattle.vfs_base.specs.declared.entry.Who.TheVariants as who
use Rattle.vfs_base.specs.declared.limits.TheConstants.{SESSIONS}
use Rattle.vfs_base.specs.declared.step.Step.{Step}
use Rattle.vfs_model.proofs.TurnLemmas.{keeps-turn, some-turn}
use Rattle.vfs_model.proofs.TurnProgress.{AreTasks, Front, Good, future, goes-on}
use Rattle.vfs_model.specs.Deck.{posted_to}
use Rattle.vfs_model.specs.DeckLaws.{IsAct, IsEvent, IsScript}
use Rattle.vfs_model.specs.FileMoves.{fits_file}
use Rattle.vfs_model.specs.ScriptRun.{RunState, entry_step, has_ended, opening_state, sessions, state_after_step, take_entries, take_entry, take_step}
use Rattle.vfs_model.specs.TranscriptLaws.{IsWholeOrGoesOn}
use Rattle.vfs_model.specs.Turns.{Agenda, FollowsScript, Leaves, Posts, RunOut, Steps, Task, Turn, act_tasks, follows_script, keeps_turns, next_turn, opening_agenda, same_who}
use Rattle.vfs_model.specs.World.{fits_on, fits_step, session_of, step_row, world_step}
use Rattle.vfs_model.specs.declared.script_form.ScriptForm.TheVariants as form
use Rattle.vfs_model.specs.declared.world.WorldState.{WorldState}

clear-fits : (w : WorldState) (asker : Who) (asked : Step) → fits_step w asker asked mark.Clear ≡ true
unfolding fits_step fits_file
clear-fits w asker asked = by_row (step_row asked)
  where
    by_row : (x : Option ℕ) → fits_on w (session_of asker) asked mark.Clear x ≡ true
    by_row None = refl
    by_row (Some row) = refl

clear-taken : (deck : Deck) (s : RunState) (asker : Who) (asked : Step) → s.is_over ≡ false → entry_step deck s asker ≡ Some asked →
    take_entry deck s (record { who = asker; mark = mark.Clear }) ≡ Some (state_after_step s asker (world_step s.world asker asked mark.Clear))
unfolding take_entry
clear-taken deck s asker asked over wants = rw (over, wants, clear-fits s.world asker asked) refl

taken-open : (deck : Deck) (s t : RunState) (entry : Entry) → take_entry deck s entry ≡ Some t → s.is_over ≡ false
unfolding take_entry
taken-open deck s t entry e = by_over s.is_over refl e
  where
    by_over : (b : Bool) → s.is_over ≡ b → cond b None (take_step s entry (entry_step deck s entry.who)) ≡ Some t → s.is_over ≡ false
    by_over true f e = absurd (cc)
    by_over false f e = f

same_who-itself : (w : Who) → same_who w w ≡ true
same_who-itself (who.Session k) = grind arith
same_who-itself (who.Flush row) = grind arith
same_who-itself (who.Reclaim row) = grind arith
same_who-itself who.End = refl

keeps-from : (deck : Deck) (s next : RunState) (agenda : Agenda) (turn : Turn) (entry : Entry) (entries : List Entry) →
    next_turn s agenda.posted agenda.tasks ≡ Some turn → turn.who ≡ entry.who → take_entry deck s entry ≡ Some next →
    keeps_turns deck next turn.agenda entries ≡ true → keeps_turns deck s agenda (entry ∷ entries) ≡ true
keeps-from deck s next agenda turn entry entries found mine taken later =
    let is : (same_who turn.who entry.who && keeps_turns deck next turn.agenda entries) ≡ keeps_turns deck s agenda (entry ∷ entries) = rw (found, taken) refl in
    sym is ∙ ap₂ (λ a b. a && b) (sym (ap (same_who turn.who) mine) ∙ same_who-itself turn.who) later

abbrev Continues : Deck → RunState → Agenda → List Entry → Type 0
Continues deck s agenda schedule =
    (has_ended (take_entries deck s schedule) ≡ true)
    ⊎ ((asker : Who) × (keeps_turns deck s agenda (schedule ++ record { who = asker; mark = mark.Clear } ∷ []) ≡ true))

continues : (deck : Deck) (s : RunState) (agenda : Agenda) (schedule : List Entry) → Good deck s agenda → keeps_turns deck s agenda schedule ≡ true → Continues deck s agenda schedule
continues deck s agenda [] good h = by_over s.is_over refl
  where
    by_over : (b : Bool) → s.is_over ≡ b → Continues deck s agenda []
    by_over true e = inl e
    by_over false e =
        let on = goes-on deck s agenda good e in
        inr (on.turn.who, keeps-from deck s _ agenda on.turn (record { who = on.turn.who; mark = mark.Clear }) [] on.found refl (clear-taken deck s on.turn.who on.asked e on.wants) refl)
continues deck s agenda (entry ∷ schedule) good h =
    let kept = keeps-turn deck s agenda entry schedule h in
    let on = goes-on deck s agenda good (taken-open deck s kept.next entry kept.taken) in
    let turn : on.turn ≡ kept.turn = some-turn on.turn kept.turn (sym on.found ∙ kept.found) in
    let mine : on.turn.who ≡ entry.who = ap (λ t. t.who) turn ∙ kept.who in
    let taken : take_entry deck s (record { who = on.turn.who; mark = entry.mark }) ≡ Some kept.next =
    ap (λ w. take_entry deck s (record { who = w; mark = entry.mark })) mine ∙ kept.taken in
    let next : Good deck kept.next kept.turn.agenda = subst (λ t. Good deck kept.next t.agenda) turn (on.keeps kept.next entry.mark taken) in
    ⊎_elim
    (λ e. inl (ap (λ x. has_ended (option_and_then (λ u. take_entries deck u schedule) x)) kept.taken ∙ e))
    (λ more. inr (more.0, keeps-from deck s kept.next agenda kept.turn entry (schedule ++ record { who = more.0; mark = mark.Clear } ∷ []) kept.found kept.who kept.taken more.1))
    (continues deck kept.next kept.turn.agenda schedule next kept.later)

abbrev no_lines : List (List ℕ)
no_lines = []

get-empty : (n j : ℕ) → get_or (replicate n no_lines) j no_lines ≡ no_lines
get-empty zero j = refl
get-empty (suc n) zero = refl
get-empty (suc n) (suc j) = get-empty n j

future-append : (k : ℕ) (a b : List Task) → future k (a ++ b) ≡ future k a ++ future k b
future-append k [] b = refl
future-append k (RunOut j ∷ a) b = future-append k a b
future-append k (Posts j text ∷ a) b =
    ap (λ lines. cond (j == k) (text ∷ []) [] ++ lines) (future-append k a b) ∙ sym (append_assoc (cond (j == k) (text ∷ []) []) (future k a) (future k b))
future-append k (Steps asker ∷ a) b = future-append k a b
future-append k (Leaves j ∷ a) b = future-append k a b

events-future : (k : ℕ) (askers : List Who) → future k (map Steps askers) ≡ []
events-future k [] = refl
events-future k (asker ∷ askers) = events-future k askers

act-future : (k : ℕ) (a : Act) → future k (act_tasks a) ≡ posted_to k a
act-future k (act.Post j text true) = append-nil (cond (j == k) (text ∷ []) [])
act-future k (act.Post j text false) = append-nil (cond (j == k) (text ∷ []) [])
act-future k (act.Events askers) = events-future k askers

acts-future : (k : ℕ) (acts : List Act) → future k (flat_map act_tasks acts) ≡ flat_map (posted_to k) acts
acts-future k [] = refl
acts-future k (a ∷ acts) = future-append k (act_tasks a) (flat_map act_tasks acts) ∙ ap₂ (λ x y. x ++ y) (act-future k a) (acts-future k acts)

tasks-append : (a b : List Task) → AreTasks a → AreTasks b → AreTasks (a ++ b)
tasks-append [] b h k = k
tasks-append (task ∷ a) b h k = (h.0, tasks-append a b h.1 k)

events-fit : (askers : List Who) → All IsEvent askers → AreTasks (map Steps askers)
events-fit [] h = tt
events-fit (asker ∷ askers) h = (All-head IsEvent asker askers h, events-fit askers (All-tail IsEvent asker askers h))

act-fits : (a : Act) → IsAct a → AreTasks (act_tasks a)
act-fits (act.Post k text true) h = (h, (h, (h, tt)))
act-fits (act.Post k text false) h = (h, (h, tt))
act-fits (act.Events askers) h = events-fit askers h

acts-fit : (acts : List Act) → All IsAct acts → AreTasks (flat_map act_tasks acts)
acts-fit [] h = tt
acts-fit (a ∷ acts) h = tasks-append (act_tasks a) (flat_map act_tasks acts) (act-fits a (All-head IsAct a acts h)) (acts-fit acts (All-tail IsAct a acts h))

-- a replay stands well at the start
opening-good : (deck : Deck) (describe : Describe) → IsScript deck → Good deck (opening_state deck describe) (opening_agenda deck)
opening-good deck describe h = Front (record {
  over = refl;
  places = refl;
  front = flat_map act_tasks deck.acts;
  tasks =
      append_assoc (flat_map act_tasks deck.acts ++ map RunOut sessions) (map Leaves sessions) (Steps who.End ∷ [])
      ∙ append_assoc (flat_map act_tasks deck.acts) (map RunOut sessions) (map Leaves sessions ++ Steps who.End ∷ []);
  fits = acts-fit deck.acts h.acts;
  promise = λ k r. ap (λ lines. lines ++ future k (flat_map act_tasks deck.acts)) (get-empty SESSIONS (k - 1)) ∙ acts-future k deck.acts;
})

pub shell-goes : (deck : Deck) (describe : Describe) (schedule : List Entry) → IsScript deck → FollowsScript form.Shell deck describe schedule →
    IsWholeOrGoesOn form.Shell deck describe schedule
unfolding follows_script
shell-goes deck describe schedule h f = continues deck (opening_state deck describe) (opening_agenda deck) schedule (opening-good deck describe h) f

pub replay-goes : (deck : Deck) (describe : Describe) (schedule : List Entry) → IsScript deck → FollowsScript form.Replay deck describe schedule →
    IsWholeOrGoesOn form.Replay deck describe schedule
unfolding follows_script
replay-goes deck describe schedule h f = continues deck (opening_state deck describe) (opening_agenda deck) schedule (opening-good deck describe h) f
