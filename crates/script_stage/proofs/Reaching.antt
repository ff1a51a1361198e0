-- Tasks are passed over, and steps are taken for them.
use Rattle.std.proofs.Common.{◌≡◌, ℕ, true, false, ◌&&◌, Some, None, List, [], ◌∷◌, ◌++◌, refl, sym, ap, ◌∙◌, append_assoc, append-nil, arith}
use Rattle.std.specs.Option.{option_and_then}
use Rattle.vfs_base.specs.declared.deck.Deck.{Deck}
use Rattle.vfs_base.specs.declared.describe.Describe.{Describe}
use Rattle.vfs_base.specs.declared.entry.Entry.{Entry}
use Rattle.vfs_base.specs.declared.entry.Who.{Who}
use Rattle.vfs_base.specs.declared.entry.Who.TheVariants as who
use Rattle.vfs_base.specs.declared.step.Step.{Step}
use Rattle.vfs_model.proofs.TranscriptLemmas.{take_entries-append}
use Rattle.vfs_model.specs.ScriptRun.{RunState, entry_step, opening_state, state_after_step, take_entries, take_entry}
use Rattle.vfs_model.specs.Turns.{Task, keeps_turns, next_turn, opening_agenda, posted_after, same_who, script_tasks, task_rest, task_who}
use Rattle.vfs_model.specs.World.{WorldOutcome, fits_step, world_step}
use Rattle.script_stage.specs.Scenes.{Reaches}

pub same_who-itself : (w : Who) → same_who w w ≡ true
same_who-itself (who.Session k) = grind arith
same_who-itself (who.Flush row) = grind arith
same_who-itself (who.Reclaim row) = grind arith
same_who-itself who.End = refl

next-passed : (s : RunState) (posted : List (List (List ℕ))) (task : Task) (tasks : List Task) → task_who posted s task ≡ None →
    next_turn s posted (task ∷ tasks) ≡ next_turn s (posted_after posted task) tasks
next-passed s posted task tasks e = rw e refl

-- a task that needs no step is passed over
pub turns-passed : (deck : Deck) (s : RunState) (posted : List (List (List ℕ))) (task : Task) (tasks : List Task) → task_who posted s task ≡ None →
    (more : List Entry) → keeps_turns deck s (record { posted = posted; tasks = task ∷ tasks }) more ≡ keeps_turns deck s (record { posted = posted_after posted task; tasks = tasks }) more
turns-passed deck s posted task tasks e [] = refl
turns-passed deck s posted task tasks e (entry ∷ more) = rw (next-passed s posted task tasks e) refl

pub passes : (deck : Deck) (describe : Describe) (schedule : List Entry) (s : RunState) (posted : List (List (List ℕ))) (task : Task) (tasks : List Task) →
    task_who posted s task ≡ None → Reaches deck describe schedule s posted (task ∷ tasks) →
    Reaches deck describe schedule s (posted_after posted task) tasks
passes deck describe schedule s posted task tasks e reaches = record {
  taken = reaches.taken;
  turns = λ more. reaches.turns more ∙ turns-passed deck s posted task tasks e more;
}

turn-here : (s : RunState) (posted : List (List (List ℕ))) (task : Task) (tasks : List Task) (asker : Who) → task_who posted s task ≡ Some asker →
    next_turn s posted (task ∷ tasks) ≡ Some (record { who = asker; agenda = record { posted = posted; tasks = task_rest task ++ tasks } })
turn-here s posted task tasks asker e = rw e refl

turn-taken : (deck : Deck) (s next : RunState) (posted : List (List (List ℕ))) (task : Task) (tasks : List Task) (entry : Entry) (more : List Entry) →
    task_who posted s task ≡ Some entry.who → take_entry deck s entry ≡ Some next →
    keeps_turns deck s (record { posted = posted; tasks = task ∷ tasks }) (entry ∷ more) ≡ keeps_turns deck next (record { posted = posted; tasks = task_rest task ++ tasks }) more
turn-taken deck s next posted task tasks entry more e f =
    let is : keeps_turns deck s (record { posted = posted; tasks = task ∷ tasks }) (entry ∷ more) ≡ (same_who entry.who entry.who && keeps_turns deck next (record { posted = posted; tasks = task_rest task ++ tasks }) more) =
    rw (turn-here s posted task tasks entry.who e, f) refl in
    is ∙ ap (λ b. b && keeps_turns deck next (record { posted = posted; tasks = task_rest task ++ tasks }) more) (same_who-itself entry.who)

-- a step is taken for the first task
pub steps : (deck : Deck) (describe : Describe) (schedule : List Entry) (s next : RunState) (posted : List (List (List ℕ))) (task : Task) (tasks : List Task) (entry : Entry) →
    task_who posted s task ≡ Some entry.who → take_entry deck s entry ≡ Some next →
    Reaches deck describe schedule s posted (task ∷ tasks) →
    Reaches deck describe (schedule ++ entry ∷ []) next posted (task_rest task ++ tasks)
steps deck describe schedule s next posted task tasks entry e f reaches = record {
  taken =
      take_entries-append deck (opening_state deck describe) schedule (entry ∷ [])
      ∙ ap (option_and_then (λ t. take_entries deck t (entry ∷ []))) reaches.taken
      ∙ ap (option_and_then (λ t. Some t)) f;
  turns = λ more.
      ap (keeps_turns deck (opening_state deck describe) (opening_agenda deck)) (append_assoc schedule (entry ∷ []) more)
      ∙ reaches.turns (entry ∷ more)
      ∙ turn-taken deck s next posted task tasks entry more e f;
}

-- the schedule keeps the turns
pub turns-kept : (deck : Deck) (describe : Describe) (schedule : List Entry) (s : RunState) (posted : List (List (List ℕ))) (tasks : List Task) →
    Reaches deck describe schedule s posted tasks → keeps_turns deck (opening_state deck describe) (opening_agenda deck) schedule ≡ true
turns-kept deck describe schedule s posted tasks reaches =
    ap (keeps_turns deck (opening_state deck describe) (opening_agenda deck)) (sym (append-nil schedule)) ∙ reaches.turns []

-- at the start nothing is taken
pub starts : (deck : Deck) (describe : Describe) →
    Reaches deck describe [] (opening_state deck describe) (opening_agenda deck).posted (script_tasks deck)
starts deck describe = record { taken = refl; turns = λ more. refl }

-- an entry whose mark fits is taken
pub entry-taken : (deck : Deck) (s : RunState) (entry : Entry) (asked : Step) (outcome : WorldOutcome) → s.is_over ≡ false →
    entry_step deck s entry.who ≡ Some asked → fits_step s.world entry.who asked entry.mark ≡ true →
    world_step s.world entry.who asked entry.mark ≡ outcome →
    take_entry deck s entry ≡ Some (state_after_step s entry.who outcome)
unfolding take_entry
entry-taken deck s entry asked outcome over wants fits is = rw (over, wants, fits) (ap (λ o. Some (state_after_step s entry.who o)) is)
