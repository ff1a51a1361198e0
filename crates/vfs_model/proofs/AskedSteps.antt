-- The steps that a schedule stands for lead to where the script stands after it.
use Rattle.std.specs.Prelude.{◌≡◌, Bool, true, false, Option, Some, None, option_map, List, [], ◌∷◌, refl, if◌then◌else◌}
use Rattle.std.specs.Option.{option_and_then}
use Rattle.std.proofs.Common.{sym, ◌∙◌, ap}
use Rattle.vfs_base.specs.declared.deck.Deck.{Deck}
use Rattle.vfs_base.specs.declared.describe.Describe.{Describe}
use Rattle.vfs_base.specs.declared.entry.Entry.{Entry}
use Rattle.vfs_base.specs.declared.step.Step.{Step}
use Rattle.vfs_model.specs.Asking.{Asked, run_steps}
use Rattle.vfs_model.specs.ScriptRun.{RunState, entry_step, opening_state, state_after, state_after_step, take_entries, take_entry, take_step}
use Rattle.vfs_model.specs.Tally.{asked_before, asked_from, asked_of, entry_asked}
use Rattle.vfs_model.specs.World.{fits_step, world_step}
use Rattle.vfs_model.specs.declared.world.WorldState.{WorldState}

-- the steps of a front of a schedule, and the world that they lead to
pub record StepsLead (deck : Deck) (s : RunState) (entries : List Entry) (w : WorldState) : Type 0 where
  pub steps : List Asked
  pub asked : asked_from deck s entries ≡ Some steps
  pub leads : (run_steps s.world steps).next ≡ w

-- an entry that was taken has a step, and the world goes on by it
pub record EntryTaken (deck : Deck) (s : RunState) (entry : Entry) (next : RunState) : Type 0 where
  pub step : Step
  pub asked : entry_step deck s entry.who ≡ Some step
  pub world : next.world ≡ (world_step s.world entry.who step entry.mark).next

some-is : {X : Type 0} (a b : X) → Some a ≡ Some b → a ≡ b
some-is a b e = cc

taken-world : (s next : RunState) (entry : Entry) (asked : Step) (fits : Bool) →
    (if fits then Some (state_after_step s entry.who (world_step s.world entry.who asked entry.mark)) else None) ≡ Some next →
    next.world ≡ (world_step s.world entry.who asked entry.mark).next
taken-world s next entry asked true e = ap (λ t. t.world) (sym (some-is (state_after_step s entry.who (world_step s.world entry.who asked entry.mark)) next e))
taken-world s next entry asked false e = absurd (cc)

taken-step : (s next : RunState) (entry : Entry) (found : Option Step) → take_step s entry found ≡ Some next →
    (asked : Step) × (found ≡ Some asked) × (next.world ≡ (world_step s.world entry.who asked entry.mark).next)
taken-step s next entry None e = absurd (cc)
taken-step s next entry (Some asked) e = (asked, refl, taken-world s next entry asked (fits_step s.world entry.who asked entry.mark) e)

taken-now : (deck : Deck) (s next : RunState) (entry : Entry) (over : Bool) →
    (if over then None else take_step s entry (entry_step deck s entry.who)) ≡ Some next → EntryTaken deck s entry next
taken-now deck s next entry true e = absurd (cc)
taken-now deck s next entry false e =
    let found = taken-step s next entry (entry_step deck s entry.who) e in
    record { step = found.0; asked = found.1; world = found.2 }

pub taken : (deck : Deck) (s next : RunState) (entry : Entry) → take_entry deck s entry ≡ Some next → EntryTaken deck s entry next
unfolding take_entry
taken deck s next entry e = taken-now deck s next entry s.is_over e

pub steps-lead : (deck : Deck) (s t : RunState) (entries : List Entry) → take_entries deck s entries ≡ Some t → StepsLead deck s entries t.world
steps-lead deck s t [] e = record { steps = []; asked = refl; leads = ap (λ x. x.world) (some-is s t e) }
steps-lead deck s t (entry ∷ entries) e = elim (take_entry deck s entry) as (λ x. take_entry deck s entry ≡ x → StepsLead deck s (entry ∷ entries) t.world) [
  | None ↦ λ f. let none : option_and_then (λ next. take_entries deck next entries) None ≡ Some t = sym (ap (option_and_then (λ next. take_entries deck next entries)) f) ∙ e in absurd (cc)
  | Some later ↦ λ f.
      let more : take_entries deck later entries ≡ Some t = sym (ap (option_and_then (λ next. take_entries deck next entries)) f) ∙ e in
      let first = taken deck s later entry f in
      let rest = steps-lead deck later t entries more in
      let asked : Asked = record { who = entry.who; step = first.step; mark = entry.mark } in
      let now : entry_asked deck s entry ≡ Some asked = ap (option_map (λ step. let a : Asked = record { who = entry.who; step = step; mark = entry.mark } in a)) first.asked in
      let behind : option_and_then (λ next. asked_from deck next entries) (take_entry deck s entry) ≡ Some rest.steps =
      ap (option_and_then (λ next. asked_from deck next entries)) f ∙ rest.asked in
      record {
        steps = asked ∷ rest.steps;
        asked = ap (λ x. asked_before x (option_and_then (λ next. asked_from deck next entries) (take_entry deck s entry))) now ∙ ap (asked_before (Some asked)) behind;
        leads = ap (λ w. (run_steps w rest.steps).next) (sym first.world) ∙ rest.leads;
      }
] refl

pub asked-leads : (deck : Deck) (describe : Describe) (schedule : List Entry) (s : RunState) → state_after deck describe schedule ≡ Some s →
    (steps : List Asked) × (asked_of deck describe schedule ≡ Some steps) × ((run_steps (opening_state deck describe).world steps).next ≡ s.world)
unfolding asked_of
asked-leads deck describe schedule s e = let h = steps-lead deck (opening_state deck describe) s schedule e in (h.steps, h.asked, h.leads)
