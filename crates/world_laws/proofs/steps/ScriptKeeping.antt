-- What each entry of a schedule keeps holds where the script stands after it: so every script's world stays consistent.
use Rattle.std.proofs.Common.{◌≡◌, Bool, true, false, Option, Some, None, List, [], ◌∷◌, if◌then◌else◌, refl, sym, ap, subst, ◌∙◌}
use Rattle.std.specs.List.{list_all}
use Rattle.std.specs.Option.{option_and_then}
use Rattle.vfs_base.specs.Path.{AllAre}
use Rattle.vfs_base.specs.declared.deck.Deck.{Deck}
use Rattle.vfs_base.specs.declared.describe.Describe.{Describe}
use Rattle.vfs_base.specs.declared.entry.Entry.{Entry}
use Rattle.vfs_base.specs.declared.entry.Who.{Who}
use Rattle.vfs_base.specs.declared.entry.Who.TheVariants as who
use Rattle.vfs_base.specs.declared.step.Step.{Step}
use Rattle.vfs_base.specs.declared.step.Step.TheVariants as step
use Rattle.vfs_model.specs.Boxes.{IsConsistent}
use Rattle.vfs_model.specs.ScriptRun.{RunState, entry_step, is_done, opening_state, sessions, state_after, state_after_step, take_entries, take_entry, take_step}
use Rattle.vfs_model.specs.StepForms.{MayTake}
use Rattle.vfs_model.specs.World.{FitsStep, fits_step, world_step}
use Rattle.world_laws.proofs.lists.Lists.{same-some}
use Rattle.world_laws.proofs.steps.Opening.{opened-consistent}
use Rattle.world_laws.proofs.steps.WorldSteps.{step-consistent}
use Rattle.world_laws.specs.Keeping.{HasNumber}
use Rattle.world_laws.specs.Scripts.{AreNumbered}

-- an entry that was taken: its step, with a mark that fits, and where the script stands then
pub record IsTaken (deck : Deck) (s next : RunState) (entry : Entry) : Type 0 where
  pub going : s.is_over ≡ false
  pub step : Step
  pub asked : entry_step deck s entry.who ≡ Some step
  pub fits : FitsStep s.world entry.who step entry.mark
  pub leads : state_after_step s entry.who (world_step s.world entry.who step entry.mark) ≡ next

taken-fitting : (s next : RunState) (entry : Entry) (asked : Step) (fits : Bool) → fits_step s.world entry.who asked entry.mark ≡ fits →
    (if fits then Some (state_after_step s entry.who (world_step s.world entry.who asked entry.mark)) else None) ≡ Some next →
    FitsStep s.world entry.who asked entry.mark × (state_after_step s entry.who (world_step s.world entry.who asked entry.mark) ≡ next)
taken-fitting s next entry asked true fits e = (fits, same-some (state_after_step s entry.who (world_step s.world entry.who asked entry.mark)) next e)
taken-fitting s next entry asked false fits e = absurd (cc)

taken-step : (deck : Deck) (s next : RunState) (entry : Entry) (found : Option Step) → s.is_over ≡ false → entry_step deck s entry.who ≡ found →
    take_step s entry found ≡ Some next → IsTaken deck s next entry
taken-step deck s next entry None going f e = absurd (cc)
taken-step deck s next entry (Some asked) going f e =
    let rest = taken-fitting s next entry asked (fits_step s.world entry.who asked entry.mark) refl e in
    record { going = going; step = asked; asked = f; fits = rest.0; leads = rest.1 }

taken-going : (deck : Deck) (s next : RunState) (entry : Entry) (over : Bool) → s.is_over ≡ over →
    (if over then None else take_step s entry (entry_step deck s entry.who)) ≡ Some next → IsTaken deck s next entry
taken-going deck s next entry true o e = absurd (cc)
taken-going deck s next entry false o e = taken-step deck s next entry (entry_step deck s entry.who) o refl e

pub entry-taken : (deck : Deck) (s next : RunState) (entry : Entry) → take_entry deck s entry ≡ Some next → IsTaken deck s next entry
unfolding take_entry
entry-taken deck s next entry e = taken-going deck s next entry s.is_over refl e

-- what each entry that is taken keeps, with what is said of all entries from here on, all of them keep
module _ (deck : Deck) (Good : Entry → Type 0) (Keeps : RunState → Type 0) (Along : RunState → List Entry → Type 0)
    (keep : (s next : RunState) (entry : Entry) (entries : List Entry) → Good entry → Along s (entry ∷ entries) → Keeps s → IsTaken deck s next entry →
    take_entry deck s entry ≡ Some next → Keeps next × Along next entries) where
  pub entries-keep-along : (s t : RunState) (entries : List Entry) → AllAre Good entries → Along s entries → Keeps s → take_entries deck s entries ≡ Some t → Keeps t
  entries-keep-along s t [] good along h e = subst Keeps (same-some s t e) h
  entries-keep-along s t (entry ∷ entries) good along h e = elim (take_entry deck s entry) as (λ x. take_entry deck s entry ≡ x → Keeps t) [
    | None ↦ λ f. let none : option_and_then (λ next. take_entries deck next entries) None ≡ Some t = sym (ap (option_and_then (λ next. take_entries deck next entries)) f) ∙ e in absurd (cc)
    | Some next ↦ λ f.
        let more : take_entries deck next entries ≡ Some t = sym (ap (option_and_then (λ next. take_entries deck next entries)) f) ∙ e in
        let now = keep s next entry entries good.0 along h (entry-taken deck s next entry f) f in
        entries-keep-along next t entries good.1 now.1 now.0 more
  ] refl

-- what each entry that is taken keeps by itself, all of them keep
module _ (deck : Deck) (Good : Entry → Type 0) (Keeps : RunState → Type 0)
    (keep : (s next : RunState) (entry : Entry) → Good entry → Keeps s → IsTaken deck s next entry → Keeps next) where
  pub entries-keep : (s t : RunState) (entries : List Entry) → AllAre Good entries → Keeps s → take_entries deck s entries ≡ Some t → Keeps t
  entries-keep s t entries good h e =
      entries-keep-along deck Good Keeps (λ now later. Unit {0}) (λ now next entry later g along kept taken f. (keep now next entry g kept taken, tt)) s t entries good tt h e

-- whoever an entry names may take the step that it stands for
pub asker-takes : (deck : Deck) (s : RunState) (asker : Who) (asked : Step) → entry_step deck s asker ≡ Some asked → MayTake asker asked
asker-takes deck s (who.Session k) asked e = tt
asker-takes deck s (who.Flush row) asked e = subst (MayTake (who.Flush row)) (same-some (step.Flush row) asked e) refl
asker-takes deck s (who.Reclaim row) asked e = subst (MayTake (who.Reclaim row)) (same-some (step.Reclaim row) asked e) refl
asker-takes deck s who.End asked e = ending (list_all (is_done deck s) sessions) e
  where
    ending : (done : Bool) → (if done then Some step.Shutdown else None) ≡ Some asked → MayTake who.End asked
    ending true e = subst (MayTake who.End) (same-some step.Shutdown asked e) refl
    ending false e = absurd (cc)

-- an entry that is taken keeps the world consistent
pub entry-consistent : (deck : Deck) (s next : RunState) (entry : Entry) → HasNumber entry.who → IsConsistent s.world → IsTaken deck s next entry → IsConsistent next.world
entry-consistent deck s next entry numbered c taken =
    subst (λ t. IsConsistent t.world) taken.leads
    (step-consistent s.world entry.who taken.step entry.mark c numbered (asker-takes deck s entry.who taken.step taken.asked) taken.fits)

pub script-consistent : (deck : Deck) (describe : Describe) (schedule : List Entry) (s : RunState) → AreNumbered schedule →
    state_after deck describe schedule ≡ Some s → IsConsistent s.world
script-consistent deck describe schedule s numbered e =
    entries-keep deck (λ entry. HasNumber entry.who) (λ t. IsConsistent t.world) (entry-consistent deck) (opening_state deck describe) s schedule numbered
    (opened-consistent deck describe) e
