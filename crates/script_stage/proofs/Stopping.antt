-- What is told of a run that ends early stays, while its sessions leave and when nothing more is entered.
use Rattle.std.proofs.Common.{◌≡◌, ℕ, ◌≤◌, ◌<◌, Option, Some, None, List, [], ◌∷◌, ◌++◌, length, take, refl, sym, ap, ◌∙◌, subst, arith}
use Rattle.std.proofs.lemmas.List.{take-append-le}
use Rattle.vfs_base.specs.declared.entry.Entry.{Entry}
use Rattle.vfs_model.specs.FaultCounts.{NoneFalls}
use Rattle.vfs_model.specs.Leaving.{IsBeforeLeaving}
use Rattle.vfs_model.specs.ScriptRun.{opening_state, state_after}
use Rattle.vfs_model.specs.Turns.{keeps_turns, opening_agenda}
use Rattle.script_stage.proofs.Counting.{taken-later}
use Rattle.script_stage.specs.Scenes.{Halts, Scene, Script, entries_before, told_entries}
use Rattle.script_stage.specs.Standing.{IsTakenOn, StopsAt}

-- the sessions began to leave behind entries that are there
abbrev pub HasBegun : Scene → Type 0
HasBegun scene = (count : ℕ) × (scene.leaves_at ≡ Some count) × (count ≤ length scene.schedule)

pub begun-more : (new old : Scene) → HasBegun old → length old.schedule ≤ length new.schedule → new.leaves_at ≡ old.leaves_at → HasBegun new
begun-more new old begun longer same = (begun.0, same ∙ begun.1, omega (arith, begun.2, longer))

-- an entry by which a session leaves is not told early
pub told-same : (old new : Scene) (last : Entry) → HasBegun old → new.schedule ≡ old.schedule ++ last ∷ [] → new.leaves_at ≡ old.leaves_at →
    told_entries new ≡ told_entries old
told-same old new last begun longer same =
    ap (λ x. entries_before x new.schedule) (same ∙ begun.1) ∙ ap (take begun.0) longer ∙ take-append-le begun.0 old.schedule (last ∷ []) begun.2
    ∙ sym (ap (λ x. entries_before x old.schedule) begun.1)

pub stops-later : (old new : Scene) (script : Script) (handed : List ℕ) → told_entries new ≡ told_entries old → NoneFalls old.view.faults new.view.faults →
    StopsAt old script handed → StopsAt new script handed
stops-later old new script handed same rising at = record {
  s = at.s;
  taken = ap (state_after script.deck script.describe) same ∙ at.taken;
  is_open = at.is_open;
  turns = ap (keeps_turns script.deck (opening_state script.deck script.describe) (opening_agenda script.deck)) same ∙ at.turns;
  taken_on = subst (λ l. IsTakenOn script l new.view.faults) (sym same) (taken-later script (told_entries old) old.view.faults new.view.faults rising at.taken_on);
  before = subst (IsBeforeLeaving script.deck script.describe) (sym same) at.before;
  later = at.later;
  shown = at.shown;
}

pub told-halted : (old new : Scene) → Halts old new → told_entries new ≡ told_entries old
told-halted old new halts = ap (λ x. entries_before x new.schedule) halts.leaves_at ∙ ap (entries_before old.leaves_at) halts.schedule
