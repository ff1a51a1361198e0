-- The steps that a schedule stands for, their calls of devices, and the faults and the want of memory among them.
use Rattle.std.specs.Prelude.{◌≡◌, ℕ, ◌-◌, ◌==◌, Bool, true, false, not, ◌&&◌, nat_lt, is_some, Option, Some, None, option_map, List, [], ◌∷◌, map, slice_index_or, if◌then◌else◌}
use Rattle.std.specs.List.{list_all}
use Rattle.std.specs.Option.{option_and_then}
use Rattle.vfs_base.specs.declared.deck.Deck.{Deck}
use Rattle.vfs_base.specs.declared.describe.Describe.{Describe}
use Rattle.vfs_base.specs.declared.entry.Entry.{Entry}
use Rattle.vfs_base.specs.declared.entry.Mark.{Mark}
use Rattle.vfs_base.specs.declared.entry.Mark.TheVariants as mark
use Rattle.vfs_base.specs.declared.ids.HoldId.{HoldId}
use Rattle.vfs_base.specs.declared.step.Step.{Step}
use Rattle.vfs_base.specs.declared.step.Step.TheVariants as step
use Rattle.vfs_model.specs.Asking.{Asked, run_steps}
use Rattle.vfs_model.specs.IoTotals.{IoTotal, io_totals}
use Rattle.vfs_model.specs.Namespace.{references_of}
use Rattle.vfs_model.specs.ScriptRun.{RunState, entry_step, opening_state, rom_image, state_after, take_entry}
use Rattle.vfs_model.specs.declared.namespace.Namespace.{Namespace}

-- the step of an entry, with its mark
abbrev pub entry_asked : Deck → RunState → Entry → Option Asked
entry_asked deck s entry = option_map (λ step. record { who = entry.who; step = step; mark = entry.mark }) (entry_step deck s entry.who)

-- a step before others, where there are both
abbrev pub asked_before : Option Asked → Option (List Asked) → Option (List Asked)
asked_before None later = None
asked_before (Some asked) later = option_map (λ steps. asked ∷ steps) later

-- the steps of the entries, where each can be taken
abbrev pub asked_from : Deck → RunState → List Entry → Option (List Asked)
asked_from deck s [] = Some []
asked_from deck s (entry ∷ entries) =
    asked_before (entry_asked deck s entry) (option_and_then (λ next. asked_from deck next entries) (take_entry deck s entry))

-- the steps that a schedule of a script stands for, where each of its entries can be taken
unfoldable pub asked_of : Deck → Describe → List Entry → Option (List Asked)
asked_of deck describe schedule = asked_from deck (opening_state deck describe) schedule

abbrev pub is_clear : Mark → Bool
is_clear mark.Clear = true
is_clear (mark.Fault moved) = false
is_clear (mark.NoMem moved) = false

abbrev pub is_fault : Mark → Bool
is_fault mark.Clear = false
is_fault (mark.Fault moved) = true
is_fault (mark.NoMem moved) = false

-- no step was stopped by a device
abbrev pub is_faultless : List Entry → Bool
is_faultless schedule = list_all (λ entry. not (is_fault entry.mark)) schedule

-- how often a schedule calls each volume, where nothing stops a step
unfoldable pub tally : Deck → Describe → List Entry → Option (List IoTotal)
tally deck describe schedule =
    if list_all (λ entry. is_clear entry.mark) schedule
    then option_map (io_totals (map rom_image deck.roms) describe) (asked_of deck describe schedule) else None

-- the session has a reference by this name, an open file's or a mapping's
abbrev pub has_reference : Namespace → ℕ → HoldId → Bool
has_reference n k hold = hold.session == k && nat_lt 0 hold.number && is_some (slice_index_or (references_of n k) (hold.number - 1) None)

-- A step that takes no memory: what gives back a reference that the session has, and what changes no list.
unfoldable pub needs_no_memory : Namespace → ℕ → Step → Bool
needs_no_memory n k (step.Close hold) = has_reference n k hold
needs_no_memory n k (step.Unmap hold) = has_reference n k hold
needs_no_memory n k step.Home = true
needs_no_memory n k (step.Size id) = true
needs_no_memory n k (step.Sync id) = true
needs_no_memory n k (step.Trunc id len) = len == 0
needs_no_memory n k (step.Flush row) = true
needs_no_memory n k (step.Reclaim row) = true
needs_no_memory n k step.Shutdown = true
needs_no_memory n k _ = false

-- the steps that a schedule stands for lead to where the script stands after it
abbrev pub AskedStepsLeadOn : Type 0
AskedStepsLeadOn = (deck : Deck) (describe : Describe) (schedule : List Entry) (s : RunState) → state_after deck describe schedule ≡ Some s →
    (steps : List Asked) × (asked_of deck describe schedule ≡ Some steps) × ((run_steps (opening_state deck describe).world steps).next ≡ s.world)
