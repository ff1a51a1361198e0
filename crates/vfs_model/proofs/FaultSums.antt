-- There are no more marks of a device's fault than faults that the devices counted.
use Rattle.std.specs.Prelude.{◌≡◌, ℕ, zero, suc, ◌+◌, ◌-◌, ◌^◌, ◌<◌, ◌≤◌, Bool, true, false, Some, None, List, [], ◌∷◌, length, take, slice_index_or, refl}
use Rattle.std.specs.List.{sum_by}
use Rattle.std.specs.Option.{option_and_then}
use Rattle.std.proofs.Common.{sym, ◌∙◌, ap, subst, inl, inr, arith}
use Rattle.std.proofs.lemmas.List.Sums.{count_by_more_no, count_by_more_yes, sum_by-cons}
use Rattle.vfs_base.specs.declared.deck.Deck.{Deck}
use Rattle.vfs_base.specs.declared.describe.Describe.{Describe}
use Rattle.vfs_base.specs.declared.entry.Entry.{Entry}
use Rattle.vfs_base.specs.declared.entry.Mark.TheVariants as mark
use Rattle.vfs_base.specs.declared.entry.Who.TheVariants as who
use Rattle.vfs_base.specs.declared.step.Step.{Step}
use Rattle.vfs_model.proofs.AskedSteps.{taken}
use Rattle.vfs_model.specs.FaultCounts.{AreExact, ByDevice, CountsRise, HasRisen, NoneFalls, SomeHasRisen, all_faults, fault_marks, no_devices, step_devices}
use Rattle.vfs_model.specs.ScriptRun.{RunState, entry_step, opening_state, state_after, take_entries, take_entry}
use Rattle.vfs_model.specs.Tally.{is_fault}

abbrev pub sum : List ℕ → ℕ
sum counts = sum_by (λ count. count) counts

-- where no count is smaller, the sum is not
sum-le : (xs ys : List ℕ) → ((i : ℕ) → slice_index_or xs i 0 ≤ slice_index_or ys i 0) → sum xs ≤ sum ys
sum-le [] ys h = omega arith
sum-le (x ∷ xs) [] h =
    let a = h 0 in let b = sum-le xs [] (λ i. h (suc i)) in let e = sum_by-cons (λ count. count) x xs in omega arith
sum-le (x ∷ xs) (y ∷ ys) h =
    let a = h 0 in let b = sum-le xs ys (λ i. h (suc i)) in
    let e = sum_by-cons (λ count. count) x xs in let f = sum_by-cons (λ count. count) y ys in omega arith

-- where besides one count is greater, the sum is
sum-less : (xs ys : List ℕ) (at : ℕ) → ((i : ℕ) → slice_index_or xs i 0 ≤ slice_index_or ys i 0) →
    slice_index_or xs at 0 < slice_index_or ys at 0 → sum xs < sum ys
sum-less xs [] at h l = absurd (omega arith)
sum-less [] (y ∷ ys) zero h l = let f = sum_by-cons (λ count. count) y ys in omega arith
sum-less [] (y ∷ ys) (suc at) h l =
    let b = sum-less [] ys at (λ i. h (suc i)) l in let f = sum_by-cons (λ count. count) y ys in omega arith
sum-less (x ∷ xs) (y ∷ ys) zero h l =
    let b = sum-le xs ys (λ i. h (suc i)) in
    let e = sum_by-cons (λ count. count) x xs in let f = sum_by-cons (λ count. count) y ys in omega arith
sum-less (x ∷ xs) (y ∷ ys) (suc at) h l =
    let a = h 0 in let b = sum-less xs ys at (λ i. h (suc i)) l in
    let e = sum_by-cons (λ count. count) x xs in let f = sum_by-cons (λ count. count) y ys in omega arith

-- a count that rose below the last value of its type is greater
risen-greater : (before now : ℕ) → HasRisen before now → now < 2 ^ 64 - 1 → before < now
risen-greater before now rose below = omega (arith, rose, below)

faults-le : (before now : ByDevice) → NoneFalls before now → all_faults before ≤ all_faults now
faults-le before now n =
    let a = sum-le before.volumes now.volumes n.volumes in let b = sum-le before.chars now.chars n.chars in omega arith

faults-less : (devices before now : ByDevice) → NoneFalls before now → AreExact now → SomeHasRisen devices before now →
    all_faults before < all_faults now
faults-less devices before now n x (inl (k, volume, within, is, rose)) =
    let a = sum-less before.volumes now.volumes volume n.volumes
    (risen-greater (slice_index_or before.volumes volume 0) (slice_index_or now.volumes volume 0) rose (x.volumes volume)) in
    let b = sum-le before.chars now.chars n.chars in omega arith
faults-less devices before now n x (inr (k, device, within, is, rose)) =
    let a = sum-le before.volumes now.volumes n.volumes in
    let b = sum-less before.chars now.chars device n.chars
    (risen-greater (slice_index_or before.chars device 0) (slice_index_or now.chars device 0) rose (x.chars device)) in omega arith

-- the entry at a place, which stands there
abbrev entry_at : List Entry → ℕ → Entry
entry_at schedule at = slice_index_or schedule at (record { who = who.End; mark = mark.Clear })

own-entry : (entries : List Entry) (at : ℕ) (d : Entry) → at < length entries → slice_index_or entries at (slice_index_or entries at d) ≡ slice_index_or entries at d
own-entry [] at d l = absurd (omega arith)
own-entry (entry ∷ entries) zero d l = refl
own-entry (entry ∷ entries) (suc at) d l = own-entry entries at d (omega (arith, l))

-- the state before an entry of a schedule, and the step that the entry stands for
record StandsBefore (deck : Deck) (s : RunState) (entries : List Entry) (at : ℕ) : Type 0 where
  before : RunState
  asked : Step
  state : take_entries deck s (take at entries) ≡ Some before
  step : entry_step deck before (entry_at entries at).who ≡ Some asked

stands-before : (deck : Deck) (s t : RunState) (entries : List Entry) (at : ℕ) → take_entries deck s entries ≡ Some t → at < length entries →
    StandsBefore deck s entries at
stands-before deck s t [] at e l = absurd (omega arith)
stands-before deck s t (entry ∷ entries) at e l = elim (take_entry deck s entry) as (λ x. take_entry deck s entry ≡ x → StandsBefore deck s (entry ∷ entries) at) [
  | None ↦ λ f. let none : option_and_then (λ next. take_entries deck next entries) None ≡ Some t = sym (ap (option_and_then (λ next. take_entries deck next entries)) f) ∙ e in absurd (cc)
  | Some later ↦ λ f.
      let more : take_entries deck later entries ≡ Some t = sym (ap (option_and_then (λ next. take_entries deck next entries)) f) ∙ e in
      by-place at later f (λ place within. stands-before deck later t entries place more within) l
] refl
  where
    by-place : (at : ℕ) (later : RunState) → take_entry deck s entry ≡ Some later →
        ((place : ℕ) → place < length entries → StandsBefore deck later entries place) → at < length (entry ∷ entries) →
        StandsBefore deck s (entry ∷ entries) at
    by-place zero later f rest l = let first = taken deck s later entry f in record { before = s; asked = first.step; state = refl; step = first.asked }
    by-place (suc at) later f rest l =
        let there = rest at (omega (arith, l)) in
        record {
          before = there.before;
          asked = there.asked;
          state = ap (option_and_then (λ next. take_entries deck next (take at entries))) f ∙ there.state;
          step = there.step;
        }

none-falls : (counts : ByDevice) → NoneFalls counts counts
none-falls counts = record { volumes = λ volume. omega arith; chars = λ device. omega arith }

-- counts that rise from entry to entry rise over several
rise-on : (deck : Deck) (describe : Describe) (schedule : List Entry) (trace : List ByDevice) (from count : ℕ) →
    CountsRise deck describe schedule trace → from + count ≤ length schedule →
    NoneFalls (slice_index_or trace from no_devices) (slice_index_or trace (from + count) no_devices)
rise-on deck describe schedule trace from zero c l =
    subst (λ next. NoneFalls (slice_index_or trace from no_devices) (slice_index_or trace next no_devices)) (omega arith) (none-falls (slice_index_or trace from no_devices))
rise-on deck describe schedule trace from (suc count) c l =
    let first = rise-on deck describe schedule trace from count c (omega (arith, l)) in
    let last : NoneFalls (slice_index_or trace (from + count) no_devices) (slice_index_or trace (from + suc count) no_devices) =
    subst (λ next. NoneFalls (slice_index_or trace (from + count) no_devices) (slice_index_or trace next no_devices)) (omega arith) (c.rising (from + count) (omega (arith, l))) in
    record {
      volumes = λ volume. let a = first.volumes volume in let b = last.volumes volume in omega arith;
      chars = λ device. let a = first.chars device in let b = last.chars device in omega arith;
    }

-- counts before exact ones are exact
exact-before : (before now : ByDevice) → NoneFalls before now → AreExact now → AreExact before
exact-before before now n x = record {
  volumes = λ volume. let a = n.volumes volume in let b = x.volumes volume in omega arith;
  chars = λ device. let a = n.chars device in let b = x.chars device in omega arith;
}

module _ (deck : Deck) (describe : Describe) (schedule : List Entry) (trace : List ByDevice) (s : RunState) (c : CountsRise deck describe schedule trace)
    (e : state_after deck describe schedule ≡ Some s) (x : AreExact (slice_index_or trace (length schedule) no_devices)) where
  -- no more marks than faults up to a place of the schedule
  abbrev SoFar : ℕ → Type 0
  SoFar at =
      all_faults (slice_index_or trace 0 no_devices) + fault_marks (take at schedule) ≤ all_faults (slice_index_or trace at no_devices)

  abbrev first_entry : Entry
  first_entry = record { who = who.End; mark = mark.Clear }

  -- one entry more
  so-far-more : (at : ℕ) (t : Bool) → is_fault (entry_at schedule at).mark ≡ t → at < length schedule → SoFar at →
      StandsBefore deck (opening_state deck describe) schedule at → AreExact (slice_index_or trace (at + 1) no_devices) → SoFar (at + 1)
  so-far-more at false f within front stands exact =
      let more = count_by_more_no (λ (entry : Entry). is_fault entry.mark) schedule at first_entry within f in
      let on = faults-le (slice_index_or trace at no_devices) (slice_index_or trace (at + 1) no_devices) (c.rising at within) in omega (arith, more, on, front)
  so-far-more at true f within front stands exact =
      let more = count_by_more_yes (λ (entry : Entry). is_fault entry.mark) schedule at first_entry within f in
      let rose = c.caused at (entry_at schedule at) stands.before stands.asked within (own-entry schedule at first_entry within) stands.state stands.step f in
      let on = faults-less (step_devices stands.before.world.namespace (entry_at schedule at).who stands.asked)
      (slice_index_or trace at no_devices) (slice_index_or trace (at + 1) no_devices) (c.rising at within) exact rose in omega (arith, more, on, front)

  faults-so-far : (at : ℕ) → at ≤ length schedule → SoFar at
  faults-so-far zero l = omega arith
  faults-so-far (suc at) l =
      let within : at < length schedule = omega (arith, l) in
      let rest : NoneFalls (slice_index_or trace (at + 1) no_devices) (slice_index_or trace (length schedule) no_devices) =
      subst (λ next. NoneFalls (slice_index_or trace (at + 1) no_devices) (slice_index_or trace next no_devices)) (omega (arith, within))
      (rise-on deck describe schedule trace (at + 1) (length schedule - (at + 1)) c (omega (arith, within))) in
      subst SoFar (omega arith)
      (so-far-more at (is_fault (entry_at schedule at).mark) refl within (faults-so-far at (omega (arith, l)))
      (stands-before deck (opening_state deck describe) s schedule at e within) (exact-before _ _ rest x))

  pub fault-marks-have-faults :
      all_faults (slice_index_or trace 0 no_devices) + fault_marks schedule ≤ all_faults (slice_index_or trace (length schedule) no_devices)
  fault-marks-have-faults =
      subst (λ front. all_faults (slice_index_or trace 0 no_devices) + fault_marks front ≤ all_faults (slice_index_or trace (length schedule) no_devices))
      (take-whole schedule) (faults-so-far (length schedule) (omega arith))
    where
      take-whole : (entries : List Entry) → take (length entries) entries ≡ entries
      take-whole [] = refl
      take-whole (entry ∷ entries) = ap (λ rest. entry ∷ rest) (take-whole entries)
