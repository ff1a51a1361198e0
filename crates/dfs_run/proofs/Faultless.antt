-- Where there is no device none is at fault, and the end of a whole schedule is stopped by nothing.
use Rattle.std.proofs.Common.{◌≡◌, ℕ, suc, ◌+◌, ◌≤◌, Bool, true, false, not, cond, inl, inr, Option, Some, None, is_some, option_map, List, [], ◌∷◌, ◌++◌, length, refl, sym, ap, ◌∙◌, subst, arith}
use Rattle.std.specs.Prelude.{slice_index_or}
use Rattle.std.specs.List.{count_by, list_all, sum_by}
use Rattle.std.proofs.lemmas.List.Folds.{list_all-append}
use Rattle.std.proofs.lemmas.List.Sums.{sum_by-cons}
use Rattle.std.proofs.lemmas.Bool.{and_parts}
use Rattle.vfs_base.specs.declared.deck.Deck.{Deck}
use Rattle.vfs_base.specs.declared.describe.Describe.{Describe}
use Rattle.vfs_base.specs.declared.entry.Entry.{Entry}
use Rattle.vfs_base.specs.declared.entry.Mark.{Mark}
use Rattle.vfs_base.specs.declared.entry.Mark.TheVariants as mark
use Rattle.vfs_base.specs.declared.entry.Who.{Who}
use Rattle.vfs_base.specs.declared.entry.Who.TheVariants as who
use Rattle.vfs_model.proofs.AskedSteps.{taken}
use Rattle.vfs_model.proofs.BlockLemmas.{whole-last}
use Rattle.vfs_model.proofs.FaultSums.{fault-marks-have-faults}
use Rattle.vfs_model.proofs.TranscriptLemmas.{take_entries-append}
use Rattle.vfs_model.specs.FaultCounts.{AreExact, NoneFalls, no_devices}
use Rattle.vfs_model.specs.Leaving.{is_starved}
use Rattle.vfs_model.specs.Schedule.{is_end, is_end_last}
use Rattle.vfs_model.specs.ScriptRun.{RunState, opening_state, state_after, take_entries, take_entry}
use Rattle.vfs_model.specs.Tally.{is_fault, is_faultless}
use Rattle.vfs_model.specs.Transcript.{transcript}
use Rattle.vfs_model.specs.declared.script_form.ScriptForm.{ScriptForm}
use Rattle.std.specs.Option.{option_and_then}
use Rattle.dfs_words.specs.declared.mode.Job.{Job}
use Rattle.dfs_words.specs.declared.mode.Job.TheVariants as job
use Rattle.dfs_run.specs.Ending.{EndsFor}
use Rattle.dfs_run.specs.Headline.{EndsClear, HasTranscript}
use Rattle.dfs_run.specs.Replaying.{JobEnds, ReplayEndsFor}
use Rattle.dfs_run.specs.Report.{status_of}
use Rattle.dfs_run.specs.Run.{Run, Streams, run_of}
use Rattle.dfs_run.specs.declared.report.FaultNote.{FaultNote}
use Rattle.dfs_run.specs.declared.report.FaultNote.TheVariants as fault
use Rattle.dfs_run.specs.declared.report.Report.{Report}

-- counts that are none add up to none
zeros : (counts : List ℕ) → ((i : ℕ) → slice_index_or counts i 0 ≤ 0) → sum_by (λ count. count) counts ≡ 0
zeros [] h = refl
zeros (count ∷ counts) h =
    let first = h 0 in let rest = zeros counts (λ i. h (suc i)) in let e = sum_by-cons (λ count. count) count counts in omega (arith, first, rest, e)

none-counted : (p : Entry → Bool) (xs : List Entry) → count_by p xs ≡ 0 → list_all (λ x. not (p x)) xs ≡ true
none-counted p [] e = refl
none-counted p (x ∷ xs) e = by (p x) refl (sum_by-cons (λ y. cond (p y) 1 0) x xs) (none-counted p xs)
  where
    by : (b : Bool) → p x ≡ b → count_by p (x ∷ xs) ≡ cond (p x) 1 0 + count_by p xs → (count_by p xs ≡ 0 → list_all (λ y. not (p y)) xs ≡ true) →
        list_all (λ y. not (p y)) (x ∷ xs) ≡ true
    by true f g rest = let one : ◌≡◌ {A = ℕ} (cond (p x) 1 0) 1 = ap (λ b. cond b 1 0) f in absurd (omega (arith, one, e, g))
    by false f g rest =
        let none : ◌≡◌ {A = ℕ} (cond (p x) 1 0) 0 = ap (λ b. cond b 1 0) f in
        rw f (rest (omega (arith, none, e, g)))

state-there : (state : Option RunState) (f : RunState → List ℕ) (text : List ℕ) → option_map f state ≡ Some text → (s : RunState) × (state ≡ Some s)
state-there None f text e = absurd (cc)
state-there (Some s) f text e = (s, refl)

-- a run that was taken on devices that counted nothing
pub transcript-faultless : (shape : ScriptForm) (deck : Deck) (run : Run) (whole : Bool) (text : List ℕ) → run.last ≡ no_devices → HasTranscript shape deck run whole text →
    is_faultless run.schedule ≡ true
unfolding transcript
transcript-faultless shape deck run whole text none t =
    let found = state-there (state_after deck run.describe run.schedule) _ text t.taken in
    let trace = t.taken_on.trace in
    let end = slice_index_or trace (length run.schedule) no_devices in
    let low : NoneFalls end no_devices = subst (NoneFalls end) none t.taken_on.ends in
    let exact : AreExact end = record {
      volumes = λ volume. let a = low.volumes volume in omega arith;
      chars = λ device. let a = low.chars device in omega arith;
    } in
    let marks = fault-marks-have-faults deck run.describe run.schedule trace found.0 t.taken_on.rises found.1 exact in
    let volumes = zeros end.volumes low.volumes in
    let chars = zeros end.chars low.chars in
    none-counted (λ entry. is_fault entry.mark) run.schedule (omega (arith, marks, volumes, chars))

-- the last entry of a schedule whose end is last
last-of : (schedule : List Entry) → is_end_last schedule ≡ true → (front : List Entry) × (m : Mark) × (schedule ≡ front ++ record { who = who.End; mark = m } ∷ [])
last-of [] e = absurd (cc)
last-of (entry ∷ []) e = ([], entry.mark, ap (λ w. record { who = w; mark = entry.mark } ∷ []) (the-end entry.who e))
  where
    the-end : (w : Who) → is_end w ≡ true → w ≡ who.End
    the-end (who.Session k) e = absurd (cc)
    the-end (who.Flush row) e = absurd (cc)
    the-end (who.Reclaim row) e = absurd (cc)
    the-end who.End e = refl
last-of (entry ∷ next ∷ entries) e = let rest = last-of (next ∷ entries) e in (entry ∷ rest.0, rest.1, ap (λ l. entry ∷ l) rest.2)

neither : (m : Mark) → is_fault m ≡ false → is_starved m ≡ false → m ≡ mark.Clear
neither mark.Clear f s = refl
neither (mark.Fault moved) f s = absurd (cc)
neither (mark.NoMem moved) f s = absurd (cc)

not-false : (b : Bool) → not b ≡ true → b ≡ false
not-false true e = absurd (cc)
not-false false e = refl

-- the state before the last entry, and the step that it stands for
front-taken : (deck : Deck) (start t : RunState) (front : List Entry) (last : Entry) → take_entries deck start (front ++ last ∷ []) ≡ Some t →
    (s : RunState) × (take_entries deck start front ≡ Some s) × (next : RunState) × (take_entry deck s last ≡ Some next)
front-taken deck start t front last e = by (take_entries deck start front) refl (sym (take_entries-append deck start front (last ∷ [])) ∙ e)
  where
    here : (s : RunState) (x : Option RunState) → take_entry deck s last ≡ x → option_and_then (λ next. take_entries deck next []) x ≡ Some t → (next : RunState) × (take_entry deck s last ≡ Some next)
    here s None f g = absurd (cc)
    here s (Some next) f g = (next, f)

    by : (x : Option RunState) → take_entries deck start front ≡ x → option_and_then (λ s. take_entries deck s (last ∷ [])) x ≡ Some t →
        (s : RunState) × (take_entries deck start front ≡ Some s) × (next : RunState) × (take_entry deck s last ≡ Some next)
    by None f g = absurd (cc)
    by (Some s) f g = let more = here s (take_entry deck s last) refl g in (s, f, more.0, more.1)

-- nothing stopped the end of a whole schedule
pub transcript-clear : (shape : ScriptForm) (deck : Deck) (run : Run) (text : List ℕ) → run.last ≡ no_devices → HasTranscript shape deck run true text → EndsClear run.schedule
unfolding transcript
transcript-clear shape deck run text none t =
    let found = state-there (state_after deck run.describe run.schedule) _ text t.taken in
    let last = last-of run.schedule (sym (whole-last deck run.describe run.schedule (ap is_some found.1)) ∙ t.ends) in
    let entry : Entry = record { who = who.End; mark = last.1 } in
    let before = front-taken deck (opening_state deck run.describe) found.0 last.0 entry (ap (state_after deck run.describe) (sym last.2) ∙ found.1) in
    let step = taken deck before.0 before.2 entry before.3 in
    let unstarved = t.unstarved last.0 [] entry before.0 step.step last.2 before.1 step.asked refl in
    let faultless : is_faultless (last.0 ++ entry ∷ []) ≡ true = ap is_faultless (sym last.2) ∙ transcript-faultless shape deck run true text none t in
    let parts = and_parts (list_all (λ e. not (is_fault e.mark)) last.0) (list_all (λ e. not (is_fault e.mark)) (entry ∷ []))
    (sym (list_all-append (λ e. not (is_fault e.mark)) last.0 (entry ∷ [])) ∙ faultless) in
    let own = and_parts (not (is_fault last.1)) true parts.1 in
    let clear : last.1 ≡ mark.Clear = neither last.1 (not-false (is_fault last.1) own.0) unstarved in
    record { front = last.0; last = last.2 ∙ ap (λ m. last.0 ++ record { who = who.End; mark = m } ∷ []) clear }

nothing-faultless : (schedule : List Entry) → schedule ≡ [] → is_faultless schedule ≡ true
nothing-faultless schedule e = ap is_faultless e

module _ (run : Run) (none : run.last ≡ no_devices) where
  shell-faultless : (why : Option FaultNote) → EndsFor why run → is_faultless run.schedule ≡ true
  shell-faultless None e = let f = e.2.front.front in transcript-faultless _ _ run true f.text none f.transcript
  shell-faultless (Some fault.NoMemory) e = let f = e.2.front in transcript-faultless _ _ run false f.text none f.transcript
  shell-faultless (Some fault.Usage) e = absurd e
  shell-faultless (Some (fault.BadDeck line)) e = let f = e.2.front.front in transcript-faultless _ _ run true f.text none f.transcript
  shell-faultless (Some fault.ReadFault) e = let f = e.2.front.front in transcript-faultless _ _ run true f.text none f.transcript
  shell-faultless (Some fault.WriteFault) e = let f = e.2.front in transcript-faultless _ _ run true f.text none f.transcript
  shell-faultless (Some (fault.DeviceFault device)) e = absurd e

  replay-faultless : (why : Option FaultNote) (input : List ℕ) → ReplayEndsFor why run input → is_faultless run.schedule ≡ true
  replay-faultless None input e = transcript-faultless _ _ run true e.text none e.transcript
  replay-faultless (Some fault.NoMemory) input (inl e) = nothing-faultless run.schedule e.schedule
  replay-faultless (Some fault.NoMemory) input (inr e) = transcript-faultless _ _ run false e.1.front.text none e.1.front.transcript
  replay-faultless (Some fault.Usage) input e = absurd e
  replay-faultless (Some (fault.BadDeck line)) input e = nothing-faultless run.schedule e.1.schedule
  replay-faultless (Some fault.ReadFault) input e = nothing-faultless run.schedule e.schedule
  replay-faultless (Some fault.WriteFault) input e = transcript-faultless _ _ run true e.front.text none e.front.transcript
  replay-faultless (Some (fault.DeviceFault device)) input e = absurd e

  shell-clear : (why : Option FaultNote) → status_of why ≡ 0 → EndsFor why run → EndsClear run.schedule
  shell-clear None s e = transcript-clear _ _ run e.2.shows.text none e.2.shows.transcript
  shell-clear (Some fault.NoMemory) s e = absurd (omega (arith, s))
  shell-clear (Some fault.Usage) s e = absurd (omega (arith, s))
  shell-clear (Some (fault.BadDeck line)) s e = absurd (omega (arith, s))
  shell-clear (Some fault.ReadFault) s e = absurd (omega (arith, s))
  shell-clear (Some fault.WriteFault) s e = absurd (omega (arith, s))
  shell-clear (Some (fault.DeviceFault device)) s e = absurd (omega (arith, s))

  replay-clear : (why : Option FaultNote) (input : List ℕ) → status_of why ≡ 0 → ReplayEndsFor why run input → EndsClear run.schedule
  replay-clear None input s e = transcript-clear _ _ run e.text none e.transcript
  replay-clear (Some fault.NoMemory) input s e = absurd (omega (arith, s))
  replay-clear (Some fault.Usage) input s e = absurd (omega (arith, s))
  replay-clear (Some (fault.BadDeck line)) input s e = absurd (omega (arith, s))
  replay-clear (Some fault.ReadFault) input s e = absurd (omega (arith, s))
  replay-clear (Some fault.WriteFault) input s e = absurd (omega (arith, s))
  replay-clear (Some (fault.DeviceFault device)) input s e = absurd (omega (arith, s))

pub run-faultless : (j : Job) (io : Streams) (describe : Describe) (report : Report) → JobEnds j (run_of io describe report) → is_faultless report.schedule ≡ true
run-faultless job.Shell io describe report e = shell-faultless (run_of io describe report) refl report.fault e
run-faultless job.Replay io describe report e = replay-faultless (run_of io describe report) refl report.fault e.0 e.2

pub run-clear : (j : Job) (io : Streams) (describe : Describe) (report : Report) → JobEnds j (run_of io describe report) → status_of report.fault ≡ 0 → EndsClear report.schedule
run-clear job.Shell io describe report e s = shell-clear (run_of io describe report) refl report.fault s e
run-clear job.Replay io describe report e s = replay-clear (run_of io describe report) refl report.fault e.0 s e.2
