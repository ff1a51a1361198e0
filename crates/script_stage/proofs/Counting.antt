-- What holds of a schedule that was taken goes on with one entry more.
use Rattle.std.proofs.Common.{◌≡◌, ℕ, zero, suc, ◌+◌, ◌-◌, ◌^◌, ◌<◌, ◌≤◌, ◌⊎◌, inl, inr, true, false, Some, None, List, [], ◌∷◌, ◌++◌, length, take, get_or, refl, sym, ap, ◌∙◌, subst, arith, length-append}
use Rattle.std.specs.Prelude.{Option, option_map, slice_index_or}
use Rattle.std.proofs.Math.Seq.{get_or-append_seam, take-append_seam}
use Rattle.std.proofs.lemmas.Bool.{cases_lt}
use Rattle.std.proofs.lemmas.List.{get_or_append_left, take-append-le}
use Rattle.vfs_base.specs.Path.{AllAre}
use Rattle.vfs_base.specs.declared.deck.Deck.{Deck}
use Rattle.vfs_base.specs.declared.describe.Describe.{Describe}
use Rattle.vfs_base.specs.declared.entry.Entry.{Entry}
use Rattle.vfs_base.specs.declared.step.Step.{Step}
use Rattle.vfs_model.specs.FaultCounts.{ByDevice, CountsRise, HasRisen, NoneFalls, SomeHasRisen, no_devices, step_devices}
use Rattle.vfs_model.specs.Leaving.{AtEachEntry, is_starved}
use Rattle.vfs_model.specs.ScriptRun.{RunState, entry_step, state_after}
use Rattle.vfs_model.specs.Tally.{is_fault, needs_no_memory}
use Rattle.vfs_model.specs.World.{session_of}
use Rattle.vfs_model.specs.declared.world.WorldState.{WorldState}
use Rattle.step_world.specs.Taking.{Takes, TakesStep}
use Rattle.step_world.specs.WorldView.{WhereTold, WorldContents, WorldView, told_world, world_with}
use Rattle.vfs_base.specs.declared.entry.Who.{Who}
use Rattle.vfs_base.specs.declared.entry.Mark.{Mark}
use Rattle.vfs_base.specs.declared.reply.Reply.{Reply}
use Rattle.script_stage.specs.Scenes.{Scene, Script}
use Rattle.script_stage.specs.Standing.{IsTakenOn}

pub none-falls : (counts : ByDevice) → NoneFalls counts counts
none-falls counts = record { volumes = λ volume. omega arith; chars = λ device. omega arith }

pub falls-same : (view new : WorldView) → new ≡ view → NoneFalls view.faults new.faults
falls-same view new e = subst (λ v. NoneFalls view.faults v.faults) (sym e) (none-falls view.faults)

pub falls-then : (a b c : ByDevice) → NoneFalls a b → NoneFalls b c → NoneFalls a c
falls-then a b c p q = record {
  volumes = λ volume. let x = p.volumes volume in let y = q.volumes volume in omega arith;
  chars = λ device. let x = p.chars device in let y = q.chars device in omega arith;
}

-- what rose from a count rose from a smaller one
some-risen : (devices a b c : ByDevice) → NoneFalls a b → SomeHasRisen devices b c → SomeHasRisen devices a c
some-risen devices a b c p (inl (k, volume, within, is, rose)) =
    let less = p.volumes volume in
    let more : HasRisen (slice_index_or a.volumes volume 0) (slice_index_or c.volumes volume 0) = omega (arith, rose, less) in
    inl (k, volume, within, is, more)
some-risen devices a b c p (inr (k, device, within, is, rose)) =
    let less = p.chars device in
    let more : HasRisen (slice_index_or a.chars device 0) (slice_index_or c.chars device 0) = omega (arith, rose, less) in
    inr (k, device, within, is, more)

-- an entry of a list with one more at its end is that one, or an entry of the list
record IsBefore (schedule front : List Entry) (entry last : Entry) (later : List Entry) : Type 0 where
  rest : List Entry
  parts : schedule ≡ front ++ entry ∷ rest

module _ (last : Entry) where
  split-last : (schedule front : List Entry) (entry : Entry) (later : List Entry) → schedule ++ last ∷ [] ≡ front ++ entry ∷ later →
      ((front ≡ schedule) × (entry ≡ last)) ⊎ IsBefore schedule front entry last later
  split-last [] [] entry later e = inl (refl, cc)
  split-last [] (f ∷ []) entry later e = absurd (cc)
  split-last [] (f ∷ g ∷ front) entry later e = absurd (cc)
  split-last (x ∷ schedule) [] entry later e = let first : x ≡ entry = cc in inr (record { rest = schedule; parts = ap (λ y. y ∷ schedule) first })
  split-last (x ∷ schedule) (f ∷ front) entry later e =
      let first : x ≡ f = cc in
      let rest : schedule ++ last ∷ [] ≡ front ++ entry ∷ later = cc in
      elim (split-last schedule front entry later rest) [
        | inl h ↦ inl (ap (λ l. f ∷ l) h.0 ∙ ap (λ y. y ∷ schedule) (sym first), h.1)
        | inr h ↦ inr (record { rest = h.rest; parts = ap (λ y. y ∷ schedule) first ∙ ap (λ l. f ∷ l) h.parts })
      ]

pub no-entry : (deck : Deck) (describe : Describe) (P : RunState → Step → Entry → Type 0) → AtEachEntry deck describe [] P
no-entry deck describe P [] later entry s asked e = absurd (cc)
no-entry deck describe P (f ∷ front) later entry s asked e = absurd (cc)

some-state : (a b : RunState) → Some a ≡ Some b → a ≡ b
some-state a b e = cc

some-step : (a b : Step) → Some a ≡ Some b → a ≡ b
some-step a b e = cc

pub entry-more : (deck : Deck) (describe : Describe) (P : RunState → Step → Entry → Type 0) (schedule : List Entry) (last : Entry) (s : RunState) (asked : Step) →
    state_after deck describe schedule ≡ Some s → entry_step deck s last.who ≡ Some asked → P s asked last → AtEachEntry deck describe schedule P →
    AtEachEntry deck describe (schedule ++ last ∷ []) P
entry-more deck describe P schedule last s asked = λ taken wants now before front later entry t step e at is.
    elim (split-last last schedule front entry later e) [
      | inl h ↦
          let state : s ≡ t = some-state s t (sym taken ∙ ap (state_after deck describe) (sym h.0) ∙ at) in
          let same : asked ≡ step = some-step asked step (sym wants ∙ ap (λ x. entry_step deck x last.who) state ∙ ap (λ x. entry_step deck t x.who) (sym h.1) ∙ is) in
          subst (λ x. P t step x) (sym h.1) (subst (λ x. P t x last) same (subst (λ x. P x asked last) state now))
      | inr h ↦ before front h.rest entry t step h.parts at is
    ]

-- the counts rise on
module _ (deck : Deck) (describe : Describe) (schedule : List Entry) (last : Entry) (trace : List ByDevice) (now : ByDevice) (c : CountsRise deck describe schedule trace) where
  longer : length (schedule ++ last ∷ []) ≡ length schedule + 1
  longer = length-append schedule (last ∷ [])

  -- the counts at a place, before those that are new
  at-old : (at : ℕ) → at ≤ length schedule → slice_index_or (trace ++ now ∷ []) at no_devices ≡ slice_index_or trace at no_devices
  at-old at h = get_or_append_left trace (now ∷ []) no_devices at (omega (arith, h, c.places))

  at-new : slice_index_or (trace ++ now ∷ []) (length schedule + 1) no_devices ≡ now
  at-new = ap (λ n. slice_index_or (trace ++ now ∷ []) n no_devices) (sym c.places) ∙ get_or-append_seam trace now [] no_devices

  -- a fact of the counts before and after each entry
  two-old : (P : ByDevice → ByDevice → Type 0) (at : ℕ) → at < length schedule → P (slice_index_or trace at no_devices) (slice_index_or trace (at + 1) no_devices) →
      P (slice_index_or (trace ++ now ∷ []) at no_devices) (slice_index_or (trace ++ now ∷ []) (at + 1) no_devices)
  two-old P at h p =
      subst (λ x. P x (slice_index_or (trace ++ now ∷ []) (at + 1) no_devices)) (sym (at-old at (omega (arith, h))))
      (subst (λ x. P (slice_index_or trace at no_devices) x) (sym (at-old (at + 1) (omega (arith, h)))) p)

  two-new : (P : ByDevice → ByDevice → Type 0) (at : ℕ) → at ≡ length schedule → P (slice_index_or trace (length schedule) no_devices) now →
      P (slice_index_or (trace ++ now ∷ []) at no_devices) (slice_index_or (trace ++ now ∷ []) (at + 1) no_devices)
  two-new P at e p =
      subst (λ n. P (slice_index_or (trace ++ now ∷ []) n no_devices) (slice_index_or (trace ++ now ∷ []) (n + 1) no_devices)) (sym e)
      (subst (λ x. P x (slice_index_or (trace ++ now ∷ []) (length schedule + 1) no_devices)) (sym (at-old (length schedule) (omega arith)))
      (subst (λ x. P (slice_index_or trace (length schedule) no_devices) x) (sym at-new) p))

  -- an entry is an old one, or the last
  place : (at : ℕ) → at < length (schedule ++ last ∷ []) → (at < length schedule) ⊎ (at ≡ length schedule)
  place at within = elim (cases_lt at (length schedule)) [
    | inl h ↦ inl h
    | inr h ↦ inr (omega (arith, h, within, longer))
  ]

  old-entry : (at : ℕ) (entry : Entry) → at < length schedule → slice_index_or (schedule ++ last ∷ []) at entry ≡ slice_index_or schedule at entry
  old-entry at entry h = get_or_append_left schedule (last ∷ []) entry at h

  last-entry : (at : ℕ) (entry : Entry) → at ≡ length schedule → slice_index_or (schedule ++ last ∷ []) at entry ≡ last
  last-entry at entry e = ap (λ n. slice_index_or (schedule ++ last ∷ []) n entry) e ∙ get_or-append_seam schedule last [] entry

  old-front : (at : ℕ) → at < length schedule → take at (schedule ++ last ∷ []) ≡ take at schedule
  old-front at h = take-append-le at schedule (last ∷ []) (omega (arith, h))

  whole-front : (at : ℕ) → at ≡ length schedule → take at (schedule ++ last ∷ []) ≡ schedule
  whole-front at e = ap (λ n. take n (schedule ++ last ∷ [])) e ∙ take-append_seam schedule (last ∷ [])

  module _ (s : RunState) (asked : Step) (taken : state_after deck describe schedule ≡ Some s) (wants : entry_step deck s last.who ≡ Some asked)
      (cause : is_fault last.mark ≡ true → SomeHasRisen (step_devices s.world.namespace last.who asked) (slice_index_or trace (length schedule) no_devices) now) where
    -- the last entry, however it is written
    last-caused : (entry : Entry) (t : RunState) (step : Step) → last ≡ entry → state_after deck describe schedule ≡ Some t → entry_step deck t entry.who ≡ Some step →
        is_fault entry.mark ≡ true → SomeHasRisen (step_devices t.world.namespace entry.who step) (slice_index_or trace (length schedule) no_devices) now
    last-caused entry t step same state is fault =
        let one : s ≡ t = some-state s t (sym taken ∙ state) in
        let two : asked ≡ step = some-step asked step (sym wants ∙ ap (λ x. entry_step deck x last.who) one ∙ ap (λ x. entry_step deck t x.who) same ∙ is) in
        subst (λ x. SomeHasRisen (step_devices t.world.namespace x.who step) (slice_index_or trace (length schedule) no_devices) now) same
        (subst (λ x. SomeHasRisen (step_devices t.world.namespace last.who x) (slice_index_or trace (length schedule) no_devices) now) two
        (subst (λ x. SomeHasRisen (step_devices x.world.namespace last.who asked) (slice_index_or trace (length schedule) no_devices) now) one
        (cause (ap (λ x. is_fault x.mark) same ∙ fault))))

    pub rises-more : NoneFalls (slice_index_or trace (length schedule) no_devices) now → CountsRise deck describe (schedule ++ last ∷ []) (trace ++ now ∷ [])
    rises-more on = record {
      places =
          let e = length-append trace (now ∷ []) in let f = longer in let g = c.places in omega (arith, e, f, g);
      rising = λ at within. elim (place at within) [
        | inl h ↦ two-old NoneFalls at h (c.rising at h)
        | inr h ↦ two-new NoneFalls at h on
      ];
      caused = λ at entry t step within is state step_is fault. elim (place at within) [
        | inl h ↦ two-old (SomeHasRisen (step_devices t.world.namespace entry.who step)) at h
            (c.caused at entry t step h (sym (old-entry at entry h) ∙ is) (ap (state_after deck describe) (sym (old-front at h)) ∙ state) step_is fault)
        | inr h ↦ two-new (SomeHasRisen (step_devices t.world.namespace entry.who step)) at h
            (last-caused entry t step (sym (last-entry at entry h) ∙ is) (ap (state_after deck describe) (sym (whole-front at h)) ∙ state) step_is fault)
      ];
    }

-- A step that a told world took: the world that it left, and the step as its definition has it.
pub record TellsNext (old : WorldState) (next : WorldView) (asker : Who) (asked : Step) (taken : Reply × Mark) : Type 0 where
  pub world : WorldState
  pub told : told_world next ≡ Some world
  pub takes : TakesStep old world asker asked taken

pub tells-next : (old next : WorldView) (w : WorldState) (asker : Who) (asked : Step) (taken : Reply × Mark) → told_world old ≡ Some w → Takes old next asker asked taken →
    TellsNext w next asker asked taken
tells-next old next w asker asked taken told takes = by_told (told_world next) refl
    (subst (λ x. WhereTold x (told_world next) (λ v new. TakesStep v new asker asked taken)) told takes.world)
  where
    by_told : (x : Option WorldState) → told_world next ≡ x → WhereTold (Some w) x (λ v new. TakesStep v new asker asked taken) → TellsNext w next asker asked taken
    by_told None e h = absurd h
    by_told (Some new) e h = record { world = new; told = e; takes = h }

pub told-names : (view : WorldView) (w : WorldState) → told_world view ≡ Some w → view.namespace ≡ w.namespace
told-names view w e = by_contents view.contents e
  where
    some-world : (a b : WorldState) → Some a ≡ Some b → a ≡ b
    some-world a b e = cc

    by_contents : (x : Option WorldContents) → option_map (world_with view.namespace) x ≡ Some w → view.namespace ≡ w.namespace
    by_contents None e = absurd (cc)
    by_contents (Some contents) e = ap (λ (v : WorldState). v.namespace) (some-world (world_with view.namespace contents) w e)

-- nothing was taken yet
pub taken-none : (script : Script) (now : ByDevice) → now ≡ script.counted → IsTakenOn script [] now
taken-none script now e = record {
  trace = script.counted ∷ [];
  rises = record { places = refl; rising = λ at within. absurd (omega (arith, within)); caused = λ at entry s asked within. absurd (omega (arith, within)) };
  begins = refl;
  ends = subst (λ x. NoneFalls script.counted x) (sym e) (none-falls script.counted);
  sure = no-entry script.deck script.describe _;
}

-- later the counts are no smaller
pub taken-later : (script : Script) (schedule : List Entry) (now later : ByDevice) → NoneFalls now later → IsTakenOn script schedule now → IsTakenOn script schedule later
taken-later script schedule now later p t = record {
  trace = t.trace;
  rises = t.rises;
  begins = t.begins;
  ends = falls-then (slice_index_or t.trace (length schedule) no_devices) now later t.ends p;
  sure = t.sure;
}

-- the first counts stay
first-stays : (trace : List ByDevice) (now : ByDevice) (n : ℕ) → length trace ≡ n + 1 → slice_index_or (trace ++ now ∷ []) 0 no_devices ≡ slice_index_or trace 0 no_devices
first-stays trace now n e = get_or_append_left trace (now ∷ []) no_devices 0 (omega (arith, e))

-- one step more was taken
pub taken-more : (script : Script) (old next : WorldView) (schedule : List Entry) (asker : Who) (asked : Step) (taken : Reply × Mark) (s : RunState) →
    told_world old ≡ Some s.world → state_after script.deck script.describe schedule ≡ Some s → entry_step script.deck s asker ≡ Some asked → Takes old next asker asked taken →
    IsTakenOn script schedule old.faults → IsTakenOn script (schedule ++ record { who = asker; mark = taken.1 } ∷ []) next.faults
taken-more script old next schedule asker asked taken s = λ told at wants takes t.
    let names = told-names old s.world told in
    let last : Entry = record { who = asker; mark = taken.1 } in
    let on = falls-then (slice_index_or t.trace (length schedule) no_devices) old.faults next.faults t.ends takes.rising in
    record {
      trace = t.trace ++ next.faults ∷ [];
      rises = rises-more script.deck script.describe schedule last t.trace next.faults t.rises s asked at wants
          (λ fault. some-risen (step_devices s.world.namespace asker asked) (slice_index_or t.trace (length schedule) no_devices) old.faults next.faults t.ends
          (subst (λ n. SomeHasRisen (step_devices n asker asked) old.faults next.faults) names (takes.cause fault))) on;
      begins = first-stays t.trace next.faults (length schedule) t.rises.places ∙ t.begins;
      ends =
          subst (λ n. NoneFalls (slice_index_or (t.trace ++ next.faults ∷ []) n no_devices) next.faults) (sym (length-append schedule (last ∷ [])))
          (subst (λ x. NoneFalls x next.faults) (sym (at-new script.deck script.describe schedule last t.trace next.faults t.rises)) (none-falls next.faults));
      sure = entry-more script.deck script.describe _ schedule last s asked at wants
          (λ needs. takes.sure (ap (λ n. needs_no_memory n (session_of asker) asked) names ∙ needs)) t.sure;
    }
