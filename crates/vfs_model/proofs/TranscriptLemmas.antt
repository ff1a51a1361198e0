-- Schedules are taken entry by entry.
use Rattle.std.proofs.Common.{◌≡◌, true, Option, Some, None, option_map, List, [], ◌∷◌, ◌++◌, refl, sym, ap, ◌∙◌, subst, append_assoc, append-nil}
use Rattle.std.specs.Prelude.{is_some}
use Rattle.std.specs.Option.{option_and_then}
use Rattle.vfs_base.specs.declared.deck.Deck.{Deck}
use Rattle.vfs_base.specs.declared.describe.Describe.{Describe}
use Rattle.vfs_base.specs.declared.entry.Entry.{Entry}
use Rattle.vfs_model.specs.ScriptRun.{RunState, opening_state, state_after, take_entries, take_entry}
use Rattle.vfs_model.specs.Transcript.{shown, transcript}
use Rattle.vfs_model.specs.TranscriptLaws.{EachIsTaken, IsDefined, can_take}
use Rattle.vfs_model.specs.declared.script_form.ScriptForm.{ScriptForm}

is_some-map : {A B : Type 0} (f : A → B) (x : Option A) → is_some (option_map f x) ≡ is_some x
is_some-map f None = refl
is_some-map f (Some x) = refl

-- the transcript is defined where the state after the schedule is
pub transcript-defined : (shape : ScriptForm) (deck : Deck) (describe : Describe) (schedule : List Entry) →
    is_some (transcript shape deck describe schedule) ≡ is_some (state_after deck describe schedule)
unfolding transcript
transcript-defined shape deck describe schedule = is_some-map _ (state_after deck describe schedule)

pub shown-defined : (shape : ScriptForm) (deck : Deck) (describe : Describe) (schedule : List Entry) →
    is_some (shown shape deck describe schedule) ≡ is_some (state_after deck describe schedule)
unfolding shown
shown-defined shape deck describe schedule = is_some-map _ (state_after deck describe schedule)

pub defined : (shape : ScriptForm) (deck : Deck) (describe : Describe) (schedule : List Entry) →
    is_some (state_after deck describe schedule) ≡ true → IsDefined shape deck describe schedule
defined shape deck describe schedule e =
    (transcript-defined shape deck describe schedule ∙ e, shown-defined shape deck describe schedule ∙ e)

pub defined-state : (shape : ScriptForm) (deck : Deck) (describe : Describe) (schedule : List Entry) →
    IsDefined shape deck describe schedule → is_some (state_after deck describe schedule) ≡ true
defined-state shape deck describe schedule d = sym (transcript-defined shape deck describe schedule) ∙ d.0

then-assoc : {A B C : Type 0} (f : A → Option B) (g : B → Option C) (x : Option A) →
    option_and_then (λ a. option_and_then g (f a)) x ≡ option_and_then g (option_and_then f x)
then-assoc f g None = refl
then-assoc f g (Some x) = refl

-- a front is taken, and then the rest
pub take_entries-append : (deck : Deck) (s : RunState) (front rest : List Entry) →
    take_entries deck s (front ++ rest) ≡ option_and_then (λ t. take_entries deck t rest) (take_entries deck s front)
take_entries-append deck s [] rest = refl
take_entries-append deck s (entry ∷ front) rest =
    after (λ t. take_entries-append deck t front rest) (take_entry deck s entry)
    ∙ then-assoc (λ t. take_entries deck t front) (λ t. take_entries deck t rest) (take_entry deck s entry)
  where
    after : ((t : RunState) → take_entries deck t (front ++ rest) ≡ option_and_then (λ u. take_entries deck u rest) (take_entries deck t front)) →
        (x : Option RunState) → option_and_then (λ t. take_entries deck t (front ++ rest)) x
        ≡ option_and_then (λ t. option_and_then (λ u. take_entries deck u rest) (take_entries deck t front)) x
    after h None = refl
    after h (Some t) = h t

pub then-defined : {A B : Type 0} (f : A → Option B) (x : Option A) → is_some (option_and_then f x) ≡ true → is_some x ≡ true
then-defined f None e = e
then-defined f (Some x) e = refl

-- the front of a schedule that can be taken can be taken
pub front-taken : (deck : Deck) (describe : Describe) (front rest : List Entry) →
    is_some (state_after deck describe (front ++ rest)) ≡ true → is_some (state_after deck describe front) ≡ true
front-taken deck describe front rest e =
    then-defined (λ t. take_entries deck t rest) (state_after deck describe front)
    (ap is_some (sym (take_entries-append deck (opening_state deck describe) front rest)) ∙ e)

one-entry : (deck : Deck) (s : RunState) (entry : Entry) → take_entries deck s (entry ∷ []) ≡ take_entry deck s entry
one-entry deck s entry = same (take_entry deck s entry)
  where
    same : (x : Option RunState) → option_and_then (λ t. Some t) x ≡ x
    same None = refl
    same (Some t) = refl

-- an entry can be taken after a front where both together can
pub can_take-is : (deck : Deck) (describe : Describe) (front : List Entry) (entry : Entry) →
    can_take deck describe front entry ≡ is_some (state_after deck describe (front ++ entry ∷ []))
can_take-is deck describe front entry =
    ap is_some (sym (take_entries-append deck (opening_state deck describe) front (entry ∷ []) ∙ each (state_after deck describe front)))
  where
    each : (x : Option RunState) → option_and_then (λ t. take_entries deck t (entry ∷ [])) x ≡ option_and_then (λ t. take_entry deck t entry) x
    each None = refl
    each (Some t) = one-entry deck t entry

pub each-taken : (deck : Deck) (describe : Describe) (schedule : List Entry) →
    is_some (state_after deck describe schedule) ≡ true → EachIsTaken deck describe schedule
each-taken deck describe schedule e front rest entry parts =
    can_take-is deck describe front entry
    ∙ front-taken deck describe (front ++ entry ∷ []) rest
    (ap (λ σ. is_some (state_after deck describe σ)) (append_assoc front (entry ∷ []) rest ∙ sym parts) ∙ e)

-- the rest can be taken, where each entry of it can after those before it
taken-each : (deck : Deck) (describe : Describe) (front rest : List Entry) → is_some (state_after deck describe front) ≡ true →
    EachIsTaken deck describe (front ++ rest) → is_some (state_after deck describe (front ++ rest)) ≡ true
taken-each deck describe front [] e h = ap (λ σ. is_some (state_after deck describe σ)) (append-nil front) ∙ e
taken-each deck describe front (entry ∷ rest) e h =
    let same = append_assoc front (entry ∷ []) rest in
    let next = sym (can_take-is deck describe front entry) ∙ h front rest entry refl in
    ap (λ σ. is_some (state_after deck describe σ)) (sym same)
    ∙ taken-each deck describe (front ++ entry ∷ []) rest next (subst (EachIsTaken deck describe) (sym same) h)

pub all-taken : (deck : Deck) (describe : Describe) (schedule : List Entry) → EachIsTaken deck describe schedule →
    is_some (state_after deck describe schedule) ≡ true
all-taken deck describe schedule h = taken-each deck describe [] schedule refl h
