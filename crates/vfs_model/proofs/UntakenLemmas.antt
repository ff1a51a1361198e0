-- The first entry that can't be taken.
use Rattle.std.proofs.Common.{◌≡◌, ℕ, ◌+◌, true, false, Option, Some, None, List, [], ◌∷◌, ◌++◌, length, refl, sym, ap, ◌∙◌, arith}
use Rattle.std.specs.Prelude.{is_some, is_none}
use Rattle.std.specs.Option.{option_and_then}
use Rattle.vfs_base.specs.declared.deck.Deck.{Deck}
use Rattle.vfs_base.specs.declared.describe.Describe.{Describe}
use Rattle.vfs_base.specs.declared.entry.Entry.{Entry}
use Rattle.vfs_model.specs.ScriptRun.{RunState, first_untaken, opening_state, state_after, take_entries, take_entry, untaken_from}
use Rattle.vfs_model.specs.TranscriptLaws.{IsFirstUntaken}

-- either all entries can be taken, or there is a first that can't
pub untaken-none : (at : ℕ) (deck : Deck) (s : RunState) (entries : List Entry) →
    is_some (take_entries deck s entries) ≡ is_none (untaken_from at deck s entries)
untaken-none at deck s [] = refl
untaken-none at deck s (entry ∷ entries) = elim (take_entry deck s entry) as (λ x. take_entry deck s entry ≡ x → is_some (take_entries deck s (entry ∷ entries)) ≡ is_none (untaken_from at deck s (entry ∷ entries))) [
  | None ↦ λ e. rw e refl
  | Some next ↦ λ e. rw e (untaken-none (at + 1) deck next entries)
] refl

-- the entries that can be taken are passed over
pub untaken-past : (at : ℕ) (deck : Deck) (s next : RunState) (front rest : List Entry) → take_entries deck s front ≡ Some next →
    untaken_from at deck s (front ++ rest) ≡ untaken_from (at + length front) deck next rest
untaken-past at deck s next [] rest e = ap (λ t. untaken_from at deck t rest) (some-is s next e) ∙ ap (λ n. untaken_from n deck next rest) (omega arith)
  where
    some-is : (a b : RunState) → Some a ≡ Some b → a ≡ b
    some-is a b e = cc
untaken-past at deck s next (entry ∷ front) rest e = elim (take_entry deck s entry) as (λ x. take_entry deck s entry ≡ x → untaken_from at deck s (entry ∷ front ++ rest) ≡ untaken_from (at + length (entry ∷ front)) deck next rest) [
  | None ↦ λ f. let none : option_and_then (λ t. take_entries deck t front) None ≡ Some next = sym (ap (option_and_then (λ t. take_entries deck t front)) f) ∙ e in absurd (cc)
  | Some later ↦ λ f. let more : take_entries deck later front ≡ Some next = sym (ap (option_and_then (λ t. take_entries deck t front)) f) ∙ e in
      rw f (untaken-past (at + 1) deck later next front rest more ∙ ap (λ n. untaken_from n deck next rest) (omega arith))
] refl

some-from : (x : Option RunState) → is_some x ≡ true → (t : RunState) × (x ≡ Some t)
some-from None e = absurd (cc)
some-from (Some t) e = (t, refl)

-- the first entry that can't be taken has the place that is told
pub untaken-first : (deck : Deck) (describe : Describe) (schedule : List Entry) (at : ℕ) → IsFirstUntaken deck describe schedule at →
    first_untaken deck describe schedule ≡ Some at
untaken-first deck describe schedule at h =
    let found = some-from (state_after deck describe h.front) h.taken in
    let past = untaken-past 0 deck (opening_state deck describe) found.0 h.front (h.entry ∷ h.rest) found.1 in
    ap (λ σ. first_untaken deck describe σ) h.parts ∙ past
    ∙ at-once (0 + length h.front) found.0 h.entry h.rest (sym (ap (λ x. is_some (option_and_then (λ s. take_entry deck s h.entry) x)) found.1) ∙ h.refused)
    ∙ ap Some (omega (arith, h.place))
  where
    at-once : (n : ℕ) (t : RunState) (entry : Entry) (rest : List Entry) → is_some (take_entry deck t entry) ≡ false →
        untaken_from n deck t (entry ∷ rest) ≡ Some n
    at-once n t entry rest e = elim (take_entry deck t entry) as (λ x. take_entry deck t entry ≡ x → untaken_from n deck t (entry ∷ rest) ≡ Some n) [
      | None ↦ λ f. rw f refl
      | Some later ↦ λ f. let no : true ≡ false = sym (ap is_some f) ∙ e in absurd (cc)
    ] refl

-- the entries from a state on, and the first of them that can't be taken
record IsUntakenFrom (deck : Deck) (s : RunState) (entries : List Entry) (count : ℕ) : Type 0 where
  front : List Entry
  entry : Entry
  rest : List Entry
  state : RunState
  parts : entries ≡ front ++ entry ∷ rest
  place : length front ≡ count
  taken : take_entries deck s front ≡ Some state
  refused : take_entry deck state entry ≡ None

-- the place that is told, from a state on
untaken-at : (at : ℕ) (deck : Deck) (s : RunState) (entries : List Entry) (place : ℕ) → untaken_from at deck s entries ≡ Some place →
    (count : ℕ) × (at + count ≡ place) × IsUntakenFrom deck s entries count
untaken-at at deck s [] place e = absurd (cc)
untaken-at at deck s (entry ∷ entries) place e = elim (take_entry deck s entry) as (λ x. take_entry deck s entry ≡ x → (count : ℕ) × (at + count ≡ place) × IsUntakenFrom deck s (entry ∷ entries) count) [
  | None ↦ λ f.
      let here : untaken_from at deck s (entry ∷ entries) ≡ Some at = rw f refl in
      let same : at ≡ place = some-is at place (sym here ∙ e) in
      (0, omega (arith, same), record { front = []; entry = entry; rest = entries; state = s; parts = refl; place = refl; taken = refl; refused = f })
  | Some later ↦ λ f.
      let there : untaken_from at deck s (entry ∷ entries) ≡ untaken_from (at + 1) deck later entries = rw f refl in
      let found = untaken-at (at + 1) deck later entries place (sym there ∙ e) in
      let h = found.2 in (
        found.0 + 1,
        omega (arith, found.1),
        record {
          front = entry ∷ h.front;
          entry = h.entry;
          rest = h.rest;
          state = h.state;
          parts = ap (λ es. entry ∷ es) h.parts;
          place = omega (arith, h.place);
          taken = ap (option_and_then (λ t. take_entries deck t h.front)) f ∙ h.taken;
          refused = h.refused;
        },
      )
] refl
  where
    some-is : (a b : ℕ) → Some a ≡ Some b → a ≡ b
    some-is a b e = cc

-- the place that is told has the first entry that can't be taken
pub first-untaken : (deck : Deck) (describe : Describe) (schedule : List Entry) (at : ℕ) → first_untaken deck describe schedule ≡ Some at →
    IsFirstUntaken deck describe schedule at
first-untaken deck describe schedule at e =
    let found = untaken-at 0 deck (opening_state deck describe) schedule at e in
    let h = found.2 in
    record {
      front = h.front;
      entry = h.entry;
      rest = h.rest;
      parts = h.parts;
      place = omega (arith, h.place, found.1);
      taken = ap is_some h.taken;
      refused = ap (λ x. is_some (option_and_then (λ s. take_entry deck s h.entry) x)) h.taken ∙ ap is_some h.refused;
    }
