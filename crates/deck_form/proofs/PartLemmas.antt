-- Lemmas on the events and entries that spaces separate.
use Rattle.std.proofs.Common.{◌≡◌, ℕ, ◌+◌, true, false, filter, Option, Some, None, option_map, Result, Ok, Err, List, [], ◌∷◌, ◌++◌, length, refl, sym, ap, ◌∙◌, append_assoc, append-nil, length-append, drop, get_or, add-one, suc, ◌<◌, drop-cons}
use Rattle.vfs_base.specs.declared.entry.Entry.{Entry}
use Rattle.vfs_base.specs.declared.entry.Who.{Who}
use Rattle.vfs_model.specs.DeckLine.{event_before, events_of, has_bytes}
use Rattle.vfs_model.specs.Schedule.{entries_from, entry_before}
use Rattle.deck_form.specs.Line.{IsEventPushed}
use Rattle.deck_form.specs.Reading.{IsEntryPushed}

-- the events of these texts behind others
abbrev pub events_with : List Who → List (List ℕ) → Option (List Who)
events_with list texts = option_map (λ more. list ++ more) (events_of (filter has_bytes texts))

behind : (list : List Who) (asker : Who) (later : Option (List Who)) →
    option_map (λ more. list ++ more) (event_before (Some asker) later) ≡ option_map (λ more. (list ++ asker ∷ []) ++ more) later
behind list asker None = refl
behind list asker (Some more) = ap Some (sym (append_assoc list (asker ∷ []) more))

pub events_go_on : (text : List ℕ) (list new : List Who) (texts : List (List ℕ)) → IsEventPushed text true list new → events_with list (text ∷ texts) ≡ events_with new texts
events_go_on [] list new texts is = rw is.1 refl
events_go_on (byte ∷ bytes) list new texts is = rw (is.1, is.2) (behind list is.0 (events_of (filter has_bytes texts)))

pub events_stop : (text : List ℕ) (list new : List Who) (texts : List (List ℕ)) → IsEventPushed text false list new → events_with list (text ∷ texts) ≡ None
events_stop [] list new texts is = absurd (cc)
events_stop (byte ∷ bytes) list new texts is = rw is refl

pub events_end : (list : List Who) → events_with list [] ≡ Some list
events_end list = ap Some (append-nil list)

-- entries before those that were read
abbrev pub entries_behind : List Entry → Result (List Entry) ℕ → Result (List Entry) ℕ
entries_behind entries (Ok more) = Ok (entries ++ more)
entries_behind entries (Err at) = Err at

-- the entries of these texts behind others
abbrev pub entries_with : List Entry → List (List ℕ) → Result (List Entry) ℕ
entries_with entries texts = entries_behind entries (entries_from (length entries) texts)

next_entry : (entries : List Entry) (entry : Entry) (later : Result (List Entry) ℕ) →
    entries_behind entries (entry_before (length entries) (Some entry) later) ≡ entries_behind (entries ++ entry ∷ []) later
next_entry entries entry (Ok more) = ap Ok (sym (append_assoc entries (entry ∷ []) more))
next_entry entries entry (Err at) = refl

pub entries_go_on : (text : List ℕ) (entries new : List Entry) (texts : List (List ℕ)) → IsEntryPushed text true entries new → entries_with entries (text ∷ texts) ≡ entries_with new texts
entries_go_on text entries new texts is =
    let count : length (entries ++ is.0 ∷ []) ≡ length entries + 1 = length-append entries (is.0 ∷ []) in
    rw (is.1, is.2, count) (next_entry entries is.0 (entries_from (length entries + 1) texts))

pub entries_stop : (text : List ℕ) (entries new : List Entry) (texts : List (List ℕ)) → IsEntryPushed text false entries new → entries_with entries (text ∷ texts) ≡ Err (length new)
entries_stop text entries new texts is = rw (is.0, is.1) refl

pub entries_end : (entries : List Entry) → entries_with entries [] ≡ Ok entries
entries_end entries = ap Ok (append-nil entries)

-- the next of the parts that are left
pub next_part : (parts : List (List ℕ)) (n : ℕ) (text : List ℕ) → (n < length parts) × (text ≡ get_or parts n text) → drop n parts ≡ text ∷ drop (n + 1) parts
next_part parts n text h = rw add-one (drop-cons parts n text h.0 ∙ ap (λ t. t ∷ drop (suc n) parts) (sym h.1))
