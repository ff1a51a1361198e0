-- What a pass holds and has seen, in the words of its view.
use Rattle.std.specs.Prelude.{◌≡◌, ℕ, ◌==◌, ◌<◌, Bool, not, Option, Some, None, option_map, option_to_list, is_some, IfSome, List, [], ◌∷◌, ◌++◌, map, filter, All, slice_index_or, if◌then◌else◌}
use Rattle.histories.specs.declared.entry.HistoryEntry.{HistoryEntry}
use Rattle.histories.specs.Turns.{Turn, Call, calls_on}
use Rattle.turn_table.specs.declared.view.Ticket.{Ticket}
use Rattle.turn_table.specs.declared.view.View.{View}

-- the ticket with which a part is held
abbrev pub ticket_of : {S : Type 0} → ℕ → List (Ticket S) → Option (Ticket S)
ticket_of part [] = None
ticket_of part (ticket ∷ held) = if ticket.part == part then Some ticket else ticket_of part held

abbrev pub is_held : {S : Type 0} → ℕ → List (Ticket S) → Bool
is_held part held = is_some (ticket_of part held)

-- the tickets of the other parts
abbrev pub without : {S : Type 0} → ℕ → List (Ticket S) → List (Ticket S)
without part held = filter (λ ticket. not (ticket.part == part)) held

-- the same tickets, the part's first
abbrev pub fronted : {S : Type 0} → ℕ → List (Ticket S) → List (Ticket S)
fronted part held = option_to_list (ticket_of part held) ++ without part held

-- no part is held twice
abbrev pub AreApart : {S : Type 0} → List (Ticket S) → Type 0
AreApart [] = Unit {0}
AreApart (ticket ∷ held) = (ticket_of ticket.part held ≡ None) × AreApart held

-- the tickets, with new shares
abbrev pub renamed : {S : Type 0} → (ℕ → S) → List (Ticket S) → List (Ticket S)
renamed {S} named held = map (λ (ticket : Ticket S). record ticket { share = named ticket.part }) held

module _ {S O : Type 0} (v : View S O) where
  -- the turns of a part that the pass has seen
  abbrev pub seen_of : ℕ → List Turn
  seen_of part = slice_index_or v.seen part []

  -- the share of a part that the pass holds
  abbrev pub share_held : ℕ → Option S
  share_held part = option_map (λ ticket. ticket.share) (ticket_of part v.held)

  -- the entry of the step that the pass has taken on part 0, and that is not yet in it
  abbrev pub pending : List HistoryEntry
  pending = if is_held 0 v.held then option_to_list v.stamped else []

  -- the calls of the pass on part 0
  abbrev pub asked : List HistoryEntry
  asked = calls_on 0 v.calls ++ pending

  -- the parts that the pass holds stand below this one
  abbrev pub HoldsBelow : ℕ → Type 0
  HoldsBelow part = All (λ ticket. ticket.part < part) v.held

  -- a pass that has stamped since it took the first part takes no other part, and doesn't stamp again
  abbrev pub IsFresh : Type 0
  IsFresh = IfSome v.stamped (λ _. v.held ≡ [])

-- the call on a part, where the turn has an entry
abbrev pub call_of : ℕ → Turn → List Call
call_of part turn = map (λ entry. (part, entry)) (option_to_list turn)
