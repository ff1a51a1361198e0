-- The rule of the turn table, over its words, the values at home and what each pass knows.
-- For the part i, word i counts the tickets that were drawn and word n + i the turns that are over; word n + n counts the stamps.
use Rattle.std.specs.Prelude.{◌≡◌, ◌≢◌, ℕ, ◌+◌, ◌^◌, ◌<◌, ◌≤◌, ◌==◌, true, false, ◌&&◌, nat_le, Option, Some, None, IfSome, List, [], ◌∷◌, length, All, slice_index_or, if◌then◌else◌}
use mathlib.Core.Option as maybe
use mathlib.Core.Option.{some}
use mathlib.Core.List.{IsPrefix}
use lib.ListN.{get_elem?}
use Rattle.atomic_table.specs.Table.{State}
use Rattle.histories.specs.declared.entry.HistoryEntry.{HistoryEntry}
use Rattle.histories.specs.Turns.{Turn, Call, entries, entries_by, calls_on, StampsRise}
use Rattle.histories.specs.Tie.{Tie, replayed}
use Rattle.turn_table.specs.declared.view.Ticket.{Ticket}
use Rattle.turn_table.specs.declared.view.Waiting.{Waiting}
use Rattle.turn_table.specs.declared.view.View.{View}
use Rattle.turn_table.specs.Values.{Law}
use Rattle.turn_table.specs.Views.{is_held, ticket_of, seen_of, asked}

-- where the value of a part is: at home, or out with a seat
pub data Phase : Type 0 where
  home : Phase
  out : ℕ → Phase

-- what became of a number of a pass
pub data Role : Type 0 where
  unmade : Role
  active : ℕ → Role
  done : Role

-- What the rule knows of a part beside its words and its value: which seat drew each ticket, where the value is, and the turns
-- and the share that it has, or that it had when it was taken
pub record Part (S : Type 0) : Type 0 where
  pub drawn : ℕ
  pub served : ℕ
  pub who : ℕ → ℕ
  pub phase : Phase
  pub told : List Turn
  pub share : S

-- What the rule knows of the table: its parts, the entries by their stamps, the passes, and the seat of the pass that may be split
pub record Standing (S : Type 0) : Type 0 where
  pub parts : ℕ → Part S
  pub log : List HistoryEntry
  pub roles : ℕ → Role
  pub made : ℕ
  pub chief : ℕ

-- the entry is the one with its stamp
abbrev pub IsLogged : List HistoryEntry → HistoryEntry → Type 0
IsLogged log entry = get_elem? log entry.stamp ≡ some entry

-- the seat j waits with the ticket k
pub record Waits {S : Type 0} (p : Part S) (j k : ℕ) : Type 0 where
  pub due : p.served ≤ k
  pub drawn : k < p.drawn
  pub who : p.who k ≡ j
  pub waits : p.phase ≢ out j

-- the seat j has the turn, with this ticket, and has seen the turns before it
pub record HasTurn {S : Type 0} (p : Part S) (j : ℕ) (ticket : Ticket S) (seen : List Turn) : Type 0 where
  pub number : ticket.number ≡ p.served
  pub out_with : p.phase ≡ out j
  pub share : ticket.share ≡ p.share
  pub saw : seen ≡ p.told

module _ {X S O : Type 0} (law : Law X S O) (origin : Option O) where
  -- where the value of the part is
  abbrev pub Lies : List (maybe.Option (Option X)) → ℕ → Part S → Phase → Type 0
  Lies homes i p home = (x : X) × (get_elem? homes i ≡ some (some (Some x))) × (law.turns x ≡ p.told) × (law.share x ≡ p.share) × law.is_of origin i x
  Lies homes i p (out j) = (p.served < p.drawn) × (p.who p.served ≡ j) × (p.served < 2 ^ 63)

  -- a part's words count its tickets and turns, its value lies where it is said to, and its entries are logged, with rising stamps
  pub record PartOk (n : ℕ) (log : List HistoryEntry) (words : List ℕ) (homes : List (maybe.Option (Option X))) (i : ℕ) (p : Part S) : Type 0 where
    pub drawn_is : slice_index_or words i 0 ≡ p.drawn
    pub served_is : slice_index_or words (n + i) 0 ≡ p.served
    pub queue : p.served ≤ p.drawn
    pub counted : length p.told ≡ p.served
    pub lies : Lies homes i p p.phase
    pub logged : All (IsLogged log) (entries p.told)
    pub rise : StampsRise p.told

-- a pass that was joined into another: its entries are its calls
pub record JoinedOk {S : Type 0} (tie : Tie S) (n : ℕ) (standing : Standing S) (pass : ℕ × List Call) : Type 0 where
  pub done : standing.roles pass.0 ≡ done
  pub own : (i : ℕ) → i < n → entries_by pass.0 (standing.parts i).told ≡ calls_on i pass.1
  pub referred : tie.references pass.0 (standing.parts 0).share ≡ replayed tie pass.0 (calls_on 0 pass.1)

-- the entry of a step is logged as the pass's, later than the turns of each part that the pass holds
pub record StampOk {S O : Type 0} (standing : Standing S) (v : View S O) (entry : HistoryEntry) : Type 0 where
  pub logged : IsLogged standing.log entry
  pub pass : entry.pass ≡ v.number
  pub later : (i : ℕ) → is_held i v.held ≡ true → All (λ earlier. earlier.stamp < entry.stamp) (entries (standing.parts i).told)

-- what a pass knows of the table is so
pub record SeatOk {S O : Type 0} (tie : Tie S) (began : Option O) (n : ℕ) (standing : Standing S) (id : ℕ) (v : View S O) : Type 0 where
  pub waiting : IfSome v.waits (λ ticket. (ticket.part < n) × Waits (standing.parts ticket.part) id ticket.number)
  pub holding : (i : ℕ) (ticket : Ticket S) → ticket_of i v.held ≡ Some ticket → (i < n) × HasTurn (standing.parts i) id ticket (seen_of v i)
  pub saw : (i : ℕ) → i < n → IsPrefix (seen_of v i) (standing.parts i).told
  pub also : (i : ℕ) → i < n → IsPrefix (slice_index_or v.also i []) (standing.parts i).told
  pub wide : length v.seen ≡ n
  pub wide_too : length v.also ≤ n
  pub stamp : IfSome v.stamped (StampOk standing v)
  pub named : standing.roles v.number ≡ active id
  pub own : (i : ℕ) → i < n → entries_by v.number (standing.parts i).told ≡ calls_on i v.calls
  pub referred : tie.references v.number (standing.parts 0).share ≡ replayed tie v.number (asked v)
  pub joined : All (JoinedOk tie n standing) v.joined
  pub chief : v.opens ≡ true → (id ≡ standing.chief) × (v.made ≡ standing.made)
  pub plain : v.opens ≡ false → v.made ≡ 0
  pub origin : v.origin ≡ began

-- a number that no pass has: there is no entry with it, and no reference
pub record IsSilent {S : Type 0} (tie : Tie S) (n : ℕ) (parts : ℕ → Part S) (pass : ℕ) : Type 0 where
  pub entries : (i : ℕ) → i < n → entries_by pass (parts i).told ≡ []
  pub referred : tie.references pass (parts 0).share ≡ tie.references pass tie.nothing

-- what the views count for, added up
abbrev pub total : {V : Type 0} → (V → ℕ) → List V → ℕ
total f [] = 0
total f (v ∷ vs) = f v + total f vs

abbrev pub stuck_at : ℕ → Option Waiting → ℕ
stuck_at i None = 0
stuck_at i (Some ticket) = if (ticket.part == i) && nat_le 9223372036854775808 ticket.number then 1 else 0

abbrev pub stopped_at : Option HistoryEntry → ℕ
stopped_at None = 0
stopped_at (Some entry) = if nat_le 9223372036854775808 entry.stamp then 1 else 0

-- a pass that waits for good with a ticket that isn't used
abbrev pub stuck : {S O : Type 0} → ℕ → View S O → ℕ
stuck i v = stuck_at i v.waits

-- a pass that waits for good with a stamp that isn't used
abbrev pub stopped : {S O : Type 0} → View S O → ℕ
stopped v = stopped_at v.stamped

-- how many passes a pass stands for
abbrev pub weight : {S O : Type 0} → View S O → ℕ
weight v = if v.spent then 0 else length v.joined + 1

-- a part that is out is held by the seat that it is out with
pub record IsOutWith {S O : Type 0} (views : List (View S O)) (i j : ℕ) : Type 0 where
  pub view : View S O
  pub seat : get_elem? views j ≡ some view
  pub alive : view.spent ≡ false
  pub held : is_held i view.held ≡ true

pub record IsOrderly {X S O : Type 0} (law : Law X S O) (origin : Option O) (n : ℕ) (s : State (Option X) (View S O)) : Type 0 where
  pub standing : Standing S
  pub words_wide : length s.words ≡ n + n + 1
  pub homes_wide : length s.homes ≡ n
  pub stamp_is : slice_index_or s.words (n + n) 0 ≡ length standing.log
  pub each_part : (i : ℕ) → i < n → PartOk law origin n standing.log s.words s.homes i (standing.parts i)
  pub each_seat : (j : ℕ) (v : View S O) → get_elem? s.views j ≡ some v → v.spent ≡ false → SeatOk law.tie origin n standing j v
  pub each_out : (i j : ℕ) → i < n → (standing.parts i).phase ≡ out j → IsOutWith s.views i j
  pub room : (i : ℕ) → i < n → (standing.parts i).drawn ≤ 9223372036854775808 + total (stuck i) s.views
  pub stamp_room : length standing.log ≤ 9223372036854775808 + total stopped s.views
  pub counted : length s.views ≡ standing.made + 1
  pub few : standing.made < 4294967296
  pub weighed : total weight s.views ≡ standing.made + 1
  pub unborn : (pass : ℕ) → standing.made < pass → standing.roles pass ≡ unmade
  pub silent : (pass : ℕ) → standing.roles pass ≡ unmade → IsSilent law.tie n standing.parts pass
  pub tied : (i : ℕ) → 0 < i → i < n → law.tie.rows i (standing.parts 0).share ≡ (standing.parts i).share
  pub held_open : law.tie.held_open (standing.parts 0).share
