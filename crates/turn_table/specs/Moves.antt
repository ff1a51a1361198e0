-- What each step at the table tells the pass that takes it, and how the pass's view changes.
use Rattle.std.specs.Prelude.{◌≡◌, ◌≢◌, ℕ, ◌+◌, ◌^◌, ◌<◌, max, true, false, ◌||◌, nat_le, Option, Some, None, IfSome, List, [], ◌∷◌, ◌++◌, length, map, replicate, All, slice_set, slice_index_or, if◌then◌else◌}
use Rattle.atomic_table.specs.Table.{Me, Step, rest}
use Rattle.histories.specs.declared.entry.HistoryEntry.{HistoryEntry}
use Rattle.vfs_base.specs.declared.step.Step.{Step as Asked}
use Rattle.vfs_base.specs.declared.entry.Mark.{Mark}
use Rattle.vfs_base.specs.declared.reply.Reply.{Reply}
use Rattle.histories.specs.Turns.{Turn, entries}
use Rattle.turn_table.specs.declared.view.Ticket.{Ticket}
use Rattle.turn_table.specs.declared.view.View.{View}
use Rattle.turn_table.specs.Passes.{IsLonger}
use Rattle.turn_table.specs.Takes.{Takes}
use Rattle.turn_table.specs.Values.{Law}
use Rattle.turn_table.specs.Views.{AreApart, is_held, seen_of, fronted, without, renamed, call_of}

-- the slots of the parts that a pass holds, which are empty
abbrev pub slots_of : {X S : Type 0} → List (Ticket S) → List (ℕ × Option X)
slots_of held = map (λ ticket. (ticket.part, None)) held

module _ {S O : Type 0} (v : View S O) where
  -- the pass waits with this ticket, and its stamp is forgotten
  abbrev pub waiter : ℕ → ℕ → View S O
  waiter part number = record v { waits = Some (record { part = part; number = number }); stamped = None }

  -- the pass holds the part, and has seen its turns
  abbrev pub holder : ℕ → ℕ → List Turn → S → View S O
  holder part number turns share = record v { waits = None; held = record { part = part; number = number; share = share } ∷ v.held; seen = slice_set v.seen part turns }

  -- the pass has this entry, and its parts have the shares that the step names
  abbrev pub stamper : HistoryEntry → (ℕ → S) → View S O
  stamper entry named = record v { stamped = Some entry; held = renamed named v.held }

  -- the part comes before the others that the pass holds
  abbrev pub turner : ℕ → View S O
  turner part = record v { held = fronted part v.held }

  -- the pass holds the part no more; it has seen this turn, whose entry is one of its calls
  abbrev pub leaver : ℕ → List Turn → View S O
  leaver part turns = record v { held = without part v.held; seen = slice_set v.seen part turns; calls = v.calls ++ call_of part v.stamped }

  -- the pass has made one more
  abbrev pub splitter : View S O
  splitter = record v { made = v.made + 1 }

  -- a pass with the next number, which has seen what this one has
  abbrev pub newcomer : View S O
  newcomer = record {
    waits = None;
    held = [];
    seen = v.seen;
    also = [];
    stamped = None;
    number = v.made + 1;
    calls = [];
    joined = [];
    opens = false;
    made = 0;
    spent = false;
    origin = v.origin;
  }

-- the longer of two lists
abbrev pub longer_of : List Turn → List Turn → List Turn
longer_of one another = if nat_le (length another) (length one) then one else another

-- part by part the longer of what was seen
abbrev pub merged : List (List Turn) → List (List Turn) → List (List Turn)
merged [] others = others
merged (one ∷ ones) [] = one ∷ ones
merged (one ∷ ones) (another ∷ others) = longer_of one another ∷ merged ones others

-- the pass has another's calls as that one's, and what that one has seen beside what it has seen itself
abbrev pub joiner : {S O : Type 0} → View S O → View S O → View S O
joiner v w = record v {
  also = w.seen;
  joined = v.joined ++ (w.number, w.calls) ∷ w.joined;
  opens = v.opens || w.opens;
  made = max v.made w.made;
}

-- what was seen by either is seen
abbrev pub merger : {S O : Type 0} → View S O → View S O
merger v = record v { seen = merged v.seen v.also; also = [] }

-- a pass that was joined into another
abbrev pub nobody : {S O : Type 0} → View S O
nobody = record {
  waits = None;
  held = [];
  seen = [];
  also = [];
  stamped = None;
  number = 0;
  calls = [];
  joined = [];
  opens = false;
  made = 0;
  spent = true;
  origin = None;
}

-- the opening pass, which has seen no turn of any part
unfoldable pub opener : {S O : Type 0} → ℕ → Option O → View S O
opener n origin = record {
  waits = None;
  held = [];
  seen = replicate n [];
  also = [];
  stamped = None;
  number = 0;
  calls = [];
  joined = [];
  opens = true;
  made = 0;
  spent = false;
  origin = origin;
}

-- the entry of a step
abbrev pub entry_of : ℕ → ℕ → Asked → Mark → Reply → HistoryEntry
entry_of stamp pass asked mark reply = record { stamp = stamp; pass = pass; step = asked; mark = mark; reply = reply }

module _ {X S O : Type 0} where
  -- the pass drew the ticket of the part
  abbrev pub draws : Step (Option X) → Me (Option X) (View S O) → ℕ → Me (Option X) (View S O) → Type 0
  draws st m found m' = (m'.0 ≡ waiter m.0 st.word found) × (m'.1 ≡ m.1)

  -- it brought the part's slot before the others
  abbrev pub fronts : Step (Option X) → Me (Option X) (View S O) → ℕ → Me (Option X) (View S O) → Type 0
  fronts st m found m' = (part : ℕ) → st.word ≡ st.slots + part → (m'.0 ≡ turner m.0 part) × (m'.1 ≡ slots_of (fronted part m.0.held))

  -- it has seen what a pass that was joined into it has seen
  abbrev pub merges : Step (Option X) → Me (Option X) (View S O) → ℕ → Me (Option X) (View S O) → Type 0
  merges st m found m' = (m'.0 ≡ merger m.0) × (m'.1 ≡ m.1) × ((part : ℕ) → IsLonger (seen_of m.0 part) (slice_index_or m.0.also part []) (seen_of m'.0 part))

module _ {X S O : Type 0} (law : Law X S O) where
  -- the pass has the turn: it has the part's value and its slot, and has seen its turns
  pub record Enters (m m' : Me (Option X) (View S O)) (part number : ℕ) : Type 0 where
    pub value : X
    pub slot : m'.1 ≡ (part, Some value) ∷ m.1
    pub view : m'.0 ≡ holder m.0 part number (law.turns value) (law.share value)
    pub is_of : law.is_of m.0.origin part value
    pub takes : Takes law.tie m.0 m'.0 part (law.turns value) (law.share value)

  -- where the pass waits for the turn that was found, it has it
  abbrev pub looks : Step (Option X) → Me (Option X) (View S O) → ℕ → Me (Option X) (View S O) → Type 0
  looks st m found m' = (part number : ℕ) → m.0.waits ≡ Some (record { part = part; number = number })
      → (found ≡ number → Enters m m' part number) × (found ≢ number → m' ≡ m)

  -- the turn of the part whose slot was taken last is over, and its value is at home
  abbrev pub leaves : Step (Option X) → Me (Option X) (View S O) → ℕ → Me (Option X) (View S O) → Type 0
  leaves st m found m' = (m'.1 ≡ rest m.1) × ((part : ℕ) (x : X) → m.1 ≡ (part, Some x) ∷ rest m.1 → (m'.0 ≡ leaver m.0 part (law.turns x)) × (seen_of m'.0 part ≡ law.turns x))

-- the pass has the entry, with the shares that the step names, and the slots that it had
abbrev pub StampedBy : {X S O : Type 0} → Me (Option X) (View S O) → Me (Option X) (View S O) → HistoryEntry → (ℕ → S) → Type 0
StampedBy m m' entry named = (m'.0 ≡ stamper m.0 entry named) × (m'.1 ≡ m.1)

-- the pass drew the stamp of this step
abbrev pub draws_stamp : {X S O : Type 0} → Asked → Mark → Reply → (ℕ → ℕ → S) → Step (Option X) → Me (Option X) (View S O) → ℕ → Me (Option X) (View S O) → Type 0
draws_stamp asked mark reply named st m found m' =
    (m'.0 ≡ stamper m.0 (entry_of found m.0.number asked mark reply) (named found)) × (m'.1 ≡ m.1)
    × ((part : ℕ) → All (λ earlier. earlier.stamp < found) (entries (seen_of m.0 part)))

-- the pass waits for nothing, has the empty slots of just the parts that it holds, and its stamp may be used
pub record IsAtRest {X S O : Type 0} (parts : ℕ) (m : Me (Option X) (View S O)) : Type 0 where
  pub alive : m.0.spent ≡ false
  pub waits : m.0.waits ≡ None
  pub also : m.0.also ≡ []
  pub within : (part : ℕ) → is_held part m.0.held ≡ true → part < parts
  pub slots : m.1 ≡ slots_of m.0.held
  pub apart : AreApart m.0.held
  pub used : IfSome m.0.stamped (λ entry. entry.stamp < 2 ^ 63)
