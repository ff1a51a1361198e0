-- How passes begin, are split and joined, and what the last one knows of the values that come out.
use Rattle.std.specs.Prelude.{◌≡◌, ◌⊎◌, ℕ, ◌+◌, ◌<◌, max, true, false, ◌||◌, Option, Some, None, List, [], ◌∷◌, ◌++◌, length, map, All, Contains, slice_get, slice_index_or}
use mathlib.Core.List.{IsPrefix}
use Rattle.histories.specs.declared.entry.HistoryEntry.{HistoryEntry}
use Rattle.histories.specs.Turns.{Turn, entries, entries_by, calls_on, StampsRise}
use Rattle.histories.specs.Tie.{Tie, replayed}
use Rattle.turn_table.specs.declared.view.View.{View}
use Rattle.turn_table.specs.Values.{Law}
use Rattle.turn_table.specs.Views.{seen_of}

-- a pass with this number, which has taken no part yet
pub record IsNew {S O : Type 0} (v : View S O) (given : ℕ) (began : Option O) : Type 0 where
  pub number : v.number ≡ given
  pub held : v.held ≡ []
  pub stamped : v.stamped ≡ None
  pub calls : v.calls ≡ []
  pub joined : v.joined ≡ []
  pub made : v.made ≡ 0
  pub origin : v.origin ≡ began

-- the opening pass has seen no turn
pub record Opens {S O : Type 0} (v : View S O) (began : Option O) : Type 0 where
  pub fresh : IsNew v 0 began
  pub opens : v.opens ≡ true
  pub seen : (part : ℕ) → seen_of v part ≡ []

-- a split gives a new pass, with the next number, which has seen what the opening pass has
pub record Splits {S O : Type 0} (v w other : View S O) : Type 0 where
  pub number : w.number ≡ v.number
  pub held : w.held ≡ v.held
  pub seen : w.seen ≡ v.seen
  pub stamped : w.stamped ≡ v.stamped
  pub calls : w.calls ≡ v.calls
  pub joined : w.joined ≡ v.joined
  pub opens : w.opens ≡ true
  pub origin : w.origin ≡ v.origin
  pub made : w.made ≡ v.made + 1
  pub fresh : IsNew other (v.made + 1) v.origin
  pub plain : other.opens ≡ false
  pub seen_too : other.seen ≡ v.seen

-- a pass that was split, which holds no part, and into which none was joined
pub record IsSpare {S O : Type 0} (v : View S O) : Type 0 where
  pub held : v.held ≡ []
  pub joined : v.joined ≡ []
  pub opens : v.opens ≡ false
  pub made : v.made ≡ 0

-- one beginning of a part's turns is the longer of two
pub record IsLonger (one another longer : List Turn) : Type 0 where
  pub either : (longer ≡ one) ⊎ (longer ≡ another)
  pub first : IsPrefix one longer
  pub second : IsPrefix another longer

-- by a join the pass keeps its calls, has those of the other as the other's, and has seen what either has
pub record Joins {S O : Type 0} (v other w : View S O) : Type 0 where
  pub number : w.number ≡ v.number
  pub held : w.held ≡ v.held
  pub stamped : w.stamped ≡ v.stamped
  pub calls : w.calls ≡ v.calls
  pub origin : w.origin ≡ v.origin
  pub joined : w.joined ≡ v.joined ++ (other.number, other.calls) ∷ other.joined
  pub opens : w.opens ≡ (v.opens || other.opens)
  pub made : w.made ≡ max v.made other.made
  pub seen : (part : ℕ) → IsLonger (seen_of v part) (seen_of other part) (seen_of w part)

-- every other pass was joined into this one
pub record IsLast {S O : Type 0} (v : View S O) : Type 0 where
  pub opens : v.opens ≡ true
  pub joined : length v.joined ≡ v.made

-- what the turns of a part say in the end: what was seen is their beginning, the entries of this pass and of each pass that
-- was joined into it are the calls that it made, in order, and a number that no pass has had has none
pub record Ends {S O : Type 0} (v : View S O) (part : ℕ) (turns : List Turn) : Type 0 where
  pub grown : IsPrefix (seen_of v part) turns
  pub own : entries_by v.number turns ≡ calls_on part v.calls
  pub joined : All (λ pass. entries_by pass.0 turns ≡ calls_on part pass.1) v.joined
  pub none_else : (pass : ℕ) → v.made < pass → entries_by pass turns ≡ []
  pub rise : StampsRise turns

-- no two entries of any parts have one stamp
abbrev pub HasOneOrder : List (List Turn) → Type 0
HasOneOrder histories = (part other : ℕ) (one another : HistoryEntry) → Contains (entries (slice_index_or histories part [])) one
    → Contains (entries (slice_index_or histories other [])) another → one.stamp ≡ another.stamp → one ≡ another

-- the share of part 0 has a row's share, the references are those that the replies gave, and each file that is referred to is open
pub record AreTied {S O : Type 0} (tie : Tie S) (v : View S O) (known : S) (shares : List S) : Type 0 where
  pub rows : (row : ℕ) (share : S) → 0 < row → slice_get shares row ≡ Some share → tie.rows row known ≡ share
  pub first : slice_get shares 0 ≡ Some known
  pub held_open : tie.held_open known
  pub own : tie.references v.number known ≡ replayed tie v.number (calls_on 0 v.calls)
  pub joined : All (λ pass. tie.references pass.0 known ≡ replayed tie pass.0 (calls_on 0 pass.1)) v.joined

-- the values that come out, by the parts: each is of its part, and its turns and its share are as its passes know them
pub record Closes {X S O : Type 0} (law : Law X S O) (v : View S O) (parts : ℕ) (values : List X) : Type 0 where
  pub count : length values ≡ parts
  pub kinds : (part : ℕ) (value : X) → slice_get values part ≡ Some value → law.is_of v.origin part value
  pub ends : (part : ℕ) (value : X) → slice_get values part ≡ Some value → Ends v part (law.turns value)
  pub order : HasOneOrder (map law.turns values)
  pub first : S
  pub tied : AreTied law.tie v first (map law.share values)
