-- What the value of a part tells, whichever part it is.
use Rattle.std.specs.Prelude.{◌≡◌, ℕ, ◌<◌, Option, Some, List, ◌∷◌, length, map, slice_index}
use Rattle.histories.specs.Turns.{Turn}
use Rattle.histories.specs.Tie.{Tie}
use Rattle.turn_table.specs.declared.held.Held.{Held}
use Rattle.turn_table.specs.declared.held.Held.TheVariants.{First, Row}

module _ {A B : Type 0} where
  abbrev pub turns_of : (A → List Turn) → (B → List Turn) → Held A B → List Turn
  turns_of first row (First value) = first value
  turns_of first row (Row value) = row value

  abbrev pub share_of : {S : Type 0} → (A → S) → (B → S) → Held A B → S
  share_of first row (First value) = first value
  share_of first row (Row value) = row value

  -- the value is of the part's kind, and that of part 0 began with this
  abbrev pub IsOf : {O : Type 0} → (A → O) → Option O → ℕ → Held A B → Type 0
  IsOf origin began part (First value) = (part ≡ 0) × (began ≡ Some (origin value))
  IsOf origin began part (Row value) = 0 < part

  -- the slots of the rows
  abbrev pub row_slots : List B → List (Option (Held A B))
  row_slots rows = map (λ row. Some (Row row)) rows

  -- the slots of a table with these values: part 0's, and then the rows'
  abbrev pub slots_from : A → List B → List (Option (Held A B))
  slots_from first rows = Some (First first) ∷ row_slots rows

-- so many words, each of them 0
pub record AreZeros (words : List ℕ) (count : ℕ) : Type 0 where
  pub count_is : length words ≡ count
  pub each : (i : ℕ) → slice_index words i ≡ 0

-- what the values of the parts tell, and how their shares hang together
pub record Law (X S O : Type 0) : Type 1 where
  pub turns : X → List Turn
  pub share : X → S
  pub is_of : Option O → ℕ → X → Type 0
  pub tie : Tie S

abbrev pub law_of : {X S O : Type 0} → (X → List Turn) → (X → S) → (Option O → ℕ → X → Type 0) → Tie S → Law X S O
law_of turns share is_of tie = record { turns = turns; share = share; is_of = is_of; tie = tie }
