-- Values that are moved into the slots of a table, and out of them again.
use Rattle.std.proofs.Common.{◌≡◌, ℕ, zero, suc, ◌+◌, ◌<◌, Option, Some, List, [], ◌∷◌, ◌++◌, reverse, drop, length, sym, refl, ap, ◌∙◌, subst, arith}
use Rattle.std.proofs.lemmas.List.{reverse-append}
use Rattle.std.proofs.Common.{All, Bool, cond, slice_get, ne_eqb}
use Rattle.std.proofs.lemmas.List.Elements.{All-head, All-tail}
use mathlib.Core.Option.{some}
use lib.ListN.{get_elem?}
use Rattle.atomic_table.specs.Table.{opening}
use Rattle.atomic_table.proofs.Lists.{at_map}
use Rattle.histories.specs.Turns.{Turn}
use Rattle.histories.specs.Tie.{Tie}
use Rattle.turn_table.specs.Moves.{opener}
use Rattle.turn_table.specs.Rule.{IsOrderly}
use Rattle.turn_table.proofs.Begins.{IsFilled, begins}
use Rattle.turn_table.specs.declared.held.Held.{Held}
use Rattle.turn_table.specs.declared.held.Held.TheVariants.{First, Row}
use Rattle.turn_table.specs.Values.{AreZeros, IsOf, Law, law_of, row_slots, share_of, slots_from, turns_of}

module _ {A B : Type 0} where
  -- what lies between rows is a row
  pub row_between : (xs : List B) (y : Option (Held A B)) (ys : List (Option (Held A B))) (rows : List B) → row_slots xs ++ (y ∷ ys) ≡ row_slots rows → (row : B) × (y ≡ Some (Row row))
  row_between [] y ys [] e = absurd (cc (e))
  row_between [] y ys (row ∷ rows) e = (row, cc (e))
  row_between (x ∷ xs) y ys [] e = absurd (cc (e))
  row_between (x ∷ xs) y ys (row ∷ rows) e = row_between xs y ys rows (cc (e))

  -- the last slot is a row's
  pub last_is_row : (xs : List B) (slots slots' : List (Option (Held A B))) (y : Option (Held A B)) (whole : List (Option (Held A B))) (first : A) (rows : List B) → whole ≡ slots_from first rows → slots ≡ slots' ++ y ∷ []
      → row_slots xs ++ reverse slots ≡ drop 1 whole → (row : B) × (y ≡ Some (Row row))
  last_is_row xs slots slots' y whole first rows is popped e = row_between xs y (reverse slots') rows
      (sym (ap (λ (l : List (Option (Held A B))). row_slots xs ++ l) (ap (λ (l : List (Option (Held A B))). reverse l) popped ∙ reverse-append slots' (y ∷ []))) ∙ (e ∙ ap (λ (l : List (Option (Held A B))). drop 1 l) is))

elem_of_get : {Y : Type 0} (l : List Y) (k : ℕ) (y : Y) → slice_get l k ≡ Some y → get_elem? l k ≡ some y
elem_of_get [] k y e = absurd (cc (e))
elem_of_get (z ∷ zs) zero y e = let same : z ≡ y = cc (e) in ap some same
elem_of_get (z ∷ zs) (suc k) y e = elem_of_get zs k y e

get_some : {Y : Type 0} (l : List Y) (k : ℕ) → k < length l → (y : Y) × (slice_get l k ≡ Some y)
get_some [] k h = absurd (omega arith)
get_some (y ∷ ys) zero h = (y, refl)
get_some (y ∷ ys) (suc k) h = get_some ys k (omega arith)

all_got : {Y : Type 0} (P : Y → Type 0) (l : List Y) (k : ℕ) (y : Y) → All P l → slice_get l k ≡ Some y → P y
all_got P [] k y all e = absurd (cc (e))
all_got P (z ∷ zs) zero y all e = let same : z ≡ y = cc (e) in subst P same (All-head P z zs all)
all_got P (z ∷ zs) (suc k) y all e = all_got P zs k y (All-tail P z zs all) e

-- the values of a new table lie in its slots, with no turn, and with the shares of parts that no call has reached
module _ {A B S O : Type 0} (first_turns : A → List Turn) (row_turns : B → List Turn) (first_share : A → S) (row_share : B → S) (origin : A → O) (tie : Tie S) (first : A) (rows : List B) where
  abbrev new_law : Law (Held A B) S O
  new_law = law_of (turns_of first_turns row_turns) (share_of first_share row_share) (IsOf origin) tie

  pub filled : first_turns first ≡ [] → All (λ row. row_turns row ≡ []) rows → first_share first ≡ tie.nothing → ((k : ℕ) (row : B) → slice_get rows k ≡ Some row → row_share row ≡ tie.rows (k + 1) tie.nothing)
      → (slots : List (Option (Held A B))) → slots ≡ slots_from first rows → (i : ℕ) → i < length rows + 1 → IsFilled new_law (Some (origin first)) slots i
  filled no_turn no_turns share shares slots is zero l = record {
    value = First first;
    slot = ap (λ (s : List (Option (Held A B))). get_elem? s 0) is;
    turns = no_turn;
    share = share;
    is_of = (refl, refl);
  }
  filled no_turn no_turns share shares slots is (suc k) l = let row = get_some rows k (omega arith) in record {
    value = Row row.0;
    slot = ap (λ (s : List (Option (Held A B))). get_elem? s (suc k)) is ∙ at_map {B = Option (Held A B)} (λ (r : B). Some (Row r)) rows k row.0 (elem_of_get rows k row.0 row.1);
    turns = all_got (λ (r : B). row_turns r ≡ []) rows k row.0 no_turns row.1;
    share = shares k row.0 row.1 ∙ (ap (λ (m : ℕ). tie.rows m tie.nothing) (let one : k + 1 ≡ suc k = omega arith in one) ∙ sym (ap (λ (b : Bool). cond b tie.nothing (tie.rows (suc k) tie.nothing)) (ne_eqb (suc k) 0 (λ (e : suc k ≡ 0). omega arith))));
    is_of = (let above : 0 < suc k = omega arith in above);
  }

  rows-length : (l : List B) → length (row_slots {A = A} l) ≡ length l
  rows-length [] = refl
  rows-length (r ∷ rs) = ap suc (rows-length rs)

  pub new_table : first_turns first ≡ [] → All (λ row. row_turns row ≡ []) rows → first_share first ≡ tie.nothing → ((k : ℕ) (row : B) → slice_get rows k ≡ Some row → row_share row ≡ tie.rows (k + 1) tie.nothing)
      → (slots : List (Option (Held A B))) → slots ≡ slots_from first rows → (n : ℕ) → n ≡ length rows + 1 → (words : List ℕ) → AreZeros words (n + n + 1) → tie.held_open tie.nothing → (began : A) → began ≡ first
      → IsOrderly new_law (Some (origin began)) n (opening words slots (opener n (Some (origin began))))
  new_table no_turn no_turns share shares slots is n count words zeros opened began same =
      subst (λ (a : A). IsOrderly new_law (Some (origin a)) n (opening words slots (opener n (Some (origin a))))) (sym same)
      (begins new_law (Some (origin first)) n words slots (omega arith) zeros (ap length is ∙ (ap suc (rows-length rows) ∙ (let e : suc (length rows) ≡ n = omega arith in e))) opened
      (λ i l. filled no_turn no_turns share shares slots is i (subst (λ (m : ℕ). i < m) count l)))

module _ {A B : Type 0} where
  same_rows : (bs cs : List B) → row_slots {A = A} bs ≡ row_slots cs → bs ≡ cs
  same_rows [] [] e = refl
  same_rows [] (c ∷ cs) e = absurd (cc (e))
  same_rows (b ∷ bs) [] e = absurd (cc (e))
  same_rows (b ∷ bs) (c ∷ cs) e = let heads : b ≡ c = cc (e) in let tails : bs ≡ cs = same_rows bs cs (cc (e)) in ap (λ (z : B × List B). z.0 ∷ z.1) (λ i. (heads i, tails i))

  -- the values that were moved in come out
  pub same_values : (a c : A) (bs cs : List B) (slots slots' : List (Option (Held A B))) → slots ≡ slots_from a bs → slots' ≡ slots → slots' ≡ slots_from c cs → (c ≡ a) × (cs ≡ bs)
  same_values a c bs cs slots slots' is same back = let e : slots_from c cs ≡ slots_from a bs = sym back ∙ (same ∙ is) in (cc (e), same_rows cs bs (cc (e)))
