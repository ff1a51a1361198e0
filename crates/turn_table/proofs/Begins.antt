-- The rule holds of a new table, and what it tells of the values when the table closes.
use Rattle.std.proofs.Common.{◌≡◌, ℕ, zero, suc, ◌+◌, ◌<◌, ◌==◌, Bool, true, false, cond, Option, Some, None, List, [], ◌∷◌, map, length, get_or, sym, refl, ap, ◌∙◌, subst, arith, ne_eqb}
use mathlib.Core.Option.{none, some, some-injective, some-ne-none}
use mathlib.Core.Option as maybe
use mathlib.Core.List.{IsPrefix}
use lib.ListN.{get_elem?}
use Rattle.std.proofs.lemmas.List.Elements.{All-nil}
use Rattle.atomic_table.specs.Table.{Me}
use Rattle.histories.specs.Turns.{Turn}
use Rattle.histories.specs.Tie.{Tie}
use Rattle.turn_table.specs.declared.view.View.{View}
use Rattle.turn_table.specs.Values.{Law}
use Rattle.turn_table.specs.Rule.{home, out, Part, Standing, IsLogged, JoinedOk, SeatOk, IsOrderly}
use Rattle.turn_table.proofs.Totals.{put, put_here, put_else}
use Rattle.std.proofs.Common.{replicate}
use Rattle.std.proofs.lemmas.List.{length-replicate}
use Rattle.atomic_table.specs.Table.{opening}
use Rattle.turn_table.specs.Rule.{Role, unmade, active}
use Rattle.turn_table.specs.Moves.{IsAtRest, opener}
use Rattle.turn_table.specs.Passes.{Opens}
use Rattle.turn_table.specs.Values.{AreZeros}
use Rattle.turn_table.proofs.Prefixes.{prefix_nil}

-- the shares of parts that no call has reached
abbrev pub start_share : {S : Type 0} → Tie S → ℕ → S
start_share tie i = cond (i == 0) tie.nothing (tie.rows i tie.nothing)

-- a value lies in each slot; it has no turn, and the share of a part that no call has reached
pub record IsFilled {X S O : Type 0} (law : Law X S O) (origin : Option O) (slots : List (Option X)) (i : ℕ) : Type 0 where
  pub value : X
  pub slot : get_elem? slots i ≡ some (Some value)
  pub turns : law.turns value ≡ []
  pub share : law.share value ≡ start_share law.tie i
  pub is_of : law.is_of origin i value

map_at : {A B : Type 0} (f : A → B) (l : List A) (i : ℕ) (a : A) → get_elem? l i ≡ some a → get_elem? (map f l) i ≡ some (f a)
map_at f [] i a e = absurd (some-ne-none a (sym e))
map_at f (x ∷ xs) zero a e = ap (λ (z : maybe.Option _). z) (ap (λ y. some (f y)) (some-injective x a e))
map_at f (x ∷ xs) (suc i) a e = map_at f xs i a e

length-mapped : {A B : Type 0} (f : A → B) (l : List A) → length (map f l) ≡ length l
length-mapped f [] = refl
length-mapped f (x ∷ xs) = ap suc (length-mapped f xs)

same-at : {A : Type 0} (n i : ℕ) (a : A) → get_or (replicate n a) i a ≡ a
same-at zero i a = refl
same-at (suc n) zero a = refl
same-at (suc n) (suc i) a = same-at n i a

one_seat : {A : Type 0} (v u : A) (j : ℕ) → get_elem? (v ∷ []) j ≡ some u → (j ≡ 0) × (v ≡ u)
one_seat v u zero e = (refl, some-injective v u e)
one_seat v u (suc j) e = absurd (some-ne-none u (sym e))

module _ {X S O : Type 0} (law : Law X S O) (origin : Option O) (n : ℕ) where
  abbrev start_part : ℕ → Part S
  start_part i = record { drawn = 0; served = 0; who = λ _. 0; phase = home; told = []; share = start_share law.tie i }

  abbrev start_roles : ℕ → Role
  start_roles = put (λ _. unmade) 0 (active 0)

  abbrev start_standing : Standing S
  start_standing = record { parts = start_part; log = []; roles = start_roles; made = 0; chief = 0 }

  start_seat : 0 < n → SeatOk law.tie origin n start_standing 0 (opener n origin)
  unfolding opener
  start_seat positive = record {
    waiting = tt;
    holding = λ i t e. absurd (let clash : None ≡ Some t = e in cc (clash));
    saw = λ i l. subst (λ (ts : List Turn). IsPrefix ts []) (sym (same-at n i [])) (prefix_nil []);
    also = λ i l. prefix_nil [];
    wide = length-replicate n [];
    wide_too = omega arith;
    stamp = tt;
    named = put_here (λ _. unmade) 0 (active 0);
    own = λ i l. refl;
    referred = refl;
    joined = All-nil (JoinedOk law.tie n start_standing);
    chief = λ _. (refl, refl);
    plain = λ e. refl;
    origin = refl;
  }

  -- the opening state of a table
  pub begins : (words : List ℕ) (slots : List (Option X)) → 0 < n → AreZeros words (n + n + 1) → length slots ≡ n → law.tie.held_open law.tie.nothing → ((i : ℕ) → i < n → IsFilled law origin slots i)
      → IsOrderly law origin n (opening words slots (opener n origin))
  unfolding opener
  begins words slots positive zeros long opened filled = record {
    standing = start_standing;
    words_wide = zeros.count_is;
    homes_wide = length-mapped some slots ∙ long;
    stamp_is = zeros.each (n + n);
    each_part = λ i l. let f = filled i l in record {
      drawn_is = zeros.each i;
      served_is = zeros.each (n + i);
      queue = omega arith;
      counted = refl;
      lies = (f.value, map_at some slots i (Some f.value) f.slot, f.turns, f.share, f.is_of);
      logged = All-nil (IsLogged []);
      rise = λ i' j d a b. absurd (omega arith);
    };
    each_seat = λ j u e alive. let is = one_seat (opener n origin) u j e in subst (λ (z : ℕ × View S O). SeatOk law.tie origin n start_standing z.0 z.1) (λ k. (sym is.0 k, is.1 k)) (start_seat positive);
    each_out = λ i j l e. let clash : home ≡ out j = e in absurd (cc (clash));
    room = λ i l. omega arith;
    stamp_room = omega arith;
    counted = refl;
    few = omega arith;
    weighed = refl;
    unborn = λ p l. put_else (λ _. unmade) 0 (active 0) p (λ (e : p ≡ 0). omega arith);
    silent = λ p e. record { entries = λ i l. refl; referred = refl };
    tied = λ i pos l. sym (ap (λ (b : Bool). cond b law.tie.nothing (law.tie.rows i law.tie.nothing)) (ne_eqb i 0 (λ (e : i ≡ 0). omega arith)));
    held_open = opened;
  }

pub opener_opens : {S O : Type 0} (n : ℕ) (origin : Option O) → Opens {S = S} (opener n origin) origin
unfolding opener
opener_opens n origin = record {
  fresh = record { number = refl; held = refl; stamped = refl; calls = refl; joined = refl; made = refl; origin = refl };
  opens = refl;
  seen = λ part. same-at n part [];
}

-- a new pass is at rest
pub opener_rests : {X S O : Type 0} (n : ℕ) (origin : Option O) → IsAtRest {X = X} {S = S} n (opener n origin, [])
unfolding opener
opener_rests n origin = record { alive = refl; waits = refl; also = refl; within = λ i h. let clash : false ≡ true = h in absurd (cc (clash)); slots = refl; apart = tt; used = tt }

pub opener_counts : (S : Type 0) {O : Type 0} (n : ℕ) (origin : Option O) → (0 ≡ (opener {S = S} n origin).number) × (0 ≡ (opener {S = S} n origin).made)
unfolding opener
opener_counts S n origin = (refl, refl)

module _ {X S O : Type 0} (n : ℕ) where
  -- the opening pass is at rest
  pub pass_rests : (m : Me (Option X) (View S O)) (origin : Option O) → m ≡ (opener n origin, []) → IsAtRest n m × (0 ≡ m.0.number) × (0 ≡ m.0.made)
  pass_rests m origin e = subst (λ (z : Me (Option X) (View S O)). IsAtRest n z × (0 ≡ z.0.number) × (0 ≡ z.0.made)) (sym e) (let c = opener_counts S n origin in (opener_rests n origin, c.0, c.1))

  pub pass_opens : (m : Me (Option X) (View S O)) (origin origin' : Option O) → m ≡ (opener n origin, []) → origin ≡ origin' → Opens m.0 origin'
  pass_opens m origin origin' e same = subst (λ (o : Option O). Opens m.0 o) same (subst (λ (z : Me (Option X) (View S O)). Opens z.0 origin) (sym e) (opener_opens {S = S} n origin))
