-- A pass that is joined into another keeps the rule, and so does seeing what it has seen.
use Rattle.std.proofs.Common.{◌≡◌, ◌≢◌, ◌⊎◌, ℕ, suc, ◌+◌, ◌<◌, Bool, true, false, cond, Option, Some, None, IfSome, option_to_list, List, [], ◌∷◌, ◌++◌, length, set, sym, refl, ap, ◌∙◌, subst, inl, inr, ⊎_elim, arith, length-set, length-append, append-nil, max}
use mathlib.Core.Option.{some, some-injective}
use native.Mathlib.Decide.{ℕ_discrete}
use lib.ListN.{get_elem?}
use Rattle.std.proofs.lemmas.List.Elements.{All-cons, All-append}
use Rattle.atomic_table.specs.Table.{State}
use Rattle.atomic_table.proofs.Lists.{at_set, set_else}
use Rattle.histories.specs.declared.entry.HistoryEntry.{HistoryEntry}
use Rattle.histories.specs.Turns.{calls_on}
use Rattle.histories.specs.Tie.{replayed}
use Rattle.turn_table.specs.declared.view.Ticket.{Ticket}
use Rattle.turn_table.specs.declared.view.View.{View}
use Rattle.turn_table.specs.Values.{Law}
use Rattle.turn_table.specs.Views.{is_held}
use Rattle.turn_table.specs.Rule.{out, Standing, JoinedOk, StampOk, SeatOk, total, stuck, stuck_at, stopped, IsOutWith, IsOrderly}
use Rattle.turn_table.proofs.Totals.{total_set, put, at_put, put_here, put_else}
use Rattle.turn_table.proofs.Standings.{follows_self, Changes, joined_stay}
use Rattle.std.proofs.Common.{◌||◌}
use Rattle.atomic_table.specs.Table.{Joins}
use Rattle.turn_table.specs.Rule.{Role, unmade, active, done, weight}
use Rattle.turn_table.specs.Moves.{joiner, nobody}
use Rattle.turn_table.proofs.Draws.{unstopped}
use Rattle.turn_table.proofs.Standings.{seat_stays}

-- a seat that is at rest and holds no part
pub record IsIdle {S O : Type 0} (v : View S O) : Type 0 where
  pub alive : v.spent ≡ false
  pub waits : v.waits ≡ None
  pub also : v.also ≡ []
  pub held : v.held ≡ []
  pub used : IfSome v.stamped (λ e. e.stamp < 9223372036854775808)

nothing_held : {S : Type 0} (i : ℕ) (held : List (Ticket S)) → held ≡ [] → is_held i held ≡ false
nothing_held i held e = ap (is_held i) e

max_zero : (a b : ℕ) → a ≡ 0 → max a b ≡ b
max_zero a b e = omega arith

max_none : (a b : ℕ) → b ≡ 0 → max a b ≡ a
max_none a b e = omega arith

either_true : (a b : Bool) → (a || b) ≡ true → (b ≡ true) ⊎ ((b ≡ false) × (a ≡ true))
either_true true true e = inl refl
either_true true false e = inr (refl, refl)
either_true false true e = inl refl
either_true false false e = absurd (cc (e))

both_false : (a b : Bool) → (a || b) ≡ false → (a ≡ false) × (b ≡ false)
both_false true b e = absurd (cc (e))
both_false false b e = (refl, e)

module _ {X S O : Type 0} (law : Law X S O) (origin : Option O) (n : ℕ) where
  module _ (s : State (Option X) (View S O)) (r : IsOrderly law origin n s) (id other : ℕ) (v w : View S O) (at : get_elem? s.views id ≡ some v) (there : get_elem? s.views other ≡ some w) (apart : other ≢ id) (idle : IsIdle v) (idle_too : IsIdle w) where
    abbrev joined_standing : Standing S
    joined_standing = record r.standing { roles = put r.standing.roles w.number done; chief = cond w.opens id r.standing.chief }

    ok : SeatOk law.tie origin n r.standing id v
    ok = r.each_seat id v at idle.alive

    wok : SeatOk law.tie origin n r.standing other w
    wok = r.each_seat other w there idle_too.alive

    join_changes : Changes law.tie n id v.number r.standing joined_standing
    join_changes = record {
      follows = λ i _. follows_self id v.number (r.standing.parts i);
      referred = λ p _. refl;
      longer = λ k e h. h;
      apart = λ p d e. let clash : done ≡ active id = sym d ∙ (ap r.standing.roles e ∙ (r.each_seat id v at idle.alive).named) in absurd (cc (clash));
      done_still = λ p d. at_put r.standing.roles w.number done (λ (q : ℕ) (x : Role). r.standing.roles q ≡ done → x ≡ done) p (λ _ _. refl) (λ _ h. h) d;
    }

    -- the numbers of other seats are not the one that ends
    not_ended : (p j : ℕ) → r.standing.roles p ≡ active j → j ≢ other → p ≢ w.number
    not_ended p j a ne e = let clash : active j ≡ active other = sym a ∙ (ap r.standing.roles e ∙ (r.each_seat other w there idle_too.alive).named) in ne (cc (clash))

    role_still : (p j : ℕ) → r.standing.roles p ≡ active j → j ≢ other → joined_standing.roles p ≡ active j
    role_still p j a ne = put_else r.standing.roles w.number done p (not_ended p j a ne) ∙ a

    join_stamp : (o : Option HistoryEntry) → IfSome o (StampOk r.standing v) → IfSome o (StampOk joined_standing (joiner v w))
    join_stamp None k = tt
    join_stamp (Some e) k = record { logged = k.logged; pass = k.pass; later = k.later }

    -- the pass that ends is one that was joined
    ended_ok : JoinedOk law.tie n joined_standing (w.number, w.calls)
    ended_ok = let k = r.each_seat other w there idle_too.alive in record {
      done = put_here r.standing.roles w.number done;
      own = k.own;
      referred = k.referred ∙ ap (replayed law.tie w.number) (ap (λ (b : Bool). calls_on 0 w.calls ++ cond b (option_to_list w.stamped) []) (nothing_held 0 w.held idle_too.held) ∙ append-nil (calls_on 0 w.calls));
    }

    -- two passes don't both open
    one_opens : v.opens ≡ true → w.opens ≡ true → ⊥
    one_opens a b = apart (((r.each_seat other w there idle_too.alive).chief b).0 ∙ sym ((r.each_seat id v at idle.alive).chief a).0)

    plain_if : (b : Bool) → v.opens ≡ b → w.opens ≡ true → v.opens ≡ false
    plain_if true a o = absurd (one_opens a o)
    plain_if false a o = a

    join_chief : (v.opens || w.opens) ≡ true → (id ≡ joined_standing.chief) × (max v.made w.made ≡ r.standing.made)
    join_chief o = ⊎_elim
        (λ (b : w.opens ≡ true). (sym (ap (λ (z : Bool). cond z id r.standing.chief) b), max_zero v.made w.made ((r.each_seat id v at idle.alive).plain (plain_if v.opens refl b)) ∙ ((r.each_seat other w there idle_too.alive).chief b).1))
        (λ (b : (w.opens ≡ false) × (v.opens ≡ true)). (((r.each_seat id v at idle.alive).chief b.1).0 ∙ sym (ap (λ (z : Bool). cond z id r.standing.chief) b.0), max_none v.made w.made ((r.each_seat other w there idle_too.alive).plain b.0) ∙ ((r.each_seat id v at idle.alive).chief b.1).1))
        (either_true v.opens w.opens o)

    join_seat : SeatOk law.tie origin n joined_standing id (joiner v w)
    join_seat = let k = r.each_seat id v at idle.alive in let l = r.each_seat other w there idle_too.alive in record {
      waiting = k.waiting;
      holding = k.holding;
      saw = k.saw;
      also = l.saw;
      wide = k.wide;
      wide_too = (let e : length w.seen ≡ n = l.wide in omega arith);
      stamp = join_stamp v.stamped k.stamp;
      named = role_still v.number id k.named (λ e. apart (sym e));
      own = k.own;
      referred = k.referred;
      joined = All-append (JoinedOk law.tie n joined_standing) v.joined ((w.number, w.calls) ∷ w.joined) (joined_stay law.tie n id v.number r.standing joined_standing join_changes v.joined k.joined)
          (All-cons (JoinedOk law.tie n joined_standing) (w.number, w.calls) w.joined ended_ok (joined_stay law.tie n id v.number r.standing joined_standing join_changes w.joined l.joined));
      chief = join_chief;
      plain = λ e. let b = both_false v.opens w.opens e in max_zero v.made w.made (k.plain b.0) ∙ l.plain b.1;
      origin = k.origin;
    }

    abbrev views_now : List (View S O)
    views_now = set (set s.views id (joiner v w)) other nobody

    join_seats : (j : ℕ) (u : View S O) → get_elem? views_now j ≡ some u → u.spent ≡ false → SeatOk law.tie origin n joined_standing j u
    join_seats j u e alive' = ⊎_elim
        (λ (x : (j ≡ other) × (nobody ≡ u)). let clash : true ≡ false = ap (λ (z : View S O). z.spent) x.1 ∙ alive' in absurd (cc (clash)))
        (λ (x : (j ≢ other) × (get_elem? (set s.views id (joiner v w)) j ≡ some u)). ⊎_elim
        (λ (y : (j ≡ id) × (joiner v w ≡ u)). subst (λ (z : ℕ × View S O). SeatOk law.tie origin n joined_standing z.0 z.1) (λ k. (sym y.0 k, y.1 k)) join_seat)
        (λ (y : (j ≢ id) × (get_elem? s.views j ≡ some u)). let k = r.each_seat j u y.1 alive' in
        seat_stays law.tie origin n id v.number r.standing joined_standing join_changes j y.0 u k
        (λ e'. let clash : active j ≡ active id = sym k.named ∙ (ap r.standing.roles e' ∙ (r.each_seat id v at idle.alive).named) in y.0 (cc (clash)))
        (role_still u.number j k.named x.0) (λ o. third w.opens refl j x.0 (k.chief o)))
        (at_set s.views id j (joiner v w) u x.1))
        (at_set (set s.views id (joiner v w)) other j nobody u e)
      where
        third : (b : Bool) → w.opens ≡ b → (j : ℕ) → j ≢ other → {made : ℕ} → (j ≡ r.standing.chief) × (made ≡ r.standing.made) → (j ≡ cond w.opens id r.standing.chief) × (made ≡ r.standing.made)
        third true o j ne k = absurd (ne (k.0 ∙ sym ((r.each_seat other w there idle_too.alive).chief o).0))
        third false o j ne k = (k.0 ∙ sym (ap (λ (z : Bool). cond z id r.standing.chief) o), k.1)

    join_out : (i j : ℕ) → i < n → (r.standing.parts i).phase ≡ out j → IsOutWith views_now i j
    join_out i j l e = go (r.each_out i j l e) (ℕ_discrete j id) (ℕ_discrete j other)
      where
        go : IsOutWith s.views i j → Dec (j ≡ id) → Dec (j ≡ other) → IsOutWith views_now i j
        go o (yes same) d = let is : o.view ≡ v = some-injective o.view v (sym o.seat ∙ (ap (get_elem? s.views) same ∙ at)) in
            let clash : true ≡ false = sym o.held ∙ (ap (λ (u : View S O). is_held i u.held) is ∙ nothing_held i v.held idle.held) in absurd (cc (clash))
        go o (no ne) (yes same) = let is : o.view ≡ w = some-injective o.view w (sym o.seat ∙ (ap (get_elem? s.views) same ∙ there)) in
            let clash : true ≡ false = sym o.held ∙ (ap (λ (u : View S O). is_held i u.held) is ∙ nothing_held i w.held idle_too.held) in absurd (cc (clash))
        go o (no ne) (no neo) = record { view = o.view; seat = set_else (set s.views id (joiner v w)) other j nobody neo ∙ (set_else s.views id j (joiner v w) ne ∙ o.seat); alive = o.alive; held = o.held }

    join_total : (f : View S O → ℕ) → total f views_now + f v + f w ≡ total f s.views + f (joiner v w) + f nobody
    join_total f = let a = total_set f s.views id v (joiner v w) at in
        let b = total_set f (set s.views id (joiner v w)) other w nobody (set_else s.views id other (joiner v w) apart ∙ there) in omega arith

    weight_v : weight v ≡ length v.joined + 1
    weight_v = ap (λ (b : Bool). cond b 0 (length v.joined + 1)) idle.alive

    weight_w : weight w ≡ length w.joined + 1
    weight_w = ap (λ (b : Bool). cond b 0 (length w.joined + 1)) idle_too.alive

    weight_both : weight (joiner v w) ≡ length v.joined + 1 + (length w.joined + 1)
    weight_both = ap (λ (b : Bool). cond b 0 (length (v.joined ++ (w.number, w.calls) ∷ w.joined) + 1)) idle.alive ∙ (let l : length (v.joined ++ (w.number, w.calls) ∷ w.joined) ≡ length v.joined + suc (length w.joined) = length-append v.joined ((w.number, w.calls) ∷ w.joined) in omega arith)

    pub join_orderly : IsOrderly law origin n (record { words = s.words; homes = s.homes; views = views_now })
    join_orderly = record {
      standing = joined_standing;
      words_wide = r.words_wide;
      homes_wide = r.homes_wide;
      stamp_is = r.stamp_is;
      each_part = r.each_part;
      each_seat = join_seats;
      each_out = join_out;
      room = λ i l. let room = r.room i l in let c = join_total (stuck i) in let a : stuck i v ≡ stuck i (joiner v w) = refl in let b : stuck i w ≡ 0 = ap (stuck_at i) idle_too.waits in omega arith;
      stamp_room = let room = r.stamp_room in let c = join_total stopped in let a : stopped v ≡ stopped (joiner v w) = refl in let b : stopped w ≡ 0 = unstopped w.stamped idle_too.used in omega arith;
      counted = length-set (set s.views id (joiner v w)) other nobody ∙ (length-set s.views id (joiner v w) ∙ r.counted);
      few = r.few;
      weighed = let c = join_total weight in let o = r.weighed in let a = weight_v in let b = weight_w in let d = weight_both in let z : weight {S = S} {O = O} nobody ≡ 0 = refl in omega arith;
      unborn = λ p l. put_else r.standing.roles w.number done p (λ e. let clash : unmade ≡ active other = sym (r.unborn p l) ∙ (ap r.standing.roles e ∙ (r.each_seat other w there idle_too.alive).named) in absurd (cc (clash))) ∙ r.unborn p l;
      silent = λ p e. let ne : p ≢ w.number = (λ same. let clash : done ≡ unmade = sym (put_here r.standing.roles w.number done) ∙ (ap (put r.standing.roles w.number done) (sym same) ∙ e) in absurd (cc (clash))) in
          let k = r.silent p (sym (put_else r.standing.roles w.number done p ne) ∙ e) in record { entries = k.entries; referred = k.referred };
      tied = r.tied;
      held_open = r.held_open;
    }

  -- a pass that holds no part may be joined into another that holds none
  pub joins : (id other : ℕ) (v w : View S O) → IsIdle v → IsIdle w → Joins (IsOrderly law origin n) id v other w (joiner v w) nobody
  joins id other v w idle idle_too s r at apart there = join_orderly s r id other v w at (sym (set_else s.views id other (joiner v w) apart) ∙ there) apart idle idle_too
