-- Drawing a ticket, looking whose turn it is, and bringing a slot to the front keep the rule.
use Rattle.std.proofs.Common.{◌≡◌, ◌≢◌, ℕ, ◌+◌, ◌%◌, ◌<◌, ◌≤◌, Bool, true, false, cond, ◌&&◌, ◌==◌, nat_le, option_to_list, ap₂, eq-eqb, Option, Some, None, IfSome, List, [], ◌∷◌, ◌++◌, length, get_or, set, sym, refl, ap, ◌∙◌, subst, arith, length-set, get_or-set_other, get_or-set_same, mod-eq_of_lt}
use mathlib.Core.Option.{none, some, some-injective}
use Rattle.std.proofs.lemmas.Bool.Decides.{nat_tests}
use mathlib.Core.List.{IsPrefix}
use lib.ListN.{get_elem?}
use Rattle.atomic_table.specs.Table.{State, Me, step, keeps, Allows}
use Rattle.histories.specs.declared.entry.HistoryEntry.{HistoryEntry}
use Rattle.histories.specs.Turns.{Turn, entries_by, calls_on}
use Rattle.histories.specs.Tie.{replayed}
use Rattle.turn_table.specs.declared.view.Ticket.{Ticket}
use Rattle.turn_table.specs.declared.view.Waiting.{Waiting}
use Rattle.turn_table.specs.declared.view.View.{View}
use Rattle.turn_table.specs.Values.{Law}
use Rattle.turn_table.specs.Views.{is_held, ticket_of, seen_of, asked, IsFresh}
use Rattle.turn_table.specs.Rule.{Phase, home, out, Part, Standing, Waits, HasTurn, Lies, PartOk, SeatOk, total, stuck, stuck_at, stopped, stopped_at, IsOrderly}
use Rattle.turn_table.specs.Moves.{draws, waiter}
use Rattle.turn_table.proofs.Totals.{total_set, total_most, put, at_put, put_here, put_else}
use Rattle.turn_table.proofs.Standings.{Follows, follows_self, Changes, changes_of, joined_stay, Moves, moved, part_stays}
use Rattle.turn_table.proofs.Prefixes.{prefix_self}

one_most : (b : Bool) → cond b 1 0 ≤ 1
one_most true = omega arith
one_most false = omega arith

-- a view counts for one pass that waits for good at most
stuck_most : (i : ℕ) (o : Option Waiting) → stuck_at i o ≤ 1
stuck_most i None = omega arith
stuck_most i (Some t) = one_most ((t.part == i) && nat_le 9223372036854775808 t.number)

pub unstopped : (o : Option HistoryEntry) → IfSome o (λ e. e.stamp < 9223372036854775808) → stopped_at o ≡ 0
unstopped None used = refl
unstopped (Some e) used = ap (λ (b : Bool). cond b 1 0) (leb-false' 9223372036854775808 e.stamp used)
  where
    leb-false' : (a b : ℕ) → b < a → nat_le a b ≡ false
    leb-false' a b l = grind (arith, nat_tests)

-- a ticket that is used counts for none, and any other for one
stuck_more : (part k d t t' : ℕ) → k ≡ d → d ≤ 9223372036854775808 + t → t' ≡ t + stuck_at part (Some (record { part = part; number = k })) → d + 1 ≤ 9223372036854775808 + t'
stuck_more part k d t t' is room more = go (nat_le 9223372036854775808 k) refl
  where
    go : (b : Bool) → nat_le 9223372036854775808 k ≡ b → d + 1 ≤ 9223372036854775808 + t'
    go true e = let one : stuck_at part (Some (record { part = part; number = k })) ≡ 1 = ap₂ (λ (a b : Bool). cond (a && b) 1 0) (eq-eqb part part refl) e in omega arith
    go false e = let few : k < 9223372036854775808 = grind (arith, nat_tests) in omega arith

-- what was asked on part 0 does not change where a pass is fresh and its stamp is forgotten
pub asked_fresh : {S O : Type 0} (v : View S O) (w : Option Waiting) → IsFresh v → asked (record v { waits = w; stamped = None }) ≡ asked v
asked_fresh v w fresh = ap (λ (es : List HistoryEntry). calls_on 0 v.calls ++ es) (go v.stamped v.held fresh)
  where
    go : {S : Type 0} (o : Option HistoryEntry) (held : List (Ticket S)) → IfSome o (λ _. held ≡ []) → cond (is_held 0 held) [] [] ≡ cond (is_held 0 held) (option_to_list o) []
    go None held k = refl
    go (Some e) held k = ap (λ (b : Bool). cond b [] []) (ap (is_held 0) k) ∙ sym (ap (λ (b : Bool). cond b (e ∷ []) []) (ap (is_held 0) k))

-- the two parts differ at most in who drew tickets
abbrev pub IsAlike : {S : Type 0} → Part S → Part S → Type 0
IsAlike p q = (q.phase ≡ p.phase) × (q.served ≡ p.served) × (q.told ≡ p.told) × (q.share ≡ p.share)

-- the part, with one ticket more, which the seat drew
abbrev pub drawn_by : {S : Type 0} → ℕ → Part S → Part S
drawn_by id p = record p { drawn = p.drawn + 1; who = put p.who p.drawn id }

drawn_follows : {S : Type 0} (id num : ℕ) (p : Part S) → Follows id num p (drawn_by id p)
drawn_follows id num p = record {
  waiting = λ j k ne w. let under : k < p.drawn = w.drawn in record { due = w.due; drawn = omega arith; who = put_else p.who p.drawn id k (λ (e : k ≡ p.drawn). omega arith) ∙ w.who; waits = w.waits };
  holding = λ j _ _. (refl, refl, refl, refl);
  away = λ j _ e. e;
  grown = prefix_self p.told;
  calls = λ r _. refl;
}

module _ {X S O : Type 0} (law : Law X S O) (origin : Option O) (n : ℕ) where
  -- what a pass knows of its parts stays so where the parts are alike
  pub seat_alike : (st st' : Standing S) (id : ℕ) (v w : View S O) → ((i : ℕ) → IsAlike (st.parts i) (st'.parts i)) → SeatOk law.tie origin n st id v
      → ((i : ℕ) → ticket_of i w.held ≡ ticket_of i v.held) → w.seen ≡ v.seen → (i : ℕ) (t : Ticket S) → ticket_of i w.held ≡ Some t → (i < n) × HasTurn (st'.parts i) id t (seen_of w i)
  seat_alike st st' id v w alike ok same seen i t e = let h = ok.holding i t (sym (same i) ∙ e) in let a = alike i in
      (h.0, record { number = h.1.number ∙ sym a.1; out_with = a.0 ∙ h.1.out_with; share = h.1.share ∙ sym a.3; saw = ap (λ (l : List (List Turn)). get_or l i []) seen ∙ (h.1.saw ∙ sym a.2) })

  module _ (s : State (Option X) (View S O)) (r : IsOrderly law origin n s) (id part : ℕ) (v : View S O) (within : part < n) (at : get_elem? s.views id ≡ some v) (alive : v.spent ≡ false) where
    drawn_alike : (i : ℕ) → IsAlike (r.standing.parts i) (put r.standing.parts part (drawn_by id (r.standing.parts part)) i)
    drawn_alike i = at_put r.standing.parts part (drawn_by id (r.standing.parts part)) (λ (j : ℕ) (q : Part S). IsAlike (r.standing.parts j) q) i (λ _. (refl, refl, refl, refl)) (λ _. (refl, refl, refl, refl))

    -- tickets don't wrap: those that aren't used are no more than the passes
    ticket_small : get_or s.words part 0 + 1 < 18446744073709551616
    ticket_small = let total' : ℕ = total (stuck part) s.views in let most : total' ≤ length s.views = total_most (stuck part) s.views (λ u. stuck_most part u.waits) in
        let few : r.standing.made < 4294967296 = r.few in let is : get_or s.words part 0 ≡ (r.standing.parts part).drawn = (r.each_part part within).drawn_is in let m : ℕ = r.standing.made in let c : length s.views ≡ m + 1 = r.counted in
        let d : ℕ = (r.standing.parts part).drawn in let room : d ≤ 9223372036854775808 + total' = r.room part within in omega arith

    drawn_changes : Changes law.tie n id v.number r.standing (record r.standing { parts = put r.standing.parts part (drawn_by id (r.standing.parts part)); log = r.standing.log })
    drawn_changes = changes_of law origin n s r id v (put r.standing.parts part (drawn_by id (r.standing.parts part))) r.standing.log (r.each_seat id v at alive)
        (λ i _. at_put r.standing.parts part (drawn_by id (r.standing.parts part)) (λ (j : ℕ) (q : Part S). Follows id v.number (r.standing.parts j) q) i (λ _. drawn_follows id v.number (r.standing.parts part)) (λ _. follows_self id v.number (r.standing.parts i)))
        (λ p _. ap (law.tie.references p) (drawn_alike 0).3) (λ k e h. h)

    -- the word of the part counts one more
    drawn_part : (i : ℕ) → i < n → PartOk law origin n r.standing.log (set s.words part (get_or s.words part 0 + 1)) s.homes i (put r.standing.parts part (drawn_by id (r.standing.parts part)) i)
    drawn_part i l = at_put r.standing.parts part (drawn_by id (r.standing.parts part)) (λ (j : ℕ) (q : Part S). j < n → PartOk law origin n r.standing.log (set s.words part (get_or s.words part 0 + 1)) s.homes j q) i (λ _. here)
        (λ ne k. part_stays law origin n r.standing.log r.standing.log s.words (set s.words part (get_or s.words part 0 + 1)) s.homes s.homes i (r.standing.parts i) (λ _ _ h. h)
        (get_or-set_other s.words part i (get_or s.words part 0 + 1) 0 ne) (get_or-set_other s.words part (n + i) (get_or s.words part 0 + 1) 0 (λ (e : n + i ≡ part). omega arith)) refl (r.each_part i k)) l
      where
        here : part < n → PartOk law origin n r.standing.log (set s.words part (get_or s.words part 0 + 1)) s.homes part (drawn_by id (r.standing.parts part))
        here k = let ok = r.each_part part k in let ws : ℕ = length s.words in let wide : ws ≡ n + n + 1 = r.words_wide in record {
          drawn_is = get_or-set_same s.words part (get_or s.words part 0 + 1) 0 (omega arith) ∙ ap (λ (z : ℕ). z + 1) ok.drawn_is;
          served_is = get_or-set_other s.words part (n + part) (get_or s.words part 0 + 1) 0 (λ (e : n + part ≡ part). omega arith) ∙ ok.served_is;
          queue = omega (arith, ok.queue);
          counted = ok.counted;
          lies = lie (r.standing.parts part).phase ok.lies;
          logged = ok.logged;
          rise = ok.rise;
        }
          where
            lie : (ph : Phase) → Lies law origin s.homes part (r.standing.parts part) ph → Lies law origin s.homes part (drawn_by id (r.standing.parts part)) ph
            lie home x = x
            lie (out j) x = let under : (r.standing.parts part).served < (r.standing.parts part).drawn = x.0 in
                (omega arith, put_else (r.standing.parts part).who (r.standing.parts part).drawn id (r.standing.parts part).served (λ (e : (r.standing.parts part).served ≡ (r.standing.parts part).drawn). omega arith) ∙ x.1, x.2)

    module _ (used : IfSome v.stamped (λ e. e.stamp < 9223372036854775808)) (rests : v.waits ≡ None) (free : is_held part v.held ≡ false) (fresh : IsFresh v) where
      abbrev w' : View S O
      w' = waiter v part (get_or s.words part 0)

      not_mine : (r.standing.parts part).phase ≢ out id
      not_mine e = let o = r.each_out part id within e in let same : o.view ≡ v = some-injective o.view v (sym o.seat ∙ at) in
          let clash : true ≡ false = sym o.held ∙ (ap (λ (u : View S O). is_held part u.held) same ∙ free) in absurd (cc (clash))

      waits_now : Waits (put r.standing.parts part (drawn_by id (r.standing.parts part)) part) id (get_or s.words part 0)
      waits_now = let ok = r.each_part part within in let k : ℕ = get_or s.words part 0 in let is : k ≡ (r.standing.parts part).drawn = ok.drawn_is in
          subst (λ (q : Part S). Waits q id k) (sym (put_here r.standing.parts part (drawn_by id (r.standing.parts part))))
          (record { due = (let q : (r.standing.parts part).served ≤ (r.standing.parts part).drawn = ok.queue in omega arith); drawn = omega arith; who = ap (put (r.standing.parts part).who (r.standing.parts part).drawn id) is ∙ put_here (r.standing.parts part).who (r.standing.parts part).drawn id; waits = not_mine })

      drawn_seat : SeatOk law.tie origin n (record r.standing { parts = put r.standing.parts part (drawn_by id (r.standing.parts part)); log = r.standing.log }) id (waiter v part (get_or s.words part 0))
      drawn_seat = let ok = r.each_seat id v at alive in record {
        waiting = (within, waits_now);
        holding = seat_alike r.standing (record r.standing { parts = put r.standing.parts part (drawn_by id (r.standing.parts part)) }) id v (waiter v part (get_or s.words part 0)) drawn_alike ok (λ i. refl) refl;
        saw = λ i l. subst (IsPrefix (seen_of v i)) (sym (drawn_alike i).2) (ok.saw i l);
        also = λ i l. subst (IsPrefix (get_or v.also i [])) (sym (drawn_alike i).2) (ok.also i l);
        wide = ok.wide;
        wide_too = ok.wide_too;
        stamp = tt;
        named = ok.named;
        own = λ i l. ap (entries_by v.number) (drawn_alike i).2 ∙ ok.own i l;
        referred = ap (law.tie.references v.number) (drawn_alike 0).3 ∙ (ok.referred ∙ ap (replayed law.tie v.number) (sym (asked_fresh v (Some (record { part = part; number = get_or s.words part 0 })) fresh)));
        joined = joined_stay law.tie n id v.number r.standing (record r.standing { parts = put r.standing.parts part (drawn_by id (r.standing.parts part)); log = r.standing.log }) drawn_changes v.joined ok.joined;
        chief = ok.chief;
        plain = ok.plain;
        origin = ok.origin;
      }

      -- one more pass waits for good where the ticket isn't used
      drawn_room : (i : ℕ) → i < n → (put r.standing.parts part (drawn_by id (r.standing.parts part)) i).drawn ≤ 9223372036854775808 + total (stuck i) (set s.views id (waiter v part (get_or s.words part 0)))
      drawn_room i l = at_put r.standing.parts part (drawn_by id (r.standing.parts part)) (λ (j : ℕ) (q : Part S). j < n → q.drawn ≤ 9223372036854775808 + total (stuck j) (set s.views id w')) i
          (λ _ k. let c = total_set (stuck part) s.views id v w' at in let none : stuck part v ≡ 0 = ap (stuck_at part) rests in stuck_more part (get_or s.words part 0) (r.standing.parts part).drawn (total (stuck part) s.views) (total (stuck part) (set s.views id w')) (r.each_part part k).drawn_is (r.room part k) (omega arith))
          (λ ne k. let c = total_set (stuck i) s.views id v w' at in let none : stuck i v ≡ 0 = ap (stuck_at i) rests in let room = r.room i k in omega arith) l

      drawn_stamps : length r.standing.log ≤ 9223372036854775808 + total stopped (set s.views id (waiter v part (get_or s.words part 0)))
      drawn_stamps = let c = total_set stopped s.views id v w' at in let none : stopped v ≡ 0 = unstopped v.stamped used in let room = r.stamp_room in let zero' : stopped w' ≡ 0 = refl in omega arith

      drawn_moves : Moves law origin n s r id v (waiter v part (get_or s.words part 0)) (set s.words part (get_or s.words part 0 + 1)) s.homes (put r.standing.parts part (drawn_by id (r.standing.parts part))) r.standing.log
      drawn_moves = record {
        at = at;
        alive = alive;
        alive_still = alive;
        number = refl;
        joined = refl;
        words_wide = length-set s.words part (get_or s.words part 0 + 1) ∙ r.words_wide;
        homes_wide = r.homes_wide;
        stamp_is = get_or-set_other s.words part (n + n) (get_or s.words part 0 + 1) 0 (λ (e : n + n ≡ part). omega arith) ∙ r.stamp_is;
        changes = drawn_changes;
        each_part = drawn_part;
        seat = drawn_seat;
        held = λ i l e. let o = r.each_out i id l (sym (drawn_alike i).0 ∙ e) in let same : o.view ≡ v = some-injective o.view v (sym o.seat ∙ at) in ap (λ (u : View S O). is_held i u.held) (sym same) ∙ o.held;
        room = drawn_room;
        stamp_room = drawn_stamps;
        tied = λ i pos l. ap (law.tie.rows i) (drawn_alike 0).3 ∙ (r.tied i pos l ∙ sym (drawn_alike i).3);
        held_open = subst law.tie.held_open (sym (drawn_alike 0).3) r.held_open;
      }

  -- a pass that waits for nothing may draw a ticket of a part that it doesn't hold
  pub draw : (slots id part : ℕ) (me : Me (Option X) (View S O)) → part < n → me.0.spent ≡ false → me.0.waits ≡ None → IfSome me.0.stamped (λ e. e.stamp < 9223372036854775808) → is_held part me.0.held ≡ false → IsFresh me.0
      → Allows (IsOrderly law origin n) slots id me part (λ k. (k + 1) % 18446744073709551616) (draws (step slots part 1 0 none) me)
  draw slots id part me within alive rests used free fresh s r wide at below = let k : ℕ = get_or s.words part 0 in
      let small : (k + 1) % 18446744073709551616 ≡ k + 1 = mod-eq_of_lt (ticket_small s r id part me.0 within at alive) in (
        waiter me.0 part k,
        keeps,
        tt,
        subst (λ (z : ℕ). IsOrderly law origin n (record { words = set s.words part z; homes = s.homes; views = set s.views id (waiter me.0 part k) })) (sym small)
            (moved law origin n s r id me.0 (waiter me.0 part k) (set s.words part (k + 1)) s.homes (put r.standing.parts part (drawn_by id (r.standing.parts part))) r.standing.log (drawn_moves s r id part me.0 within at alive used rests free fresh)),
        (refl, refl),
      )
