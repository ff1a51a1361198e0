-- Bringing a slot to the front keeps the rule.
use Rattle.std.proofs.Common.{◌≡◌, ℕ, ◌+◌, ◌<◌, Bool, true, false, cond, Option, Some, None, IfSome, is_some, option_to_list, List, [], ◌++◌, length, set, sym, refl, ap, ◌∙◌, subst, arith}
use mathlib.Core.Option.{none, some, some-injective, some-ne-none}
use mathlib.Core.Option as maybe
use lib.ListN.{get_elem?}
use lib.Seq.{set-get_or}
use Rattle.atomic_table.specs.Table.{State, Me, step, Act, Valid, carried_after, homes_after, Allows}
use Rattle.histories.specs.declared.entry.HistoryEntry.{HistoryEntry}
use Rattle.histories.specs.Turns.{calls_on}
use Rattle.histories.specs.Tie.{replayed}
use Rattle.turn_table.specs.declared.view.Ticket.{Ticket}
use Rattle.turn_table.specs.declared.view.View.{View}
use Rattle.turn_table.specs.Values.{Law}
use Rattle.turn_table.specs.Views.{is_held, ticket_of, fronted, AreApart}
use Rattle.turn_table.specs.Rule.{Phase, home, out, Lies, PartOk, StampOk, SeatOk, stuck, stopped, IsOrderly}
use Rattle.turn_table.proofs.Tickets.{ticket-fronted}
use Rattle.turn_table.proofs.Totals.{total_set}
use Rattle.turn_table.proofs.Standings.{follows_self, Changes, changes_of, Moves, moved}
use Rattle.turn_table.specs.Moves.{fronts, turner, slots_of}
use Rattle.turn_table.proofs.Draws.{seat_alike}
use Rattle.turn_table.proofs.Fronts.{front, carried_front, long_front, homes_front, valid_front}

module _ {X S O : Type 0} (law : Law X S O) (origin : Option O) (n : ℕ) where
  module _ (s : State (Option X) (View S O)) (r : IsOrderly law origin n s) (id part : ℕ) (v : View S O) (at : get_elem? s.views id ≡ some v) (alive : v.spent ≡ false) (apart : AreApart v.held) (held : is_held part v.held ≡ true) where
    abbrev homes_now : List (maybe.Option (Option X))
    homes_now = homes_after s.homes (slots_of v.held) (front part v.held)

    turn_changes : Changes law.tie n id v.number r.standing (record r.standing { parts = r.standing.parts; log = r.standing.log })
    turn_changes = changes_of law origin n s r id v r.standing.parts r.standing.log (r.each_seat id v at alive) (λ i _. follows_self id v.number (r.standing.parts i)) (λ p _. refl) (λ k e h. h)

    -- the slot of a part that is at home stays as it is
    home_stays : (i : ℕ) → (r.standing.parts i).phase ≡ home → (o : Option (Ticket S)) → ticket_of i v.held ≡ o → get_elem? homes_now i ≡ get_elem? s.homes i
    home_stays i e None none' = homes_front part v.held apart held s.homes i none'
    home_stays i e (Some t) some' = let clash : home ≡ out id = sym e ∙ ((r.each_seat id v at alive).holding i t some').1.out_with in absurd (cc (clash))

    turn_part : (i : ℕ) → i < n → PartOk law origin n r.standing.log s.words homes_now i (r.standing.parts i)
    turn_part i l = let ok = r.each_part i l in record { drawn_is = ok.drawn_is; served_is = ok.served_is; queue = ok.queue; counted = ok.counted; lies = go (r.standing.parts i).phase refl ok.lies; logged = ok.logged; rise = ok.rise }
      where
        go : (ph : Phase) → (r.standing.parts i).phase ≡ ph → Lies law origin s.homes i (r.standing.parts i) ph → Lies law origin homes_now i (r.standing.parts i) ph
        go home e x = (x.0, home_stays i e (ticket_of i v.held) refl ∙ x.1, x.2, x.3, x.4)
        go (out j) e x = x

    turn_stamp : (o : Option HistoryEntry) → IfSome o (StampOk r.standing v) → IfSome o (StampOk r.standing (turner v part))
    turn_stamp None k = k
    turn_stamp (Some e) k = record { logged = k.logged; pass = k.pass; later = λ i h. k.later i (sym (ap is_some (ticket-fronted v.held part i)) ∙ h) }

    turn_seat : SeatOk law.tie origin n r.standing id (turner v part)
    turn_seat = let ok = r.each_seat id v at alive in record {
      waiting = ok.waiting;
      holding = seat_alike law origin n r.standing r.standing id v (turner v part) (λ i. (refl, refl, refl, refl)) ok (ticket-fronted v.held part) refl;
      saw = ok.saw;
      also = ok.also;
      wide = ok.wide;
      wide_too = ok.wide_too;
      stamp = turn_stamp v.stamped ok.stamp;
      named = ok.named;
      own = ok.own;
      referred = ok.referred ∙ ap (λ (b : Bool). replayed law.tie v.number (calls_on 0 v.calls ++ cond b (option_to_list v.stamped) [])) (sym (ap is_some (ticket-fronted v.held part 0)));
      joined = ok.joined;
      chief = ok.chief;
      plain = ok.plain;
      origin = ok.origin;
    }

    turn_moves : Moves law origin n s r id v (turner v part) s.words homes_now r.standing.parts r.standing.log
    turn_moves = record {
      at = at;
      alive = alive;
      alive_still = alive;
      number = refl;
      joined = refl;
      words_wide = r.words_wide;
      homes_wide = long_front part v.held apart held s.homes ∙ r.homes_wide;
      stamp_is = r.stamp_is;
      changes = turn_changes;
      each_part = turn_part;
      seat = turn_seat;
      held = λ i l e. let o = r.each_out i id l e in let same : o.view ≡ v = some-injective o.view v (sym o.seat ∙ at) in ap is_some (ticket-fronted v.held part i) ∙ (ap (λ (u : View S O). is_held i u.held) (sym same) ∙ o.held);
      room = λ i l. let c = total_set (stuck i) s.views id v (turner v part) at in let room = r.room i l in omega arith;
      stamp_room = let c = total_set stopped s.views id v (turner v part) at in let room = r.stamp_room in omega arith;
      tied = r.tied;
      held_open = r.held_open;
    }

  -- a pass may bring the slot of a part that it holds before the others
  pub turn : (slots id part : ℕ) (me : Me (Option X) (View S O)) → me.0.spent ≡ false → AreApart me.0.held → me.1 ≡ slots_of me.0.held → ((i : ℕ) → is_held i me.0.held ≡ true → i < n) → is_held part me.0.held ≡ true
      → Allows (IsOrderly law origin n) slots id me (n + part) (λ k. k) (fronts (step slots (n + part) 0 0 none) me)
  turn slots id part me alive apart carried within held s r wide at below =
      let a : Act (Option X) = front part me.0.held in let long : length s.homes ≡ n = r.homes_wide in (
        turner me.0 part,
        a,
        subst (λ (c : List (ℕ × Option X)). Valid s.homes c a) (sym carried) (valid_front part me.0.held apart held s.homes (λ i h. subst (λ (m : ℕ). i < m) (sym long) (within i h))),
        subst (λ (z : List ℕ × List (ℕ × Option X)). IsOrderly law origin n (record { words = z.0; homes = homes_after s.homes z.1 a; views = set s.views id (turner me.0 part) })) (λ k. (sym (set-get_or s.words (n + part) 0) k, sym carried k))
            (moved law origin n s r id me.0 (turner me.0 part) s.words (homes_now s r id part me.0 at alive apart held) r.standing.parts r.standing.log (turn_moves s r id part me.0 at alive apart held)),
        λ part' e. let same : part ≡ part' = (let w : slots ≡ n = sym wide ∙ long in omega arith) in
            subst (λ (q : ℕ). ◌≡◌ {A = View S O} (turner me.0 part) (turner me.0 q) × (carried_after me.1 a ≡ slots_of (fronted q me.0.held))) same (refl, ap (λ (c : List (ℕ × Option X)). carried_after c a) carried ∙ carried_front part me.0.held apart held),
      )
