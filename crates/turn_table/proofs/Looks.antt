-- Looking whose turn it is keeps the rule, and lets the pass whose turn it is take the part.
use Rattle.std.proofs.Common.{◌≡◌, ◌≢◌, ℕ, ◌+◌, ◌<◌, ◌==◌, ◌&&◌, nat_le, Bool, true, false, cond, Option, Some, None, IfSome, is_some, option_map, option_to_list, List, [], ◌∷◌, ◌++◌, length, get_or, set, sym, refl, ap, ◌∙◌, subst, arith, length-set, get_or-set_other, get_or-set_same, append-nil}
use mathlib.Core.Option.{none, some, some-injective}
use Rattle.std.proofs.lemmas.Bool.Decides.{nat_tests}
use mathlib.Core.List.{IsPrefix}
use native.Mathlib.Decide.{ℕ_discrete}
use lib.ListN.{get_elem?}
use lib.Seq.{set-get_or}
use Rattle.atomic_table.specs.Table.{State, Me, step, Act, keeps, takes, Valid, stepped, carried_after, Allows}
use Rattle.atomic_table.proofs.Lists.{set_else, set_again}
use Rattle.histories.specs.declared.entry.HistoryEntry.{HistoryEntry}
use Rattle.histories.specs.Turns.{Turn, entries_by, calls_on, StampsRise}
use Rattle.histories.specs.Tie.{replayed}
use Rattle.turn_table.specs.declared.view.Ticket.{Ticket}
use Rattle.turn_table.specs.declared.view.Waiting.{Waiting}
use Rattle.turn_table.specs.declared.view.View.{View}
use Rattle.turn_table.specs.Values.{Law}
use Rattle.turn_table.specs.Views.{is_held, ticket_of, seen_of, share_held, asked}
use Rattle.turn_table.specs.Takes.{Learns}
use Rattle.turn_table.specs.Rule.{Phase, home, out, Part, Waits, HasTurn, Lies, PartOk, StampOk, SeatOk, stuck, stuck_at, stopped, IsOrderly}
use Rattle.turn_table.specs.Moves.{looks, holder, Enters}
use Rattle.turn_table.proofs.Prefixes.{prefix_self}
use Rattle.turn_table.proofs.Tickets.{ticket-here, ticket-else}
use Rattle.turn_table.proofs.Totals.{total_set, put, at_put, put_here, put_else}
use Rattle.turn_table.proofs.Standings.{Follows, follows_self, Changes, changes_of, joined_stay, Moves, moved, part_stays}

-- with no stamp nothing is pending
pub asked_plain : {S O : Type 0} (v : View S O) → v.stamped ≡ None → asked v ≡ calls_on 0 v.calls
asked_plain v none' = ap (λ (es : List HistoryEntry). calls_on 0 v.calls ++ es) (ap (λ (o : Option HistoryEntry). cond (is_held 0 v.held) (option_to_list o) []) none' ∙ go (is_held 0 v.held)) ∙ append-nil (calls_on 0 v.calls)
  where
    go : (b : Bool) → cond b (option_to_list {X = HistoryEntry} None) [] ≡ []
    go true = refl
    go false = refl

-- the share with which a part is held
pub share_known : {S O : Type 0} (v : View S O) (i : ℕ) (known : S) → share_held v i ≡ Some known → (t : Ticket S) × (ticket_of i v.held ≡ Some t) × (t.share ≡ known)
share_known {S} v i known e = go (ticket_of i v.held) refl e
  where
    go : (o : Option (Ticket S)) → ticket_of i v.held ≡ o → option_map (λ t. t.share) o ≡ Some known → (t : Ticket S) × (ticket_of i v.held ≡ Some t) × (t.share ≡ known)
    go None is h = absurd (cc (h))
    go (Some t) is h = (t, is, cc (h))

-- a ticket that is used doesn't count
unstuck : (i part k : ℕ) → k < 9223372036854775808 → stuck_at i (Some (record { part = part; number = k })) ≡ 0
unstuck i part k l = let few : nat_le 9223372036854775808 k ≡ false = grind (arith, nat_tests) in ap (λ (b : Bool). cond ((part == i) && b) 1 0) few ∙ go (part == i)
  where
    go : (b : Bool) → ◌≡◌ {A = ℕ} (cond (b && false) 1 0) 0
    go true = refl
    go false = refl

abbrev part_in : Option Waiting → ℕ
part_in None = 0
part_in (Some t) = t.part

abbrev number_in : Option Waiting → ℕ
number_in None = 0
number_in (Some t) = t.number

-- the part, out with the seat
abbrev pub out_of : {S : Type 0} → ℕ → Part S → Part S
out_of id p = record p { phase = out id }

out_follows : {S : Type 0} (id num : ℕ) (p : Part S) → p.phase ≡ home → Follows id num p (out_of id p)
out_follows id num p at_home = record {
  waiting = λ j k ne w. record { due = w.due; drawn = w.drawn; who = w.who; waits = λ (e : out id ≡ out j). ne (cc (e)) };
  holding = λ j ne e. let clash : home ≡ out j = sym at_home ∙ e in absurd (cc (clash));
  away = λ j ne e. absurd (ne (cc (e)));
  grown = prefix_self p.told;
  calls = λ r _. refl;
}

module _ {X S O : Type 0} (law : Law X S O) (origin : Option O) (n : ℕ) where
  -- nothing changes
  pub unmoved : (s : State (Option X) (View S O)) (id i : ℕ) (v : View S O) → IsOrderly law origin n s → get_elem? s.views id ≡ some v → IsOrderly law origin n (record { words = set s.words i (get_or s.words i 0); homes = s.homes; views = set s.views id v })
  unmoved s id i v r at = subst (λ (z : List ℕ × List (View S O)). IsOrderly law origin n (record { words = z.0; homes = s.homes; views = z.1 })) (λ k. (sym (set-get_or s.words i 0) k, sym (set_again s.views id v at) k)) r

  module _ (s : State (Option X) (View S O)) (r : IsOrderly law origin n s) (id part number : ℕ) (v : View S O) (at : get_elem? s.views id ≡ some v) (alive : v.spent ≡ false) where
    mine : SeatOk law.tie origin n r.standing id v
    mine = r.each_seat id v at alive

    module _ (within : part < n) (waits : Waits (r.standing.parts part) id number) (turn : number ≡ (r.standing.parts part).served) where
      -- the value whose turn has come is at home
      at_home : (ph : Phase) → (r.standing.parts part).phase ≡ ph → Lies law origin s.homes part (r.standing.parts part) ph → ((r.standing.parts part).phase ≡ home) × Lies law origin s.homes part (r.standing.parts part) home
      at_home home e l = (e, l)
      at_home (out j) e l = let same : j ≡ id = sym l.1 ∙ (ap (r.standing.parts part).who (sym turn) ∙ waits.who) in absurd (waits.waits (e ∙ ap out same))

      pub found_home : ((r.standing.parts part).phase ≡ home) × Lies law origin s.homes part (r.standing.parts part) home
      found_home = at_home (r.standing.parts part).phase refl (r.each_part part within).lies

  module _ (s : State (Option X) (View S O)) (r : IsOrderly law origin n s) (id part number : ℕ) (v : View S O) (at : get_elem? s.views id ≡ some v) (alive : v.spent ≡ false)
      (x : X) (l : Lies law origin s.homes part (r.standing.parts part) home) where
    abbrev next : ℕ → Part S
    next = put r.standing.parts part (out_of id (r.standing.parts part))

    abbrev now : View S O
    now = holder v part number (law.turns x) (law.share x)

    told_same : (i : ℕ) → (next i).told ≡ (r.standing.parts i).told
    told_same i = at_put r.standing.parts part (out_of id (r.standing.parts part)) (λ (j : ℕ) (q : Part S). q.told ≡ (r.standing.parts j).told) i (λ _. refl) (λ _. refl)

    share_same : (i : ℕ) → (next i).share ≡ (r.standing.parts i).share
    share_same i = at_put r.standing.parts part (out_of id (r.standing.parts part)) (λ (j : ℕ) (q : Part S). q.share ≡ (r.standing.parts j).share) i (λ _. refl) (λ _. refl)

    drawn_same : (i : ℕ) → (next i).drawn ≡ (r.standing.parts i).drawn
    drawn_same i = at_put r.standing.parts part (out_of id (r.standing.parts part)) (λ (j : ℕ) (q : Part S). q.drawn ≡ (r.standing.parts j).drawn) i (λ _. refl) (λ _. refl)

    module _ (is_x : x ≡ l.0) (at_home : (r.standing.parts part).phase ≡ home) (within : part < n) (waits : Waits (r.standing.parts part) id number) (turn : number ≡ (r.standing.parts part).served)
        (used : number < 9223372036854775808) (waiting : v.waits ≡ Some (record { part = part; number = number })) (plain : v.stamped ≡ None) where
      turns_told : law.turns x ≡ (r.standing.parts part).told
      turns_told = ap law.turns is_x ∙ l.2

      look_changes : Changes law.tie n id v.number r.standing (record r.standing { parts = next; log = r.standing.log })
      look_changes = changes_of law origin n s r id v next r.standing.log (r.each_seat id v at alive)
          (λ i _. at_put r.standing.parts part (out_of id (r.standing.parts part)) (λ (j : ℕ) (q : Part S). Follows id v.number (r.standing.parts j) q) i (λ _. out_follows id v.number (r.standing.parts part) at_home) (λ _. follows_self id v.number (r.standing.parts i)))
          (λ p _. ap (law.tie.references p) (share_same 0)) (λ k e h. h)

      look_part : (i : ℕ) → i < n → PartOk law origin n r.standing.log s.words (set s.homes part none) i (next i)
      look_part i k = at_put r.standing.parts part (out_of id (r.standing.parts part)) (λ (j : ℕ) (q : Part S). j < n → PartOk law origin n r.standing.log s.words (set s.homes part none) j q) i
          (λ _ m. let ok = r.each_part part m in record {
            drawn_is = ok.drawn_is;
            served_is = ok.served_is;
            queue = ok.queue;
            counted = ok.counted;
            lies = (let d : number < (r.standing.parts part).drawn = waits.drawn in omega arith, ap (r.standing.parts part).who (sym turn) ∙ waits.who, omega arith);
            logged = ok.logged;
            rise = ok.rise;
          })
          (λ ne m. part_stays law origin n r.standing.log r.standing.log s.words s.words s.homes (set s.homes part none) i (r.standing.parts i) (λ _ _ h. h) refl refl (set_else s.homes part i none ne) (r.each_part i m)) k

      here_seen : seen_of now part ≡ law.turns x
      here_seen = get_or-set_same v.seen part (law.turns x) [] (let wide = (r.each_seat id v at alive).wide in omega arith)

      there_seen : (i : ℕ) → i ≢ part → seen_of now i ≡ seen_of v i
      there_seen i ne = get_or-set_other v.seen part i (law.turns x) [] ne

      look_holds : (i : ℕ) (t : Ticket S) → ticket_of i now.held ≡ Some t → (i < n) × HasTurn (next i) id t (seen_of now i)
      look_holds i t e = go (ℕ_discrete part i)
        where
          go : Dec (part ≡ i) → (i < n) × HasTurn (next i) id t (seen_of now i)
          go (yes same) = let new : Ticket S = record { part = part; number = number; share = law.share x } in
              let found : new ≡ t = cc (sym (ticket-here new v.held i same) ∙ e) in
              subst (λ (j : ℕ). (j < n) × HasTurn (next j) id t (seen_of now j)) same (
                within,
                subst (λ (q : Part S). HasTurn q id t (seen_of now part)) (sym (put_here r.standing.parts part (out_of id (r.standing.parts part))))
                    (record { number = ap (λ (u : Ticket S). u.number) (sym found) ∙ turn; out_with = refl; share = ap (λ (u : Ticket S). u.share) (sym found) ∙ (ap law.share is_x ∙ l.3); saw = here_seen ∙ turns_told }),
              )
          go (no other) = let h = (r.each_seat id v at alive).holding i t (sym (ticket-else (record { part = part; number = number; share = law.share x }) v.held i other) ∙ e) in (
            h.0,
            subst (λ (q : Part S). HasTurn q id t (seen_of now i)) (sym (put_else r.standing.parts part (out_of id (r.standing.parts part)) i (λ (same : i ≡ part). other (sym same))))
                (record { number = h.1.number; out_with = h.1.out_with; share = h.1.share; saw = there_seen i (λ (same : i ≡ part). other (sym same)) ∙ h.1.saw }),
          )

      look_saw : (i : ℕ) → i < n → IsPrefix (seen_of now i) (next i).told
      look_saw i k = go (ℕ_discrete i part)
        where
          go : Dec (i ≡ part) → IsPrefix (seen_of now i) (next i).told
          go (yes same) = subst (λ (z : List Turn × List Turn). IsPrefix z.0 z.1) (λ j. (sym (ap (seen_of now) same ∙ (here_seen ∙ turns_told)) j, sym (told_same i ∙ ap (λ (m : ℕ). (r.standing.parts m).told) same) j)) (prefix_self (r.standing.parts part).told)
          go (no ne) = subst (λ (z : List Turn × List Turn). IsPrefix z.0 z.1) (λ j. (sym (there_seen i ne) j, sym (told_same i) j)) ((r.each_seat id v at alive).saw i k)

      look_seat : SeatOk law.tie origin n (record r.standing { parts = next; log = r.standing.log }) id now
      look_seat = let ok = r.each_seat id v at alive in record {
        waiting = tt;
        holding = look_holds;
        saw = look_saw;
        also = λ i k. subst (IsPrefix (get_or v.also i [])) (sym (told_same i)) (ok.also i k);
        wide = length-set v.seen part (law.turns x) ∙ ok.wide;
        wide_too = ok.wide_too;
        stamp = subst (λ (o : Option HistoryEntry). IfSome o (StampOk (record r.standing { parts = next; log = r.standing.log }) now)) (sym plain) tt;
        named = ok.named;
        own = λ i k. ap (entries_by v.number) (told_same i) ∙ ok.own i k;
        referred = ap (law.tie.references v.number) (share_same 0) ∙ (ok.referred ∙ ap (replayed law.tie v.number) (asked_plain v plain ∙ sym (asked_plain now plain)));
        joined = joined_stay law.tie n id v.number r.standing (record r.standing { parts = next; log = r.standing.log }) look_changes v.joined ok.joined;
        chief = ok.chief;
        plain = ok.plain;
        origin = ok.origin;
      }

      look_held : (i : ℕ) → i < n → (next i).phase ≡ out id → is_held i now.held ≡ true
      look_held i k e = go (ℕ_discrete part i)
        where
          go : Dec (part ≡ i) → is_held i now.held ≡ true
          go (yes same) = ap is_some (ticket-here (record { part = part; number = number; share = law.share x }) v.held i same)
          go (no other) = let o = r.each_out i id k (ap (λ (q : Part S). q.phase) (sym (put_else r.standing.parts part (out_of id (r.standing.parts part)) i (λ (same : i ≡ part). other (sym same)))) ∙ e) in
              let same : o.view ≡ v = some-injective o.view v (sym o.seat ∙ at) in
              ap is_some (ticket-else (record { part = part; number = number; share = law.share x }) v.held i other) ∙ (ap (λ (u : View S O). is_held i u.held) (sym same) ∙ o.held)

      look_moves : Moves law origin n s r id v now s.words (set s.homes part none) next r.standing.log
      look_moves = record {
        at = at;
        alive = alive;
        alive_still = alive;
        number = refl;
        joined = refl;
        words_wide = r.words_wide;
        homes_wide = length-set s.homes part none ∙ r.homes_wide;
        stamp_is = r.stamp_is;
        changes = look_changes;
        each_part = look_part;
        seat = look_seat;
        held = look_held;
        room = λ i k. let c = total_set (stuck i) s.views id v now at in let zero' : stuck i v ≡ 0 = ap (stuck_at i) waiting ∙ unstuck i part number used in let room = r.room i k in let d = drawn_same i in omega arith;
        stamp_room = let c = total_set stopped s.views id v now at in let room = r.stamp_room in omega arith;
        tied = λ i pos k. ap (law.tie.rows i) (share_same 0) ∙ (r.tied i pos k ∙ sym (share_same i));
        held_open = subst law.tie.held_open (sym (share_same 0)) r.held_open;
      }

      look_learns : Learns law.tie v part (law.share x)
      look_learns = let ok = r.each_seat id v at alive in let share : law.share x ≡ (r.standing.parts part).share = ap law.share is_x ∙ l.3 in record {
        first = (r.standing.parts 0).share;
        references = ok.referred;
        held_open = r.held_open;
        row = λ pos. r.tied part pos within ∙ sym share;
        itself = λ (e : part ≡ 0). ap (λ (i : ℕ). (r.standing.parts i).share) (sym e) ∙ sym share;
        held = λ known e. let t = share_known v 0 known e in sym t.2 ∙ (ok.holding 0 t.0 t.1).1.share;
      }

      look_enters : (slots : List (ℕ × Option X)) → Enters law (v, slots) (now, (part, Some x) ∷ slots) part number
      look_enters slots = let ok = r.each_seat id v at alive in record {
        value = x;
        slot = refl;
        view = refl;
        is_of = subst (λ (o : Option O). law.is_of o part x) (sym ok.origin) (subst (law.is_of origin part) (sym is_x) l.4);
        takes = record {
          pass = record { number = refl; joined = refl; opens = refl; made = refl; origin = refl };
          calls = refl;
          ticket = record { part = part; number = number; share = law.share x };
          of_part = refl;
          of_share = refl;
          held = refl;
          fresh = plain;
          here = here_seen;
          there = there_seen;
          grown = subst (IsPrefix (seen_of v part)) (sym turns_told) (ok.saw part within);
          short = (let c : length (law.turns x) ≡ (r.standing.parts part).served = ap length turns_told ∙ (r.each_part part within).counted in omega arith);
          whole = ap (entries_by v.number) turns_told ∙ ok.own part within;
          rise = subst StampsRise (sym turns_told) (r.each_part part within).rise;
          learns = look_learns;
        };
      }

  -- a pass that waits finds its turn, or waits on
  pub look : (slots id part number : ℕ) (me : Me (Option X) (View S O)) → number < 9223372036854775808 → me.0.waits ≡ Some (record { part = part; number = number }) → me.0.spent ≡ false → me.0.stamped ≡ None
      → Allows (IsOrderly law origin n) slots id me (n + part) (λ k. k) (looks law (step slots (n + part) 0 0 none) me)
  look slots id part number me used waiting alive plain s r wide at below = go (ℕ_discrete (get_or s.words (n + part) 0) number)
    where
      queued : (part < n) × Waits (r.standing.parts part) id number
      queued = subst (λ (o : Option Waiting). IfSome o (λ t. (t.part < n) × Waits (r.standing.parts t.part) id t.number)) waiting (r.each_seat id me.0 at alive).waiting

      go : Dec (get_or s.words (n + part) 0 ≡ number) → (w : View S O) × (a : Act (Option X)) × Valid s.homes me.1 a
          × IsOrderly law origin n (stepped s (n + part) (get_or s.words (n + part) 0) id me.1 w a) × looks law (step slots (n + part) 0 0 none) me (get_or s.words (n + part) 0) (w, carried_after me.1 a)
      go (no early) = (me.0, keeps, tt, unmoved s id (n + part) me.0 r at, λ part' number' e. ((λ hit. absurd (early (hit ∙ ap number_in (sym e ∙ waiting)))), λ _. refl))
      go (yes hit) = let turn : number ≡ (r.standing.parts part).served = sym hit ∙ (r.each_part part queued.0).served_is in
          let h = found_home s r id part number me.0 at alive queued.0 queued.1 turn in let x : X = h.1.0 in (
            holder me.0 part number (law.turns x) (law.share x),
            takes part (Some x),
            h.1.1,
            subst (λ (ws : List ℕ). IsOrderly law origin n (record { words = ws; homes = set s.homes part none; views = set s.views id (holder me.0 part number (law.turns x) (law.share x)) })) (sym (set-get_or s.words (n + part) 0))
                (moved law origin n s r id me.0 (holder me.0 part number (law.turns x) (law.share x)) s.words (set s.homes part none) (put r.standing.parts part (out_of id (r.standing.parts part))) r.standing.log
                (look_moves s r id part number me.0 at alive x h.1 refl h.0 queued.0 queued.1 turn used waiting plain)),
            λ part' number' e. let same_part : part ≡ part' = ap part_in (sym waiting ∙ e) in let same_number : number ≡ number' = ap number_in (sym waiting ∙ e) in (
              (λ _. subst (λ (z : ℕ × ℕ). Enters law me (holder me.0 part number (law.turns x) (law.share x), (part, Some x) ∷ me.1) z.0 z.1) (λ k. (same_part k, same_number k)) (look_enters s r id part number me.0 at alive x h.1 refl h.0 queued.0 queued.1 turn used waiting plain me.1)),
              λ miss. absurd (miss (hit ∙ same_number)),
            ),
          )
