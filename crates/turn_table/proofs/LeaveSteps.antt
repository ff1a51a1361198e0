-- The end of a turn keeps the rule: the value comes home with one turn more, and the turn's entry is one of the pass's calls.
use Rattle.std.proofs.Common.{◌≡◌, ◌≢◌, ℕ, ◌+◌, ◌%◌, ◌<◌, ◌≤◌, Bool, true, false, cond, Option, Some, None, IfSome, is_some, option_to_list, List, [], ◌∷◌, ◌++◌, length, get_or, set, All, sym, refl, ap, ap₂, ◌∙◌, subst, arith, length-set, length-append, get_or-set_other, get_or-set_same, append-nil, mod-eq_of_lt}
use mathlib.Core.Option.{none, some, some-injective, some-ne-none}
use mathlib.Core.Option as maybe
use mathlib.Core.List.{IsPrefix}
use native.Mathlib.Decide.{ℕ_discrete}
use lib.ListN.{get_elem?}
use Rattle.atomic_table.specs.Table.{State, Me, step, gives, homes_after, rest, Allows}
use Rattle.atomic_table.proofs.Lists.{set_here, set_else}
use Rattle.histories.specs.declared.entry.HistoryEntry.{HistoryEntry}
use Rattle.histories.specs.Turns.{Turn, entries, entries_by, calls_on, StampsRise}
use Rattle.histories.specs.Tie.{replayed}
use Rattle.turn_table.specs.declared.view.Ticket.{Ticket}
use Rattle.turn_table.specs.declared.view.Waiting.{Waiting}
use Rattle.turn_table.specs.declared.view.View.{View}
use Rattle.turn_table.specs.Values.{Law}
use Rattle.turn_table.specs.Views.{is_held, ticket_of, without, seen_of, share_held, asked, call_of}
use Rattle.turn_table.specs.Rule.{home, out, Part, Standing, IsLogged, Waits, HasTurn, Lies, PartOk, StampOk, SeatOk, stuck, stopped, IsOrderly}
use Rattle.turn_table.proofs.Prefixes.{prefix_self, prefix_trans}
use Rattle.turn_table.proofs.Tickets.{ticket-without, ticket-gone}
use Rattle.turn_table.proofs.Totals.{total_set, put, at_put, put_here, put_else}
use Rattle.turn_table.proofs.Standings.{Follows, follows_self, Changes, changes_of, joined_stay, Moves, moved, part_stays}
use Rattle.turn_table.specs.Moves.{leaves, leaver}
use Rattle.turn_table.proofs.Histories.{by-other, by-own, on-here, on-other, rise-push, entries-more}
use Rattle.turn_table.proofs.Looks.{share_known}

abbrev head_part : {X : Type 0} → ℕ → List (ℕ × Option X) → ℕ
head_part d [] = d
head_part d (c ∷ cs) = c.0

abbrev value_in : {X : Type 0} → X → Option X → X
value_in d None = d
value_in d (Some x) = x

abbrev head_value : {X : Type 0} → X → List (ℕ × Option X) → X
head_value d [] = d
head_value d (c ∷ cs) = value_in d c.1

-- the part, with the turn over and its value at home
abbrev pub ended : {S : Type 0} → List Turn → Part S → Part S
ended turns p = record p { served = p.served + 1; phase = home; told = turns }

-- what holds of the entry of a turn, where it has one, holds of its pass
other_pass : (r num : ℕ) (o : Option HistoryEntry) → r ≢ num → IfSome o (λ e. e.pass ≡ num) → IfSome o (λ e. e.pass ≢ r)
other_pass r num None ne is = tt
other_pass r num (Some e) ne is = λ same. ne (sym same ∙ is)

stamp_pass : {S O : Type 0} (standing : Standing S) (v : View S O) (o : Option HistoryEntry) → IfSome o (StampOk standing v) → IfSome o (λ e. e.pass ≡ v.number)
stamp_pass standing v None k = tt
stamp_pass standing v (Some e) k = k.pass

stamp_logged : {S O : Type 0} (standing : Standing S) (v : View S O) (o : Option HistoryEntry) → IfSome o (StampOk standing v) → IfSome o (IsLogged standing.log)
stamp_logged standing v None k = tt
stamp_logged standing v (Some e) k = k.logged

stamp_later : {S O : Type 0} (standing : Standing S) (v : View S O) (i : ℕ) → is_held i v.held ≡ true → (o : Option HistoryEntry) → IfSome o (StampOk standing v) → IfSome o (λ e. All (λ d. d.stamp < e.stamp) (entries (standing.parts i).told))
stamp_later standing v i h None k = tt
stamp_later standing v i h (Some e) k = k.later i h

is_held-without : {S : Type 0} (held : List (Ticket S)) (part i : ℕ) → is_held i (without part held) ≡ true → (i ≢ part) × (is_held i held ≡ true)
is_held-without held part i h = ((λ same. let clash : false ≡ true = sym (ap is_some (ticket-gone held part)) ∙ (ap (λ (j : ℕ). is_held j (without part held)) (sym same) ∙ h) in absurd (cc (clash))), go (ℕ_discrete i part))
  where
    go : Dec (i ≡ part) → is_held i held ≡ true
    go (yes same) = let clash : false ≡ true = sym (ap is_some (ticket-gone held part)) ∙ (ap (λ (j : ℕ). is_held j (without part held)) (sym same) ∙ h) in absurd (cc (clash))
    go (no ne) = sym (ap is_some (ticket-without held part i ne)) ∙ h

module _ {S : Type 0} (id num : ℕ) (p : Part S) (turn : Turn) (turns : List Turn) (is : turns ≡ p.told ++ turn ∷ []) (out' : p.phase ≡ out id) (who : p.who p.served ≡ id) (own : IfSome turn (λ e. e.pass ≡ num)) where
  ended_follows : Follows id num p (ended turns p)
  ended_follows = record {
    waiting = λ j k ne w. record {
      due = (let due : p.served ≤ k = w.due in let other : k ≢ p.served = λ same. ne (sym w.who ∙ (ap p.who same ∙ who)) in omega arith);
      drawn = w.drawn;
      who = w.who;
      waits = λ (e : home ≡ out j). absurd (cc (e));
    };
    holding = λ j ne e. let clash : out id ≡ out j = sym out' ∙ e in absurd (ne (sym (cc (clash))));
    away = λ j ne e. let clash : home ≡ out j = e in absurd (cc (clash));
    grown = (turn ∷ [], sym is);
    calls = λ r ne. ap (entries_by r) is ∙ by-other r p.told turn (other_pass r num turn ne own);
  }

module _ {X S O : Type 0} (law : Law X S O) (origin : Option O) (n : ℕ) where
  module _ (s : State (Option X) (View S O)) (r : IsOrderly law origin n s) (id part : ℕ) (v : View S O) (at : get_elem? s.views id ≡ some v) (alive : v.spent ≡ false) (ticket : Ticket S) (held : ticket_of part v.held ≡ Some ticket) where
    mine : SeatOk law.tie origin n r.standing id v
    mine = r.each_seat id v at alive

    has : (part < n) × HasTurn (r.standing.parts part) id ticket (seen_of v part)
    has = (r.each_seat id v at alive).holding part ticket held

    -- the part is out with the seat
    has_out : ((r.standing.parts part).served < (r.standing.parts part).drawn) × ((r.standing.parts part).who (r.standing.parts part).served ≡ id) × ((r.standing.parts part).served < 9223372036854775808)
    has_out = let h = (r.each_seat id v at alive).holding part ticket held in subst (Lies law origin s.homes part (r.standing.parts part)) h.1.out_with (r.each_part part h.0).lies

    module _ (x : X) (turns : law.turns x ≡ seen_of v part ++ v.stamped ∷ []) (share : ticket.share ≡ law.share x) (is_of : law.is_of v.origin part x) (rests : v.waits ≡ None) where
      abbrev over : ℕ → Part S
      over = put r.standing.parts part (ended (law.turns x) (r.standing.parts part))

      abbrev now : View S O
      now = leaver v part (law.turns x)

      abbrev words_now : List ℕ
      words_now = set s.words (n + part) (get_or s.words (n + part) 0 + 1)

      abbrev homes_now : List (maybe.Option (Option X))
      homes_now = set s.homes part (some (Some x))

      turns_now : law.turns x ≡ (r.standing.parts part).told ++ v.stamped ∷ []
      turns_now = turns ∙ ap (λ (ts : List Turn). ts ++ v.stamped ∷ []) (has).1.saw

      over_here : over part ≡ ended (law.turns x) (r.standing.parts part)
      over_here = put_here r.standing.parts part (ended (law.turns x) (r.standing.parts part))

      over_else : (i : ℕ) → i ≢ part → over i ≡ r.standing.parts i
      over_else i ne = put_else r.standing.parts part (ended (law.turns x) (r.standing.parts part)) i ne

      own_turn : IfSome v.stamped (λ e. e.pass ≡ v.number)
      own_turn = stamp_pass r.standing v v.stamped (r.each_seat id v at alive).stamp

      held_now : is_held part v.held ≡ true
      held_now = ap is_some held

      over_share : (i : ℕ) → (over i).share ≡ (r.standing.parts i).share
      over_share i = at_put r.standing.parts part (ended (law.turns x) (r.standing.parts part)) (λ (j : ℕ) (q : Part S). q.share ≡ (r.standing.parts j).share) i (λ _. refl) (λ _. refl)

      over_drawn : (i : ℕ) → (over i).drawn ≡ (r.standing.parts i).drawn
      over_drawn i = at_put r.standing.parts part (ended (law.turns x) (r.standing.parts part)) (λ (j : ℕ) (q : Part S). q.drawn ≡ (r.standing.parts j).drawn) i (λ _. refl) (λ _. refl)

      over_follows : (i : ℕ) → Follows id v.number (r.standing.parts i) (over i)
      over_follows i = at_put r.standing.parts part (ended (law.turns x) (r.standing.parts part)) (λ (j : ℕ) (q : Part S). Follows id v.number (r.standing.parts j) q) i
          (λ _. ended_follows id v.number (r.standing.parts part) v.stamped (law.turns x) turns_now (has).1.out_with (has_out).1 own_turn) (λ _. follows_self id v.number (r.standing.parts i))

      leave_changes : Changes law.tie n id v.number r.standing (record r.standing { parts = over; log = r.standing.log })
      leave_changes = changes_of law origin n s r id v over r.standing.log (r.each_seat id v at alive) (λ i _. over_follows i) (λ p _. ap (law.tie.references p) (over_share 0)) (λ k e h. h)

      leave_part : (i : ℕ) → i < n → PartOk law origin n r.standing.log words_now homes_now i (over i)
      leave_part i l = at_put r.standing.parts part (ended (law.turns x) (r.standing.parts part)) (λ (j : ℕ) (q : Part S). j < n → PartOk law origin n r.standing.log words_now homes_now j q) i (λ _. here)
          (λ ne k. part_stays law origin n r.standing.log r.standing.log s.words words_now s.homes homes_now i (r.standing.parts i) (λ _ _ h. h)
          (get_or-set_other s.words (n + part) i (get_or s.words (n + part) 0 + 1) 0 (λ (e : i ≡ n + part). omega arith)) (get_or-set_other s.words (n + part) (n + i) (get_or s.words (n + part) 0 + 1) 0 (λ (e : n + i ≡ n + part). ne (omega arith)))
          (set_else s.homes part i (some (Some x)) ne) (r.each_part i k)) l
        where
          here : part < n → PartOk law origin n r.standing.log words_now homes_now part (ended (law.turns x) (r.standing.parts part))
          here k = let ok = r.each_part part k in let w : length s.words ≡ n + n + 1 = r.words_wide in let stamp = (r.each_seat id v at alive).stamp in record {
            drawn_is = get_or-set_other s.words (n + part) part (get_or s.words (n + part) 0 + 1) 0 (λ (e : part ≡ n + part). omega arith) ∙ ok.drawn_is;
            served_is = get_or-set_same s.words (n + part) (get_or s.words (n + part) 0 + 1) 0 (omega arith) ∙ ap (λ (z : ℕ). z + 1) ok.served_is;
            queue = (let q = (has_out).0 in omega arith);
            counted = ap length turns_now ∙ (length-append (r.standing.parts part).told (v.stamped ∷ []) ∙ ap (λ (z : ℕ). z + 1) ok.counted);
            lies = (x, set_here s.homes part (some (Some x)) (let h : length s.homes ≡ n = r.homes_wide in omega arith), refl, sym share ∙ (has).1.share, subst (λ (o : Option O). law.is_of o part x) (r.each_seat id v at alive).origin is_of);
            logged = subst (λ (ts : List Turn). All (IsLogged r.standing.log) (entries ts)) (sym turns_now) (entries-more (IsLogged r.standing.log) (r.standing.parts part).told v.stamped ok.logged (stamp_logged r.standing v v.stamped stamp));
            rise = subst StampsRise (sym turns_now) (rise-push (r.standing.parts part).told v.stamped ok.rise (stamp_later r.standing v part held_now v.stamped stamp));
          }

      seen_here : seen_of now part ≡ law.turns x
      seen_here = get_or-set_same v.seen part (law.turns x) [] (let wide : length v.seen ≡ n = (r.each_seat id v at alive).wide in let l = (has).0 in omega arith)

      seen_there : (i : ℕ) → i ≢ part → seen_of now i ≡ seen_of v i
      seen_there i ne = get_or-set_other v.seen part i (law.turns x) [] ne

      leave_holds : (i : ℕ) (t : Ticket S) → ticket_of i (without part v.held) ≡ Some t → (i < n) × HasTurn (over i) id t (seen_of now i)
      leave_holds i t e = let w = is_held-without v.held part i (ap is_some e) in let h = (r.each_seat id v at alive).holding i t (sym (ticket-without v.held part i w.0) ∙ e) in
          (h.0, subst (λ (q : Part S). HasTurn q id t (seen_of now i)) (sym (over_else i w.0)) (record { number = h.1.number; out_with = h.1.out_with; share = h.1.share; saw = seen_there i w.0 ∙ h.1.saw }))

      leave_saw : (i : ℕ) → i < n → IsPrefix (seen_of now i) (over i).told
      leave_saw i l = go (ℕ_discrete i part)
        where
          go : Dec (i ≡ part) → IsPrefix (seen_of now i) (over i).told
          go (yes same) = subst (λ (z : List Turn × List Turn). IsPrefix z.0 z.1) (λ k. (sym (ap (seen_of now) same ∙ seen_here) k, sym (ap (λ (j : ℕ). (over j).told) same ∙ ap (λ (q : Part S). q.told) over_here) k)) (prefix_self (law.turns x))
          go (no ne) = subst (λ (z : List Turn × List Turn). IsPrefix z.0 z.1) (λ k. (sym (seen_there i ne) k, sym (ap (λ (q : Part S). q.told) (over_else i ne)) k)) ((r.each_seat id v at alive).saw i l)

      leave_stamp : (o : Option HistoryEntry) → IfSome o (StampOk r.standing v) → IfSome o (StampOk (record r.standing { parts = over; log = r.standing.log }) now)
      leave_stamp None k = tt
      leave_stamp (Some e) k = record {
        logged = k.logged;
        pass = k.pass;
        later = λ i h. let w = is_held-without v.held part i h in subst (λ (q : Part S). All (λ d. d.stamp < e.stamp) (entries q.told)) (sym (over_else i w.0)) (k.later i w.1);
      }

      leave_own : (i : ℕ) → i < n → entries_by v.number (over i).told ≡ calls_on i (v.calls ++ call_of part v.stamped)
      leave_own i l = go (ℕ_discrete i part)
        where
          go : Dec (i ≡ part) → entries_by v.number (over i).told ≡ calls_on i (v.calls ++ call_of part v.stamped)
          go (yes same) = subst (λ (j : ℕ). entries_by v.number (over j).told ≡ calls_on j (v.calls ++ call_of part v.stamped)) (sym same)
              (ap (entries_by v.number) (ap (λ (q : Part S). q.told) over_here ∙ turns_now) ∙ (by-own v.number (r.standing.parts part).told v.stamped own_turn
              ∙ (ap (λ (es : List HistoryEntry). es ++ option_to_list v.stamped) ((r.each_seat id v at alive).own part (has).0) ∙ sym (on-here part v.calls v.stamped))))
          go (no ne) = ap (entries_by v.number) (ap (λ (q : Part S). q.told) (over_else i ne)) ∙ ((r.each_seat id v at alive).own i l ∙ sym (on-other i part v.calls v.stamped (λ same. ne (sym same))))

      asked_still : asked now ≡ asked v
      asked_still = go (ℕ_discrete 0 part)
        where
          go : Dec (0 ≡ part) → asked now ≡ asked v
          go (yes same) = ap₂ (λ (es : List HistoryEntry) (b : Bool). es ++ cond b (option_to_list v.stamped) [])
              (ap (λ (j : ℕ). calls_on 0 (v.calls ++ call_of j v.stamped)) (sym same) ∙ on-here 0 v.calls v.stamped) (ap is_some (ap (λ (j : ℕ). ticket_of 0 (without j v.held)) (sym same) ∙ ticket-gone v.held 0))
              ∙ (append-nil (calls_on 0 v.calls ++ option_to_list v.stamped) ∙ ap (λ (b : Bool). calls_on 0 v.calls ++ cond b (option_to_list v.stamped) []) (sym (ap (λ (j : ℕ). is_held j v.held) same ∙ held_now)))
          go (no ne) = ap₂ (λ (es : List HistoryEntry) (b : Bool). es ++ cond b (option_to_list v.stamped) []) (on-other 0 part v.calls v.stamped (λ same. ne (sym same))) (ap is_some (ticket-without v.held part 0 ne))

      leave_seat : SeatOk law.tie origin n (record r.standing { parts = over; log = r.standing.log }) id now
      leave_seat = let ok = r.each_seat id v at alive in record {
        waiting = subst (λ (o : Option Waiting). IfSome o (λ t. (t.part < n) × Waits (over t.part) id t.number)) (sym rests) tt;
        holding = leave_holds;
        saw = leave_saw;
        also = λ i l. prefix_trans (get_or v.also i []) (r.standing.parts i).told (over i).told (ok.also i l) (over_follows i).grown;
        wide = length-set v.seen part (law.turns x) ∙ ok.wide;
        wide_too = ok.wide_too;
        stamp = leave_stamp v.stamped ok.stamp;
        named = ok.named;
        own = leave_own;
        referred = ap (law.tie.references v.number) (over_share 0) ∙ (ok.referred ∙ ap (replayed law.tie v.number) (sym asked_still));
        joined = joined_stay law.tie n id v.number r.standing (record r.standing { parts = over; log = r.standing.log }) leave_changes v.joined ok.joined;
        chief = ok.chief;
        plain = ok.plain;
        origin = ok.origin;
      }

      leave_held : (i : ℕ) → i < n → (over i).phase ≡ out id → is_held i (without part v.held) ≡ true
      leave_held i l e = go (ℕ_discrete i part)
        where
          go : Dec (i ≡ part) → is_held i (without part v.held) ≡ true
          go (yes same) = let clash : home ≡ out id = ap (λ (q : Part S). q.phase) (sym over_here) ∙ (ap (λ (j : ℕ). (over j).phase) (sym same) ∙ e) in absurd (cc (clash))
          go (no ne) = let o = r.each_out i id l (ap (λ (q : Part S). q.phase) (sym (over_else i ne)) ∙ e) in let same : o.view ≡ v = some-injective o.view v (sym o.seat ∙ at) in
              ap is_some (ticket-without v.held part i ne) ∙ (ap (λ (u : View S O). is_held i u.held) (sym same) ∙ o.held)

      leave_moves : Moves law origin n s r id v now words_now homes_now over r.standing.log
      leave_moves = record {
        at = at;
        alive = alive;
        alive_still = alive;
        number = refl;
        joined = refl;
        words_wide = length-set s.words (n + part) (get_or s.words (n + part) 0 + 1) ∙ r.words_wide;
        homes_wide = length-set s.homes part (some (Some x)) ∙ r.homes_wide;
        stamp_is = get_or-set_other s.words (n + part) (n + n) (get_or s.words (n + part) 0 + 1) 0 (λ (e : n + n ≡ n + part). let l = (has).0 in omega arith) ∙ r.stamp_is;
        changes = leave_changes;
        each_part = leave_part;
        seat = leave_seat;
        held = leave_held;
        room = λ i l. let c = total_set (stuck i) s.views id v now at in let room = r.room i l in let d = over_drawn i in omega arith;
        stamp_room = let c = total_set stopped s.views id v now at in let room = r.stamp_room in omega arith;
        tied = λ i pos l. ap (law.tie.rows i) (over_share 0) ∙ (r.tied i pos l ∙ sym (over_share i));
        held_open = subst law.tie.held_open (sym (over_share 0)) r.held_open;
      }

  -- a pass may end its turn, with the part's value in the slot that comes first, and with one turn more
  pub leave : (slots id part : ℕ) (me : Me (Option X) (View S O)) (x : X) → me.0.spent ≡ false → me.0.waits ≡ None → me.1 ≡ (part, Some x) ∷ rest me.1 → law.is_of me.0.origin part x
      → law.turns x ≡ seen_of me.0 part ++ me.0.stamped ∷ [] → share_held me.0 part ≡ Some (law.share x)
      → Allows (IsOrderly law origin n) slots id me (n + part) (λ k. (k + 1) % 18446744073709551616) (leaves law (step slots (n + part) 1 0 none) me)
  leave slots id part me x alive rests first is_of turns share s r wide at below =
      let t = share_known me.0 part (law.share x) share in let k : ℕ = get_or s.words (n + part) 0 in
      let out' = has_out s r id part me.0 at alive t.0 t.1 in let within = (has s r id part me.0 at alive t.0 t.1).0 in
      let is : k ≡ (r.standing.parts part).served = (r.each_part part within).served_is in let used : (r.standing.parts part).served < 9223372036854775808 = out'.2 in
      let small : (k + 1) % 18446744073709551616 ≡ k + 1 = mod-eq_of_lt (omega arith) in (
        leaver me.0 part (law.turns x),
        gives,
        tt,
        subst (λ (z : ℕ × List (ℕ × Option X)). IsOrderly law origin n (record { words = set s.words (n + part) z.0; homes = homes_after s.homes z.1 gives; views = set s.views id (leaver me.0 part (law.turns x)) })) (λ j. (sym small j, sym first j))
            (moved law origin n s r id me.0 (leaver me.0 part (law.turns x)) (set s.words (n + part) (k + 1)) (set s.homes part (some (Some x))) (put r.standing.parts part (ended (law.turns x) (r.standing.parts part))) r.standing.log
            (leave_moves s r id part me.0 at alive t.0 t.1 x turns t.2 is_of rests)),
        (
          refl,
          λ part' y e. let head : ◌≡◌ {A = List (ℕ × Option X)} ((part, Some x) ∷ rest me.1) ((part', Some y) ∷ rest me.1) = sym first ∙ e in
              let same_part : part ≡ part' = ap (head_part part) head in let same_value : x ≡ y = ap (head_value x) head in
              subst (λ (z : ℕ × X). (◌≡◌ {A = View S O} (leaver me.0 part (law.turns x)) (leaver me.0 z.0 (law.turns z.1))) × (seen_of (leaver me.0 part (law.turns x)) z.0 ≡ law.turns z.1)) (λ j. (same_part j, same_value j))
              (refl, seen_here s r id part me.0 at alive t.0 t.1 x turns t.2 is_of rests),
        ),
      )

  -- the same once the value was moved into the slot
  pub leave_from : (slots id part : ℕ) (me me' : Me (Option X) (View S O)) (x : X) → me' ≡ (me.0, (part, Some x) ∷ rest me.1) → me.0.spent ≡ false → me.0.waits ≡ None → law.is_of me.0.origin part x
      → law.turns x ≡ seen_of me.0 part ++ me.0.stamped ∷ [] → share_held me.0 part ≡ Some (law.share x)
      → Allows (IsOrderly law origin n) slots id me' (n + part) (λ k. (k + 1) % 18446744073709551616) (leaves law (step slots (n + part) 1 0 none) me')
  leave_from slots id part me me' x e alive rests is_of turns share =
      subst (λ (m : Me (Option X) (View S O)). Allows (IsOrderly law origin n) slots id m (n + part) (λ k. (k + 1) % 18446744073709551616) (leaves law (step slots (n + part) 1 0 none) m)) (sym e)
      (leave slots id part (me.0, (part, Some x) ∷ rest me.1) x alive rests refl is_of turns share)
