-- Drawing a stamp keeps the rule: the entry is logged, and the shares of the held parts change together.
use Rattle.std.proofs.Common.{◌≡◌, ◌≢◌, ◌⊎◌, ℕ, zero, suc, ◌+◌, ◌%◌, ◌<◌, ◌≤◌, ◌==◌, nat_le, Bool, true, false, cond, Option, Some, None, IfSome, is_some, option_map, List, [], ◌∷◌, ◌++◌, length, get_or, set, All, sym, refl, ap, ◌∙◌, subst, inl, inr, arith, length-set, length-append, get_or-set_other, get_or-set_same, append-nil, mod-eq_of_lt, eq-eqb, ne_eqb, lt_of_not-le}
use mathlib.Core.Option.{none, some, some-injective, some-ne-none}
use native.Mathlib.Decide.{dec_le}
use lib.ListN.{get_elem?}
use Rattle.std.proofs.lemmas.Bool.Decides.{nat_tests}
use Rattle.std.proofs.lemmas.List.Elements.{All-weaker, All-nil, All-cons, All-head, All-tail}
use Rattle.std.proofs.lemmas.List.Sums.{fold-append}
use Rattle.atomic_table.specs.Table.{State, Me, step, keeps, Allows}
use Rattle.atomic_table.proofs.Lists.{at_longer, at_last}
use Rattle.histories.specs.declared.entry.HistoryEntry.{HistoryEntry}
use Rattle.histories.specs.Turns.{Turn, References, entries, calls_on}
use Rattle.histories.specs.Tie.{Tie, replayed}
use Rattle.turn_table.specs.declared.view.Ticket.{Ticket}
use Rattle.turn_table.specs.declared.view.Waiting.{Waiting}
use Rattle.turn_table.specs.declared.view.View.{View}
use Rattle.turn_table.specs.Values.{Law}
use Rattle.turn_table.specs.Views.{is_held, ticket_of, renamed, seen_of, share_held, asked}
use Rattle.turn_table.specs.Rule.{Phase, home, out, Part, IsLogged, Waits, HasTurn, Lies, PartOk, SeatOk, total, stuck, stopped, stopped_at, IsOrderly}
use Rattle.turn_table.proofs.Prefixes.{prefix_self}
use Rattle.turn_table.proofs.Tickets.{ticket-part, ticket-renamed}
use Rattle.turn_table.proofs.Totals.{total_set, total_most}
use Rattle.turn_table.proofs.Standings.{IsLonger, held_ticket, Follows, Changes, changes_of, joined_stay, Moves, moved, part_stays}
use Rattle.vfs_base.specs.declared.step.Step.{Step as Asked}
use Rattle.vfs_base.specs.declared.entry.Mark.{Mark}
use Rattle.vfs_base.specs.declared.reply.Reply.{Reply}
use Rattle.turn_table.specs.Stamps.{IsTied}
use Rattle.turn_table.specs.Moves.{draws_stamp, stamper, entry_of}
use Rattle.turn_table.proofs.Looks.{asked_plain}

-- the share of a part after the step of a seat
abbrev pub share_by : {S : Type 0} → ℕ → S → S → Phase → S
share_by id new old home = old
share_by id new old (out j) = cond (j == id) new old

-- the parts that are out with the seat have the shares that the step names
abbrev pub after : {S : Type 0} → ℕ → (ℕ → S) → (ℕ → Part S) → ℕ → Part S
after id named parts i = record (parts i) { share = share_by id (named i) (parts i).share (parts i).phase }

module _ {S : Type 0} (id : ℕ) (named : ℕ → S) (parts : ℕ → Part S) (i : ℕ) where
  share_mine : (parts i).phase ≡ out id → (after id named parts i).share ≡ named i
  share_mine e = ap (share_by id (named i) (parts i).share) e ∙ ap (λ (b : Bool). cond b (named i) (parts i).share) (eq-eqb id id refl)

  share_other : (parts i).phase ≢ out id → (after id named parts i).share ≡ (parts i).share
  share_other ne = go (parts i).phase refl
    where
      go : (ph : Phase) → (parts i).phase ≡ ph → share_by id (named i) (parts i).share ph ≡ (parts i).share
      go home e = refl
      go (out j) e = ap (λ (b : Bool). cond b (named i) (parts i).share) (ne_eqb j id (λ (s : j ≡ id). ne (e ∙ ap out s)))

after_follows : {S : Type 0} (id num : ℕ) (named : ℕ → S) (parts : ℕ → Part S) (i : ℕ) → Follows id num (parts i) (after id named parts i)
after_follows id num named parts i = record {
  waiting = λ j k ne w. record { due = w.due; drawn = w.drawn; who = w.who; waits = w.waits };
  holding = λ j ne e. (refl, refl, refl, share_other id named parts i (λ (mine : (parts i).phase ≡ out id). let clash : out j ≡ out id = sym e ∙ mine in ne (cc (clash))));
  away = λ j ne e. e;
  grown = prefix_self (parts i).told;
  calls = λ r _. refl;
}

-- what stands in the log stands below its end
at_short : {A : Type 0} (log : List A) (k : ℕ) (e : A) → get_elem? log k ≡ some e → k < length log
at_short [] k e h = absurd (some-ne-none e (sym h))
at_short (x ∷ xs) zero e h = omega arith
at_short (x ∷ xs) (suc k) e h = omega (arith, at_short xs k e h)

pub logged_below : (log : List HistoryEntry) (es : List HistoryEntry) → All (IsLogged log) es → All (λ d. d.stamp < length log) es
logged_below log es all = All-weaker (IsLogged log) (λ d. d.stamp < length log) (λ d. at_short log d.stamp d) es all

-- what holds of all holds of a beginning
pub all_front : {A : Type 0} (P : A → Type 0) (xs ys : List A) → All P (xs ++ ys) → All P xs
all_front P [] ys all = All-nil P
all_front P (x ∷ xs) ys all = All-cons P x xs (All-head P x (xs ++ ys) all) (all_front P xs ys (All-tail P x (xs ++ ys) all))

entries-append : (ts us : List Turn) → entries (ts ++ us) ≡ entries ts ++ entries us
entries-append [] us = refl
entries-append (None ∷ ts) us = entries-append ts us
entries-append (Some e ∷ ts) us = ap (λ (es : List HistoryEntry). e ∷ es) (entries-append ts us)

ℕ_lt : (i n : ℕ) → (i < n) ⊎ (n ≤ i)
ℕ_lt i n = go (dec_le n i)
  where
    go : Dec (n ≤ i) → (i < n) ⊎ (n ≤ i)
    go (yes le) = inr le
    go (no g) = inl (lt_of_not-le g)

-- past the end of a list nothing stands
past_end : {A : Type 0} (l : List A) (i : ℕ) (d : A) → length l ≤ i → get_or l i d ≡ d
past_end [] i d le = refl
past_end (x ∷ xs) zero d le = absurd (omega arith)
past_end (x ∷ xs) (suc i) d le = past_end xs i d (omega arith)

pub replayed-snoc : {S : Type 0} (tie : Tie S) (p : ℕ) (cs : List HistoryEntry) (e : HistoryEntry) → replayed tie p (cs ++ e ∷ []) ≡ tie.replied e (replayed tie p cs)
replayed-snoc tie p cs e = fold-append (λ (files : References) (entry : HistoryEntry). tie.replied entry files) (tie.references p tie.nothing) cs (e ∷ [])

-- a stamp that is used stops no pass, and any other stops one
stopped_more : (k t t' : ℕ) (e : HistoryEntry) → e.stamp ≡ k → k ≤ 9223372036854775808 + t → t' ≡ t + stopped_at (Some e) → k + 1 ≤ 9223372036854775808 + t'
stopped_more k t t' e is room more = go (nat_le 9223372036854775808 k) refl
  where
    go : (b : Bool) → nat_le 9223372036854775808 k ≡ b → k + 1 ≤ 9223372036854775808 + t'
    go true big = let one : stopped_at (Some e) ≡ 1 = ap (λ (b : Bool). cond b 1 0) (ap (nat_le 9223372036854775808) is ∙ big) in omega arith
    go false small = let few : k < 9223372036854775808 = grind (arith, nat_tests) in omega arith

stopped_most : (o : Option HistoryEntry) → stopped_at o ≤ 1
stopped_most None = omega arith
stopped_most (Some e) = go (nat_le 9223372036854775808 e.stamp)
  where
    go : (b : Bool) → cond b 1 0 ≤ 1
    go true = omega arith
    go false = omega arith

-- a renamed ticket comes from a ticket
renamed_from : {S : Type 0} (f : ℕ → S) (held : List (Ticket S)) (i : ℕ) (t : Ticket S) → ticket_of i (renamed f held) ≡ Some t → (u : Ticket S) × (ticket_of i held ≡ Some u) × (t ≡ record u { share = f u.part })
renamed_from {S} f held i t e = go (ticket_of i held) refl (sym (ticket-renamed f held i) ∙ e)
  where
    go : (o : Option (Ticket S)) → ticket_of i held ≡ o → option_map (λ (u : Ticket S). record u { share = f u.part }) o ≡ Some t → (u : Ticket S) × (ticket_of i held ≡ Some u) × (t ≡ record u { share = f u.part })
    go None is h = let clash : ◌≡◌ {A = Option (Ticket S)} None (Some t) = h in absurd (cc (clash))
    go (Some u) is h = (u, is, sym (let back : ◌≡◌ {A = Option (Ticket S)} (Some (record u { share = f u.part })) (Some t) = h in cc (back)))

is_held-renamed : {S : Type 0} (f : ℕ → S) (held : List (Ticket S)) (i : ℕ) → is_held i (renamed f held) ≡ is_held i held
is_held-renamed {S} f held i = ap is_some (ticket-renamed f held i) ∙ go (ticket_of i held)
  where
    go : (o : Option (Ticket S)) → is_some (option_map (λ (u : Ticket S). record u { share = f u.part }) o) ≡ is_some o
    go None = refl
    go (Some u) = refl

module _ {X S O : Type 0} (law : Law X S O) (origin : Option O) (n : ℕ) where
  module _ (s : State (Option X) (View S O)) (r : IsOrderly law origin n s) (id : ℕ) (v : View S O) (at : get_elem? s.views id ≡ some v) (alive : v.spent ≡ false) where
    -- a part is out with the seat just where the pass holds it
    out_if_held : (i : ℕ) → is_held i v.held ≡ true → (r.standing.parts i).phase ≡ out id
    out_if_held i h = let t = held_ticket (ticket_of i v.held) h in ((r.each_seat id v at alive).holding i t.0 t.1).1.out_with

    held_if_out : (i : ℕ) → i < n → (r.standing.parts i).phase ≡ out id → is_held i v.held ≡ true
    held_if_out i l e = let o = r.each_out i id l e in let same : o.view ≡ v = some-injective o.view v (sym o.seat ∙ at) in ap (λ (u : View S O). is_held i u.held) (sym same) ∙ o.held

    not_out : (i : ℕ) → i < n → ticket_of i v.held ≡ None → (r.standing.parts i).phase ≢ out id
    not_out i l none' e = let clash : false ≡ true = sym (ap is_some none') ∙ held_if_out i l e in absurd (cc (clash))

    ticket_share : (i : ℕ) (t : Ticket S) → ticket_of i v.held ≡ Some t → t.share ≡ (r.standing.parts i).share
    ticket_share i t e = ((r.each_seat id v at alive).holding i t e).1.share

    -- stamps don't wrap
    stamp_small : get_or s.words (n + n) 0 + 1 < 18446744073709551616
    stamp_small = let t : ℕ = total stopped s.views in let most : t ≤ length s.views = total_most stopped s.views (λ u. stopped_most u.stamped) in let is : get_or s.words (n + n) 0 ≡ length r.standing.log = r.stamp_is in
        let room : length r.standing.log ≤ 9223372036854775808 + t = r.stamp_room in let m : ℕ = r.standing.made in let c : length s.views ≡ m + 1 = r.counted in let few : m < 4294967296 = r.few in omega arith

    -- what the pass has seen is earlier than a new stamp
    seen_below : (i : ℕ) → All (λ d. d.stamp < get_or s.words (n + n) 0) (entries (seen_of v i))
    seen_below i = go (ℕ_lt i n)
      where
        go : (i < n) ⊎ (n ≤ i) → All (λ d. d.stamp < get_or s.words (n + n) 0) (entries (seen_of v i))
        go (inl l) = let p = (r.each_seat id v at alive).saw i l in
            all_front (λ d. d.stamp < get_or s.words (n + n) 0) (entries (seen_of v i)) (entries p.0)
            (subst (All (λ d. d.stamp < get_or s.words (n + n) 0)) (ap entries (sym p.1) ∙ entries-append (seen_of v i) p.0)
            (subst (λ (k : ℕ). All (λ d. d.stamp < k) (entries (r.standing.parts i).told)) (sym r.stamp_is) (logged_below r.standing.log (entries (r.standing.parts i).told) (r.each_part i l).logged)))
        go (inr le) = subst (λ (ts : List Turn). All (λ d. d.stamp < get_or s.words (n + n) 0) (entries ts)) (sym (past_end v.seen i [] (let w : length v.seen ≡ n = (r.each_seat id v at alive).wide in omega arith))) (All-nil (λ d. d.stamp < get_or s.words (n + n) 0))

    module _ (e : HistoryEntry) (named : ℕ → S) (stamp : e.stamp ≡ get_or s.words (n + n) 0) (pass : e.pass ≡ v.number) (rests : v.waits ≡ None) (plain : v.stamped ≡ None) (positive : 0 < n) (tied : IsTied law.tie v e named) where
      abbrev shared : ℕ → Part S
      shared = after id named r.standing.parts

      abbrev log_now : List HistoryEntry
      log_now = r.standing.log ++ e ∷ []

      stamp_longer : IsLonger r.standing.log log_now
      stamp_longer k d h = at_longer r.standing.log (e ∷ []) k d h

      share_kept : (i : ℕ) → i < n → ticket_of i v.held ≡ None → (shared i).share ≡ (r.standing.parts i).share
      share_kept i l none' = share_other id named r.standing.parts i (not_out i l none')

      share_named : (i : ℕ) (t : Ticket S) → ticket_of i v.held ≡ Some t → (shared i).share ≡ named i
      share_named i t e' = share_mine id named r.standing.parts i (out_if_held i (ap is_some e'))

      held_share : (i : ℕ) (t : Ticket S) → ticket_of i v.held ≡ Some t → share_held v i ≡ Some t.share
      held_share i t e' = ap (option_map (λ (u : Ticket S). u.share)) e'

      no_share : (i : ℕ) → ticket_of i v.held ≡ None → share_held v i ≡ None
      no_share i e' = ap (option_map (λ (u : Ticket S). u.share)) e'

      stamp_referred : (p : ℕ) → p ≢ v.number → law.tie.references p (shared 0).share ≡ law.tie.references p (r.standing.parts 0).share
      stamp_referred p ne = go (ticket_of 0 v.held) refl
        where
          go : (o : Option (Ticket S)) → ticket_of 0 v.held ≡ o → law.tie.references p (shared 0).share ≡ law.tie.references p (r.standing.parts 0).share
          go None is = ap (law.tie.references p) (share_kept 0 positive is)
          go (Some t) is = ap (law.tie.references p) (share_named 0 t is) ∙ (tied.others t.share (held_share 0 t is) p ne ∙ ap (law.tie.references p) (ticket_share 0 t is))

      stamp_changes : Changes law.tie n id v.number r.standing (record r.standing { parts = shared; log = log_now })
      stamp_changes = changes_of law origin n s r id v shared log_now (r.each_seat id v at alive) (λ i _. after_follows id v.number named r.standing.parts i) stamp_referred stamp_longer

      stamp_part : (i : ℕ) → i < n → PartOk law origin n log_now (set s.words (n + n) (get_or s.words (n + n) 0 + 1)) s.homes i (shared i)
      stamp_part i l = let ok = part_stays law origin n r.standing.log log_now s.words (set s.words (n + n) (get_or s.words (n + n) 0 + 1)) s.homes s.homes i (r.standing.parts i) stamp_longer
          (get_or-set_other s.words (n + n) i (get_or s.words (n + n) 0 + 1) 0 (λ (q : i ≡ n + n). omega arith)) (get_or-set_other s.words (n + n) (n + i) (get_or s.words (n + n) 0 + 1) 0 (λ (q : n + i ≡ n + n). omega arith)) refl (r.each_part i l) in
          record { drawn_is = ok.drawn_is; served_is = ok.served_is; queue = ok.queue; counted = ok.counted; lies = go (r.standing.parts i).phase refl ok.lies; logged = ok.logged; rise = ok.rise }
        where
          go : (ph : Phase) → (r.standing.parts i).phase ≡ ph → Lies law origin s.homes i (r.standing.parts i) ph → Lies law origin s.homes i (shared i) ph
          go home at_home x = (x.0, x.1, x.2, x.3 ∙ sym (share_other id named r.standing.parts i (λ out'. let clash : home ≡ out id = sym at_home ∙ out' in absurd (cc (clash)))), x.4)
          go (out j) out' x = x

      stamp_holds : (i : ℕ) (t : Ticket S) → ticket_of i (renamed named v.held) ≡ Some t → (i < n) × HasTurn (shared i) id t (seen_of v i)
      stamp_holds i t is = let u = renamed_from named v.held i t is in let h = (r.each_seat id v at alive).holding i u.0 u.1 in (
        h.0,
        record {
          number = ap (λ (z : Ticket S). z.number) u.2 ∙ h.1.number;
          out_with = h.1.out_with;
          share = ap (λ (z : Ticket S). z.share) u.2 ∙ (ap named (ticket-part v.held i u.0 u.1) ∙ sym (share_named i u.0 u.1));
          saw = h.1.saw;
        },
      )

      asked_now : replayed law.tie v.number (asked (stamper v e named)) ≡ law.tie.references v.number (shared 0).share
      asked_now = go (ticket_of 0 v.held) refl
        where
          base : law.tie.references v.number (r.standing.parts 0).share ≡ replayed law.tie v.number (calls_on 0 v.calls)
          base = (r.each_seat id v at alive).referred ∙ ap (replayed law.tie v.number) (asked_plain v plain)

          go : (o : Option (Ticket S)) → ticket_of 0 v.held ≡ o → replayed law.tie v.number (asked (stamper v e named)) ≡ law.tie.references v.number (shared 0).share
          go None is = ap (λ (b : Bool). replayed law.tie v.number (calls_on 0 v.calls ++ cond b (e ∷ []) [])) (is_held-renamed named v.held 0 ∙ ap is_some is)
              ∙ (ap (replayed law.tie v.number) (append-nil (calls_on 0 v.calls)) ∙ (sym base ∙ sym (ap (law.tie.references v.number) (share_kept 0 positive is))))
          go (Some t) is = ap (λ (b : Bool). replayed law.tie v.number (calls_on 0 v.calls ++ cond b (e ∷ []) [])) (is_held-renamed named v.held 0 ∙ ap is_some is)
              ∙ (replayed-snoc law.tie v.number (calls_on 0 v.calls) e ∙ (ap (law.tie.replied e) (sym base ∙ ap (law.tie.references v.number) (sym (ticket_share 0 t is)))
              ∙ (sym (tied.own t.share (held_share 0 t is)) ∙ ap (law.tie.references v.number) (sym (share_named 0 t is)))))

      stamp_seat : SeatOk law.tie origin n (record r.standing { parts = shared; log = log_now }) id (stamper v e named)
      stamp_seat = let ok = r.each_seat id v at alive in record {
        waiting = subst (λ (o : Option Waiting). IfSome o (λ t. (t.part < n) × Waits (shared t.part) id t.number)) (sym rests) tt;
        holding = stamp_holds;
        saw = ok.saw;
        also = ok.also;
        wide = ok.wide;
        wide_too = ok.wide_too;
        stamp = record {
          logged = ap (get_elem? log_now) stamp ∙ at_last r.standing.log e (get_or s.words (n + n) 0) (sym r.stamp_is);
          pass = pass;
          later = λ i h. let t = held_ticket (ticket_of i v.held) (sym (is_held-renamed named v.held i) ∙ h) in
              subst (λ (k : ℕ). All (λ d. d.stamp < k) (entries (r.standing.parts i).told)) (sym (stamp ∙ r.stamp_is)) (logged_below r.standing.log (entries (r.standing.parts i).told) (r.each_part i (ok.holding i t.0 t.1).0).logged);
        };
        named = ok.named;
        own = ok.own;
        referred = sym asked_now;
        joined = joined_stay law.tie n id v.number r.standing (record r.standing { parts = shared; log = log_now }) stamp_changes v.joined ok.joined;
        chief = ok.chief;
        plain = ok.plain;
        origin = ok.origin;
      }

      -- what part 0 says of a row is still the row's share
      stamp_tied : (i : ℕ) → 0 < i → i < n → law.tie.rows i (shared 0).share ≡ (shared i).share
      stamp_tied i pos l = go (ticket_of 0 v.held) refl (ticket_of i v.held) refl
        where
          go : (o : Option (Ticket S)) → ticket_of 0 v.held ≡ o → (q : Option (Ticket S)) → ticket_of i v.held ≡ q → law.tie.rows i (shared 0).share ≡ (shared i).share
          go None a None b = ap (law.tie.rows i) (share_kept 0 positive a) ∙ (r.tied i pos l ∙ sym (share_kept i l b))
          go None a (Some t) b = ap (law.tie.rows i) (share_kept 0 positive a) ∙ (r.tied i pos l ∙ (sym (ticket_share i t b) ∙ (sym (tied.alone (no_share 0 a) i t.share (held_share i t b)) ∙ sym (share_named i t b))))
          go (Some u) a None b = ap (law.tie.rows i) (share_named 0 u a) ∙ (tied.first u.share (held_share 0 u a) i pos (no_share i b) ∙ (ap (law.tie.rows i) (ticket_share 0 u a) ∙ (r.tied i pos l ∙ sym (share_kept i l b))))
          go (Some u) a (Some t) b = ap (law.tie.rows i) (share_named 0 u a) ∙ (tied.both u.share (held_share 0 u a) i t.share pos (held_share i t b) ∙ sym (share_named i t b))

      stamp_opened : law.tie.held_open (shared 0).share
      stamp_opened = go (ticket_of 0 v.held) refl
        where
          go : (o : Option (Ticket S)) → ticket_of 0 v.held ≡ o → law.tie.held_open (shared 0).share
          go None a = subst law.tie.held_open (sym (share_kept 0 positive a)) r.held_open
          go (Some u) a = subst law.tie.held_open (sym (share_named 0 u a)) (tied.held_open u.share (held_share 0 u a))

      stamp_moves : Moves law origin n s r id v (stamper v e named) (set s.words (n + n) (get_or s.words (n + n) 0 + 1)) s.homes shared log_now
      stamp_moves = record {
        at = at;
        alive = alive;
        alive_still = alive;
        number = refl;
        joined = refl;
        words_wide = length-set s.words (n + n) (get_or s.words (n + n) 0 + 1) ∙ r.words_wide;
        homes_wide = r.homes_wide;
        stamp_is = (let w : length s.words ≡ n + n + 1 = r.words_wide in get_or-set_same s.words (n + n) (get_or s.words (n + n) 0 + 1) 0 (omega arith)) ∙ (ap (λ (k : ℕ). k + 1) r.stamp_is ∙ sym (length-append r.standing.log (e ∷ [])));
        changes = stamp_changes;
        each_part = stamp_part;
        seat = stamp_seat;
        held = λ i l out'. is_held-renamed named v.held i ∙ held_if_out i l out';
        room = λ i l. let c = total_set (stuck i) s.views id v (stamper v e named) at in let room = r.room i l in omega arith;
        stamp_room = (let c = total_set stopped s.views id v (stamper v e named) at in let none' : stopped v ≡ 0 = ap stopped_at plain in let long : length log_now ≡ length r.standing.log + 1 = length-append r.standing.log (e ∷ []) in
            let more = stopped_more (length r.standing.log) (total stopped s.views) (total stopped (set s.views id (stamper v e named))) e (stamp ∙ r.stamp_is) r.stamp_room (omega arith) in omega arith);
        tied = stamp_tied;
        held_open = stamp_opened;
      }

  -- a pass that hasn't stamped may draw a stamp for a step that leaves its shares tied
  pub draw_stamp : (slots id : ℕ) (me : Me (Option X) (View S O)) (asked : Asked) (mark : Mark) (reply : Reply) (named : ℕ → ℕ → S) → 0 < n → (me.0.spent ≡ false) × (me.0.waits ≡ None) × (me.0.stamped ≡ None)
      → ((stamp : ℕ) → stamp < 18446744073709551616 → IsTied law.tie me.0 (entry_of stamp me.0.number asked mark reply) (named stamp))
      → Allows (IsOrderly law origin n) slots id me (n + n) (λ k. (k + 1) % 18446744073709551616) (draws_stamp asked mark reply named (step slots (n + n) 1 0 none) me)
  draw_stamp slots id me asked mark reply named positive plain tied s r wide at below = let k : ℕ = get_or s.words (n + n) 0 in let e = entry_of k me.0.number asked mark reply in
      let small : (k + 1) % 18446744073709551616 ≡ k + 1 = mod-eq_of_lt (stamp_small s r id me.0 at plain.0) in (
        stamper me.0 e (named k),
        keeps,
        tt,
        subst (λ (z : ℕ). IsOrderly law origin n (record { words = set s.words (n + n) z; homes = s.homes; views = set s.views id (stamper me.0 e (named k)) })) (sym small)
            (moved law origin n s r id me.0 (stamper me.0 e (named k)) (set s.words (n + n) (k + 1)) s.homes (after id (named k) r.standing.parts) (r.standing.log ++ e ∷ [])
            (stamp_moves s r id me.0 at plain.0 e (named k) refl refl plain.1 plain.2 positive (tied k below))),
        (refl, refl, seen_below s r id me.0 at plain.0),
      )
