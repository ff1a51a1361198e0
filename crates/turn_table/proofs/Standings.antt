-- What other passes know stays true when one pass takes a step; so the rule does.
use Rattle.std.proofs.Common.{◌≡◌, ◌≢◌, ℕ, zero, suc, ◌+◌, ◌<◌, ◌≤◌, Bool, true, false, cond, Option, Some, None, IfSome, is_some, List, [], ◌∷◌, length, get_or, set, All, sym, refl, ap, ◌∙◌, subst, ⊎_elim, arith, length-set}
use Rattle.std.proofs.lemmas.List.Elements.{All-weaker}
use mathlib.Core.Option.{some, some-injective, some-ne-none}
use mathlib.Core.Option as maybe
use mathlib.Core.List.{IsPrefix}
use native.Mathlib.Decide.{ℕ_discrete}
use lib.ListN.{get_elem?}
use Rattle.atomic_table.specs.Table.{State}
use Rattle.atomic_table.proofs.Lists.{at_set, set_else}
use Rattle.histories.specs.declared.entry.HistoryEntry.{HistoryEntry}
use Rattle.histories.specs.Turns.{Turn, Call, entries, entries_by}
use Rattle.histories.specs.Tie.{Tie}
use Rattle.turn_table.specs.declared.view.Ticket.{Ticket}
use Rattle.turn_table.specs.declared.view.Waiting.{Waiting}
use Rattle.turn_table.specs.declared.view.View.{View}
use Rattle.turn_table.specs.Values.{Law}
use Rattle.turn_table.specs.Views.{is_held, ticket_of, seen_of}
use Rattle.turn_table.specs.Rule.{Phase, home, out, unmade, active, done, Part, Standing, IsLogged, Waits, Lies, PartOk, JoinedOk, StampOk, SeatOk, IsSilent, total, stuck, stopped, weight, IsOutWith, IsOrderly}
use Rattle.turn_table.proofs.Prefixes.{prefix_self, prefix_trans}
use Rattle.turn_table.proofs.Totals.{total_set}

-- each entry that was logged is logged at its stamp
abbrev pub IsLonger : List HistoryEntry → List HistoryEntry → Type 0
IsLonger log log' = (k : ℕ) (e : HistoryEntry) → get_elem? log k ≡ some e → get_elem? log' k ≡ some e

pub held_ticket : {S : Type 0} (o : Option (Ticket S)) → is_some o ≡ true → (t : Ticket S) × (o ≡ Some t)
held_ticket None e = absurd (cc (e))
held_ticket (Some t) e = (t, refl)

pub is_held_of : {S : Type 0} (o : Option (Ticket S)) (t : Ticket S) → o ≡ Some t → is_some o ≡ true
is_held_of o t e = ap is_some e

-- When p becomes q by a step of the seat id, whose pass has the number num: what other seats know of the part stays so
pub record Follows {S : Type 0} (id num : ℕ) (p q : Part S) : Type 0 where
  pub waiting : (j k : ℕ) → j ≢ id → Waits p j k → Waits q j k
  pub holding : (j : ℕ) → j ≢ id → p.phase ≡ out j → (q.phase ≡ p.phase) × (q.served ≡ p.served) × (q.told ≡ p.told) × (q.share ≡ p.share)
  pub away : (j : ℕ) → j ≢ id → q.phase ≡ out j → p.phase ≡ out j
  pub grown : IsPrefix p.told q.told
  pub calls : (r : ℕ) → r ≢ num → entries_by r q.told ≡ entries_by r p.told

pub follows_self : {S : Type 0} (id num : ℕ) (p : Part S) → Follows id num p p
follows_self id num p = record {
  waiting = λ j k _ w. w;
  holding = λ j _ _. (refl, refl, refl, refl);
  away = λ j _ e. e;
  grown = prefix_self p.told;
  calls = λ r _. refl;
}

-- the same of all parts, of the log and of the passes that were joined
pub record Changes {S : Type 0} (tie : Tie S) (n id num : ℕ) (st st' : Standing S) : Type 0 where
  pub follows : (i : ℕ) → i < n → Follows id num (st.parts i) (st'.parts i)
  pub referred : (r : ℕ) → r ≢ num → tie.references r (st'.parts 0).share ≡ tie.references r (st.parts 0).share
  pub longer : IsLonger st.log st'.log
  pub apart : (r : ℕ) → st.roles r ≡ done → r ≢ num
  pub done_still : (r : ℕ) → st.roles r ≡ done → st'.roles r ≡ done

joined_stays : {S : Type 0} (tie : Tie S) (n id num : ℕ) (st st' : Standing S) → Changes tie n id num st st' → (pass : ℕ × List Call) → JoinedOk tie n st pass → JoinedOk tie n st' pass
joined_stays tie n id num st st' c pass k = let ne = c.apart pass.0 k.done in record {
  done = c.done_still pass.0 k.done;
  own = λ i l. (c.follows i l).calls pass.0 ne ∙ k.own i l;
  referred = c.referred pass.0 ne ∙ k.referred;
}

pub joined_stay : {S : Type 0} (tie : Tie S) (n id num : ℕ) (st st' : Standing S) → Changes tie n id num st st' → (passes : List (ℕ × List Call)) → All (JoinedOk tie n st) passes → All (JoinedOk tie n st') passes
joined_stay tie n id num st st' c passes all = All-weaker (JoinedOk tie n st) (JoinedOk tie n st') (joined_stays tie n id num st st' c) passes all

module _ {S : Type 0} (tie : Tie S) (n id num : ℕ) (st st' : Standing S) (c : Changes tie n id num st st') where
  waiting_stays : (j : ℕ) → j ≢ id → (o : Option Waiting) → IfSome o (λ t. (t.part < n) × Waits (st.parts t.part) j t.number) → IfSome o (λ t. (t.part < n) × Waits (st'.parts t.part) j t.number)
  waiting_stays j ne None k = k
  waiting_stays j ne (Some t) k = (k.0, (c.follows t.part k.0).waiting j t.number ne k.1)

  pub silent_stays : (pass : ℕ) → pass ≢ num → IsSilent tie n st.parts pass → IsSilent tie n st'.parts pass
  silent_stays pass ne k = record {
    entries = λ i l. (c.follows i l).calls pass ne ∙ k.entries i l;
    referred = c.referred pass ne ∙ k.referred;
  }

module _ {S O : Type 0} (tie : Tie S) (origin : Option O) (n id num : ℕ) (st st' : Standing S) (c : Changes tie n id num st st') (j : ℕ) (ne : j ≢ id) (u : View S O) where
  stamp_stays : SeatOk tie origin n st j u → (o : Option HistoryEntry) → IfSome o (StampOk st u) → IfSome o (StampOk st' u)
  stamp_stays ok None k = k
  stamp_stays ok (Some e) k = record {
    logged = c.longer e.stamp e k.logged;
    pass = k.pass;
    later = λ i held. let t = held_ticket (ticket_of i u.held) held in let h = ok.holding i t.0 t.1 in let s = (c.follows i h.0).holding j ne h.1.out_with in
        subst (λ (ts : List Turn). All (λ (d : HistoryEntry). d.stamp < e.stamp) (entries ts)) (sym s.2) (k.later i held);
  }

  -- what another pass knows stays so
  pub seat_stays : SeatOk tie origin n st j u → u.number ≢ num → st'.roles u.number ≡ active j → (u.opens ≡ true → (j ≡ st'.chief) × (u.made ≡ st'.made)) → SeatOk tie origin n st' j u
  seat_stays ok other role chief = record {
    waiting = waiting_stays tie n id num st st' c j ne u.waits ok.waiting;
    holding = λ i t e. let h = ok.holding i t e in let s = (c.follows i h.0).holding j ne h.1.out_with in
        (h.0, record { number = h.1.number ∙ sym s.1; out_with = s.0 ∙ h.1.out_with; share = h.1.share ∙ sym s.3; saw = h.1.saw ∙ sym s.2 });
    saw = λ i l. prefix_trans (seen_of u i) (st.parts i).told (st'.parts i).told (ok.saw i l) (c.follows i l).grown;
    also = λ i l. prefix_trans (get_or u.also i []) (st.parts i).told (st'.parts i).told (ok.also i l) (c.follows i l).grown;
    wide = ok.wide;
    wide_too = ok.wide_too;
    stamp = stamp_stays ok u.stamped ok.stamp;
    named = role;
    own = λ i l. (c.follows i l).calls u.number other ∙ ok.own i l;
    referred = c.referred u.number other ∙ ok.referred;
    joined = joined_stay tie n id num st st' c u.joined ok.joined;
    chief = chief;
    plain = ok.plain;
    origin = ok.origin;
  }

module _ {X S O : Type 0} where
  -- a part that a step does not touch
  pub part_stays : (law : Law X S O) (origin : Option O) (n : ℕ) (log log' : List HistoryEntry) (words words' : List ℕ) (homes homes' : List (maybe.Option (Option X))) (i : ℕ) (p : Part S)
      → IsLonger log log' → get_or words' i 0 ≡ get_or words i 0 → get_or words' (n + i) 0 ≡ get_or words (n + i) 0 → get_elem? homes' i ≡ get_elem? homes i → PartOk law origin n log words homes i p → PartOk law origin n log' words' homes' i p
  part_stays law origin n log log' words words' homes homes' i p longer a b same k = record {
    drawn_is = a ∙ k.drawn_is;
    served_is = b ∙ k.served_is;
    queue = k.queue;
    counted = k.counted;
    lies = go p.phase k.lies;
    logged = All-weaker (IsLogged log) (IsLogged log') (λ e. longer e.stamp e) (entries p.told) k.logged;
    rise = k.rise;
  }
    where
      go : (ph : Phase) → Lies law origin homes i p ph → Lies law origin homes' i p ph
      go home l = (l.0, same ∙ l.1, l.2, l.3, l.4)
      go (out j) l = l

-- a view that is changed stands at its seat
pub set_in : {V : Type 0} (vs : List V) (i : ℕ) (v w : V) → get_elem? vs i ≡ some v → get_elem? (set vs i w) i ≡ some w
set_in [] i v w e = absurd (some-ne-none v (sym e))
set_in (x ∷ xs) zero v w e = refl
set_in (x ∷ xs) (suc i) v w e = set_in xs i v w e

weights : {S O : Type 0} (v w : View S O) → v.spent ≡ false → w.spent ≡ false → w.joined ≡ v.joined → weight w ≡ weight v
weights v w a b e = ap (λ (z : Bool). cond z 0 (length w.joined + 1)) b ∙ (ap (λ (l : List (ℕ × List Call)). length l + 1) e ∙ sym (ap (λ (z : Bool). cond z 0 (length v.joined + 1)) a))

module _ {X S O : Type 0} (law : Law X S O) (origin : Option O) (n : ℕ) where
  -- a step of the seat id, whose view v becomes w: what has to be shown
  pub record Moves (s : State (Option X) (View S O)) (r : IsOrderly law origin n s) (id : ℕ) (v w : View S O) (words' : List ℕ) (homes' : List (maybe.Option (Option X))) (parts' : ℕ → Part S) (log' : List HistoryEntry) : Type 0 where
    pub at : get_elem? s.views id ≡ some v
    pub alive : v.spent ≡ false
    pub alive_still : w.spent ≡ false
    pub number : w.number ≡ v.number
    pub joined : w.joined ≡ v.joined
    pub words_wide : length words' ≡ n + n + 1
    pub homes_wide : length homes' ≡ n
    pub stamp_is : get_or words' (n + n) 0 ≡ length log'
    pub changes : Changes law.tie n id v.number r.standing (record r.standing { parts = parts'; log = log' })
    pub each_part : (i : ℕ) → i < n → PartOk law origin n log' words' homes' i (parts' i)
    pub seat : SeatOk law.tie origin n (record r.standing { parts = parts'; log = log' }) id w
    pub held : (i : ℕ) → i < n → (parts' i).phase ≡ out id → is_held i w.held ≡ true
    pub room : (i : ℕ) → i < n → (parts' i).drawn ≤ 9223372036854775808 + total (stuck i) (set s.views id w)
    pub stamp_room : length log' ≤ 9223372036854775808 + total stopped (set s.views id w)
    pub tied : (i : ℕ) → 0 < i → i < n → law.tie.rows i (parts' 0).share ≡ (parts' i).share
    pub held_open : law.tie.held_open (parts' 0).share

  -- the seat's own facts
  pub own_seat : (s : State (Option X) (View S O)) (r : IsOrderly law origin n s) (id : ℕ) (v : View S O) → get_elem? s.views id ≡ some v → v.spent ≡ false → SeatOk law.tie origin n r.standing id v
  own_seat s r id v at alive = r.each_seat id v at alive

  -- the parts and the log change, and no pass does
  pub changes_of : (s : State (Option X) (View S O)) (r : IsOrderly law origin n s) (id : ℕ) (v : View S O) (parts' : ℕ → Part S) (log' : List HistoryEntry) → SeatOk law.tie origin n r.standing id v
      → ((i : ℕ) → i < n → Follows id v.number (r.standing.parts i) (parts' i)) → ((p : ℕ) → p ≢ v.number → law.tie.references p (parts' 0).share ≡ law.tie.references p (r.standing.parts 0).share)
      → IsLonger r.standing.log log' → Changes law.tie n id v.number r.standing (record r.standing { parts = parts'; log = log' })
  changes_of s r id v parts' log' ok follows referred longer = record {
    follows = follows;
    referred = referred;
    longer = longer;
    apart = λ p d e. let clash : done ≡ active id = sym d ∙ (ap r.standing.roles e ∙ ok.named) in absurd (cc (clash));
    done_still = λ p d. d;
  }

  -- two seats have two numbers
  pub two_numbers : (s : State (Option X) (View S O)) (r : IsOrderly law origin n s) (id j : ℕ) (v u : View S O) → SeatOk law.tie origin n r.standing id v → SeatOk law.tie origin n r.standing j u → j ≢ id → u.number ≢ v.number
  two_numbers s r id j v u a b ne e = let same : active j ≡ active id = sym b.named ∙ (ap r.standing.roles e ∙ a.named) in ne (cc (same))

  module _ (s : State (Option X) (View S O)) (r : IsOrderly law origin n s) (id : ℕ) (v w : View S O) (words' : List ℕ) (homes' : List (maybe.Option (Option X))) (parts' : ℕ → Part S) (log' : List HistoryEntry) (m : Moves s r id v w words' homes' parts' log') where
    out_still : (i j : ℕ) → i < n → (parts' i).phase ≡ out j → IsOutWith (set s.views id w) i j
    out_still i j l e = go (ℕ_discrete j id)
      where
        go : Dec (j ≡ id) → IsOutWith (set s.views id w) i j
        go (yes is) = record { view = w; seat = subst (λ (k : ℕ). get_elem? (set s.views id w) k ≡ some w) (sym is) (set_in s.views id v w m.at); alive = m.alive_still; held = m.held i l (e ∙ ap out is) }
        go (no ne) = let o = r.each_out i j l ((m.changes.follows i l).away j ne e) in record { view = o.view; seat = set_else s.views id j w ne ∙ o.seat; alive = o.alive; held = o.held }

    pub moved : IsOrderly law origin n (record { words = words'; homes = homes'; views = set s.views id w })
    moved = record {
      standing = record r.standing { parts = parts'; log = log' };
      words_wide = m.words_wide;
      homes_wide = m.homes_wide;
      stamp_is = m.stamp_is;
      each_part = m.each_part;
      each_seat = λ j u at alive. ⊎_elim
          (λ (x : (j ≡ id) × (w ≡ u)). subst (λ (y : ℕ × View S O). SeatOk law.tie origin n (record r.standing { parts = parts'; log = log' }) y.0 y.1) (λ k. (sym x.0 k, x.1 k)) m.seat)
          (λ (x : (j ≢ id) × (get_elem? s.views j ≡ some u)). let ok = r.each_seat j u x.1 alive in
          seat_stays law.tie origin n id v.number r.standing (record r.standing { parts = parts'; log = log' }) m.changes j x.0 u ok (two_numbers s r id j v u (r.each_seat id v m.at m.alive) ok x.0) ok.named ok.chief)
          (at_set s.views id j w u at);
      each_out = out_still;
      room = m.room;
      stamp_room = m.stamp_room;
      counted = length-set s.views id w ∙ r.counted;
      few = r.few;
      weighed = omega (arith, total_set weight s.views id v w m.at, weights v w m.alive m.alive_still m.joined, r.weighed);
      unborn = r.unborn;
      silent = λ p e. silent_stays law.tie n id v.number r.standing (record r.standing { parts = parts'; log = log' }) m.changes p
          (λ same. let clash : unmade ≡ active id = sym e ∙ (ap r.standing.roles same ∙ (r.each_seat id v m.at m.alive).named) in absurd (cc (clash))) (r.silent p e);
      tied = m.tied;
      held_open = m.held_open;
    }
