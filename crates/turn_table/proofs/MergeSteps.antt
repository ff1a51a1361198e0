-- Seeing what a joined pass has seen keeps the rule: part by part the longer beginning is seen.
use Rattle.std.proofs.Common.{◌≡◌, ℕ, zero, suc, ◌<◌, ◌≤◌, nat_le, Bool, true, false, cond, Option, Some, None, IfSome, List, [], ◌∷◌, length, get_or, set, sym, refl, ap, ap₂, ◌∙◌, subst, inl, inr, arith, lt_of_not-le}
use mathlib.Core.Option.{none, some, some-injective}
use mathlib.Core.List.{IsPrefix}
use native.Mathlib.Decide.{dec_le}
use lib.ListN.{get_elem?}
use lib.Seq.{set-get_or}
use Rattle.std.proofs.lemmas.Bool.Decides.{nat_tests}
use Rattle.atomic_table.specs.Table.{State, Me, step, keeps, Allows}
use Rattle.histories.specs.declared.entry.HistoryEntry.{HistoryEntry}
use Rattle.histories.specs.Turns.{Turn}
use Rattle.turn_table.specs.declared.view.Ticket.{Ticket}
use Rattle.turn_table.specs.declared.view.View.{View}
use Rattle.turn_table.specs.Values.{Law}
use Rattle.turn_table.specs.Views.{is_held, ticket_of, seen_of}
use Rattle.turn_table.specs.Rule.{HasTurn, StampOk, stuck, stopped, IsOrderly}
use Rattle.turn_table.proofs.Prefixes.{prefix_self}
use Rattle.turn_table.proofs.Totals.{total_set}
use Rattle.turn_table.proofs.Standings.{follows_self, changes_of, Moves, moved}
use Rattle.turn_table.specs.Passes.{IsLonger as Longer}
use Rattle.turn_table.specs.Moves.{merger, merged, merges, longer_of}
use Rattle.turn_table.proofs.Prefixes.{prefix_nil, prefix_shorter}

merged-at : (a b : List (List Turn)) (i : ℕ) → get_or (merged a b) i [] ≡ longer_of (get_or a i []) (get_or b i [])
merged-at [] b i = sym (longer_nil (get_or b i []))
  where
    longer_nil : (ts : List Turn) → longer_of [] ts ≡ ts
    longer_nil [] = refl
    longer_nil (t ∷ ts) = ap (λ (z : Bool). cond z [] (t ∷ ts)) (let far : nat_le (length (t ∷ ts)) 0 ≡ false = grind (arith, nat_tests) in far)
merged-at (x ∷ xs) [] i = sym (ap (λ (z : Bool). cond z (get_or (x ∷ xs) i []) []) (let near : nat_le 0 (length (get_or (x ∷ xs) i [])) ≡ true = grind (arith, nat_tests) in near))
merged-at (x ∷ xs) (y ∷ ys) zero = refl
merged-at (x ∷ xs) (y ∷ ys) (suc i) = merged-at xs ys i

length-merged : (a b : List (List Turn)) (n : ℕ) → length a ≡ n → length b ≤ n → length (merged a b) ≡ n
length-merged [] [] n e l = e
length-merged [] (y ∷ ys) n e l = absurd (omega arith)
length-merged (x ∷ xs) [] n e l = e
length-merged (x ∷ xs) (y ∷ ys) zero e l = absurd (omega arith)
length-merged (x ∷ xs) (y ∷ ys) (suc n) e l = ap suc (length-merged xs ys n (omega arith) (omega arith))

-- of two beginnings of one list the longer is one that both begin
longer_is : (a b ts : List Turn) → IsPrefix a ts → IsPrefix b ts → Longer a b (longer_of a b) × IsPrefix (longer_of a b) ts
longer_is a b ts p q = go (nat_le (length b) (length a)) refl
  where
    go : (z : Bool) → nat_le (length b) (length a) ≡ z → Longer a b (cond z a b) × IsPrefix (cond z a b) ts
    go true e = let le : length b ≤ length a = grind (arith, nat_tests) in (record { either = inl refl; first = prefix_self a; second = prefix_shorter b a ts q p le }, p)
    go false e = let le : length a ≤ length b = grind (arith, nat_tests) in (record { either = inr refl; first = prefix_shorter a b ts p q le; second = prefix_self b }, q)

past_end : {A : Type 0} (l : List A) (i : ℕ) (d : A) → length l ≤ i → get_or l i d ≡ d
past_end [] i d le = refl
past_end (x ∷ xs) zero d le = absurd (omega arith)
past_end (x ∷ xs) (suc i) d le = past_end xs i d (omega arith)

module _ {X S O : Type 0} (law : Law X S O) (origin : Option O) (n : ℕ) where
  module _ (s : State (Option X) (View S O)) (r : IsOrderly law origin n s) (id : ℕ) (v : View S O) (at : get_elem? s.views id ≡ some v) (alive : v.spent ≡ false) where
    merge_saw : (i : ℕ) → i < n → Longer (seen_of v i) (get_or v.also i []) (seen_of (merger v) i) × IsPrefix (seen_of (merger v) i) (r.standing.parts i).told
    merge_saw i l = let ok = r.each_seat id v at alive in subst (λ (ts : List Turn). Longer (seen_of v i) (get_or v.also i []) ts × IsPrefix ts (r.standing.parts i).told) (sym (merged-at v.seen v.also i))
        (longer_is (seen_of v i) (get_or v.also i []) (r.standing.parts i).told (ok.saw i l) (ok.also i l))

    merge_longer : (i : ℕ) → Longer (seen_of v i) (get_or v.also i []) (seen_of (merger v) i)
    merge_longer i = go (dec_le n i)
      where
        go : Dec (n ≤ i) → Longer (seen_of v i) (get_or v.also i []) (seen_of (merger v) i)
        go (no low) = (merge_saw i (lt_of_not-le low)).0
        go (yes far) = let ok = r.each_seat id v at alive in let a : get_or v.seen i [] ≡ [] = past_end v.seen i [] (let w : length v.seen ≡ n = ok.wide in omega arith) in
            let b : get_or v.also i [] ≡ [] = past_end v.also i [] (let w : length v.also ≤ n = ok.wide_too in omega arith) in
            subst (λ (z : List Turn × List Turn × List Turn). Longer z.0 z.1 z.2) (λ k. (sym a k, sym b k, sym (merged-at v.seen v.also i ∙ ap₂ longer_of a b) k)) (record { either = inl refl; first = prefix_nil []; second = prefix_nil [] })

    merge_stamp : (o : Option HistoryEntry) → IfSome o (StampOk r.standing v) → IfSome o (StampOk r.standing (merger v))
    merge_stamp None k = tt
    merge_stamp (Some e) k = record { logged = k.logged; pass = k.pass; later = k.later }

    -- what a held part has told is seen already
    merge_holds : v.held ≡ [] → (i : ℕ) (t : Ticket S) → ticket_of i v.held ≡ Some t → (i < n) × HasTurn (r.standing.parts i) id t (seen_of (merger v) i)
    merge_holds none' i t e = let clash : None ≡ Some t = sym (ap (ticket_of i) none') ∙ e in absurd (cc (clash))

    merge_moves : v.held ≡ [] → Moves law origin n s r id v (merger v) s.words s.homes r.standing.parts r.standing.log
    merge_moves none' = let ok = r.each_seat id v at alive in record {
      at = at;
      alive = alive;
      alive_still = alive;
      number = refl;
      joined = refl;
      words_wide = r.words_wide;
      homes_wide = r.homes_wide;
      stamp_is = r.stamp_is;
      changes = changes_of law origin n s r id v r.standing.parts r.standing.log (r.each_seat id v at alive) (λ i _. follows_self id v.number (r.standing.parts i)) (λ p _. refl) (λ k e h. h);
      each_part = r.each_part;
      seat = record {
        waiting = ok.waiting;
        holding = merge_holds none';
        saw = λ i l. (merge_saw i l).1;
        also = λ i l. prefix_nil (r.standing.parts i).told;
        wide = length-merged v.seen v.also n ok.wide ok.wide_too;
        wide_too = omega arith;
        stamp = merge_stamp v.stamped ok.stamp;
        named = ok.named;
        own = ok.own;
        referred = ok.referred;
        joined = ok.joined;
        chief = ok.chief;
        plain = ok.plain;
        origin = ok.origin;
      };
      held = λ i l e. let o = r.each_out i id l e in let same : o.view ≡ v = some-injective o.view v (sym o.seat ∙ at) in ap (λ (u : View S O). is_held i u.held) (sym same) ∙ o.held;
      room = λ i l. let c = total_set (stuck i) s.views id v (merger v) at in let room = r.room i l in omega arith;
      stamp_room = let c = total_set stopped s.views id v (merger v) at in let room = r.stamp_room in omega arith;
      tied = r.tied;
      held_open = r.held_open;
    }

  -- a pass that holds no part sees what the pass that was joined into it has seen
  pub merge : (slots id word : ℕ) (me : Me (Option X) (View S O)) → me.0.spent ≡ false → me.0.held ≡ [] → Allows (IsOrderly law origin n) slots id me word (λ k. k) (merges (step slots word 0 0 none) me)
  merge slots id word me alive none' s r wide at below = (
    merger me.0,
    keeps,
    tt,
    subst (λ (ws : List ℕ). IsOrderly law origin n (record { words = ws; homes = s.homes; views = set s.views id (merger me.0) })) (sym (set-get_or s.words word 0))
        (moved law origin n s r id me.0 (merger me.0) s.words s.homes r.standing.parts r.standing.log (merge_moves s r id me.0 at alive none')),
    (refl, refl, merge_longer s r id me.0 at alive),
  )
