-- A pass that is split from the opening pass keeps the rule.
use Rattle.std.proofs.Common.{◌≡◌, ◌≢◌, ◌⊎◌, ℕ, zero, suc, ◌+◌, ◌<◌, true, false, Option, Some, None, IfSome, List, [], ◌∷◌, ◌++◌, length, set, sym, refl, ap, ◌∙◌, subst, inl, inr, ⊎_elim, arith, length-set, length-append}
use mathlib.Core.Option.{some, some-injective, some-ne-none}
use native.Mathlib.Decide.{ℕ_discrete}
use lib.ListN.{get_elem?}
use Rattle.std.proofs.lemmas.List.Elements.{All-nil}
use Rattle.atomic_table.specs.Table.{State}
use Rattle.atomic_table.proofs.Lists.{at_set, set_else, at_longer}
use Rattle.histories.specs.declared.entry.HistoryEntry.{HistoryEntry}
use Rattle.histories.specs.Turns.{entries_by}
use Rattle.turn_table.specs.declared.view.Ticket.{Ticket}
use Rattle.turn_table.specs.declared.view.View.{View}
use Rattle.turn_table.specs.Values.{Law}
use Rattle.turn_table.specs.Views.{is_held, ticket_of}
use Rattle.turn_table.specs.Rule.{out, Standing, JoinedOk, StampOk, SeatOk, total, stuck, stopped, IsOutWith, IsOrderly}
use Rattle.turn_table.proofs.Totals.{total_set, put, put_here, put_else}
use Rattle.turn_table.proofs.Standings.{follows_self, Changes, joined_stay, set_in}
use Rattle.atomic_table.specs.Table.{Splits}
use Rattle.turn_table.specs.Rule.{unmade, active, done, weight}
use Rattle.turn_table.specs.Moves.{splitter, newcomer}
use Rattle.turn_table.proofs.Prefixes.{prefix_nil}
use Rattle.turn_table.proofs.Standings.{seat_stays}
use Rattle.turn_table.proofs.Totals.{total_push}

-- what stands in a list that is one longer
pub at_push : {A : Type 0} (l : List A) (a b : A) (j : ℕ) → get_elem? (l ++ a ∷ []) j ≡ some b → ((j < length l) × (get_elem? l j ≡ some b)) ⊎ ((j ≡ length l) × (a ≡ b))
at_push [] a b zero e = inr (refl, some-injective a b e)
at_push [] a b (suc j) e = absurd (some-ne-none b (sym e))
at_push (x ∷ xs) a b zero e = inl (omega arith, e)
at_push {A} (x ∷ xs) a b (suc j) e = ⊎_elim (λ (t : (j < length xs) × (get_elem? xs j ≡ some b)). let l = t.0 in inl (omega arith, t.1)) (λ (t : (j ≡ length xs) × (a ≡ b)). inr (ap suc t.0, t.1)) (at_push xs a b j e)

-- two places with one view each
below_length : {A : Type 0} (l : List A) (i : ℕ) (a : A) → get_elem? l i ≡ some a → i < length l
below_length [] i a e = absurd (some-ne-none a (sym e))
below_length (x ∷ xs) zero a e = omega arith
below_length (x ∷ xs) (suc i) a e = omega (arith, below_length xs i a e)

no_ticket : {S : Type 0} (i : ℕ) (t : Ticket S) → ticket_of i [] ≡ Some t → ⊥
no_ticket i t e = cc (e)

module _ {X S O : Type 0} (law : Law X S O) (origin : Option O) (n : ℕ) where
  module _ (s : State (Option X) (View S O)) (r : IsOrderly law origin n s) (id : ℕ) (v : View S O) (at : get_elem? s.views id ≡ some v) (alive : v.spent ≡ false) (opens : v.opens ≡ true) where
    made_is : v.made ≡ r.standing.made
    made_is = ((r.each_seat id v at alive).chief opens).1

    abbrev fresh : ℕ
    fresh = r.standing.made + 1

    fresh_unmade : r.standing.roles fresh ≡ unmade
    fresh_unmade = r.unborn fresh (omega arith)

    abbrev split_standing : Standing S
    split_standing = record r.standing { roles = put r.standing.roles fresh (active (length s.views)); made = r.standing.made + 1 }

    split_changes : Changes law.tie n (length s.views) fresh r.standing split_standing
    split_changes = record {
      follows = λ i _. follows_self (length s.views) fresh (r.standing.parts i);
      referred = λ p _. refl;
      longer = λ k e h. h;
      apart = λ p d e. let clash : done ≡ unmade = sym d ∙ (ap r.standing.roles e ∙ fresh_unmade) in absurd (cc (clash));
      done_still = λ p d. put_else r.standing.roles fresh (active (length s.views)) p (λ e. let clash : done ≡ unmade = sym d ∙ (ap r.standing.roles e ∙ fresh_unmade) in absurd (cc (clash))) ∙ d;
    }

    not_fresh : (p j : ℕ) → r.standing.roles p ≡ active j → p ≢ fresh
    not_fresh p j a e = let clash : active j ≡ unmade = sym a ∙ (ap r.standing.roles e ∙ fresh_unmade) in absurd (cc (clash))

    role_still : (p j : ℕ) → r.standing.roles p ≡ active j → split_standing.roles p ≡ active j
    role_still p j a = put_else r.standing.roles fresh (active (length s.views)) p (not_fresh p j a) ∙ a

    split_stamp : (o : Option HistoryEntry) → IfSome o (StampOk r.standing v) → IfSome o (StampOk split_standing (splitter v))
    split_stamp None k = tt
    split_stamp (Some e) k = record { logged = k.logged; pass = k.pass; later = k.later }

    -- the opening pass has made one more
    split_left : SeatOk law.tie origin n split_standing id (splitter v)
    split_left = let ok = r.each_seat id v at alive in record {
      waiting = ok.waiting;
      holding = ok.holding;
      saw = ok.saw;
      also = ok.also;
      wide = ok.wide;
      wide_too = ok.wide_too;
      stamp = split_stamp v.stamped ok.stamp;
      named = role_still v.number id ok.named;
      own = ok.own;
      referred = ok.referred;
      joined = joined_stay law.tie n (length s.views) fresh r.standing split_standing split_changes v.joined ok.joined;
      chief = λ _. ((ok.chief opens).0, ap (λ (k : ℕ). k + 1) made_is);
      plain = λ e. let clash : true ≡ false = sym opens ∙ e in absurd (cc (clash));
      origin = ok.origin;
    }

    -- the new pass has seen what the opening pass has, and has made no call
    split_right : SeatOk law.tie origin n split_standing (length s.views) (newcomer v)
    split_right = let ok = r.each_seat id v at alive in let silent = r.silent fresh fresh_unmade in let number : v.made + 1 ≡ fresh = ap (λ (k : ℕ). k + 1) made_is in record {
      waiting = tt;
      holding = λ i t e. absurd (no_ticket i t e);
      saw = ok.saw;
      also = λ i l. prefix_nil (r.standing.parts i).told;
      wide = ok.wide;
      wide_too = omega arith;
      stamp = tt;
      named = ap (put r.standing.roles fresh (active (length s.views))) number ∙ put_here r.standing.roles fresh (active (length s.views));
      own = λ i l. ap (λ (p : ℕ). entries_by p (r.standing.parts i).told) number ∙ silent.entries i l;
      referred = ap (λ (p : ℕ). law.tie.references p (r.standing.parts 0).share) number ∙ (silent.referred ∙ ap (λ (p : ℕ). law.tie.references p law.tie.nothing) (sym number));
      joined = All-nil (JoinedOk law.tie n split_standing);
      chief = λ e. let clash : false ≡ true = e in absurd (cc (clash));
      plain = λ _. refl;
      origin = ok.origin;
    }

    split_seat : (j : ℕ) (u : View S O) → get_elem? (set s.views id (splitter v) ++ newcomer v ∷ []) j ≡ some u → u.spent ≡ false → SeatOk law.tie origin n split_standing j u
    split_seat j u e alive' = ⊎_elim
        (λ (old : (j < length (set s.views id (splitter v))) × (get_elem? (set s.views id (splitter v)) j ≡ some u)). ⊎_elim
        (λ (x : (j ≡ id) × (splitter v ≡ u)). subst (λ (y : ℕ × View S O). SeatOk law.tie origin n split_standing y.0 y.1) (λ k. (sym x.0 k, x.1 k)) split_left)
        (λ (x : (j ≢ id) × (get_elem? s.views j ≡ some u)). let ok = r.each_seat j u x.1 alive' in let low : j < length s.views = below_length s.views j u x.1 in
        seat_stays law.tie origin n (length s.views) fresh r.standing split_standing split_changes j (λ (same : j ≡ length s.views). omega arith) u ok (not_fresh u.number j ok.named) (role_still u.number j ok.named)
        (λ o. absurd (x.0 ((ok.chief o).0 ∙ sym ((r.each_seat id v at alive).chief opens).0))))
        (at_set s.views id j (splitter v) u old.1))
        (λ (new : (j ≡ length (set s.views id (splitter v))) × (newcomer v ≡ u)). subst (λ (y : ℕ × View S O). SeatOk law.tie origin n split_standing y.0 y.1) (λ k. (sym (new.0 ∙ length-set s.views id (splitter v)) k, new.1 k)) split_right)
        (at_push (set s.views id (splitter v)) (newcomer v) u j e)

    split_out : (i j : ℕ) → i < n → (r.standing.parts i).phase ≡ out j → IsOutWith (set s.views id (splitter v) ++ newcomer v ∷ []) i j
    split_out i j l e = let o = r.each_out i j l e in go o (ℕ_discrete j id)
      where
        go : IsOutWith s.views i j → Dec (j ≡ id) → IsOutWith (set s.views id (splitter v) ++ newcomer v ∷ []) i j
        go o (yes same) = let is : o.view ≡ v = some-injective o.view v (sym o.seat ∙ (ap (get_elem? s.views) same ∙ at)) in record {
          view = splitter v;
          seat = at_longer (set s.views id (splitter v)) (newcomer v ∷ []) j (splitter v) (subst (λ (k : ℕ). get_elem? (set s.views id (splitter v)) k ≡ some (splitter v)) (sym same) (set_in s.views id v (splitter v) at));
          alive = alive;
          held = ap (λ (u : View S O). is_held i u.held) (sym is) ∙ o.held;
        }
        go o (no ne) = record { view = o.view; seat = at_longer (set s.views id (splitter v)) (newcomer v ∷ []) j o.view (set_else s.views id j (splitter v) ne ∙ o.seat); alive = o.alive; held = o.held }

    split_total : (f : View S O → ℕ) → f (splitter v) ≡ f v → total f (set s.views id (splitter v) ++ newcomer v ∷ []) ≡ total f s.views + f (newcomer v)
    split_total f same = omega (arith, total_push f (set s.views id (splitter v)) (newcomer v), total_set f s.views id v (splitter v) at, same)

    pub split_orderly : r.standing.made + 1 < 4294967296 → IsOrderly law origin n (record { words = s.words; homes = s.homes; views = set s.views id (splitter v) ++ newcomer v ∷ [] })
    split_orderly few = record {
      standing = split_standing;
      words_wide = r.words_wide;
      homes_wide = r.homes_wide;
      stamp_is = r.stamp_is;
      each_part = r.each_part;
      each_seat = split_seat;
      each_out = split_out;
      room = λ i l. let room = r.room i l in let c = split_total (stuck i) refl in omega arith;
      stamp_room = let room = r.stamp_room in let c = split_total stopped refl in omega arith;
      counted = length-append (set s.views id (splitter v)) (newcomer v ∷ []) ∙ ap (λ (k : ℕ). k + 1) (length-set s.views id (splitter v) ∙ r.counted);
      few = few;
      weighed = let c = split_total weight refl in let w = r.weighed in omega arith;
      unborn = λ p l. put_else r.standing.roles fresh (active (length s.views)) p (λ (e : p ≡ fresh). omega arith) ∙ r.unborn p (omega arith);
      silent = λ p e. let ne : p ≢ fresh = (λ same. let clash : active (length s.views) ≡ unmade = sym (put_here r.standing.roles fresh (active (length s.views))) ∙ (ap (put r.standing.roles fresh (active (length s.views))) (sym same) ∙ e) in absurd (cc (clash))) in
          let k = r.silent p (sym (put_else r.standing.roles fresh (active (length s.views)) p ne) ∙ e) in record { entries = k.entries; referred = k.referred };
      tied = r.tied;
      held_open = r.held_open;
    }

  -- the opening pass may be split
  pub splits : (id : ℕ) (v : View S O) → v.spent ≡ false → v.opens ≡ true → v.made < 4294967295 → Splits (IsOrderly law origin n) id v (splitter v) (newcomer v)
  splits id v alive opens few s r at = split_orderly s r id v at alive opens (let is = made_is s r id v at alive opens in omega arith)
