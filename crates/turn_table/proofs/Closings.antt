-- What the last pass knows of the values when the table closes.
use Rattle.std.proofs.Common.{◌≡◌, ℕ, zero, suc, ◌+◌, ◌<◌, Bool, true, false, cond, Option, Some, option_to_list, List, [], ◌∷◌, ◌++◌, map, length, get_or, All, sym, refl, ap, ◌∙◌, subst, arith, append-nil}
use mathlib.Core.Option.{some, some-injective}
use native.Mathlib.Decide.{ℕ_discrete}
use lib.ListN.{get_elem?}
use Rattle.std.proofs.lemmas.List.Elements.{All-weaker, All-nil}
use Rattle.atomic_table.specs.Table.{State}
use Rattle.histories.specs.Turns.{Turn, Call, entries, entries_by, calls_on}
use Rattle.histories.specs.Tie.{replayed}
use Rattle.turn_table.specs.declared.view.View.{View}
use Rattle.turn_table.specs.Values.{Law}
use Rattle.turn_table.specs.Views.{is_held}
use Rattle.turn_table.specs.Rule.{Phase, home, out, IsLogged, Lies, JoinedOk, SeatOk, IsOrderly}
use Rattle.std.proofs.Common.{slice_get}
use Rattle.std.proofs.lemmas.List.Elements.{All-contains}
use Rattle.atomic_table.specs.Table.{Final, Seen}
use Rattle.turn_table.specs.Rule.{weight}
use Rattle.turn_table.specs.Passes.{AreTied, Closes, Ends, IsLast}
use Rattle.turn_table.proofs.Totals.{total_two}

get-mapped : {A B : Type 0} (f : A → B) (l : List A) (i : ℕ) (y : B) → slice_get (map f l) i ≡ Some y → (x : A) × (slice_get l i ≡ Some x) × (f x ≡ y)
get-mapped f [] i y e = absurd (cc (e))
get-mapped f (x ∷ xs) zero y e = (x, refl, cc (e))
get-mapped f (x ∷ xs) (suc i) y e = get-mapped f xs i y e

mapped-get : {A B : Type 0} (f : A → B) (l : List A) (i : ℕ) (x : A) → slice_get l i ≡ Some x → slice_get (map f l) i ≡ Some (f x)
mapped-get f [] i x e = absurd (cc (e))
mapped-get {A} {B} f (a ∷ l) zero x e = let same : a ≡ x = cc (e) in ap (λ (z : A). Some (f z)) same
mapped-get f (a ∷ l) (suc i) x e = mapped-get f l i x e

get_some : {A : Type 0} (l : List A) (i : ℕ) → i < length l → (x : A) × (slice_get l i ≡ Some x)
get_some [] i h = absurd (omega arith)
get_some (x ∷ xs) zero h = (x, refl)
get_some (x ∷ xs) (suc i) h = get_some xs i (omega arith)

get_below : {A : Type 0} (l : List A) (i : ℕ) (x : A) → slice_get l i ≡ Some x → i < length l
get_below [] i x e = absurd (cc (e))
get_below (y ∷ ys) zero x e = omega arith
get_below (y ∷ ys) (suc i) x e = omega (arith, get_below ys i x e)

-- what holds of nothing, and of what each value tells, holds of what is told at each place
told_at : {X : Type 0} (turns : X → List Turn) (P : List Turn → Type 0) (values : List X) → P [] → ((i : ℕ) (x : X) → slice_get values i ≡ Some x → P (turns x)) → (i : ℕ) → P (get_or (map turns values) i [])
told_at turns P [] none' each i = none'
told_at turns P (x ∷ xs) none' each zero = each 0 x refl
told_at turns P (x ∷ xs) none' each (suc i) = told_at turns P xs none' (λ j y e. each (suc j) y e) i

module _ {X S O : Type 0} (law : Law X S O) (origin : Option O) (n : ℕ) (id : ℕ) (v : View S O) (alive : v.spent ≡ false) (none' : v.held ≡ []) (last : IsLast v) where
  -- no other pass is left, and this one holds nothing: so each value is at home
  at_home : (s : State (Option X) (View S O)) (r : IsOrderly law origin n s) → get_elem? s.views id ≡ some v → (i : ℕ) → i < n → Lies law origin s.homes i (r.standing.parts i) home
  at_home s r at i l = go (r.standing.parts i).phase refl (r.each_part i l).lies
    where
      go : (ph : Phase) → (r.standing.parts i).phase ≡ ph → Lies law origin s.homes i (r.standing.parts i) ph → Lies law origin s.homes i (r.standing.parts i) home
      go home e x = x
      go (out j) e x = absurd (who (ℕ_discrete id j))
        where
          who : Dec (id ≡ j) → ⊥
          who (yes same) = let o = r.each_out i j l e in let is : o.view ≡ v = some-injective o.view v (sym o.seat ∙ (ap (get_elem? s.views) (sym same) ∙ at)) in
              let clash : true ≡ false = sym o.held ∙ (ap (λ (u : View S O). is_held i u.held) is ∙ ap (is_held i) none') in cc (clash)
          who (no ne) = let o = r.each_out i j l e in let two = total_two weight s.views id j v o.view at o.seat ne in let all = r.weighed in
              let mine' : weight v ≡ length v.joined + 1 = ap (λ (b : Bool). cond b 0 (length v.joined + 1)) alive in let its : weight o.view ≡ length o.view.joined + 1 = ap (λ (b : Bool). cond b 0 (length o.view.joined + 1)) o.alive in
              let made = ((r.each_seat id v at alive).chief last.opens).1 in let joined = last.joined in omega arith

  module _ (words : List ℕ) (slots : List (Option X)) (final : Final (Seen (IsOrderly law origin n) id v) words slots) where
    abbrev state : State (Option X) (View S O)
    state = final.0

    rule : IsOrderly law origin n final.0
    rule = final.1.0

    own_seat : SeatOk law.tie origin n final.1.0.standing id v
    own_seat = final.1.0.each_seat id v final.1.1 alive

    -- each slot has a value, with the turns and the share of its part
    pub came_home : (i : ℕ) → i < n → (x : X) × (get_elem? slots i ≡ some (Some x)) × (law.turns x ≡ (final.1.0.standing.parts i).told) × (law.share x ≡ (final.1.0.standing.parts i).share) × law.is_of origin i x
    came_home i l = let h = at_home final.0 final.1.0 final.1.1 i l in (h.0, final.4 i (Some h.0) h.1, h.2, h.3, h.4)

    module _ (values : List X) (count : length values ≡ n) (positive : 0 < n) (are : (i : ℕ) (x : X) → slice_get values i ≡ Some x → get_elem? slots i ≡ some (Some x)) where
      value_is : (i : ℕ) (x : X) → slice_get values i ≡ Some x → (i < n) × (law.turns x ≡ (final.1.0.standing.parts i).told) × (law.share x ≡ (final.1.0.standing.parts i).share) × law.is_of origin i x
      value_is i x e = let l : i < n = subst (λ (m : ℕ). i < m) count (get_below values i x e) in let c = came_home i l in
          let same : c.0 ≡ x = some_some c.0 x (some-injective (Some c.0) (Some x) (sym c.1 ∙ are i x e)) in
          (l, ap law.turns (sym same) ∙ c.2, ap law.share (sym same) ∙ c.3, subst (law.is_of origin i) same c.4)
        where
          some_some : (a b : X) → Some a ≡ Some b → a ≡ b
          some_some a b h = cc (h)

      logged_at : (i : ℕ) → All (IsLogged final.1.0.standing.log) (entries (get_or (map law.turns values) i []))
      logged_at = told_at law.turns (λ ts. All (IsLogged final.1.0.standing.log) (entries ts)) values (All-nil (IsLogged final.1.0.standing.log))
          (λ i x e. let k = value_is i x e in subst (λ (ts : List Turn). All (IsLogged final.1.0.standing.log) (entries ts)) (sym k.1) (final.1.0.each_part i k.0).logged)

      ends_at : (i : ℕ) (x : X) → slice_get values i ≡ Some x → Ends v i (law.turns x)
      ends_at i x e = let k = value_is i x e in let ok = final.1.0.each_seat id v final.1.1 alive in subst (Ends v i) (sym k.1) (record {
        grown = ok.saw i k.0;
        own = ok.own i k.0;
        joined = All-weaker (JoinedOk law.tie n final.1.0.standing) (λ (pass : ℕ × List Call). entries_by pass.0 (final.1.0.standing.parts i).told ≡ calls_on i pass.1) (λ pass j. j.own i k.0) v.joined ok.joined;
        none_else = λ pass above. (final.1.0.silent pass (final.1.0.unborn pass (let made : v.made ≡ final.1.0.standing.made = (ok.chief last.opens).1 in omega arith))).entries i k.0;
        rise = (final.1.0.each_part i k.0).rise;
      })

      tied_at : AreTied law.tie v (final.1.0.standing.parts 0).share (map law.share values)
      tied_at = let ok = final.1.0.each_seat id v final.1.1 alive in let zero' = get_some values 0 (subst (λ (m : ℕ). 0 < m) (sym count) positive) in record {
        rows = λ row share pos e. let m = get-mapped law.share values row share e in let k = value_is row m.0 m.1 in final.1.0.tied row pos k.0 ∙ (sym k.2 ∙ m.2);
        first = mapped-get law.share values 0 zero'.0 zero'.1 ∙ ap (λ (s : S). Some s) (value_is 0 zero'.0 zero'.1).2;
        held_open = final.1.0.held_open;
        own = ok.referred ∙ ap (replayed law.tie v.number) (ap (λ (b : Bool). calls_on 0 v.calls ++ cond b (option_to_list v.stamped) []) (ap (is_held 0) none') ∙ append-nil (calls_on 0 v.calls));
        joined = All-weaker (JoinedOk law.tie n final.1.0.standing) (λ (pass : ℕ × List Call). law.tie.references pass.0 (final.1.0.standing.parts 0).share ≡ replayed law.tie pass.0 (calls_on 0 pass.1)) (λ pass j. j.referred) v.joined ok.joined;
      }

      pub closes : Closes law v n values
      closes = let ok = final.1.0.each_seat id v final.1.1 alive in record {
        count = count;
        kinds = λ i x e. subst (λ (o : Option O). law.is_of o i x) (sym ok.origin) (value_is i x e).3;
        ends = ends_at;
        order = λ i j one another a b same. let one' = All-contains (IsLogged final.1.0.standing.log) (entries (get_or (map law.turns values) i [])) one (logged_at i) a in
            let another' = All-contains (IsLogged final.1.0.standing.log) (entries (get_or (map law.turns values) j [])) another (logged_at j) b in some-injective one another (sym one' ∙ (ap (get_elem? final.1.0.standing.log) same ∙ another'));
        first = (final.1.0.standing.parts 0).share;
        tied = tied_at;
      }

-- the same of the view of the pass
pub closes_of : {X S O : Type 0} (law : Law X S O) (v v' : View S O) (n : ℕ) (values : List X) → v ≡ v' → Closes law v n values → Closes law v' n values
closes_of law v v' n values e k = subst (λ u. Closes law u n values) e k
