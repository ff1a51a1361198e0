-- From the steps to the calls: what a pass is at rest with before and after, and what a call changes in its view.
use Rattle.std.proofs.Common.{◌≡◌, ℕ, ◌^◌, ◌<◌, ◌==◌, Bool, true, false, not, cond, Option, Some, None, is_some, option_map, option_to_list, List, [], ◌∷◌, ◌++◌, get_or, All, sym, refl, ap, ◌∙◌, subst, arith, get_or-set_other, eq-eqb}
use native.Mathlib.Decide.{ℕ_discrete}
use Rattle.std.proofs.lemmas.List.Elements.{All-head, All-tail}
use Rattle.atomic_table.specs.Table.{Me, rest}
use Rattle.histories.specs.declared.entry.HistoryEntry.{HistoryEntry}
use Rattle.histories.specs.Turns.{Turn, entries}
use Rattle.histories.specs.Tie.{replayed}
use Rattle.turn_table.specs.declared.view.Ticket.{Ticket}
use Rattle.turn_table.specs.declared.view.View.{View}
use Rattle.turn_table.specs.Values.{Law}
use Rattle.turn_table.specs.Views.{is_held, ticket_of, without, fronted, renamed, AreApart, seen_of, share_held}
use Rattle.turn_table.proofs.Tickets.{ticket-else, ticket-part, ticket-renamed, ticket-without, ticket-gone, ticket-fronted}
use Rattle.turn_table.specs.Views.{IsFresh}
use Rattle.turn_table.specs.Moves.{Enters, IsAtRest, joiner, merger, slots_of, waiter, holder, stamper, turner, leaver}
use Rattle.turn_table.specs.Passes.{IsLonger, Joins}
use Rattle.turn_table.proofs.JoinSteps.{IsIdle}
use Rattle.turn_table.specs.Stamps.{Stamps}
use Rattle.turn_table.specs.Takes.{Takes, Puts}
use Rattle.turn_table.proofs.Draws.{asked_fresh}
use Rattle.turn_table.proofs.Looks.{share_known}
use Rattle.turn_table.proofs.Tickets.{without-none}

module _ {X S O : Type 0} where
  -- the same of the pass as it was before it waited
  pub enters_from : (law : Law X S O) (m m0 m' : Me (Option X) (View S O)) (part number : ℕ) → m ≡ m0 → Enters law m m' part number → Enters law m0 m' part number
  enters_from law m m0 m' part number e k = subst (λ (u : Me (Option X) (View S O)). Enters law u m' part number) e k

-- a part above all that are held is not held
pub below_free : {S : Type 0} (held : List (Ticket S)) (part : ℕ) → All (λ t. t.part < part) held → is_held part held ≡ false
below_free [] part below = refl
below_free {S} (t ∷ ts) part below = let low : t.part < part = All-head (λ (u : Ticket S). u.part < part) t ts below in
    ap is_some (ticket-else t ts part (λ (e : t.part ≡ part). omega arith)) ∙ below_free ts part (All-tail (λ (u : Ticket S). u.part < part) t ts below)

none_of : {S : Type 0} (o : Option (Ticket S)) → is_some o ≡ false → o ≡ None
none_of None e = refl
none_of (Some t) e = absurd (cc (e))

-- slots do not see shares
slots-renamed : {X S : Type 0} (f : ℕ → S) (held : List (Ticket S)) → slots_of {X = X} (renamed f held) ≡ slots_of held
slots-renamed f [] = refl
slots-renamed {X} f (t ∷ ts) = ap (λ (cs : List (ℕ × Option X)). (t.part, None) ∷ cs) (slots-renamed f ts)

apart-renamed : {S : Type 0} (f : ℕ → S) (held : List (Ticket S)) → AreApart held → AreApart (renamed f held)
apart-renamed f [] a = tt
apart-renamed {S} f (t ∷ ts) a = (ticket-renamed f ts t.part ∙ ap (option_map (λ (u : Ticket S). record u { share = f u.part })) a.0, apart-renamed f ts a.1)

apart-without : {S : Type 0} (held : List (Ticket S)) (part : ℕ) → AreApart held → AreApart (without part held)
apart-without [] part a = tt
apart-without (t ∷ ts) part a = go (apart-without ts part a.1) (t.part == part) refl
  where
    go : AreApart (without part ts) → (b : Bool) → (t.part == part) ≡ b → AreApart (cond (not b) (t ∷ without part ts) (without part ts))
    go rest' true is = rest'
    go rest' false is = (still (ℕ_discrete t.part part), rest')
      where
        still : Dec (t.part ≡ part) → ticket_of t.part (without part ts) ≡ None
        still (yes same) = subst (λ (i : ℕ). ticket_of i (without part ts) ≡ None) (sym same) (ticket-gone ts part)
        still (no ne) = ticket-without ts part t.part ne ∙ a.0

-- nothing is taken away twice
without-without : {S : Type 0} (held : List (Ticket S)) (part : ℕ) → without part (without part held) ≡ without part held
without-without held part = without-none (without part held) part (ticket-gone held part)

-- the ticket of a held part comes first
pub fronted_is : {S : Type 0} (held : List (Ticket S)) (part : ℕ) (t : Ticket S) → ticket_of part held ≡ Some t → fronted part held ≡ t ∷ without part held
fronted_is {S} held part t e = ap (λ (o : Option (Ticket S)). option_to_list o ++ without part held) e

pub without-fronted : {S : Type 0} (held : List (Ticket S)) (part : ℕ) (t : Ticket S) → ticket_of part held ≡ Some t → without part (fronted part held) ≡ without part held
without-fronted held part t e = ap (without part) (fronted_is held part t e) ∙ (ap (λ (b : Bool). cond (not b) (t ∷ without part (without part held)) (without part (without part held))) (eq-eqb t.part part (ticket-part held part t e)) ∙ without-without held part)

module _ {X S O : Type 0} (law : Law X S O) where
  pub takes_from : (v w : View S O) (part number : ℕ) (ts : List Turn) (share : S) → IsFresh v → Takes law.tie (waiter v part number) w part ts share → Takes law.tie v w part ts share
  takes_from v w part number ts share fresh k = record {
    pass = record { number = k.pass.number; joined = k.pass.joined; opens = k.pass.opens; made = k.pass.made; origin = k.pass.origin };
    calls = k.calls;
    ticket = k.ticket;
    of_part = k.of_part;
    of_share = k.of_share;
    held = k.held;
    fresh = k.fresh;
    here = k.here;
    there = k.there;
    grown = k.grown;
    short = k.short;
    whole = k.whole;
    rise = k.rise;
    learns = record {
      first = k.learns.first;
      references = k.learns.references ∙ ap (replayed law.tie v.number) (asked_fresh v (Some (record { part = part; number = number })) fresh);
      held_open = k.learns.held_open;
      row = k.learns.row;
      itself = k.learns.itself;
      held = k.learns.held;
    };
  }

  -- the pass has taken the part
  pub taken : (m m1 m2 m3 : Me (Option X) (View S O)) (part number : ℕ) → m1.0 ≡ waiter m.0 part number → IsFresh m.0 → (k : Enters law m1 m2 part number) → m3.0 ≡ m2.0
      → law.is_of m.0.origin part k.value × Takes law.tie m.0 m3.0 part (law.turns k.value) (law.share k.value)
  taken m m1 m2 m3 part number e fresh k e3 = (
    subst (λ (u : View S O). law.is_of u.origin part k.value) e k.is_of,
    takes_from m.0 m3.0 part number (law.turns k.value) (law.share k.value) fresh
        (subst (λ (u : View S O × View S O). Takes law.tie u.0 u.1 part (law.turns k.value) (law.share k.value)) (λ i. (e i, sym e3 i)) k.takes),
  )

  rests_holding : (n part number : ℕ) (m : Me (Option X) (View S O)) (ts : List Turn) (share : S) → IsAtRest n m → part < n → is_held part m.0.held ≡ false → IsAtRest n (holder (waiter m.0 part number) part number ts share, (part, None) ∷ m.1)
  rests_holding n part number m ts share rests within free = record {
    alive = rests.alive;
    waits = refl;
    also = rests.also;
    within = λ i h. go i h (ℕ_discrete part i);
    slots = ap (λ (cs : List (ℕ × Option X)). (part, None) ∷ cs) rests.slots;
    apart = (none_of (ticket_of part m.0.held) free, rests.apart);
    used = tt;
  }
    where
      go : (i : ℕ) → is_held i (record { part = part; number = number; share = share } ∷ m.0.held) ≡ true → Dec (part ≡ i) → i < n
      go i h (yes same) = subst (λ (j : ℕ). j < n) same within
      go i h (no ne) = rests.within i (sym (ap is_some (ticket-else (record { part = part; number = number; share = share }) m.0.held i ne)) ∙ h)

  -- and is at rest with it
  pub rests_taken : (n : ℕ) (m m1 m2 m3 : Me (Option X) (View S O)) (part number : ℕ) → (m1.0 ≡ waiter m.0 part number) × (m1.1 ≡ m.1) → (k : Enters law m1 m2 part number) → (m3.0 ≡ m2.0) × (m3.1 ≡ (part, None) ∷ rest m2.1)
      → IsAtRest n m → part < n → is_held part m.0.held ≡ false → IsAtRest n m3
  rests_taken n m m1 m2 m3 part number e k e3 rests within free =
      subst (λ (z : View S O × List (ℕ × Option X)). IsAtRest n (z.0, z.1))
      (λ i. (sym (e3.0 ∙ (k.view ∙ ap (λ (u : View S O). holder u part number (law.turns k.value) (law.share k.value)) e.0)) i, sym (e3.1 ∙ ap (λ (cs : List (ℕ × Option X)). (part, None) ∷ cs) (ap rest k.slot ∙ e.1)) i))
      (rests_holding n part number m (law.turns k.value) (law.share k.value) rests within free)

-- the pass has drawn a stamp
pub stamped_from : {S O : Type 0} (v w : View S O) (entry : HistoryEntry) (named : ℕ → S) → w ≡ stamper v entry named → ((part : ℕ) → All (λ d. d.stamp < entry.stamp) (entries (seen_of v part))) → Stamps v w entry named
stamped_from {S} {O} v w entry named e later = record {
  pass = record { number = ap (λ (u : View S O). u.number) e; joined = ap (λ (u : View S O). u.joined) e; opens = ap (λ (u : View S O). u.opens) e; made = ap (λ (u : View S O). u.made) e; origin = ap (λ (u : View S O). u.origin) e };
  calls = ap (λ (u : View S O). u.calls) e;
  held = ap (λ (u : View S O). u.held) e;
  stamped = ap (λ (u : View S O). u.stamped) e;
  seen = ap (λ (u : View S O). u.seen) e;
  later = later;
}

module _ {S O : Type 0} where
  -- the pass has put the part back
  pub put_from : (v u w : View S O) (part : ℕ) (ts : List Turn) (t : Ticket S) → ticket_of part v.held ≡ Some t → u ≡ turner v part → w ≡ leaver u part ts → seen_of w part ≡ ts → Puts v w part ts
  put_from v u w part ts t found a b here = let e : w ≡ leaver (turner v part) part ts = b ∙ ap (λ (z : View S O). leaver z part ts) a in record {
    pass = record { number = ap (λ (z : View S O). z.number) e; joined = ap (λ (z : View S O). z.joined) e; opens = ap (λ (z : View S O). z.opens) e; made = ap (λ (z : View S O). z.made) e; origin = ap (λ (z : View S O). z.origin) e };
    calls = ap (λ (z : View S O). z.calls) e;
    held = ap (λ (z : View S O). z.held) e ∙ without-fronted v.held part t found;
    stamped = ap (λ (z : View S O). z.stamped) e;
    here = here;
    there = λ i ne. ap (λ (z : View S O). seen_of z i) e ∙ get_or-set_other v.seen part i ts [] ne;
  }

module _ {X S O : Type 0} where
  pub rests_stamped : (n : ℕ) (m m' : Me (Option X) (View S O)) (entry : HistoryEntry) (named : ℕ → S) → (m'.0 ≡ stamper m.0 entry named) × (m'.1 ≡ m.1) → IsAtRest n m → entry.stamp < 2 ^ 63 → IsAtRest n m'
  rests_stamped n m m' entry named e rests used = subst (λ (z : View S O × List (ℕ × Option X)). IsAtRest n (z.0, z.1)) (λ i. (sym e.0 i, sym e.1 i)) (record {
    alive = rests.alive;
    waits = rests.waits;
    also = rests.also;
    within = λ i h. rests.within i (sym (ap is_some (ticket-renamed named m.0.held i) ∙ go (ticket_of i m.0.held)) ∙ h);
    slots = rests.slots ∙ sym (slots-renamed named m.0.held);
    apart = apart-renamed named m.0.held rests.apart;
    used = used;
  })
    where
      go : (o : Option (Ticket S)) → is_some (option_map (λ (u : Ticket S). record u { share = named u.part }) o) ≡ is_some o
      go None = refl
      go (Some u) = refl

  -- the pass has brought a part to the front
  pub rests_turned : (n part : ℕ) (m m' : Me (Option X) (View S O)) → (m'.0 ≡ turner m.0 part) × (m'.1 ≡ slots_of (fronted part m.0.held)) → IsAtRest n m → (t : Ticket S) → ticket_of part m.0.held ≡ Some t → IsAtRest n m'
  rests_turned n part m m' e rests t found = subst (λ (z : View S O × List (ℕ × Option X)). IsAtRest n (z.0, z.1)) (λ i. (sym e.0 i, sym e.1 i)) (record {
    alive = rests.alive;
    waits = rests.waits;
    also = rests.also;
    within = λ i h. rests.within i (sym (ap is_some (ticket-fronted m.0.held part i)) ∙ h);
    slots = refl;
    apart = subst AreApart (sym (fronted_is m.0.held part t found)) (ap (λ (j : ℕ). ticket_of j (without part m.0.held)) (ticket-part m.0.held part t found) ∙ ticket-gone m.0.held part, apart-without m.0.held part rests.apart);
    used = rests.used;
  })

  pub rests_left : (n part : ℕ) (m m' : Me (Option X) (View S O)) (ts : List Turn) (t : Ticket S) → m.0.held ≡ t ∷ without part m.0.held → (m'.0 ≡ leaver m.0 part ts) × (m'.1 ≡ rest m.1) → IsAtRest n m → IsAtRest n m'
  rests_left n part m m' ts t first e rests = subst (λ (z : View S O × List (ℕ × Option X)). IsAtRest n (z.0, z.1)) (λ i. (sym e.0 i, sym (e.1 ∙ (ap rest rests.slots ∙ ap (λ (h : List (Ticket S)). rest (slots_of {X = X} h)) first)) i)) (record {
    alive = rests.alive;
    waits = rests.waits;
    also = rests.also;
    within = λ i h. rests.within i (go i h (ℕ_discrete i part));
    slots = refl;
    apart = apart-without m.0.held part rests.apart;
    used = rests.used;
  })
    where
      go : (i : ℕ) → is_held i (without part m.0.held) ≡ true → Dec (i ≡ part) → is_held i m.0.held ≡ true
      go i h (yes same) = let clash : false ≡ true = sym (ap is_some (ticket-gone m.0.held part)) ∙ (ap (λ (j : ℕ). is_held j (without part m.0.held)) (sym same) ∙ h) in absurd (cc (clash))
      go i h (no ne) = sym (ap is_some (ticket-without m.0.held part i ne)) ∙ h

  -- the slot of the part that comes first is empty
  pub first_slot : (m : Me (Option X) (View S O)) (part : ℕ) (t : Ticket S) → m.1 ≡ slots_of m.0.held → m.0.held ≡ t ∷ without part m.0.held → t.part ≡ part → m.1 ≡ (part, None) ∷ rest m.1
  first_slot m part t slots first is = let e : m.1 ≡ (part, None) ∷ slots_of (without part m.0.held) = slots ∙ (ap (λ (h : List (Ticket S)). slots_of {X = X} h) first ∙ ap (λ (i : ℕ). (i, None) ∷ slots_of {X = X} (without part m.0.held)) is) in
      e ∙ ap (λ (cs : List (ℕ × Option X)). (part, None) ∷ cs) (sym (ap rest e))

  -- what a step that ends a turn tells
  pub left_from : (turns : X → List Turn) (me me' m' : Me (Option X) (View S O)) (part : ℕ) (x : X) → me' ≡ (me.0, (part, Some x) ∷ rest me.1)
      → (m'.1 ≡ rest me'.1) × ((i : ℕ) (y : X) → me'.1 ≡ (i, Some y) ∷ rest me'.1 → (m'.0 ≡ leaver me'.0 i (turns y)) × (seen_of m'.0 i ≡ turns y))
      → ((m'.0 ≡ leaver me.0 part (turns x)) × (m'.1 ≡ rest me.1)) × (seen_of m'.0 part ≡ turns x)
  left_from turns me me' m' part x e k = let told = k.1 part x (ap (λ (m : Me (Option X) (View S O)). m.1) e ∙ ap (λ (cs : List (ℕ × Option X)). (part, Some x) ∷ cs) (sym (ap (λ (m : Me (Option X) (View S O)). rest m.1) e))) in
      ((told.0 ∙ ap (λ (m : Me (Option X) (View S O)). leaver m.0 part (turns x)) e, k.0 ∙ ap (λ (m : Me (Option X) (View S O)). rest m.1) e), told.1)

abbrev slot_found : {Y : Type 0} → Y → List (ℕ × Y) → Y
slot_found d [] = d
slot_found d (c ∷ cs) = c.1

-- what is found in a slot is what lies in it
pub same_slot : {Y : Type 0} (cs : List (ℕ × Y)) (part : ℕ) (a b : Y) → cs ≡ (part, a) ∷ rest cs → cs ≡ (part, b) ∷ rest cs → a ≡ b
same_slot cs part a b e f = ap (slot_found a) (sym e ∙ f)

pub second : {A B : Type 0} (p q : A × B) → p ≡ q → p.1 ≡ q.1
second {A} {B} p q e = ap (λ (z : A × B). z.1) e

pub full_from : {Y : Type 0} (cs : List (ℕ × Y)) (part : ℕ) (a : Y) (ds : List (ℕ × Y)) → cs ≡ (part, a) ∷ ds → cs ≡ (part, a) ∷ rest cs
full_from {Y} cs part a ds e = e ∙ ap (λ (z : List (ℕ × Y)). (part, a) ∷ z) (sym (ap rest e))

abbrev value_in : {X : Type 0} → X → Option X → X
value_in d None = d
value_in d (Some x) = x

pub same_value : {X : Type 0} (x y : X) → Some x ≡ Some y → x ≡ y
same_value x y e = ap (value_in x) e

module _ {X S O : Type 0} (law : Law X S O) where
  -- the same of the value that came out, and of the view of the pass
  pub takes_result : (v v' w : View S O) (part : ℕ) (x y : X) → Takes law.tie v w part (law.turns x) (law.share x) → v ≡ v' → x ≡ y → Takes law.tie v' w part (law.turns y) (law.share y)
  takes_result v v' w part x y k e f = subst (λ (z : View S O × X). Takes law.tie z.0 w part (law.turns z.1) (law.share z.1)) (λ i. (e i, f i)) k

module _ {S O : Type 0} where
  -- the ticket of the part comes first
  pub first_from : (v w : View S O) (part : ℕ) (t : Ticket S) → ticket_of part v.held ≡ Some t → w ≡ turner v part → (u : Ticket S) × (w.held ≡ u ∷ without part w.held) × (u.part ≡ part)
  first_from v w part t found e = let held : w.held ≡ fronted part v.held = ap (λ (z : View S O). z.held) e in
      (t, held ∙ (fronted_is v.held part t found ∙ ap (λ (ts : List (Ticket S)). t ∷ ts) (sym (ap (without part) held ∙ without-fronted v.held part t found))), ticket-part v.held part t found)

  pub share_turned : (v w : View S O) (part : ℕ) → w ≡ turner v part → share_held w part ≡ share_held v part
  share_turned v w part e = ap (λ (z : View S O). share_held z part) e ∙ ap (option_map (λ (t : Ticket S). t.share)) (ticket-fronted v.held part part)

module _ {X S O : Type 0} where
  -- a pass at rest that holds nothing
  pub idle_from : (n : ℕ) (m : Me (Option X) (View S O)) → IsAtRest n m → m.0.held ≡ [] → IsIdle m.0
  idle_from n m rests held = record { alive = rests.alive; waits = rests.waits; also = rests.also; held = held; used = rests.used }

  pub no_slots : (n : ℕ) (m : Me (Option X) (View S O)) → IsAtRest n m → m.0.held ≡ [] → m.1 ≡ []
  no_slots n m rests held = rests.slots ∙ ap (λ (h : List (Ticket S)). slots_of {X = X} h) held

  pub rests_joined : (n : ℕ) (m m' : Me (Option X) (View S O)) (w : View S O) → (m'.0 ≡ merger (joiner m.0 w)) × (m'.1 ≡ m.1) → IsAtRest n m → IsAtRest n m'
  rests_joined n m m' w e rests = subst (λ (z : View S O × List (ℕ × Option X)). IsAtRest n (z.0, z.1)) (λ i. (sym e.0 i, sym e.1 i)) (record {
    alive = rests.alive;
    waits = rests.waits;
    also = refl;
    within = rests.within;
    slots = rests.slots;
    apart = rests.apart;
    used = rests.used;
  })

module _ {S O : Type 0} where
  -- what either has seen is seen
  pub longer_from : (v w u : View S O) (seen : ℕ → List Turn) → u ≡ joiner v w → ((part : ℕ) → IsLonger (seen_of u part) (get_or u.also part []) (seen part)) → (part : ℕ) → IsLonger (seen_of v part) (seen_of w part) (seen part)
  longer_from v w u seen e k part = subst (λ (z : View S O). IsLonger (seen_of z part) (get_or z.also part []) (seen part)) e (k part)

  pub joined_from : (v w u : View S O) → u ≡ merger (joiner v w) → ((part : ℕ) → IsLonger (seen_of v part) (seen_of w part) (seen_of u part)) → Joins v w u
  joined_from v w u e seen = record {
    number = ap (λ (z : View S O). z.number) e;
    held = ap (λ (z : View S O). z.held) e;
    stamped = ap (λ (z : View S O). z.stamped) e;
    calls = ap (λ (z : View S O). z.calls) e;
    origin = ap (λ (z : View S O). z.origin) e;
    joined = ap (λ (z : View S O). z.joined) e;
    opens = ap (λ (z : View S O). z.opens) e;
    made = ap (λ (z : View S O). z.made) e;
    seen = seen;
  }

  pub joins_of : (v v' w w' u : View S O) → v ≡ v' → w ≡ w' → Joins v w u → Joins v' w' u
  joins_of v v' w w' u e f k = subst (λ (z : View S O × View S O). Joins z.0 z.1 u) (λ i. (e i, f i)) k

-- the ticket of a part that is held
pub record IsHeld {S O : Type 0} (v : View S O) (part : ℕ) (known : S) : Type 0 where
  pub ticket : Ticket S
  pub found : ticket_of part v.held ≡ Some ticket
  pub share : share_held v part ≡ Some known

pub held_from : {S O : Type 0} (v v' : View S O) (part : ℕ) (known : S) → v ≡ v' → share_held v' part ≡ Some known → IsHeld v part known
held_from {S} {O} v v' part known e share = let mine : share_held v part ≡ Some known = ap (λ (z : View S O). share_held z part) e ∙ share in let t = share_known v part known mine in
    record { ticket = t.0; found = t.1; share = mine }
