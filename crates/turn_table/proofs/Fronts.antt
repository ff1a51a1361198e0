-- Bringing a slot to the front: each part before it is given back and taken again.
use Rattle.std.proofs.Common.{◌≡◌, ◌≢◌, ◌⊎◌, ℕ, ◌<◌, ◌==◌, eqb, Bool, true, false, not, cond, Option, Some, None, is_some, option_to_list, List, [], ◌∷◌, ◌++◌, length, set, sym, refl, ap, ◌∙◌, subst, inl, inr, length-set}
use Rattle.std.proofs.lemmas.Bool.Decides.{eqb_tells}
use mathlib.Core.Option as maybe
use mathlib.Core.Option.{none, some}
use lib.ListN.{get_elem?}
use Rattle.atomic_table.specs.Table.{Act, keeps, takes, gives, chain, Valid, carried_after, homes_after}
use Rattle.atomic_table.proofs.Lists.{set_here, set_else}
use Rattle.turn_table.specs.declared.view.Ticket.{Ticket}
use Rattle.turn_table.specs.Views.{is_held, ticket_of, without, fronted, AreApart}
use Rattle.turn_table.specs.Moves.{slots_of}
use Rattle.turn_table.proofs.Tickets.{ticket-here, ticket-else, ticket-part, without-none}

-- gives back the slots before the part's, brings the part's to the front, and takes the others again
abbrev pub front_from : {X S : Type 0} → ℕ → Bool → Ticket S → Act (Option X) → Act (Option X)
front_from part true t rest = keeps
front_from part false t rest = chain gives (chain rest (chain gives (chain (takes t.part None) (takes part None))))

abbrev pub front : {X S : Type 0} → ℕ → List (Ticket S) → Act (Option X)
front part [] = keeps
front part (t ∷ ts) = front_from part (t.part == part) t (front part ts)

-- a ticket that is found, found again
found : {S : Type 0} (o : Option (Ticket S)) → is_some o ≡ true → (t : Ticket S) × (o ≡ Some t)
found None e = absurd (cc (e))
found (Some t) e = (t, refl)

-- what is held stays held with one ticket more
also_held : {S : Type 0} (t : Ticket S) (ts : List (Ticket S)) (i : ℕ) → is_held i ts ≡ true → is_held i (t ∷ ts) ≡ true
also_held {S} t ts i h = go (t.part == i)
  where
    go : (b : Bool) → is_some (cond b (Some t) (ticket_of i ts)) ≡ true
    go true = refl
    go false = h

module _ {X : Type 0} (part before : ℕ) where
  -- the slot of the part, which is carried first, is given back, and then the one before it and it are taken
  abbrev pub turn : Act (Option X)
  turn = chain gives (chain (takes before None) (takes part None))

  pub carried_turn : (cs ds : List (ℕ × Option X)) → cs ≡ (part, None) ∷ ds → carried_after cs turn ≡ (part, None) ∷ (before, None) ∷ ds
  carried_turn cs ds e = ap (λ (c : List (ℕ × Option X)). carried_after c turn) e

  pub valid_turn : (hs : List (maybe.Option (Option X))) (cs ds : List (ℕ × Option X)) → cs ≡ (part, None) ∷ ds → before ≢ part → get_elem? hs before ≡ some (some None) → part < length hs → Valid hs cs turn
  valid_turn hs cs ds e ne there within = subst (λ (c : List (ℕ × Option X)). Valid hs c turn) (sym e)
      (tt, (set_else hs part before (some None) ne ∙ there, set_else (set hs part (some None)) before part none (λ (s : part ≡ before). ne (sym s)) ∙ set_here hs part (some None) within))

  pub homes_turn : (hs : List (maybe.Option (Option X))) (cs ds : List (ℕ × Option X)) → cs ≡ (part, None) ∷ ds → (j : ℕ) → j ≢ part → j ≢ before → get_elem? (homes_after hs cs turn) j ≡ get_elem? hs j
  homes_turn hs cs ds e j a b = ap (λ (c : List (ℕ × Option X)). get_elem? (homes_after hs c turn) j) e
      ∙ (set_else (set (set hs part (some None)) before none) part j none a ∙ (set_else (set hs part (some None)) before j none b ∙ set_else hs part j (some None) a))

  pub long_turn : (hs : List (maybe.Option (Option X))) (cs ds : List (ℕ × Option X)) → cs ≡ (part, None) ∷ ds → length (homes_after hs cs turn) ≡ length hs
  long_turn hs cs ds e = ap (λ (c : List (ℕ × Option X)). length (homes_after hs c turn)) e
      ∙ (length-set (set (set hs part (some None)) before none) part none ∙ (length-set (set hs part (some None)) before none ∙ length-set hs part (some None)))

module _ {X S : Type 0} (part : ℕ) where
  -- the slots that are carried, the part's first
  fronted_slots : (held : List (Ticket S)) → (u : Ticket S) → ticket_of part held ≡ Some u → slots_of {X = X} (fronted part held) ≡ (part, None) ∷ slots_of (without part held)
  fronted_slots held u e = ap (λ (o : Option (Ticket S)). slots_of {X = X} (option_to_list o ++ without part held)) e ∙ ap (λ (i : ℕ). (i, None) ∷ slots_of {X = X} (without part held)) (ticket-part held part u e)

  -- the seat carries the same slots, the part's first
  pub carried_front : (held : List (Ticket S)) → AreApart held → is_held part held ≡ true → carried_after (slots_of {X = X} held) (front part held) ≡ slots_of (fronted part held)
  carried_front [] apart e = absurd (cc (e))
  carried_front (t ∷ ts) apart e = go (λ e'. carried_front ts apart.1 e') (eqb_tells t.part part)
    where
      go : (is_held part ts ≡ true → carried_after (slots_of {X = X} ts) (front part ts) ≡ slots_of (fronted part ts)) → ((eqb t.part part ≡ true) × (t.part ≡ part)) ⊎ ((eqb t.part part ≡ false) × (t.part ≢ part))
          → carried_after (slots_of {X = X} (t ∷ ts)) (front part (t ∷ ts)) ≡ slots_of (fronted part (t ∷ ts))
      go ih (inl same) = ap (λ (b : Bool). carried_after (slots_of {X = X} (t ∷ ts)) (front_from part b t (front part ts))) same.0
          ∙ sym (ap (λ (us : List (Ticket S)). slots_of {X = X} us) (ap (λ (o : Option (Ticket S)). option_to_list o ++ without part (t ∷ ts)) (ticket-here t ts part same.1)
          ∙ ap (λ (us : List (Ticket S)). t ∷ us) (ap (λ (b : Bool). cond (not b) (t ∷ without part ts) (without part ts)) same.0 ∙ without-none ts part (subst (λ (i : ℕ). ticket_of i ts ≡ None) same.1 apart.0))))
      go ih (inr other) = let held' : is_held part ts ≡ true = ap is_some (sym (ticket-else t ts part other.1)) ∙ e in let u = found (ticket_of part ts) held' in
          ap (λ (b : Bool). carried_after (slots_of {X = X} (t ∷ ts)) (front_from part b t (front part ts))) other.0
          ∙ (carried_turn part t.part (carried_after (slots_of ts) (front part ts)) (slots_of (without part ts)) (ih held' ∙ fronted_slots ts u.0 u.1)
          ∙ sym (fronted_slots (t ∷ ts) u.0 (ticket-else t ts part other.1 ∙ u.1) ∙ ap (λ (b : Bool). (part, None) ∷ slots_of {X = X} (cond (not b) (t ∷ without part ts) (without part ts))) other.0))

  -- homes stay as long
  pub long_front : (held : List (Ticket S)) → AreApart held → is_held part held ≡ true → (hs : List (maybe.Option (Option X))) → length (homes_after hs (slots_of held) (front part held)) ≡ length hs
  long_front [] apart e hs = refl
  long_front (t ∷ ts) apart e hs = go (λ e'. long_front ts apart.1 e' (set hs t.part (some None))) (eqb_tells t.part part)
    where
      go : (is_held part ts ≡ true → length (homes_after (set hs t.part (some None)) (slots_of ts) (front part ts)) ≡ length (set hs t.part (some None))) → ((eqb t.part part ≡ true) × (t.part ≡ part)) ⊎ ((eqb t.part part ≡ false) × (t.part ≢ part))
          → length (homes_after hs (slots_of {X = X} (t ∷ ts)) (front part (t ∷ ts))) ≡ length hs
      go ih (inl same) = ap (λ (b : Bool). length (homes_after hs (slots_of {X = X} (t ∷ ts)) (front_from part b t (front part ts)))) same.0
      go ih (inr other) = let held' : is_held part ts ≡ true = ap is_some (sym (ticket-else t ts part other.1)) ∙ e in let u = found (ticket_of part ts) held' in
          ap (λ (b : Bool). length (homes_after hs (slots_of {X = X} (t ∷ ts)) (front_from part b t (front part ts)))) other.0
          ∙ (long_turn part t.part (homes_after (set hs t.part (some None)) (slots_of ts) (front part ts)) (carried_after (slots_of ts) (front part ts)) (slots_of (without part ts)) (carried_front ts apart.1 held' ∙ fronted_slots ts u.0 u.1)
          ∙ (ih held' ∙ length-set hs t.part (some None)))

  -- the slots of other parts stay as they are
  pub homes_front : (held : List (Ticket S)) → AreApart held → is_held part held ≡ true → (hs : List (maybe.Option (Option X))) (j : ℕ) → ticket_of j held ≡ None → get_elem? (homes_after hs (slots_of held) (front part held)) j ≡ get_elem? hs j
  homes_front [] apart e hs j none' = refl
  homes_front (t ∷ ts) apart e hs j none' = go (λ e' n. homes_front ts apart.1 e' (set hs t.part (some None)) j n) (eqb_tells t.part part) (eqb_tells t.part j)
    where
      go : (is_held part ts ≡ true → ticket_of j ts ≡ None → get_elem? (homes_after (set hs t.part (some None)) (slots_of ts) (front part ts)) j ≡ get_elem? (set hs t.part (some None)) j)
          → ((eqb t.part part ≡ true) × (t.part ≡ part)) ⊎ ((eqb t.part part ≡ false) × (t.part ≢ part)) → ((eqb t.part j ≡ true) × (t.part ≡ j)) ⊎ ((eqb t.part j ≡ false) × (t.part ≢ j))
          → get_elem? (homes_after hs (slots_of {X = X} (t ∷ ts)) (front part (t ∷ ts))) j ≡ get_elem? hs j
      go ih a (inl here) = let clash : Some t ≡ None = sym (ticket-here t ts j here.1) ∙ none' in absurd (cc (clash))
      go ih (inl same) (inr there) = ap (λ (b : Bool). get_elem? (homes_after hs (slots_of {X = X} (t ∷ ts)) (front_from part b t (front part ts))) j) same.0
      go ih (inr other) (inr there) = let held' : is_held part ts ≡ true = ap is_some (sym (ticket-else t ts part other.1)) ∙ e in let u = found (ticket_of part ts) held' in
          let none'' : ticket_of j ts ≡ None = sym (ticket-else t ts j there.1) ∙ none' in
          let apart_part : j ≢ part = λ same. let clash : Some u.0 ≡ None = sym u.1 ∙ (ap (λ (i : ℕ). ticket_of i ts) (sym same) ∙ none'') in absurd (cc (clash)) in
          ap (λ (b : Bool). get_elem? (homes_after hs (slots_of {X = X} (t ∷ ts)) (front_from part b t (front part ts))) j) other.0
          ∙ (homes_turn part t.part (homes_after (set hs t.part (some None)) (slots_of ts) (front part ts)) (carried_after (slots_of ts) (front part ts)) (slots_of (without part ts)) (carried_front ts apart.1 held' ∙ fronted_slots ts u.0 u.1) j apart_part (λ same. there.1 (sym same))
          ∙ (ih held' none'' ∙ set_else hs t.part j (some None) (λ same. there.1 (sym same))))

  -- and each slot that is taken is at home
  pub valid_front : (held : List (Ticket S)) → AreApart held → is_held part held ≡ true → (hs : List (maybe.Option (Option X))) → ((i : ℕ) → is_held i held ≡ true → i < length hs) → Valid hs (slots_of {X = X} held) (front part held)
  valid_front [] apart e hs within = tt
  valid_front (t ∷ ts) apart e hs within = go (λ e' w. valid_front ts apart.1 e' (set hs t.part (some None)) w) (eqb_tells t.part part)
    where
      go : (is_held part ts ≡ true → ((i : ℕ) → is_held i ts ≡ true → i < length (set hs t.part (some None))) → Valid (set hs t.part (some None)) (slots_of {X = X} ts) (front part ts))
          → ((eqb t.part part ≡ true) × (t.part ≡ part)) ⊎ ((eqb t.part part ≡ false) × (t.part ≢ part)) → Valid hs (slots_of {X = X} (t ∷ ts)) (front part (t ∷ ts))
      go ih (inl same) = subst (λ (b : Bool). Valid hs (slots_of {X = X} (t ∷ ts)) (front_from part b t (front part ts))) (sym same.0) tt
      go ih (inr other) = let held' : is_held part ts ≡ true = ap is_some (sym (ticket-else t ts part other.1)) ∙ e in let u = found (ticket_of part ts) held' in
          let long : length (set hs t.part (some None)) ≡ length hs = length-set hs t.part (some None) in
          let mine : t.part < length hs = within t.part (ap is_some (ticket-here t ts t.part refl)) in
          let still : (i : ℕ) → is_held i ts ≡ true → i < length (set hs t.part (some None)) = λ i h. subst (λ (m : ℕ). i < m) (sym long) (within i (also_held t ts i h)) in
          let after : ℕ = length (homes_after (set hs t.part (some None)) (slots_of {X = X} ts) (front part ts)) in
          let as_long : after ≡ length hs = long_front ts apart.1 held' (set hs t.part (some None)) ∙ long in
          let in_reach : part < after = subst (λ (m : ℕ). part < m) (sym as_long) (within part e) in
          subst (λ (b : Bool). Valid hs (slots_of {X = X} (t ∷ ts)) (front_from part b t (front part ts))) (sym other.0) (
            tt,
            (
              ih held' still,
              valid_turn part t.part (homes_after (set hs t.part (some None)) (slots_of ts) (front part ts)) (carried_after (slots_of ts) (front part ts)) (slots_of (without part ts)) (carried_front ts apart.1 held' ∙ fronted_slots ts u.0 u.1) other.1
                  (homes_front ts apart.1 held' (set hs t.part (some None)) t.part apart.0 ∙ set_here hs t.part (some None) mine) in_reach,
            ),
          )
