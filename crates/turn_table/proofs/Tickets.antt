-- Tickets that are added, taken away, renamed or reordered.
use Rattle.std.proofs.Common.{◌≡◌, ◌≢◌, ℕ, ◌==◌, eqb, Bool, true, false, not, cond, Option, Some, None, option_map, option_to_list, List, [], ◌∷◌, ◌++◌, sym, refl, ap, ◌∙◌, subst, ⊎_elim, eq-eqb, ne_eqb}
use Rattle.std.proofs.lemmas.Bool.Decides.{eqb_tells}
use Rattle.turn_table.specs.declared.view.Ticket.{Ticket}
use Rattle.turn_table.specs.Views.{ticket_of, without, fronted, renamed}

module _ {S : Type 0} where
  pub ticket-here : (t : Ticket S) (ts : List (Ticket S)) (i : ℕ) → t.part ≡ i → ticket_of i (t ∷ ts) ≡ Some t
  ticket-here t ts i e = ap (λ (b : Bool). cond b (Some t) (ticket_of i ts)) (eq-eqb t.part i e)

  pub ticket-else : (t : Ticket S) (ts : List (Ticket S)) (i : ℕ) → t.part ≢ i → ticket_of i (t ∷ ts) ≡ ticket_of i ts
  ticket-else t ts i ne = ap (λ (b : Bool). cond b (Some t) (ticket_of i ts)) (ne_eqb t.part i ne)

  -- a ticket that is found is one of the part
  pub ticket-part : (held : List (Ticket S)) (i : ℕ) (t : Ticket S) → ticket_of i held ≡ Some t → t.part ≡ i
  ticket-part [] i t e = absurd (cc (e))
  ticket-part (u ∷ us) i t e = ⊎_elim
      (λ (same : (eqb u.part i ≡ true) × (u.part ≡ i)). let found : u ≡ t = cc (sym (ticket-here u us i same.1) ∙ e) in ap (λ (x : Ticket S). x.part) (sym found) ∙ same.1)
      (λ (other : (eqb u.part i ≡ false) × (u.part ≢ i)). ticket-part us i t (sym (ticket-else u us i other.1) ∙ e))
      (eqb_tells u.part i)

  pub ticket-renamed : (f : ℕ → S) (held : List (Ticket S)) (i : ℕ) → ticket_of i (renamed f held) ≡ option_map (λ (t : Ticket S). record t { share = f t.part }) (ticket_of i held)
  ticket-renamed f [] i = refl
  ticket-renamed f (t ∷ ts) i = go (ticket-renamed f ts i) (t.part == i)
    where
      go : ticket_of i (renamed f ts) ≡ option_map (λ (u : Ticket S). record u { share = f u.part }) (ticket_of i ts) → (b : Bool) → cond b (Some (record t { share = f t.part })) (ticket_of i (renamed f ts)) ≡ option_map (λ (u : Ticket S). record u { share = f u.part }) (cond b (Some t) (ticket_of i ts))
      go rest true = refl
      go rest false = rest

  -- the other parts keep their tickets
  pub ticket-without : (held : List (Ticket S)) (part i : ℕ) → i ≢ part → ticket_of i (without part held) ≡ ticket_of i held
  ticket-without [] part i ne = refl
  ticket-without (t ∷ ts) part i ne = let rest = ticket-without ts part i ne in ⊎_elim
      (λ (same : (eqb t.part part ≡ true) × (t.part ≡ part)). ap (λ (b : Bool). ticket_of i (cond (not b) (t ∷ without part ts) (without part ts))) same.0 ∙ (rest ∙ sym (ticket-else t ts i (λ e. ne (sym e ∙ same.1)))))
      (λ (other : (eqb t.part part ≡ false) × (t.part ≢ part)). ap (λ (b : Bool). ticket_of i (cond (not b) (t ∷ without part ts) (without part ts))) other.0 ∙ go rest (t.part == i))
      (eqb_tells t.part part)
    where
      go : ticket_of i (without part ts) ≡ ticket_of i ts → (b : Bool) → cond b (Some t) (ticket_of i (without part ts)) ≡ cond b (Some t) (ticket_of i ts)
      go rest true = refl
      go rest false = rest

  -- the part has none
  pub ticket-gone : (held : List (Ticket S)) (part : ℕ) → ticket_of part (without part held) ≡ None
  ticket-gone [] part = refl
  ticket-gone (t ∷ ts) part = let rest = ticket-gone ts part in ⊎_elim
      (λ (same : (eqb t.part part ≡ true) × (t.part ≡ part)). ap (λ (b : Bool). ticket_of part (cond (not b) (t ∷ without part ts) (without part ts))) same.0 ∙ rest)
      (λ (other : (eqb t.part part ≡ false) × (t.part ≢ part)). ap (λ (b : Bool). ticket_of part (cond (not b) (t ∷ without part ts) (without part ts))) other.0 ∙ (ticket-else t (without part ts) part other.1 ∙ rest))
      (eqb_tells t.part part)

  -- where the part has none, nothing is taken away
  pub without-none : (held : List (Ticket S)) (part : ℕ) → ticket_of part held ≡ None → without part held ≡ held
  without-none [] part e = refl
  without-none (t ∷ ts) part e = ⊎_elim
      (λ (same : (eqb t.part part ≡ true) × (t.part ≡ part)). absurd (cc (sym (ticket-here t ts part same.1) ∙ e)))
      (λ (other : (eqb t.part part ≡ false) × (t.part ≢ part)). ap (λ (b : Bool). cond (not b) (t ∷ without part ts) (without part ts)) other.0 ∙ ap (λ (us : List (Ticket S)). t ∷ us) (without-none ts part (sym (ticket-else t ts part other.1) ∙ e)))
      (eqb_tells t.part part)

  -- each part has the ticket that it had
  pub ticket-fronted : (held : List (Ticket S)) (part i : ℕ) → ticket_of i (fronted part held) ≡ ticket_of i held
  ticket-fronted held part i = ⊎_elim
      (λ (same : (eqb i part ≡ true) × (i ≡ part)). subst (λ (j : ℕ). ticket_of j (fronted part held) ≡ ticket_of j held) (sym same.1) (here (ticket_of part held) refl))
      (λ (other : (eqb i part ≡ false) × (i ≢ part)). there other.1 (ticket_of part held) refl ∙ ticket-without held part i other.1)
      (eqb_tells i part)
    where
      here : (o : Option (Ticket S)) → ticket_of part held ≡ o → ticket_of part (option_to_list o ++ without part held) ≡ o
      here None e = ticket-gone held part
      here (Some t) e = ticket-here t (without part held) part (ticket-part held part t e)

      there : i ≢ part → (o : Option (Ticket S)) → ticket_of part held ≡ o → ticket_of i (option_to_list o ++ without part held) ≡ ticket_of i (without part held)
      there ne None e = refl
      there ne (Some t) e = ticket-else t (without part held) i (λ s. ne (sym s ∙ ticket-part held part t e))
