-- Entries that lead elsewhere, and values that come and go, leave the nodes one tree.
use Rattle.std.proofs.Common.{◌≡◌, ◌≢◌, ℕ, Option, Some, None, List, ◌⊎◌, inl, inr, refl, sym, ap, ◌∙◌}
use Rattle.std.proofs.lemmas.Bool.{cases_eq}
use Rattle.name_tree.proofs.Walks.{same_entry}
use Rattle.name_tree.specs.Changes.{Redirects, Revalues}
use Rattle.name_tree.specs.Layout.{Child, IsTree}

-- no entry leads to the slot
abbrev pub IsFree : Child → ℕ → Type 0
IsFree C to = (slot : ℕ) (name : List ℕ) → C slot name ≢ Some to

-- the entries without one
pub without_entry : Child → ℕ → List ℕ → Child
without_entry C at name slot other = elim (same_entry slot at other name) [
  | inl same ↦ None
  | inr differs ↦ C slot other
]

pub Redirects-without_entry : (C : Child) (at : ℕ) (name : List ℕ) → Redirects C (without_entry C at name) at name None
unfolding without_entry
Redirects-without_entry C at name = record {
  changed = elim (same_entry at at name name) as (λ s. ◌≡◌ {A = Option ℕ} (elim s [ inl same ↦ None | inr differs ↦ C at name ]) None) [
    | inl same ↦ refl
    | inr differs ↦ absurd (differs refl refl)
  ];
  others = λ slot other h. elim (same_entry slot at other name) as (λ s. ◌≡◌ {A = Option ℕ} (elim s [ inl same ↦ None | inr differs ↦ C slot other ]) (C slot other)) [
    | inl same ↦ absurd (h same.0 same.1)
    | inr differs ↦ refl
  ];
}

module _ {T : Type 0} {V : ℕ → Option T} {C D : Child} (t : IsTree V C) where
  -- an entry that goes
  pub tree-unlinked : {at : ℕ} {name : List ℕ} → Redirects C D at name None → IsTree V D
  tree-unlinked {at} {name} r = record {
    root = t.root;
    root_free = λ slot other e. t.root_free slot other (was slot other 0 e);
    live = λ slot other below e. t.live slot other below (was slot other below e);
    once = λ a b n m below e f. t.once a b n m below (was a n below e) (was b m below f);
  }
    where
      was : (slot : ℕ) (other : List ℕ) (to : ℕ) → D slot other ≡ Some to → C slot other ≡ Some to
      was slot other to e = elim (same_entry slot at other name) [
        | inl same ↦
            let here : D slot other ≡ None = ap (λ s. D s other) same.0 ∙ ap (D at) same.1 ∙ r.changed in
            absurd (cc)
        | inr differs ↦ sym (r.others slot other differs) ∙ e
      ]

  -- an entry that leads to a node from now on, to which none led
  pub tree-linked : {at to : ℕ} {name : List ℕ} → Redirects C D at name (Some to) → to ≢ 0 → V to ≢ None → IsFree C to → IsTree V D
  tree-linked {at} {to} {name} r nonzero there free = record {
    root = t.root;
    root_free = λ slot other e. elim (was slot other 0 e) [ inl here ↦ nonzero (sym here.2) | inr old ↦ t.root_free slot other old ];
    live = λ slot other below e. elim (was slot other below e) [ inl here ↦ λ none. there (ap V (sym here.2) ∙ none) | inr old ↦ t.live slot other below old ];
    once = λ a b n m below e f. elim (was a n below e) [
      | inl here ↦ elim (was b m below f) [
        | inl also ↦ (here.0 ∙ sym also.0, here.1 ∙ sym also.1)
        | inr old ↦ absurd (free b m (old ∙ ap (λ x. Some x) here.2))
      ]
      | inr old ↦ elim (was b m below f) [
        | inl also ↦ absurd (free a n (old ∙ ap (λ x. Some x) also.2))
        | inr older ↦ t.once a b n m below old older
      ]
    ];
  }
    where
      was : (slot : ℕ) (other : List ℕ) (below : ℕ) → D slot other ≡ Some below → ((slot ≡ at) × (other ≡ name) × (below ≡ to)) ⊎ (C slot other ≡ Some below)
      was slot other below e = elim (same_entry slot at other name) [
        | inl same ↦
            let here : D slot other ≡ Some to = ap (λ s. D s other) same.0 ∙ ap (D at) same.1 ∙ r.changed in
            let is : below ≡ to = cc in
            inl (same.0, same.1, is)
        | inr differs ↦ inr (sym (r.others slot other differs) ∙ e)
      ]

module _ {T : Type 0} {V W : ℕ → Option T} {C : Child} (t : IsTree V C) where
  -- a value that comes or changes
  pub tree-valued : {at : ℕ} {value : T} → Revalues V W at (Some value) → IsTree W C
  tree-valued {at} {value} r = record {
    root = λ none. t.root (was 0 none);
    root_free = t.root_free;
    live = λ slot name below e none. t.live slot name below e (was below none);
    once = t.once;
  }
    where
      was : (slot : ℕ) → W slot ≡ None → V slot ≡ None
      was slot none = elim (cases_eq slot at) [
        | inl same ↦ let here : W slot ≡ Some value = ap W same ∙ r.changed in absurd (cc)
        | inr differs ↦ sym (r.others slot differs) ∙ none
      ]

  -- a value that stays wherever an entry leads, and at the root
  pub tree-kept : W 0 ≡ V 0 → ((slot : ℕ) (name : List ℕ) (below : ℕ) → C slot name ≡ Some below → W below ≡ V below) → IsTree W C
  tree-kept root kept = record {
    root = λ none. t.root (sym root ∙ none);
    root_free = t.root_free;
    live = λ slot name below e none. t.live slot name below e (sym (kept slot name below e) ∙ none);
    once = t.once;
  }
