-- No path that leads somewhere has as many names as there are slots.
use Rattle.std.proofs.Common.{◌≡◌, ◌≢◌, ℕ, zero, suc, ◌<◌, ◌≤◌, Option, Some, None, unwrap_or, inl, inr, length, take, drop, sym, ap, ◌∙◌, arith}
use Rattle.std.proofs.lemmas.Bool.{cases_eq}
use Rattle.std.proofs.lemmas.List.{length-take-le, take-append-drop}
use Rattle.vfs_base.specs.Path.{Path}
use Rattle.name_tree.proofs.Walks.{alone, live-walk, walk-front}
use Rattle.name_tree.specs.Layout.{Child, IsTree, walk}

-- the numbers f k, where the greatest possible one gives way to another
abbrev stepped : (ℕ → ℕ) → ℕ → ℕ → ℕ → ℕ
stepped f n m k = elim (cases_eq (f k) n) [ inl same ↦ f m | inr differs ↦ f k ]

-- so many different numbers below n are at most n
pub pigeons : (n m : ℕ) (f : ℕ → ℕ) → ((k : ℕ) → k < m → f k < n) → ((k l : ℕ) → k < m → l < m → f k ≡ f l → k ≡ l) → m ≤ n
pigeons n zero f small apart = omega arith
pigeons zero (suc m) f small apart = let h : f 0 < 0 = small 0 (omega arith) in absurd (omega arith)
pigeons (suc n) (suc m) f small apart = let h : m ≤ n = pigeons n m (stepped f n m) below distinct in omega arith
  where
    last : (k : ℕ) → k < m → f k ≢ f m
    last k h e = let same : k ≡ m = apart k m (omega arith) (omega arith) e in absurd (omega arith)

    below : (k : ℕ) → k < m → stepped f n m k < n
    below k h = elim (cases_eq (f k) n) as (λ c. (elim c [ inl same ↦ f m | inr differs ↦ f k ]) < n) [
      | inl same ↦
          let most : f m < suc n = small m (omega arith) in
          let other : f m ≢ n = λ e. last k h (same ∙ sym e) in
          omega arith
      | inr differs ↦ let most : f k < suc n = small k (omega arith) in omega arith
    ]

    distinct : (k l : ℕ) → k < m → l < m → stepped f n m k ≡ stepped f n m l → k ≡ l
    distinct k l h j = elim (cases_eq (f k) n) as (λ c. ◌≡◌ {A = ℕ} (elim c [ inl same ↦ f m | inr differs ↦ f k ]) (stepped f n m l) → k ≡ l) [
      | inl same ↦ elim (cases_eq (f l) n) as (λ c. ◌≡◌ {A = ℕ} (f m) (elim c [ inl same ↦ f m | inr differs ↦ f l ]) → k ≡ l) [
        | inl also ↦ λ e. apart k l (omega arith) (omega arith) (same ∙ sym also)
        | inr differs ↦ λ e. absurd (last l j (sym e))
      ]
      | inr differs ↦ elim (cases_eq (f l) n) as (λ c. ◌≡◌ {A = ℕ} (f k) (elim c [ inl same ↦ f m | inr differs ↦ f l ]) → k ≡ l) [
        | inl same ↦ λ e. absurd (last k h e)
        | inr also ↦ λ e. apart k l (omega arith) (omega arith) e
      ]
    ]

-- the slot to which so many names of a path lead
abbrev slot_after : Child → Path → ℕ → ℕ
slot_after C path k = unwrap_or (walk C 0 (take k path)) 0

unwrapped : (o : Option ℕ) (to : ℕ) → o ≡ Some to → unwrap_or o 0 ≡ to
unwrapped o to e = ap (λ x. unwrap_or x 0) e

module _ {T : Type 0} {V : ℕ → Option T} {C : Child} (t : IsTree V C) (size : ℕ) (within : (slot : ℕ) → V slot ≢ None → slot < size) where
  -- a path that leads somewhere is shorter than there are slots
  pub depth-below : (path : Path) (to : ℕ) → walk C 0 path ≡ Some to → length path < size
  depth-below path to w =
      let h : suc (length path) ≤ size = pigeons size (suc (length path)) (slot_after C path) small apart in omega arith
    where
      reached : (k : ℕ) → (mid : ℕ) × (walk C 0 (take k path) ≡ Some mid)
      reached k = let front = walk-front C 0 (take k path) (drop k path) to (ap (walk C 0) (take-append-drop k path) ∙ w) in (front.0, front.1)

      small : (k : ℕ) → k < suc (length path) → slot_after C path k < size
      small k h =
          let r = reached k in
          let is : slot_after C path k ≡ r.0 = unwrapped (walk C 0 (take k path)) r.0 r.1 in
          let l : r.0 < size = within r.0 (live-walk t (take k path) r.0 r.1) in
          omega arith

      apart : (k l : ℕ) → k < suc (length path) → l < suc (length path) → slot_after C path k ≡ slot_after C path l → k ≡ l
      apart k l h j e =
          let r = reached k in
          let s = reached l in
          let same : r.0 ≡ s.0 = sym (unwrapped (walk C 0 (take k path)) r.0 r.1) ∙ e ∙ unwrapped (walk C 0 (take l path)) s.0 s.1 in
          let fronts : take k path ≡ take l path = alone t (take k path) (take l path) s.0 (r.1 ∙ ap (λ x. Some x) same) s.1 in
          sym (length-take-le k path (omega arith)) ∙ ap length fronts ∙ length-take-le l path (omega arith)
