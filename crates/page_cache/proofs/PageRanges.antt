-- What a test keeps of a range of pages, after a change at one page.
use Rattle.std.specs.Prelude.{◌≡◌, ◌≢◌, ℕ, zero, suc, ◌+◌, ◌<◌, ◌≤◌, ◌==◌, Bool, true, false, ◌&&◌, ◌||◌, nat_lt, [], ◌∷◌, filter, if◌then◌else◌, refl}
use Rattle.std.proofs.Common.{sym, ◌∙◌, ap, ap₂, inl, inr, arith}
use Rattle.std.proofs.lemmas.Bool.Decides.{eqb_tells}
use Rattle.std.specs.BTreeSet.{insert_key}
use Rattle.std.specs.Cmp.{nat_cmp_is}
use Rattle.std.specs.List.{list_any, range_with_len}
use Rattle.std.specs.Ordering.{nat_cmp}
use Rattle.std.specs.declared.cmp.Ordering.TheVariants.{Less, Equal, Greater}
use Rattle.page_cache.proofs.Found.{differs}

-- two tests that agree on a range keep the same of it
pub kept-same : (p q : ℕ → Bool) (a n : ℕ) → ((x : ℕ) → a ≤ x → x < a + n → p x ≡ q x) → filter p (range_with_len a n) ≡ filter q (range_with_len a n)
kept-same p q a zero same = refl
kept-same p q a (suc n) same =
    let rest = kept-same p q (a + 1) n (λ x low high. same x (omega (arith, low)) (omega (arith, high))) in
    ap₂ (λ t xs. if t then a ∷ xs else xs) (same a (omega arith) (omega arith)) rest

pub kept-none : (q : ℕ → Bool) (a n : ℕ) → ((x : ℕ) → a ≤ x → x < a + n → q x ≡ false) → filter q (range_with_len a n) ≡ []
kept-none q a zero none = refl
kept-none q a (suc n) none =
    rw (none a (omega arith) (omega arith)) (kept-none q (a + 1) n (λ x low high. none x (omega (arith, low)) (omega (arith, high))))

front-key : (q : ℕ → Bool) (a n page : ℕ) → page < a → insert_key nat_cmp (filter q (range_with_len a n)) page ≡ page ∷ filter q (range_with_len a n)
front-key q a zero page low = refl
front-key q a (suc n) page low = by (q a) (front-key q (a + 1) n page (omega (arith, low)))
  where
    by : (t : Bool) → insert_key nat_cmp (filter q (range_with_len (a + 1) n)) page ≡ page ∷ filter q (range_with_len (a + 1) n) →
        insert_key nat_cmp (if t then a ∷ filter q (range_with_len (a + 1) n) else filter q (range_with_len (a + 1) n)) page
        ≡ page ∷ (if t then a ∷ filter q (range_with_len (a + 1) n) else filter q (range_with_len (a + 1) n))
    by true rest = let e : nat_cmp page a ≡ Less = sym (nat_cmp_is page a Less low) in rw e refl
    by false rest = rest

-- one page more
pub kept-more : (q r : ℕ → Bool) (page a n : ℕ) → a ≤ page → page < a + n → ((x : ℕ) → x < a + n → r x ≡ (page == x || q x)) →
    filter r (range_with_len a n) ≡ insert_key nat_cmp (filter q (range_with_len a n)) page
kept-more q r page a zero low high more = absurd (omega (arith, low, high))
kept-more q r page a (suc n) low high more = elim (eqb_tells page a) as (λ _. filter r (range_with_len a (suc n)) ≡ insert_key nat_cmp (filter q (range_with_len a (suc n))) page) [
  | inl p ↦ here p.1 (q a)
      (kept-same r q (a + 1) n (λ x from to. more x (omega (arith, to)) ∙ ap (λ t. t || q x) (differs page x (λ e. let one = p.1 in absurd (omega (arith, from, e, one))))))
      (more a (omega arith) ∙ ap (λ t. t || q a) p.0)
  | inr p ↦ there (let apart : page ≢ a = p.1 in omega (arith, low, apart)) (q a) (more a (omega arith) ∙ ap (λ t. t || q a) p.0)
      (kept-more q r page (a + 1) n (let apart : page ≢ a = p.1 in omega (arith, low, apart)) (omega (arith, high)) (λ x to. more x (omega (arith, to))))
]
  where
    here : page ≡ a → (t : Bool) → filter r (range_with_len (a + 1) n) ≡ filter q (range_with_len (a + 1) n) → r a ≡ true →
        (if r a then a ∷ filter r (range_with_len (a + 1) n) else filter r (range_with_len (a + 1) n))
        ≡ insert_key nat_cmp (if t then a ∷ filter q (range_with_len (a + 1) n) else filter q (range_with_len (a + 1) n)) page
    here one true rest kept = let e : nat_cmp page a ≡ Equal = sym (nat_cmp_is page a Equal one) in rw (kept, e) (ap (λ xs. a ∷ xs) rest)
    here one false rest kept =
        let below : page < a + 1 = omega (arith, one) in
        rw kept (ap₂ (λ x xs. x ∷ xs) (sym one) rest ∙ sym (front-key q (a + 1) n page below))

    there : a < page → (t : Bool) → r a ≡ t → filter r (range_with_len (a + 1) n) ≡ insert_key nat_cmp (filter q (range_with_len (a + 1) n)) page →
        (if r a then a ∷ filter r (range_with_len (a + 1) n) else filter r (range_with_len (a + 1) n))
        ≡ insert_key nat_cmp (if t then a ∷ filter q (range_with_len (a + 1) n) else filter q (range_with_len (a + 1) n)) page
    there above true kept rest = let e : nat_cmp page a ≡ Greater = sym (nat_cmp_is page a Greater above) in rw (kept, e) (ap (λ xs. a ∷ xs) rest)
    there above false kept rest = rw kept rest

-- the pages below one alone
pub kept-below : (q r : ℕ → Bool) (keep a n : ℕ) → ((x : ℕ) → x < a + n → r x ≡ (nat_lt x keep && q x)) →
    filter r (range_with_len a n) ≡ filter (λ x. nat_lt x keep) (filter q (range_with_len a n))
kept-below q r keep a zero same = refl
kept-below q r keep a (suc n) same = by (q a) (nat_lt a keep) refl (same a (omega arith)) (kept-below q r keep (a + 1) n (λ x high. same x (omega (arith, high))))
  where
    by : (t s : Bool) → nat_lt a keep ≡ s → r a ≡ (nat_lt a keep && t) → filter r (range_with_len (a + 1) n) ≡ filter (λ x. nat_lt x keep) (filter q (range_with_len (a + 1) n)) →
        (if r a then a ∷ filter r (range_with_len (a + 1) n) else filter r (range_with_len (a + 1) n))
        ≡ filter (λ x. nat_lt x keep) (if t then a ∷ filter q (range_with_len (a + 1) n) else filter q (range_with_len (a + 1) n))
    by true true f e rest = rw (e, f) (ap (λ xs. a ∷ xs) rest)
    by true false f e rest = rw (e, f) rest
    by false true f e rest = rw (e, f) rest
    by false false f e rest = rw (e, f) rest

-- The first test holds at a page and at none below; the second does not hold there, and else agrees below an end.
pub record LosesFirst (q r : ℕ → Bool) (page end : ℕ) : Type 0 where
  pub none : (x : ℕ) → x < page → q x ≡ false
  pub here : q page ≡ true
  pub gone : r page ≡ false
  pub same : (x : ℕ) → x < end → x ≢ page → r x ≡ q x

-- without the least page
pub kept-first : (q r : ℕ → Bool) (page a n : ℕ) → a ≤ page → page < a + n → LosesFirst q r page (a + n) → filter q (range_with_len a n) ≡ page ∷ filter r (range_with_len a n)
kept-first q r page a zero low high h = absurd (omega (arith, low, high))
kept-first q r page a (suc n) low high h = elim (eqb_tells page a) as (λ _. filter q (range_with_len a (suc n)) ≡ page ∷ filter r (range_with_len a (suc n))) [
  | inl p ↦
      let kept : q a ≡ true = ap q (sym p.1) ∙ h.here in
      let lost : r a ≡ false = ap r (sym p.1) ∙ h.gone in
      rw (kept, lost) (ap₂ (λ x xs. x ∷ xs) (sym p.1)
      (kept-same q r (a + 1) n (λ x from to. sym (h.same x (omega (arith, to)) (λ e. let one = p.1 in absurd (omega (arith, from, e, one)))))))
  | inr p ↦
      let apart : page ≢ a = p.1 in
      let above : a < page = omega (arith, low, apart) in
      let kept : q a ≡ false = h.none a above in
      let lost : r a ≡ false = h.same a (omega arith) (λ e. apart (sym e)) ∙ kept in
      rw (kept, lost) (kept-first q r page (a + 1) n (omega (arith, above)) (omega (arith, high)) (record { none = h.none; here = h.here; gone = h.gone; same = λ x to. h.same x (omega (arith, to)) }))
]

-- a range has nothing below its start
none-below : (q : ℕ → Bool) (a n page : ℕ) → page < a → list_any (λ other. other == page) (filter q (range_with_len a n)) ≡ false
none-below q a zero page below = refl
none-below q a (suc n) page below = by (q a) (none-below q (a + 1) n page (omega (arith, below)))
  where
    by : (t : Bool) → list_any (λ other. other == page) (filter q (range_with_len (a + 1) n)) ≡ false →
        list_any (λ other. other == page) (if t then a ∷ filter q (range_with_len (a + 1) n) else filter q (range_with_len (a + 1) n)) ≡ false
    by true more = ap (λ t. t || list_any (λ other. other == page) (filter q (range_with_len (a + 1) n))) (differs a page (λ e. absurd (omega (arith, below, e)))) ∙ more
    by false more = more

-- what a test keeps of a range passes the test
pub kept-among : (q : ℕ → Bool) (a n page : ℕ) → a ≤ page → page < a + n → list_any (λ other. other == page) (filter q (range_with_len a n)) ≡ q page
kept-among q a zero page low high = absurd (omega (arith, low, high))
kept-among q a (suc n) page low high = elim (eqb_tells a page) as (λ _. list_any (λ other. other == page) (filter q (range_with_len a (suc n))) ≡ q page) [
  | inl p ↦ here (q a) refl p.1 p.0
  | inr p ↦ there (q a) p.0 (kept-among q (a + 1) n page (let apart : a ≢ page = p.1 in omega (arith, low, apart)) (omega (arith, high)))
]
  where
    here : (t : Bool) → q a ≡ t → a ≡ page → (a == page) ≡ true →
        list_any (λ other. other == page) (if t then a ∷ filter q (range_with_len (a + 1) n) else filter q (range_with_len (a + 1) n)) ≡ q page
    here true e same test = ap (λ t. t || list_any (λ other. other == page) (filter q (range_with_len (a + 1) n))) test ∙ sym e ∙ ap q same
    here false e same test = none-below q (a + 1) n page (omega (arith, same)) ∙ sym e ∙ ap q same

    there : (t : Bool) → (a == page) ≡ false → list_any (λ other. other == page) (filter q (range_with_len (a + 1) n)) ≡ q page →
        list_any (λ other. other == page) (if t then a ∷ filter q (range_with_len (a + 1) n) else filter q (range_with_len (a + 1) n)) ≡ q page
    there true test more = ap (λ t. t || list_any (λ other. other == page) (filter q (range_with_len (a + 1) n))) test ∙ more
    there false test more = more
