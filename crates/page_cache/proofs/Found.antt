-- Which page of those in memory is found by its number, after changes of their list.
use Rattle.std.specs.Prelude.{◌≡◌, ◌≢◌, ℕ, ◌-◌, ◌==◌, Bool, true, false, not, cond, Option, Some, None, option_map, List, [], ◌∷◌, ◌++◌, length, map, filter, find, take, if◌then◌else◌, refl}
use Rattle.std.proofs.Common.{sym, ◌∙◌, ap, inl, inr, arith}
use Rattle.std.proofs.lemmas.Bool.Decides.{eqb_tells}
use Rattle.std.proofs.lemmas.List.Folds.{find-append}
use Rattle.std.specs.List.{last_or}
use Rattle.std.specs.Option.{option_or}
use Rattle.vfs_model.specs.PageList.{CachedPage}
use Rattle.page_cache.specs.Resident.{cleaned, edited, is_cached, spliced, with_front}

-- a filter that keeps what is looked for
pub find-kept : (q : ℕ) (p : CachedPage → Bool) (xs : List CachedPage) → ((c : CachedPage) → is_cached q c ≡ true → p c ≡ true) →
    find (is_cached q) (filter p xs) ≡ find (is_cached q) xs
find-kept q p [] keeps = refl
find-kept q p (x ∷ xs) keeps = by (p x) refl (is_cached q x) refl (find-kept q p xs keeps)
  where
    by : (t : Bool) → p x ≡ t → (s : Bool) → is_cached q x ≡ s → find (is_cached q) (filter p xs) ≡ find (is_cached q) xs →
        find (is_cached q) (if p x then x ∷ filter p xs else filter p xs) ≡ cond (is_cached q x) (Some x) (find (is_cached q) xs)
    by true e true f rest = rw e (rw f refl)
    by true e false f rest = rw e (rw f rest)
    by false e true f rest = absurd (let k = keeps x f in cc)
    by false e false f rest = rw e (rw f rest)

-- a filter that keeps nothing of what is looked for
pub find-lost : (q : ℕ) (p : CachedPage → Bool) (xs : List CachedPage) → ((c : CachedPage) → is_cached q c ≡ true → p c ≡ false) →
    find (is_cached q) (filter p xs) ≡ None
find-lost q p [] loses = refl
find-lost q p (x ∷ xs) loses = by (p x) refl (is_cached q x) refl (find-lost q p xs loses)
  where
    by : (t : Bool) → p x ≡ t → (s : Bool) → is_cached q x ≡ s → find (is_cached q) (filter p xs) ≡ None →
        find (is_cached q) (if p x then x ∷ filter p xs else filter p xs) ≡ None
    by true e true f rest = absurd (let k = loses x f in cc)
    by true e false f rest = rw e (rw f rest)
    by false e s f rest = rw e rest

pub or-none : {X : Type 0} (o : Option X) → option_or o None ≡ o
or-none None = refl
or-none (Some x) = refl

pub same-number : (a b : ℕ) → (a == b) ≡ true → a ≡ b
same-number a b e = elim (eqb_tells a b) [ inl p ↦ p.1 | inr p ↦ absurd (let no = p.0 in cc) ]

pub other-number : (a b : ℕ) → (a == b) ≡ false → a ≢ b
other-number a b e = elim (eqb_tells a b) [ inl p ↦ absurd (let no = p.0 in cc) | inr p ↦ p.1 ]

pub differs : (a b : ℕ) → a ≢ b → (a == b) ≡ false
differs a b apart = elim (eqb_tells a b) [ inl p ↦ absurd (apart p.1) | inr p ↦ p.0 ]

pub alike : (a : ℕ) → (a == a) ≡ true
alike a = elim (eqb_tells a a) [ inl p ↦ p.0 | inr p ↦ absurd (p.1 refl) ]

-- to bring a page to the front changes no page
pub find-front : (q page : ℕ) (xs : List CachedPage) → find (is_cached q) (with_front page xs) ≡ find (is_cached q) xs
find-front q page xs =
    find-append (is_cached q) (filter (is_cached page) xs) (filter (λ c. not (is_cached page c)) xs)
    ∙ elim (eqb_tells q page) as (λ _. option_or (find (is_cached q) (filter (is_cached page) xs)) (find (is_cached q) (filter (λ c. not (is_cached page c)) xs)) ≡ find (is_cached q) xs) [
      | inl p ↦
          let keeps : (c : CachedPage) → is_cached q c ≡ true → is_cached page c ≡ true = λ c e. sym (ap (λ n. c.page == n) p.1) ∙ e in
          let loses : (c : CachedPage) → is_cached q c ≡ true → not (is_cached page c) ≡ false = λ c e. ap not (keeps c e) in
          rw (find-kept q (is_cached page) xs keeps) (rw (find-lost q (λ c. not (is_cached page c)) xs loses) (or-none (find (is_cached q) xs)))
      | inr p ↦
          let loses : (c : CachedPage) → is_cached q c ≡ true → is_cached page c ≡ false =
          λ c e. differs c.page page (λ f. p.1 (sym (same-number c.page q e) ∙ f)) in
          let keeps : (c : CachedPage) → is_cached q c ≡ true → not (is_cached page c) ≡ true = λ c e. ap not (loses c e) in
          rw (find-lost q (is_cached page) xs loses) (find-kept q (λ c. not (is_cached page c)) xs keeps)
    ]

-- pages are changed in place
find-mapped : (q : ℕ) (f : CachedPage → CachedPage) (xs : List CachedPage) → ((c : CachedPage) → (f c).page ≡ c.page) →
    find (is_cached q) (map f xs) ≡ option_map f (find (is_cached q) xs)
find-mapped q f [] same = refl
find-mapped q f (x ∷ xs) same = by (is_cached q x) refl (find-mapped q f xs same)
  where
    by : (t : Bool) → is_cached q x ≡ t → find (is_cached q) (map f xs) ≡ option_map f (find (is_cached q) xs) →
        cond (is_cached q (f x)) (Some (f x)) (find (is_cached q) (map f xs)) ≡ option_map f (cond (is_cached q x) (Some x) (find (is_cached q) xs))
    by true e rest = rw (ap (λ n. n == q) (same x)) (rw e refl)
    by false e rest = rw (ap (λ n. n == q) (same x)) (rw e rest)

pub cleaned-page : (page : ℕ) (c : CachedPage) → (cleaned page c).page ≡ c.page
cleaned-page page c = by (is_cached page c)
  where
    by : (t : Bool) → (let r : CachedPage = if t then record c { is_dirty = false } else c in r).page ≡ c.page
    by true = refl
    by false = refl

pub find-cleaned : (q page : ℕ) (xs : List CachedPage) → find (is_cached q) (map (cleaned page) xs) ≡ option_map (cleaned page) (find (is_cached q) xs)
find-cleaned q page xs = find-mapped q (cleaned page) xs (cleaned-page page)

pub edited-page : (page at : ℕ) (piece : List ℕ) (c : CachedPage) → (edited page at piece c).page ≡ c.page
edited-page page at piece c = by (is_cached page c)
  where
    by : (t : Bool) → (let r : CachedPage = if t then record c { is_dirty = true; bytes = spliced at piece c.bytes } else c in r).page ≡ c.page
    by true = refl
    by false = refl

pub find-edited : (q page at : ℕ) (piece : List ℕ) (xs : List CachedPage) →
    find (is_cached q) (map (edited page at piece) xs) ≡ option_map (edited page at piece) (find (is_cached q) xs)
find-edited q page at piece xs = find-mapped q (edited page at piece) xs (edited-page page at piece)

last-from : (x c : CachedPage) (xs : List CachedPage) → last_or (Some x) xs ≡ Some c → x ∷ xs ≡ take (length xs) (x ∷ xs) ++ c ∷ []
last-from x c [] e = let same : x ≡ c = cc in ap (λ y. y ∷ []) same
last-from x c (y ∷ xs) e = ap (λ ys. x ∷ ys) (last-from y c xs e)

-- the list without its last page, and that page
pub front-last : (c : CachedPage) (xs : List CachedPage) → last_or None xs ≡ Some c → xs ≡ take (length xs - 1) xs ++ c ∷ []
front-last c [] e = absurd (cc)
front-last c (x ∷ xs) e = last-from x c xs e ∙ ap (λ n. take n (x ∷ xs) ++ c ∷ []) (let e : length xs ≡ length (x ∷ xs) - 1 = omega arith in e)
