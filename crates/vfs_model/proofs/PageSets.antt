-- The stored pages in rising order, and the words of their set, are inverse to each other.
use Rattle.std.specs.Prelude.{◌≡◌, ◌≢◌, ℕ, zero, suc, ◌+◌, ◌*◌, ◌/◌, ◌%◌, ◌^◌, ◌<◌, ◌≤◌, ◌==◌, Bool, true, false, cond, ◌||◌, bit_and, List, [], ◌∷◌, length, map, filter, slice_index_or, refl, if◌then◌else◌}
use Rattle.std.proofs.Common.{sym, ◌∙◌, ap, ap₂, subst, inl, inr, arith}
use Rattle.std.proofs.lemmas.Bool.Decides.{eqb_tells}
use Rattle.std.proofs.lemmas.Nat.{and_mask, mod-pow-add, shr-shr}
use Rattle.std.proofs.lemmas.Simd.{bit_mask_l}
use Rattle.std.specs.List.{range_with_len}
use Rattle.std.specs.Simd.Lanes.{mask_l}
use Rattle.vfs_model.specs.PageList.{IsPageSet, IsRising, WordsTellPages, is_among, stored_pages, stored_words, word_pages}
use Rattle.vfs_model.specs.WrittenBack.{has_page}

-- what stands at a place of what is made of a range
at-range : {X : Type 0} (f : ℕ → X) (a n i : ℕ) (d : X) → i < n → slice_index_or (map f (range_with_len a n)) i d ≡ f (a + i)
at-range f a zero i d h = absurd (omega (arith, h))
at-range f a (suc n) zero d h = ap f (let e : a ≡ a + 0 = omega arith in e)
at-range f a (suc n) (suc i) d h = at-range f (a + 1) n i d (omega (arith, h)) ∙ ap f (let e : a + 1 + i ≡ a + suc i = omega arith in e)

is-one : (test : Bool) → (cond test 1 0 == 1) ≡ test
is-one true = refl
is-one false = refl

mod-below : (page : ℕ) → page % 64 < 64
mod-below page = omega arith

-- a page is in the set of these pages exactly where it is among them
has-among : (pages : List ℕ) (page : ℕ) → page < 1024 → has_page (stored_words pages) page ≡ is_among pages page
has-among pages page h =
    let word : ℕ = page / 64 in
    let bit : ℕ = page % 64 in
    let within : word < 16 = omega (arith, h) in
    let low : bit < 64 = omega arith in
    let whole : 64 * (0 + word) + (0 + bit) ≡ page = omega arith in
    ap (λ x. bit_and (x / 2 ^ bit) 1 == 1) (at-range (λ w. mask_l (word_pages pages w)) 0 16 word 0 within)
    ∙ ap (λ x. x == 1) (and_mask (mask_l (word_pages pages (0 + word)) / 2 ^ bit) 1 ∙ bit_mask_l (word_pages pages (0 + word)) bit)
    ∙ ap (λ t. cond t 1 0 == 1) (at-range (λ b. is_among pages (64 * (0 + word) + b)) 0 64 bit false low)
    ∙ is-one (is_among pages (64 * (0 + word) + (0 + bit))) ∙ ap (is_among pages) whole

-- two tests that agree on a range keep the same of it
filter-same : (p q : ℕ → Bool) (a n : ℕ) → ((x : ℕ) → a ≤ x → x < a + n → p x ≡ q x) → filter p (range_with_len a n) ≡ filter q (range_with_len a n)
filter-same p q a zero same = refl
filter-same p q a (suc n) same =
    let rest = filter-same p q (a + 1) n (λ x low high. same x (omega (arith, low)) (omega (arith, high))) in
    kept (p a) (q a) (same a (omega arith) (omega arith)) rest
  where
    kept : (s t : Bool) → s ≡ t → filter p (range_with_len (a + 1) n) ≡ filter q (range_with_len (a + 1) n) →
        (if s then a ∷ filter p (range_with_len (a + 1) n) else filter p (range_with_len (a + 1) n))
        ≡ (if t then a ∷ filter q (range_with_len (a + 1) n) else filter q (range_with_len (a + 1) n))
    kept s t e rest = ap₂ (λ u xs. if u then a ∷ xs else xs) e rest

not-among : (pages : List ℕ) (low high page : ℕ) → IsRising low high pages → page < low → is_among pages page ≡ false
not-among [] low high page h below = refl
not-among (first ∷ pages) low high page h below = elim (eqb_tells first page) [
  | inl p ↦ absurd (let same = p.1 in let l = h.0 in omega (arith, same, l, below))
  | inr p ↦ ap (λ t. t || is_among pages page) p.0 ∙ not-among pages (first + 1) high page h.2 (let l = h.0 in omega (arith, l, below))
]

filter-none : (a n : ℕ) → filter (is_among []) (range_with_len a n) ≡ []
filter-none a zero = refl
filter-none a (suc n) = filter-none (a + 1) n

-- pages in rising order are what a range has of them
rising-kept : (pages : List ℕ) (a n : ℕ) → IsRising a (a + n) pages → filter (is_among pages) (range_with_len a n) ≡ pages
rising-kept [] a n h = filter-none a n
rising-kept (page ∷ pages) a zero h = absurd (let low = h.0 in let high = h.1 in omega (arith, low, high))
rising-kept (page ∷ pages) a (suc n) h = elim (eqb_tells page a) as (λ _. filter (is_among (page ∷ pages)) (range_with_len a (suc n)) ≡ page ∷ pages) [
  | inl p ↦
      let here : is_among (page ∷ pages) a ≡ true = ap (λ t. t || is_among pages a) p.0 in
      let rest : IsRising (a + 1) (a + 1 + n) pages =
      subst (λ high. IsRising (a + 1) high pages) (let e : a + suc n ≡ a + 1 + n = omega arith in e)
      (subst (λ low. IsRising (low + 1) (a + suc n) pages) p.1 h.2) in
      ap (λ t. if t then a ∷ filter (is_among (page ∷ pages)) (range_with_len (a + 1) n) else filter (is_among (page ∷ pages)) (range_with_len (a + 1) n)) here
      ∙ ap₂ (λ x xs. x ∷ xs) (sym p.1)
      (filter-same (is_among (page ∷ pages)) (is_among pages) (a + 1) n
      (λ x low high. ap (λ t. t || is_among pages x) (differs page x (let same = p.1 in omega (arith, same, low))))
      ∙ rising-kept pages (a + 1) n rest)
  | inr p ↦
      let above : a + 1 ≤ page = let low = h.0 in let apart : page ≢ a = p.1 in omega (arith, low, apart) in
      let none : is_among (page ∷ pages) a ≡ false = not-among (page ∷ pages) (a + 1) (a + suc n) a (above, h.1, h.2) (omega arith) in
      let more : IsRising (a + 1) (a + 1 + n) (page ∷ pages) =
      subst (λ high. IsRising (a + 1) high (page ∷ pages)) (let e : a + suc n ≡ a + 1 + n = omega arith in e) (above, h.1, h.2) in
      ap (λ t. if t then a ∷ filter (is_among (page ∷ pages)) (range_with_len (a + 1) n) else filter (is_among (page ∷ pages)) (range_with_len (a + 1) n)) none
      ∙ rising-kept (page ∷ pages) (a + 1) n more
]
  where
    differs : (m x : ℕ) → m < x → (m == x) ≡ false
    differs m x below = elim (eqb_tells m x) [ inl q ↦ absurd (let same = q.1 in omega (arith, same, below)) | inr q ↦ q.0 ]

pages-told : (pages : List ℕ) → IsRising 0 1024 pages → stored_pages (stored_words pages) ≡ pages
pages-told pages h =
    filter-same (has_page (stored_words pages)) (is_among pages) 0 1024 (λ x low high. has-among pages x high) ∙ rising-kept pages 0 1024 h

-- a range has nothing below its start
among-above : (q : ℕ → Bool) (a n page : ℕ) → page < a → is_among (filter q (range_with_len a n)) page ≡ false
among-above q a zero page below = refl
among-above q a (suc n) page below = by (q a) (among-above q (a + 1) n page (omega (arith, below)))
  where
    by : (t : Bool) → is_among (filter q (range_with_len (a + 1) n)) page ≡ false →
        is_among (if t then a ∷ filter q (range_with_len (a + 1) n) else filter q (range_with_len (a + 1) n)) page ≡ false
    by true more = elim (eqb_tells a page) [
      | inl p ↦ absurd (let same = p.1 in omega (arith, same, below))
      | inr p ↦ ap (λ t. t || is_among (filter q (range_with_len (a + 1) n)) page) p.0 ∙ more
    ]
    by false more = more

-- what a range has of a test passes the test
among-kept : (q : ℕ → Bool) (a n page : ℕ) → a ≤ page → page < a + n → is_among (filter q (range_with_len a n)) page ≡ q page
among-kept q a zero page low high = absurd (omega (arith, low, high))
among-kept q a (suc n) page low high = elim (eqb_tells a page) as (λ _. is_among (filter q (range_with_len a (suc n))) page ≡ q page) [
  | inl p ↦ here (q a) refl p.1 p.0
  | inr p ↦ there (q a) p.0 (among-kept q (a + 1) n page (let apart : a ≢ page = p.1 in omega (arith, low, apart)) (omega (arith, high)))
]
  where
    here : (t : Bool) → q a ≡ t → a ≡ page → (a == page) ≡ true →
        is_among (if t then a ∷ filter q (range_with_len (a + 1) n) else filter q (range_with_len (a + 1) n)) page ≡ q page
    here true e same test = ap (λ t. t || is_among (filter q (range_with_len (a + 1) n)) page) test ∙ sym e ∙ ap q same
    here false e same test = among-above q (a + 1) n page (omega (arith, same)) ∙ sym e ∙ ap q same

    there : (t : Bool) → (a == page) ≡ false → is_among (filter q (range_with_len (a + 1) n)) page ≡ q page →
        is_among (if t then a ∷ filter q (range_with_len (a + 1) n) else filter q (range_with_len (a + 1) n)) page ≡ q page
    there true test more = ap (λ t. t || is_among (filter q (range_with_len (a + 1) n)) page) test ∙ more
    there false test more = more

-- two functions that agree on a range make the same of it
map-same : {X : Type 0} (f g : ℕ → X) (a n : ℕ) → ((i : ℕ) → a ≤ i → i < a + n → f i ≡ g i) → map f (range_with_len a n) ≡ map g (range_with_len a n)
map-same f g a zero same = refl
map-same f g a (suc n) same = ap₂ (λ x xs. x ∷ xs) (same a (omega arith) (omega arith))
    (map-same f g (a + 1) n (λ i low high. same i (omega (arith, low)) (omega (arith, high))))

-- a list is what a function makes of a range that gives its items
range-list : (f : ℕ → ℕ) (a : ℕ) (xs : List ℕ) → ((i : ℕ) → i < length xs → f (a + i) ≡ slice_index_or xs i 0) → map f (range_with_len a (length xs)) ≡ xs
range-list f a [] gives = refl
range-list f a (x ∷ xs) gives = ap₂ (λ y ys. y ∷ ys) (ap f (let e : a ≡ a + 0 = omega arith in e) ∙ gives 0 (omega arith))
    (range-list f (a + 1) xs (λ i within. ap f (let e : a + 1 + i ≡ a + suc i = omega arith in e) ∙ gives (suc i) (omega (arith, within))))

abbrev pub bit_of : ℕ → ℕ → Bool
bit_of word bit = word / 2 ^ bit % 2 == 1

bit-value : (m : ℕ) → m < 2 → cond (m == 1) 1 0 ≡ m
bit-value zero h = refl
bit-value (suc zero) h = refl
bit-value (suc (suc m)) h = absurd (omega (arith, h))

-- the bits of a number from one on make what is left of it there
bits-made : (word a n : ℕ) → mask_l (map (bit_of word) (range_with_len a n)) ≡ word / 2 ^ a % 2 ^ n
bits-made word a zero = let rest : ℕ = word / 2 ^ a in let e : 0 ≡ rest % 1 = omega arith in e
bits-made word a (suc n) =
    let rest : ℕ = word / 2 ^ a in
    let low : cond (rest % 2 == 1) 1 0 ≡ rest % 2 = bit-value (rest % 2) (omega arith) in
    let high = bits-made word (a + 1) n in
    let shifted : rest / 2 ^ 1 ≡ word / 2 ^ (a + 1) = shr-shr word a 1 in
    let split : rest % 2 ^ (n + 1) ≡ (rest / 2 ^ 1 % 2 ^ n) * 2 ^ 1 + rest % 2 ^ 1 = mod-pow-add rest n 1 in
    let moved : word / 2 ^ (a + 1) % 2 ^ n ≡ rest / 2 ^ 1 % 2 ^ n = ap (λ x. x % 2 ^ n) (sym shifted) in
    let power : rest % 2 ^ (n + 1) ≡ rest % 2 ^ suc n = ap (λ k. rest % 2 ^ k) (let e : n + 1 ≡ suc n = omega arith in e) in
    let sum : cond (rest % 2 == 1) 1 0 + 2 * mask_l (map (bit_of word) (range_with_len (a + 1) n)) ≡ rest % 2 ^ suc n =
    ap₂ (λ x y. x + 2 * y) low (high ∙ moved) ∙ added (rest % 2) (rest / 2 ^ 1 % 2 ^ n) (rest % 2 ^ (n + 1)) split ∙ power in
    sum
  where
    added : (x y z : ℕ) → z ≡ y * 2 + x → x + 2 * y ≡ z
    added x y z e = omega (arith, e)

word-told : (words : List ℕ) (word : ℕ) → word < 16 → slice_index_or words word 0 < 2 ^ 64 →
    mask_l (word_pages (stored_pages words) word) ≡ slice_index_or words word 0
word-told words word within small =
    ap mask_l (map-same (λ bit. is_among (stored_pages words) (64 * word + bit)) (bit_of (slice_index_or words word 0)) 0 64 (λ bit low high. told bit high))
    ∙ bits-made (slice_index_or words word 0) 0 64 ∙ whole (slice_index_or words word 0) small
  where
    whole : (x : ℕ) → x < 2 ^ 64 → x / 2 ^ 0 % 2 ^ 64 ≡ x
    whole x below = omega (arith, below)

    told : (bit : ℕ) → bit < 0 + 64 → is_among (stored_pages words) (64 * word + bit) ≡ bit_of (slice_index_or words word 0) bit
    told bit high =
        among-kept (has_page words) 0 1024 (64 * word + bit) (omega arith) (omega (arith, high, within))
        ∙ ap₂ (λ place low. bit_and (slice_index_or words place 0 / 2 ^ low) 1 == 1)
        (let e : (64 * word + bit) / 64 ≡ word = omega (arith, high) in e) (let e : (64 * word + bit) % 64 ≡ bit = omega (arith, high) in e)
        ∙ ap (λ x. x == 1) (and_mask (slice_index_or words word 0 / 2 ^ bit) 1)

words-told : (words : List ℕ) → IsPageSet words → stored_words (stored_pages words) ≡ words
words-told words h =
    let f : ℕ → ℕ = λ word. mask_l (word_pages (stored_pages words) word) in
    ap (λ n. map f (range_with_len 0 n)) (sym h.count)
    ∙ range-list f 0 words (λ i within. word-told words (0 + i) (let count = h.count in omega (arith, within, count)) (h.bits (0 + i)) ∙ ap (λ k. slice_index_or words k 0) (let e : 0 + i ≡ i = omega arith in e))

pub words-tell-pages : WordsTellPages
words-tell-pages = record { pages = pages-told; words = words-told }
