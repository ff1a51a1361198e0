-- What is in a set of pages, after a change of one of its words.
use Rattle.std.specs.Prelude.{◌≡◌, ◌≢◌, ℕ, ◌+◌, ◌-◌, ◌*◌, ◌/◌, ◌%◌, ◌^◌, ◌<◌, ◌≤◌, ◌==◌, true, false, ◌&&◌, ◌||◌, nat_lt, bit_and, min, List, [], ◌∷◌, length, filter, slice_index_or, slice_set}
use Rattle.std.proofs.Common.{sym, ◌∙◌, ap, ap₂, subst, inl, inr, arith, ◌⊎◌}
use Rattle.std.proofs.lemmas.Bool.{cases_lt}
use Rattle.std.proofs.lemmas.Bool.Decides.{eqb_tells, nat_tests}
use Rattle.std.proofs.lemmas.List.{get_or-set_other, get_or-set_same}
use Rattle.std.proofs.lemmas.Nat.Bits.{bit_at-lt, bit_at-trailing_zeros, bit_at-zero, bit_at_and, bit_at_clear_other, bit_at_clear_same, bit_at_ones, bit_at_ones_above, bit_at_set_other, bit_at_set_same, shr_and_one}
use Rattle.std.specs.BTreeSet.{insert_key}
use Rattle.std.specs.Int.{bit_at, bit_not, trailing_zeros, w64}
use Rattle.std.specs.Int.Bits.{bit_or}
use Rattle.std.specs.List.{list_any, range_with_len}
use Rattle.std.specs.Ordering.{nat_cmp}
use Rattle.vfs_model.specs.WrittenBack.{has_page}
use Rattle.page_cache.specs.StoredSet.{pages_in}
use Rattle.page_cache.proofs.Found.{alike, differs}
use Rattle.page_cache.proofs.PageRanges.{kept-among, kept-below, kept-first, kept-more, kept-none}

-- the word of a page
abbrev pub word_of : List ℕ → ℕ → ℕ
word_of words page = slice_index_or words (page / 64) 0

by-bit : (words : List ℕ) (page : ℕ) → has_page words page ≡ (bit_at (word_of words page) (page % 64) == 1)
by-bit words page = ap (λ n. n == 1) (shr_and_one (word_of words page) (page % 64))

same-place : (x y : ℕ) → x / 64 ≡ y / 64 → x % 64 ≡ y % 64 → x ≡ y
same-place x y high low = omega (arith, high, low)

-- one bit more is set
set-bit : (words : List ℕ) (page x : ℕ) → page / 64 < length words →
    has_page (slice_set words (page / 64) (bit_or (word_of words page) (1 * 2 ^ (page % 64) % 2 ^ 64))) x ≡ (page == x || has_page words x)
set-bit words page x within = elim (eqb_tells (x / 64) (page / 64)) [
  | inl p ↦
      let here : slice_index_or (slice_set words (page / 64) new) (x / 64) 0 ≡ new = ap (λ i. slice_index_or (slice_set words (page / 64) new) i 0) p.1 ∙ get_or-set_same words (page / 64) new 0 within in
      by-bit (slice_set words (page / 64) new) x ∙ ap (λ w. bit_at w (x % 64) == 1) here ∙ bits p.1 (eqb_tells (x % 64) (page % 64))
  | inr p ↦
      by-bit (slice_set words (page / 64) new) x ∙ ap (λ w. bit_at w (x % 64) == 1) (get_or-set_other words (page / 64) (x / 64) new 0 p.1) ∙ sym (by-bit words x)
      ∙ ap (λ t. t || has_page words x) (sym (differs page x (λ e. p.1 (ap (λ n. n / 64) (sym e)))))
]
  where
    new : ℕ
    new = bit_or (word_of words page) (1 * 2 ^ (page % 64) % 2 ^ 64)

    bits : x / 64 ≡ page / 64 → ((((x % 64) == (page % 64)) ≡ true) × (x % 64 ≡ page % 64)) ⊎ ((((x % 64) == (page % 64)) ≡ false) × (x % 64 ≢ page % 64)) →
        (bit_at new (x % 64) == 1) ≡ (page == x || has_page words x)
    bits high (inl q) =
        let one : page ≡ x = same-place page x (sym high) (sym q.1) in
        ap (λ k. bit_at new k == 1) q.1 ∙ ap (λ n. n == 1) (bit_at_set_same w64 (word_of words page) (page % 64) (omega arith))
        ∙ ap (λ t. t || has_page words x) (sym (ap (λ n. n == x) one ∙ alike x))
    bits high (inr q) =
        ap (λ n. n == 1) (bit_at_set_other w64 (word_of words page) (page % 64) (omega arith) (x % 64) q.1)
        ∙ ap (λ i. bit_at (slice_index_or words i 0) (x % 64) == 1) (sym high) ∙ sym (by-bit words x)
        ∙ ap (λ t. t || has_page words x) (sym (differs page x (λ e. q.1 (ap (λ n. n % 64) (sym e)))))

-- the set with a page
pub inserted-page : (words : List ℕ) (page place : ℕ) → place ≡ page / 64 → length words ≡ 16 → page < 1024 →
    pages_in (slice_set words place (bit_or (slice_index_or words place 0) (1 * 2 ^ (page % 64) % 2 ^ 64))) ≡ insert_key nat_cmp (pages_in words) page
unfolding pages_in
inserted-page words page place at count low =
    let more : ℕ → List ℕ = λ k. slice_set words k (bit_or (slice_index_or words k 0) (1 * 2 ^ (page % 64) % 2 ^ 64)) in
    ap (λ k. filter (has_page (more k)) (range_with_len 0 1024)) at
    ∙ kept-more (has_page words) (has_page (more (page / 64))) page 0 1024 (omega arith) (omega (arith, low))
    (λ x high. set-bit words page x (omega (arith, low, count)))

-- a page is in the set where its bit is set
pub is-in : (words : List ℕ) (page : ℕ) → page < 1024 → list_any (λ other. other == page) (pages_in words) ≡ has_page words page
unfolding pages_in
is-in words page low = kept-among (has_page words) 0 1024 page (omega arith) (omega (arith, low))

-- a set of no bit has no page
pub none-in : (words : List ℕ) → ((place : ℕ) → place < 16 → slice_index_or words place 0 ≡ 0) → pages_in words ≡ []
unfolding pages_in
none-in words zeros = kept-none (has_page words) 0 1024 (λ x low high.
    by-bit words x ∙ ap (λ w. bit_at w (x % 64) == 1) (zeros (x / 64) (omega (arith, high))) ∙ ap (λ b. b == 1) (bit_at-zero (x % 64)))

-- the bits of a word below a page
abbrev pub low_mask : ℕ → ℕ → ℕ
low_mask keep place = 2 ^ min (keep - 64 * place) 64 - 1

-- the words before a place have only the pages below one, and the others are as they were
pub record AreCut (old new : List ℕ) (keep place : ℕ) : Type 0 where
  pub count : length new ≡ length old
  pub cut : (i : ℕ) → i < place → slice_index_or new i 0 ≡ bit_and (slice_index_or old i 0) (low_mask keep i)
  pub rest : (i : ℕ) → place ≤ i → slice_index_or new i 0 ≡ slice_index_or old i 0

-- the pages below one alone
pub cut-pages : (old new : List ℕ) (keep : ℕ) → AreCut old new keep 16 → pages_in new ≡ filter (λ page. nat_lt page keep) (pages_in old)
unfolding pages_in
cut-pages old new keep h = kept-below (has_page old) (has_page new) keep 0 1024 (λ x high. bit x (omega (arith, high)))
  where
    low-one : (b : ℕ) → b < 2 → min b 1 ≡ b
    low-one b h = omega (arith, h)

    no-bit : (b : ℕ) → min b 0 ≡ 0
    no-bit b = omega arith

    is-lt : (a b : ℕ) → a < b → nat_lt a b ≡ true
    is-lt a b h = grind (arith, nat_tests)

    not-lt : (a b : ℕ) → b ≤ a → nat_lt a b ≡ false
    not-lt a b h = grind (arith, nat_tests)

    bit : (x : ℕ) → x < 1024 → has_page new x ≡ (nat_lt x keep && has_page old x)
    bit x high =
        by-bit new x ∙ ap (λ w. bit_at w (x % 64) == 1) (h.cut (x / 64) (omega (arith, high)))
        ∙ ap (λ b. b == 1) (bit_at_and (word_of old x) (low_mask keep (x / 64)) (x % 64)) ∙ elim (cases_lt x keep) [
          | inl below ↦ ap (λ b. min (bit_at (word_of old x) (x % 64)) b == 1) (bit_at_ones (min (keep - 64 * (x / 64)) 64) (x % 64) (omega (arith, below)))
              ∙ ap (λ b. b == 1) (low-one (bit_at (word_of old x) (x % 64)) (bit_at-lt (word_of old x) (x % 64))) ∙ sym (by-bit old x)
              ∙ ap (λ t. t && has_page old x) (sym (is-lt x keep below))
          | inr above ↦ ap (λ b. min (bit_at (word_of old x) (x % 64)) b == 1) (bit_at_ones_above (min (keep - 64 * (x / 64)) 64) (x % 64) (omega (arith, above)))
              ∙ ap (λ b. b == 1) (no-bit (bit_at (word_of old x) (x % 64)))
              ∙ ap (λ t. t && has_page old x) (sym (not-lt x keep above))
        ]

-- one bit less is set
clear-bit : (words : List ℕ) (place bit : ℕ) → place < length words → bit < 64 → (x : ℕ) → x ≢ 64 * place + bit →
    has_page (slice_set words place (bit_and (slice_index_or words place 0) (bit_not w64 (1 * 2 ^ bit % 2 ^ 64)))) x ≡ has_page words x
clear-bit words place bit within low x apart = elim (eqb_tells (x / 64) place) [
  | inl p ↦
      let here : slice_index_or (slice_set words place new) (x / 64) 0 ≡ new =
      ap (λ i. slice_index_or (slice_set words place new) i 0) p.1 ∙ get_or-set_same words place new 0 within in
      let high = p.1 in
      by-bit (slice_set words place new) x ∙ ap (λ w. bit_at w (x % 64) == 1) here
      ∙ ap (λ b. b == 1) (bit_at_clear_other w64 (slice_index_or words place 0) bit low (x % 64) (omega arith) (λ e. apart (omega (arith, high, e))))
      ∙ ap (λ i. bit_at (slice_index_or words i 0) (x % 64) == 1) (sym p.1) ∙ sym (by-bit words x)
  | inr p ↦ by-bit (slice_set words place new) x ∙ ap (λ w. bit_at w (x % 64) == 1) (get_or-set_other words place (x / 64) new 0 p.1) ∙ sym (by-bit words x)
]
  where
    new : ℕ
    new = bit_and (slice_index_or words place 0) (bit_not w64 (1 * 2 ^ bit % 2 ^ 64))

bit-gone : (words : List ℕ) (place bit : ℕ) → place < length words → bit < 64 →
    has_page (slice_set words place (bit_and (slice_index_or words place 0) (bit_not w64 (1 * 2 ^ bit % 2 ^ 64)))) (64 * place + bit) ≡ false
bit-gone words place bit within low =
    by-bit (slice_set words place new) (64 * place + bit)
    ∙ ap₂ (λ i k. bit_at (slice_index_or (slice_set words place new) i 0) k == 1) (let e : (64 * place + bit) / 64 ≡ place = omega (arith, low) in e) (let e : (64 * place + bit) % 64 ≡ bit = omega (arith, low) in e)
    ∙ ap (λ w. bit_at w bit == 1) (get_or-set_same words place new 0 within)
    ∙ ap (λ b. b == 1) (bit_at_clear_same w64 (slice_index_or words place 0) bit low)
  where
    new : ℕ
    new = bit_and (slice_index_or words place 0) (bit_not w64 (1 * 2 ^ bit % 2 ^ 64))

first-bit : (words : List ℕ) (place bit : ℕ) → bit < 64 → bit_at (slice_index_or words place 0) bit ≡ 1 → has_page words (64 * place + bit) ≡ true
first-bit words place bit low one =
    by-bit words (64 * place + bit)
    ∙ ap₂ (λ i k. bit_at (slice_index_or words i 0) k == 1) (let e : (64 * place + bit) / 64 ≡ place = omega (arith, low) in e) (let e : (64 * place + bit) % 64 ≡ bit = omega (arith, low) in e)
    ∙ ap (λ b. b == 1) one

none-before : (words : List ℕ) (place bit : ℕ) → bit < 64 → ((i : ℕ) → i < place → slice_index_or words i 0 ≡ 0) →
    ((i : ℕ) → i < bit → bit_at (slice_index_or words place 0) i ≡ 0) → (x : ℕ) → x < 64 * place + bit → has_page words x ≡ false
none-before words place bit low zeros lower x below = elim (cases_lt (x / 64) place) [
  | inl under ↦ by-bit words x ∙ ap (λ w. bit_at w (x % 64) == 1) (zeros (x / 64) under) ∙ ap (λ b. b == 1) (bit_at-zero (x % 64))
  | inr over ↦
      let high : x / 64 ≡ place = omega (arith, over, below, low) in
      by-bit words x ∙ ap (λ i. bit_at (slice_index_or words i 0) (x % 64) == 1) high ∙ ap (λ b. b == 1) (lower (x % 64) (omega (arith, high, below)))
]

-- The words before a place have no bit, and the one that was read there has one.
pub record IsFirstWord (words : List ℕ) (place read : ℕ) : Type 0 where
  pub count : length words ≡ 16
  pub within : place < 16
  pub zeros : (i : ℕ) → i < place → slice_index_or words i 0 ≡ 0
  pub some : 0 < slice_index_or words read 0
  pub small : slice_index_or words read 0 < 2 ^ 64

-- the set without its first page
pub first-page : (words : List ℕ) (place later : ℕ) → later ≡ place → IsFirstWord words place place →
    (let bit : ℕ = trailing_zeros w64 (slice_index_or words place 0) in
    pages_in words ≡ (64 * place + bit) ∷ pages_in (slice_set words later (bit_and (slice_index_or words later 0) (bit_not w64 (1 * 2 ^ bit % 2 ^ 64)))))
unfolding pages_in
first-page words place later same h =
    let bit : ℕ = trailing_zeros w64 (slice_index_or words place 0) in
    let least = bit_at-trailing_zeros w64 (slice_index_or words place 0) h.some h.small in
    let low : bit < 64 = least.0 in
    let inside : place < length words = (let within = h.within in let count = h.count in omega (arith, within, count)) in
    let new : ℕ → List ℕ = λ k. slice_set words k (bit_and (slice_index_or words k 0) (bit_not w64 (1 * 2 ^ bit % 2 ^ 64))) in
    kept-first (has_page words) (has_page (new place)) (64 * place + bit) 0 1024 (omega arith) (let within = h.within in omega (arith, within, low))
    (record {
      none = none-before words place bit low h.zeros least.2;
      here = first-bit words place bit low least.1;
      gone = bit-gone words place bit inside low;
      same = λ x high apart. clear-bit words place bit inside low x apart;
    })
    ∙ ap (λ k. (64 * place + bit) ∷ filter (has_page (new k)) (range_with_len 0 1024)) (sym same)

pub first-read : (words : List ℕ) (place read later : ℕ) → read ≡ place → later ≡ place → IsFirstWord words place read →
    (let bit : ℕ = trailing_zeros w64 (slice_index_or words read 0) in
    pages_in words ≡ (64 * place + bit) ∷ pages_in (slice_set words later (bit_and (slice_index_or words later 0) (bit_not w64 (1 * 2 ^ bit % 2 ^ 64)))))
first-read words place read later at same h =
    let word : slice_index_or words place 0 ≡ slice_index_or words read 0 = ap (λ i. slice_index_or words i 0) (sym at) in
    let P : ℕ → Type 0 = λ w. pages_in words ≡ (64 * place + trailing_zeros w64 w)
    ∷ pages_in (slice_set words later (bit_and (slice_index_or words later 0) (bit_not w64 (1 * 2 ^ trailing_zeros w64 w % 2 ^ 64)))) in
    subst P word (first-page words place later same (subst (IsFirstWord words place) at h))
