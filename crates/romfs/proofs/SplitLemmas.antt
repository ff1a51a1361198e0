-- Lemmas on bytes that are split at the first byte of a value.
use Rattle.std.proofs.Common.{All, get_or, ◌≡◌, ℕ, ◌+◌, ◌<◌, ◌==◌, Bool, true, false, not, ◌||◌, cond, nat_lt, Some, None, List, [], ◌∷◌, ◌++◌, length, refl, sym, ◌∙◌, arith, ltb-true, ltb-false}
use Rattle.std.specs.List.{list_any, position, position_or_len, before_first, after_first}
use Rattle.std.proofs.lemmas.List.{take_all}
use Rattle.std.proofs.lemmas.List.Sums.{split_at_first, fails_before_first, passes_at_first}
use Rattle.std.proofs.lemmas.Bool.{eqb-true}
use Rattle.std.proofs.lemmas.Grind.{common_steps}
use Rattle.std.proofs.lemmas.Option.{cond_some}
use Rattle.std.proofs.lemmas.Bool.Decides.{nat_tests}

-- an element passes where the first such place is in the list
list_any-place : {X : Type 0} (p : X → Bool) (xs : List X) → list_any p xs ≡ nat_lt (position_or_len p xs) (length xs)
list_any-place p [] = refl
list_any-place p (x ∷ xs) =
    elim (p x) as (λ b. (b || list_any p xs) ≡ nat_lt (cond (not b) (1 + position_or_len p xs) 0) (length (x ∷ xs))) [
      | true ↦ grind (arith, nat_tests)
      | false ↦ list_any-place p xs ∙ grind (arith, nat_tests)
    ]

-- the first place is found
pub found : {X : Type 0} (p : X → Bool) (xs : List X) (at : ℕ) → position p xs ≡ Some at → (position_or_len p xs ≡ at) × (list_any p xs ≡ true)
found p xs at is =
    let (within, place) = cond_some (nat_lt (position_or_len p xs) (length xs)) (position_or_len p xs) at is in
    (place, list_any-place p xs ∙ within)

-- an option under a test is None only where the test fails
pub cond_none : {A : Type 0} (b : Bool) (x : A) → cond b (Some x) None ≡ None → b ≡ false
cond_none true x is = absurd (cc)
cond_none false x is = refl

-- there is no such place
pub missing : {X : Type 0} (p : X → Bool) (xs : List X) → position p xs ≡ None → (before_first p xs ≡ xs) × (list_any p xs ≡ false)
missing p xs is =
    let past = cond_none (nat_lt (position_or_len p xs) (length xs)) (position_or_len p xs) is in
    (take_all (position_or_len p xs) xs (ltb-false _ _ past), list_any-place p xs ∙ past)

-- the test for one byte
abbrev pub is_value : ℕ → ℕ → Bool
is_value value = λ byte. byte == value

-- the bytes up to the first byte of the value, that byte, and those behind it
pub record Cut (value : ℕ) (bytes : List ℕ) : Type 0 where
  pub joined : bytes ≡ before_first (is_value value) bytes ++ value ∷ after_first (is_value value) bytes
  pub without : All (λ byte. (byte == value) ≡ false) (before_first (is_value value) bytes)

pub cut : (value : ℕ) (bytes : List ℕ) → list_any (is_value value) bytes ≡ true → Cut value bytes
cut value bytes any =
    let p = is_value value in
    let within : position_or_len p bytes < length bytes = ltb-true _ _ (sym (list_any-place p bytes) ∙ any) in
    let value_there : get_or bytes (position_or_len p bytes) 0 ≡ value = eqb-true _ value (passes_at_first p bytes 0 within) in
    let joined = split_at_first p bytes 0 within in
    record {
      joined = rw value_there at joined;
      without = λ k d fits. let fails = fails_before_first p bytes k d (grind (arith, common_steps)) in grind (arith, common_steps);
    }

-- no byte of the value is there
pub without_value : (value : ℕ) (bytes : List ℕ) → list_any (is_value value) bytes ≡ false → All (λ byte. (byte == value) ≡ false) bytes
without_value value bytes none = λ k d fits.
    fails_before_first (is_value value) bytes k d (omega (arith, ltb-false _ _ (sym (list_any-place (is_value value) bytes) ∙ none)))

-- without such a byte all bytes stand before the first
pub before_first-whole : (value : ℕ) (bytes : List ℕ) → list_any (is_value value) bytes ≡ false → before_first (is_value value) bytes ≡ bytes
before_first-whole value bytes none = take_all _ bytes (ltb-false _ _ (sym (list_any-place (is_value value) bytes) ∙ none))
