-- Lemmas on numbers in decimal.
use Rattle.std.proofs.Common.{◌≡◌, ℕ, suc, zero, ◌<◌, ◌≤◌, ◌^◌, ◌&&◌, Bool, true, false, cond, not, nat_lt, nat_le, Some, None, Result, Ok, Err, List, [], ◌∷◌, length, refl, subst, arith, rules}
use Rattle.std.specs.List.{list_all, position, position_or_len}
use Rattle.std.specs.Option.{unwrap_or}
use Rattle.std.specs.Result.{MatchResult, OkIff, result_ok}
use Rattle.std.specs.Str.{IsUtf8, IsAscii}
use Rattle.std.specs.Str.Parse.{ParsesUnsigned, digits_value}
use Rattle.std.proofs.lemmas.Bool.{and_parts}
use Rattle.std.proofs.lemmas.Bool.Decides.{nat_tests}
use Rattle.std.proofs.lemmas.Str.{IsUtf8-from_ascii}
use Rattle.std.proofs.lemmas.Str.Parse.{IsNumeralModel, numerals_by_value, parse_digits}
use Rattle.std.proofs.lemmas.List.Sums.{prefix_len-le-length}
use Rattle.vfs_model.specs.Numeral.{is_digit, is_numeral, number_within}
use Rattle.vfs_model.specs.Schedule.{most_moved}

own : IsNumeralModel (λ ds. list_all is_digit ds ≡ true) (digits_value 10)
own = numerals_by_value (λ ds. list_all is_digit ds ≡ true) (search rules)

-- a numeral is of digits, one at least
pub numeral_parts : (text : List ℕ) → is_numeral text ≡ true → (0 < length text) × (list_all is_digit text ≡ true)
numeral_parts [] h = absurd (cc)
numeral_parts (byte ∷ text) h =
    let parts = and_parts (nat_lt 0 (length (byte ∷ text)) && list_all is_digit (byte ∷ text)) _ h in
    (omega arith, (and_parts (nat_lt 0 (length (byte ∷ text))) (list_all is_digit (byte ∷ text)) parts.0).1)

ascii : (text : List ℕ) → list_all is_digit text ≡ true → IsAscii text
ascii [] h i = omega arith
ascii (byte ∷ text) h zero =
    let digit = (and_parts (is_digit byte) (list_all is_digit text) h).0 in
    grind (arith, nat_tests)
ascii (byte ∷ text) h (suc i) = ascii text (and_parts (is_digit byte) (list_all is_digit text) h).1 i

-- digits are text
pub numeral_utf8 : (text : List ℕ) → is_numeral text ≡ true → IsUtf8 text
numeral_utf8 text h = IsUtf8-from_ascii text (ascii text (numeral_parts text h).1)

-- what is parsed is the number
from_parsed : {E : Type 0} (text : List ℕ) (r : Result ℕ E) → is_numeral text ≡ true → 0 < length text
    → OkIff r ((0 < length text) × (digits_value 10 text < 2 ^ 64)) (digits_value 10 text) → result_ok r ≡ number_within 0 most_moved text
from_parsed text (Ok n) h some is =
    let low : nat_le 0 (digits_value 10 text) ≡ true = grind (arith, nat_tests) in
    let high : nat_le (digits_value 10 text) most_moved ≡ true = grind (arith, nat_tests, is.0.1) in
    rw (h, low, high, is.1) refl
from_parsed text (Err e) h some is =
    let low : nat_le 0 (digits_value 10 text) ≡ true = grind (arith, nat_tests) in
    let high : nat_le (digits_value 10 text) most_moved ≡ false = by_size (nat_le (digits_value 10 text) most_moved) refl in
    rw (h, low, high) refl
  where
    by_size : (b : Bool) → nat_le (digits_value 10 text) most_moved ≡ b → nat_le (digits_value 10 text) most_moved ≡ false
    by_size true e = absurd (is (some, grind (arith, nat_tests)))
    by_size false e = e

pub number_parsed : {E : Type 0} (text : List ℕ) (r : Result ℕ E) → is_numeral text ≡ true → ParsesUnsigned 64 10 text r → result_ok r ≡ number_within 0 most_moved text
number_parsed text r h is = let parts = numeral_parts text h in from_parsed text r h parts.0 (parse_digits own 64 text r is parts.1)

-- what is no numeral is no number
pub number_none : (least most : ℕ) (text : List ℕ) → is_numeral text ≡ false → number_within least most text ≡ None
number_none least most text h = rw h refl

-- the first place that passes, or the end
pub place_or_end : (p : ℕ → Bool) (xs : List ℕ) → unwrap_or (position p xs) (length xs) ≡ position_or_len p xs
place_or_end p xs =
    let most = prefix_len-le-length (λ x. not (p x)) xs in
    by_place (nat_lt (position_or_len p xs) (length xs)) refl most
  where
    by_place : (b : Bool) → nat_lt (position_or_len p xs) (length xs) ≡ b → position_or_len p xs ≤ length xs
        → unwrap_or (cond b (Some (position_or_len p xs)) None) (length xs) ≡ position_or_len p xs
    by_place true e most = refl
    by_place false e most = grind (arith, nat_tests)

pub place_within : (p : ℕ → Bool) (xs : List ℕ) → position_or_len p xs ≤ length xs
place_within p xs = prefix_len-le-length (λ x. not (p x)) xs

-- a result is no error where the errors are ruled out
pub no_error : {A E : Type 0} (U : Type 0) (P : A → Type 0) (Q : E → Type 0) (r : Result A E) → U → MatchResult r P (λ e. ¬ U × Q e) → result_ok r ≡ None → ⊥
no_error U P Q (Ok x) u h e = cc
no_error U P Q (Err x) u h e = h.0 u

-- what holds of a result's value
pub value_there : {A E : Type 0} (P : A → Type 0) (Q : E → Type 0) (r : Result A E) (x : A) → MatchResult r P Q → result_ok r ≡ Some x → P x
value_there P Q (Ok y) x h e = let same : y ≡ x = cc in subst P same h
value_there P Q (Err y) x h e = absurd (cc)
