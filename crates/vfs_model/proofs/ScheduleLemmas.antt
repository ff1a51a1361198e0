-- A printed schedule is read.
use Rattle.std.proofs.Common.{◌≡◌, ℕ, ◌<◌, ◌≤◌, ◌^◌, Bool, true, false, not, ◌&&◌, ◌||◌, ◌==◌, nat_lt, Some, List, [], ◌∷◌, ◌++◌, length, get_or, refl, arith}
use Rattle.std.specs.Fmt.{decimal}
use Rattle.std.specs.List.{list_all, list_any, position_or_len, slice_split}
use Rattle.std.specs.Str.Parse.{AllDigits, digits_value}
use Rattle.std.specs.Char.{digit_value}
use Rattle.std.proofs.lemmas.Bool.Decides.{nat_tests}
use Rattle.std.proofs.lemmas.Fmt.{decimal_digit, decimal_nonempty, first_decimal, decimal_is_IsNumeral}
use Rattle.std.proofs.lemmas.Str.Parse.{digit_from_value}
use Rattle.vfs_model.specs.Numeral.{is_digit, is_numeral, is_within, number_within}

either-false : (x y : Bool) → (x || y) ≡ false → (x ≡ false) × (y ≡ false)
either-false true y h = absurd (cc)
either-false false y h = (refl, h)

both-true : (x y : Bool) → (x && y) ≡ true → (x ≡ true) × (y ≡ true)
both-true true y h = (refl, h)
both-true false y h = absurd (cc)

-- none of these bytes passes the test
abbrev pub HasNone : (ℕ → Bool) → List ℕ → Type 0
HasNone p bytes = list_any p bytes ≡ false

pub none-append : (p : ℕ → Bool) (a b : List ℕ) → HasNone p a → HasNone p b → HasNone p (a ++ b)
none-append p [] b h k = k
none-append p (x ∷ a) b h k = let parts = either-false (p x) (list_any p a) h in rw parts.0 (none-append p a b parts.1 k)

-- digits are no other bytes
pub digits-none : (p : ℕ → Bool) (bytes : List ℕ) → ((byte : ℕ) → is_digit byte ≡ true → p byte ≡ false) → list_all is_digit bytes ≡ true → HasNone p bytes
digits-none p [] h k = refl
digits-none p (byte ∷ bytes) h k = let parts = both-true (is_digit byte) (list_all is_digit bytes) k in rw (h byte parts.0) (digits-none p bytes h parts.1)

digit-test : (byte : ℕ) → digit_value byte < 10 → is_digit byte ≡ true
digit-test byte h = let range = digit_from_value byte h in grind (arith, nat_tests)

all-digits : (bytes : List ℕ) → AllDigits 10 bytes → list_all is_digit bytes ≡ true
all-digits [] h = refl
all-digits (byte ∷ bytes) h = rw (digit-test byte h.0) (all-digits bytes h.1)

pub decimal-digits : (n : ℕ) → n < 2 ^ 64 → list_all is_digit (decimal n) ≡ true
decimal-digits n h = all-digits (decimal n) (decimal_is_IsNumeral n h).0.1

-- a number is printed as it is read
decimal-numeral : (n : ℕ) → n < 2 ^ 64 → is_numeral (decimal n) ≡ true
decimal-numeral n h =
    let some : nat_lt 0 (length (decimal n)) ≡ true = let e = decimal_nonempty n h in grind (arith, nat_tests) in
    rw (some, decimal-digits n h) (elim (nat_lt n 10) as (λ b. nat_lt n 10 ≡ b → (length (decimal n) == 1 || not (get_or (decimal n) 0 0 == 48)) ≡ true) [
      | true ↦ λ e. let small : n < 10 = grind (arith, nat_tests) in rw (decimal_digit n small) refl
      | false ↦ λ e. let first : 48 < get_or (decimal n) 0 0 = first_decimal n (grind (arith, nat_tests)) h in
          let other : (get_or (decimal n) 0 0 == 48) ≡ false = grind (arith, nat_tests) in
          rw other (or-true (length (decimal n) == 1))
    ] refl)
  where
    or-true : (a : Bool) → (a || true) ≡ true
    or-true true = refl
    or-true false = refl

pub decimal-within : (least most n : ℕ) → n < 2 ^ 64 → least ≤ n → n ≤ most → number_within least most (decimal n) ≡ Some n
decimal-within least most n h low high =
    let value : digits_value 10 (decimal n) ≡ n = (decimal_is_IsNumeral n h).1 in
    let within : is_within least most n ≡ true = grind (arith, nat_tests) in
    rw (decimal-numeral n h, value, within) refl

-- the parts of a text: what has no separator is one part
pub split-one : (p : ℕ → Bool) (bytes : List ℕ) → HasNone p bytes → slice_split p bytes ≡ bytes ∷ []
split-one p [] h = refl
split-one p (byte ∷ bytes) h = let parts = either-false (p byte) (list_any p bytes) h in rw (parts.0, split-one p bytes parts.1) refl

pub split-at : (p : ℕ → Bool) (bytes : List ℕ) (byte : ℕ) (rest : List ℕ) → HasNone p bytes → p byte ≡ true →
    slice_split p (bytes ++ byte ∷ rest) ≡ bytes ∷ slice_split p rest
split-at p [] byte rest h e = rw e refl
split-at p (first ∷ bytes) byte rest h e = let parts = either-false (p first) (list_any p bytes) h in rw (parts.0, split-at p bytes byte rest parts.1 e) refl

-- where the first byte that passes stands
pub place-at : (p : ℕ → Bool) (bytes : List ℕ) (byte : ℕ) (rest : List ℕ) → HasNone p bytes → p byte ≡ true →
    position_or_len p (bytes ++ byte ∷ rest) ≡ length bytes
place-at p [] byte rest h e = rw e refl
place-at p (first ∷ bytes) byte rest h e = let parts = either-false (p first) (list_any p bytes) h in rw (parts.0, place-at p bytes byte rest parts.1 e) (omega arith)

pub place-none : (p : ℕ → Bool) (bytes : List ℕ) → HasNone p bytes → position_or_len p bytes ≡ length bytes
place-none p [] h = refl
place-none p (first ∷ bytes) h = let parts = either-false (p first) (list_any p bytes) h in rw (parts.0, place-none p bytes parts.1) (omega arith)
