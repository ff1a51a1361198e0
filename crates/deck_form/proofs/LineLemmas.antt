-- Lemmas on the lines of a script.
use Rattle.std.proofs.Common.{◌≡◌, ℕ, zero, suc, ◌+◌, ◌<◌, ◌==◌, true, false, Option, Some, None, List, [], ◌∷◌, length, take, drop, get_or, refl, arith, add-one}
use Rattle.std.proofs.lemmas.Bool.{false_from_ne_true}
use Rattle.memchr.specs.Find.{IsFirstByte, is_byte}
use Rattle.vfs_model.specs.Script.{raw_lines}

-- the first line of bytes ends at that place
abbrev Splits : List ℕ → ℕ → Type 0
Splits bytes at = raw_lines bytes ≡ take at bytes ∷ raw_lines (drop at bytes)

further : (byte at : ℕ) (bytes : List ℕ) → (byte == 10) ≡ false → Splits bytes at → Splits (byte ∷ bytes) (suc at)
further byte at bytes other is = rw (other, is) refl

-- the first line ends behind the first line feed
pub line_at_feed : (bytes : List ℕ) (at : ℕ) → at < length bytes → ((k : ℕ) → k < at → (get_or bytes k 0 == 10) ≡ false) → (get_or bytes at 0 == 10) ≡ true → Splits bytes (suc at)
line_at_feed [] at within before feed = absurd (omega arith)
line_at_feed (byte ∷ bytes) zero within before feed = rw feed refl
line_at_feed (byte ∷ bytes) (suc at) within before feed =
    further byte (suc at) bytes (before 0 (omega arith)) (line_at_feed bytes at (omega arith) (λ k h. before (suc k) (omega (arith, h))) feed)

-- bytes without a line feed are one line
pub line_to_end : (bytes : List ℕ) → 0 < length bytes → ((k : ℕ) → k < length bytes → (get_or bytes k 0 == 10) ≡ false) → Splits bytes (length bytes)
line_to_end [] some none = absurd (omega arith)
line_to_end (byte ∷ []) some none = rw (none 0 (omega arith)) refl
line_to_end (byte ∷ next ∷ bytes) some none =
    further byte (length (next ∷ bytes)) (next ∷ bytes) (none 0 (omega arith)) (line_to_end (next ∷ bytes) (omega arith) (λ k h. none (suc k) (omega (arith, h))))

-- what a search for the first line feed finds
pub line_found : (bytes : List ℕ) (r : Option ℕ) (at : ℕ) → r ≡ Some at → IsFirstByte (is_byte 10) bytes r → Splits bytes (at + 1)
line_found bytes r at e is =
    let found = rw e at is in
    let split = line_at_feed bytes at found.0.high (λ k below. false_from_ne_true (get_or bytes k 0 == 10) (found.0.before k (omega arith) below)) found.1 in
    rw add-one split

pub line_alone : (bytes : List ℕ) (r : Option ℕ) → r ≡ None → IsFirstByte (is_byte 10) bytes r → 0 < length bytes → Splits bytes (length bytes)
line_alone bytes r e is some =
    let none = rw e at is in
    line_to_end bytes some (λ k below. false_from_ne_true (get_or bytes k 0 == 10) (none k (omega arith) below))
