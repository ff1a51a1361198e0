-- Lemmas on the lines of a text.
use Rattle.std.proofs.Common.{◌≡◌, ℕ, ◌-◌, ◌<◌, ◌==◌, false, Some, None, if◌then◌else◌, List, [], ◌∷◌, ◌++◌, length, All, refl, sym, ap, ◌∙◌, arith, length-append}
use Rattle.std.specs.List.{list_any, before_first, after_first}
use Rattle.std.proofs.Math.Seq.{get_or-append_seam, take-append_seam}
use Rattle.std.proofs.lemmas.List.Elements.{All-head, All-tail}
use Rattle.std.proofs.lemmas.Option.{cond_some}
use Rattle.romfs.proofs.SplitLemmas.{is_value, cut, without_value, before_first-whole, cond_none}
use Rattle.vfs_model.specs.Script.{raw_lines, last_byte, but_last, line_text, without_return, input_lines}

-- no line feed is among the bytes
abbrev pub Unfed : List ℕ → Type 0
Unfed bytes = All (λ byte. (byte == 10) ≡ false) bytes

raw_lines-feed : (held rest : List ℕ) → Unfed held → raw_lines (held ++ 10 ∷ rest) ≡ (held ++ 10 ∷ []) ∷ raw_lines rest
raw_lines-feed [] rest h = refl
raw_lines-feed (byte ∷ held) rest h =
    rw (All-head (λ b. (b == 10) ≡ false) byte held h, raw_lines-feed held rest (All-tail (λ b. (b == 10) ≡ false) byte held h)) refl

raw_lines-unended : (byte : ℕ) (held : List ℕ) → Unfed (byte ∷ held) → raw_lines (byte ∷ held) ≡ (byte ∷ held) ∷ []
raw_lines-unended byte [] h = rw (All-head (λ b. (b == 10) ≡ false) byte [] h) refl
raw_lines-unended byte (next ∷ held) h =
    rw (All-head (λ b. (b == 10) ≡ false) byte (next ∷ held) h, raw_lines-unended next held (All-tail (λ b. (b == 10) ≡ false) byte (next ∷ held) h)) refl

last_byte-append : (held : List ℕ) (byte : ℕ) → last_byte (held ++ byte ∷ []) ≡ byte
last_byte-append held byte =
    let place : length (held ++ byte ∷ []) - 1 ≡ length held = omega (arith, length-append held (byte ∷ [])) in
    rw place (get_or-append_seam held byte [] 0)

but_last-append : (held : List ℕ) (byte : ℕ) → but_last (held ++ byte ∷ []) ≡ held
but_last-append held byte =
    let place : length (held ++ byte ∷ []) - 1 ≡ length held = omega (arith, length-append held (byte ∷ [])) in
    rw place (take-append_seam held (byte ∷ []))

line_text-feed : (held : List ℕ) → line_text (held ++ 10 ∷ []) ≡ without_return held
line_text-feed held = rw (last_byte-append held 10, but_last-append held 10) refl

-- the first line ends at the first line feed
pub input_lines-feed : (held rest : List ℕ) → Unfed held → input_lines (held ++ 10 ∷ rest) ≡ without_return held ∷ input_lines rest
input_lines-feed held rest h = rw (raw_lines-feed held rest h, line_text-feed held) refl

-- bytes without a line feed are one line
pub input_lines-unended : (held : List ℕ) → Unfed held → 0 < length held → input_lines held ≡ held ∷ []
input_lines-unended [] h some = absurd (omega arith)
input_lines-unended (byte ∷ held) h some =
    let last : (last_byte (byte ∷ held) == 10) ≡ false = h (length (byte ∷ held) - 1) 0 (omega arith) in
    rw (raw_lines-unended byte held h, last) refl

-- the first line of bytes that are split at the first line feed
pub input_lines-split : (bytes rest : List ℕ) → Some rest ≡ (if list_any (is_value 10) bytes then Some (after_first (is_value 10) bytes) else None)
    → input_lines bytes ≡ without_return (before_first (is_value 10) bytes) ∷ input_lines rest
input_lines-split bytes rest is =
    let (any, after) = cond_some (list_any (is_value 10) bytes) (after_first (is_value 10) bytes) rest (sym is) in
    let parts = cut 10 bytes any in
    ap input_lines parts.joined ∙ input_lines-feed (before_first (is_value 10) bytes) (after_first (is_value 10) bytes) parts.without
    ∙ ap (λ r. without_return (before_first (is_value 10) bytes) ∷ input_lines r) after

-- the only line of bytes that have no line feed
pub input_lines-whole : (bytes : List ℕ) → None ≡ (if list_any (is_value 10) bytes then Some (after_first (is_value 10) bytes) else None)
    → 0 < length bytes → input_lines bytes ≡ before_first (is_value 10) bytes ∷ []
input_lines-whole bytes is some =
    let none = cond_none (list_any (is_value 10) bytes) (after_first (is_value 10) bytes) (sym is) in
    input_lines-unended bytes (without_value 10 bytes none) some ∙ ap (λ line. line ∷ []) (sym (before_first-whole 10 bytes none))
