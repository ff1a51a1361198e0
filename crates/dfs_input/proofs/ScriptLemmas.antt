-- Lemmas on the lines of an input.
use Rattle.std.proofs.Common.{◌≡◌, ◌≢◌, ℕ, suc, ◌+◌, ◌-◌, ◌<◌, ◌≤◌, ◌==◌, nat_lt, true, false, Some, List, [], ◌∷◌, ◌++◌, length, map, filter, All, refl, sym, ap, ◌∙◌, arith, append-nil, append_assoc, length-append, length-take, ne_eqb, lt-ltb, le-ltb, ltb-true, ◌⊎◌, inl, inr, ⊎_elim}
use Rattle.std.specs.List.{concat}
use Rattle.std.proofs.lemmas.Bool.{both_ways, or_cases, or_left, or_right, cases_Bool, cond_both, cond-true}
use Rattle.std.proofs.lemmas.List.Elements.{All-head, All-tail}
use Rattle.std.proofs.Math.Seq.{get_or-append_seam, take-append_seam}
use Rattle.vfs_model.specs.Script.{raw_lines, onto_first, last_byte, but_last, without_return, is_ended, line_text, whole_lines, is_bad_line, first_bad_from}
use Rattle.dfs_input.specs.LineReader.{HasNoFeed, BeginsBad, is_past_form}

cases_lines : (lines : List (List ℕ)) → (lines ≡ []) ⊎ ((line : List ℕ) × (rest : List (List ℕ)) × (lines ≡ line ∷ rest))
cases_lines [] = inl refl
cases_lines (line ∷ rest) = inr (line, rest, refl)

-- bytes without a line feed go before the first line
pub raw_lines-onto : (held more line : List ℕ) (lines : List (List ℕ)) → HasNoFeed held → raw_lines more ≡ line ∷ lines → raw_lines (held ++ more) ≡ (held ++ line) ∷ lines
raw_lines-onto [] more line lines none is = is
raw_lines-onto (byte ∷ held) more line lines none is =
    let other : byte == 10 ≡ false = ne_eqb byte 10 (All-head (λ b. b ≢ 10) byte held none) in
    let later = raw_lines-onto held more line lines (All-tail (λ b. b ≢ 10) byte held none) is in
    rw (other, later) refl

-- a line feed ends the first line
pub raw_lines-feed : (held rest : List ℕ) → HasNoFeed held → raw_lines (held ++ 10 ∷ rest) ≡ (held ++ 10 ∷ []) ∷ raw_lines rest
raw_lines-feed held rest none = raw_lines-onto held (10 ∷ rest) (10 ∷ []) (raw_lines rest) none refl

-- bytes without a line feed are one line
pub raw_lines-unended : (held : List ℕ) → HasNoFeed held → 0 < length held → raw_lines held ≡ held ∷ []
raw_lines-unended [] none some = absurd (omega arith)
raw_lines-unended (byte ∷ []) none some =
    let other : byte == 10 ≡ false = ne_eqb byte 10 (All-head (λ b. b ≢ 10) byte [] none) in
    rw other refl
raw_lines-unended (byte ∷ next ∷ held) none some =
    let other : byte == 10 ≡ false = ne_eqb byte 10 (All-head (λ b. b ≢ 10) byte (next ∷ held) none) in
    let later = raw_lines-unended (next ∷ held) (All-tail (λ b. b ≢ 10) byte (next ∷ held) none) (omega arith) in
    rw (other, later) refl

pub is_ended-unended : (held : List ℕ) → HasNoFeed held → is_ended held ≡ false
is_ended-unended [] none = refl
is_ended-unended (byte ∷ held) none = ne_eqb _ 10 (none (length (byte ∷ held) - 1) 0 (omega arith))

pub line_text-unended : (held : List ℕ) → HasNoFeed held → line_text held ≡ held
line_text-unended held none = rw (is_ended-unended held none) refl

pub last_byte-append : (held : List ℕ) (byte : ℕ) → last_byte (held ++ byte ∷ []) ≡ byte
last_byte-append held byte =
    let place : length (held ++ byte ∷ []) - 1 ≡ length held = omega (arith, length-append held (byte ∷ [])) in
    rw place (get_or-append_seam held byte [] 0)

pub but_last-append : (held : List ℕ) (byte : ℕ) → but_last (held ++ byte ∷ []) ≡ held
but_last-append held byte =
    let place : length (held ++ byte ∷ []) - 1 ≡ length held = omega (arith, length-append held (byte ∷ [])) in
    rw place (take-append_seam held (byte ∷ []))

pub is_ended-feed : (held : List ℕ) → is_ended (held ++ 10 ∷ []) ≡ true
is_ended-feed held = rw (last_byte-append held 10) refl

pub line_text-feed : (held : List ℕ) → line_text (held ++ 10 ∷ []) ≡ without_return held
line_text-feed held = rw (is_ended-feed held, but_last-append held 10) refl

-- what has no line feed has no whole line
pub whole_lines-unended : (held : List ℕ) → HasNoFeed held → whole_lines held ≡ []
whole_lines-unended [] none = refl
whole_lines-unended (byte ∷ held) none = rw (raw_lines-unended (byte ∷ held) none (omega arith), is_ended-unended (byte ∷ held) none) refl

-- the first bad line is the same one after a line in the form
pub first_bad_from-next : (number size : ℕ) (bytes raw rest : List ℕ) → raw_lines bytes ≡ raw ∷ raw_lines rest → is_bad_line size raw ≡ false
    → first_bad_from number size (raw_lines bytes) ≡ first_bad_from (number + 1) (size + length raw) (raw_lines rest)
first_bad_from-next number size bytes raw rest is good = rw (is, good) refl

-- where the first line is bad, its number is the first
pub first_bad_from-first : (number size : ℕ) (bytes : List ℕ) → BeginsBad size bytes → first_bad_from number size (raw_lines bytes) ≡ Some number
first_bad_from-first number size bytes begins = rw (begins.lines, begins.bad) refl

-- a carriage return is one byte
pub without_return-length : (bytes : List ℕ) → (length (without_return bytes) ≤ length bytes) × (length bytes ≤ length (without_return bytes) + 1)
without_return-length bytes =
    cond_both (last_byte bytes == 13) (but_last bytes) bytes (λ text. (length text ≤ length bytes) × (length bytes ≤ length text + 1))
    (λ _. (omega (arith, length-take (length bytes - 1) bytes), omega (arith, length-take (length bytes - 1) bytes)))
    (λ _. (omega arith, omega arith))

-- the text of a line lacks two bytes at most
pub line_text-length : (raw : List ℕ) → length raw ≤ length (line_text raw) + 2
line_text-length raw =
    cond_both (is_ended raw) (without_return (but_last raw)) raw (λ text. length raw ≤ length text + 2)
    (λ _. omega (arith, (without_return-length (but_last raw)).1, length-take (length raw - 1) raw))
    (λ _. omega arith)

-- a line is as long as its first bytes without a carriage return at their end
pub line_text-grows : (held more : List ℕ) → HasNoFeed held → length (without_return held) ≤ length (line_text (held ++ more))
line_text-grows held [] none = rw (append-nil, line_text-unended held none) (without_return-length held).0
line_text-grows held (byte ∷ []) none =
    cond_both (is_ended (held ++ byte ∷ [])) (without_return (but_last (held ++ byte ∷ []))) (held ++ byte ∷ []) (λ text. length (without_return held) ≤ length text)
    (λ _. rw (but_last-append held byte) (omega arith))
    (λ _. omega (arith, (without_return-length held).0, length-append held (byte ∷ [])))
line_text-grows held (byte ∷ next ∷ more) none =
    omega (arith, (without_return-length held).0, line_text-length (held ++ byte ∷ next ∷ more), length-append held (byte ∷ next ∷ more))

pub is_bad_line-past : (size : ℕ) (held more : List ℕ) → HasNoFeed held → is_past_form size held ≡ true → is_bad_line size (held ++ more) ≡ true
is_bad_line-past size held more none past =
    let raw = held ++ more in
    let text = length (line_text raw) in
    let start = length (without_return held) in
    ⊎_elim
    (λ long. or_left (nat_lt 1024 text) (nat_lt 16777216 (size + length raw)) (lt-ltb 1024 text (omega (arith, ltb-true 1024 start long, line_text-grows held more none))))
    (λ far. or_right (nat_lt 1024 text) (nat_lt 16777216 (size + length raw)) (lt-ltb 16777216 (size + length raw) (omega (arith, ltb-true 16777216 (size + length held) far, length-append held more))))
    (or_cases (nat_lt 1024 start) (nat_lt 16777216 (size + length held)) past)

-- the first line of bytes that begin without a line feed
record FirstLine (held more : List ℕ) : Type 0 where
  line : List ℕ
  lines : List (List ℕ)
  is : raw_lines (held ++ more) ≡ (held ++ line) ∷ lines

first_line : (byte : ℕ) (held more : List ℕ) → HasNoFeed (byte ∷ held) → FirstLine (byte ∷ held) more
first_line byte [] more none =
    let other : byte == 10 ≡ false = ne_eqb byte 10 (All-head (λ b. b ≢ 10) byte [] none) in
    elim (cases_lines (raw_lines more)) [
      | inl empty ↦ record { line = []; lines = []; is = rw (other, empty) refl }
      | inr (line, lines, is) ↦ record { line = line; lines = lines; is = rw (other, is) refl }
    ]
first_line byte (next ∷ held) more none =
    let other : byte == 10 ≡ false = ne_eqb byte 10 (All-head (λ b. b ≢ 10) byte (next ∷ held) none) in
    let later = first_line next held more (All-tail (λ b. b ≢ 10) byte (next ∷ held) none) in
    record { line = later.line; lines = later.lines; is = rw (other, later.is) refl }

-- bytes past the form begin a bad line, whatever follows
pub BeginsBad-past : (size : ℕ) (held more : List ℕ) → HasNoFeed held → size ≤ 16777216 → is_past_form size held ≡ true → BeginsBad size (held ++ more)
BeginsBad-past size [] more none within past = absurd (both_ways _ (le-ltb 16777216 (size + 0) (omega arith)) past)
BeginsBad-past size (byte ∷ held) more none within past =
    let first = first_line byte held more none in
    record { raw = (byte ∷ held) ++ first.line; raws = first.lines; lines = first.is; bad = is_bad_line-past size (byte ∷ held) first.line none past }

-- a bad line that a line feed ends
pub BeginsBad-feed : (size : ℕ) (held rest : List ℕ) → HasNoFeed held → is_bad_line size (held ++ 10 ∷ []) ≡ true → BeginsBad size (held ++ 10 ∷ rest)
BeginsBad-feed size held rest none bad = record { raw = held ++ 10 ∷ []; raws = raw_lines rest; lines = raw_lines-feed held rest none; bad = bad }

-- a bad line that the end of the input ends
pub BeginsBad-unended : (size : ℕ) (held : List ℕ) → HasNoFeed held → 0 < length held → is_bad_line size held ≡ true → BeginsBad size held
BeginsBad-unended size held none some bad = record { raw = held; raws = []; lines = raw_lines-unended held none some; bad = bad }

last_byte-cons : (byte next : ℕ) (bytes : List ℕ) → last_byte (byte ∷ next ∷ bytes) ≡ last_byte (next ∷ bytes)
last_byte-cons byte next bytes =
    let place : length (byte ∷ next ∷ bytes) - 1 ≡ suc (length bytes) = omega arith in
    let place' : length (next ∷ bytes) - 1 ≡ length bytes = omega arith in
    rw (place, place') refl

-- one line that a line feed ends stays the first line, whatever follows
pub raw_lines-single : (raw more : List ℕ) → raw_lines raw ≡ raw ∷ [] → is_ended raw ≡ true → raw_lines (raw ++ more) ≡ raw ∷ raw_lines more
raw_lines-single [] more single ended = cc
raw_lines-single (byte ∷ []) more single ended = rw ended refl
raw_lines-single (byte ∷ next ∷ raw) more single ended =
    elim (cases_Bool (byte == 10)) [
      | inl feed ↦ let short : (byte ∷ []) ∷ raw_lines (next ∷ raw) ≡ (byte ∷ next ∷ raw) ∷ [] = rw feed at single in cc
      | inr other ↦
          let onto : onto_first byte (raw_lines (next ∷ raw)) ≡ (byte ∷ next ∷ raw) ∷ [] = rw other at single in
          elim (cases_lines (raw_lines (next ∷ raw))) [
            | inl empty ↦ let short : (byte ∷ []) ∷ [] ≡ (byte ∷ next ∷ raw) ∷ [] = rw empty at onto in cc
            | inr (line, rest, is) ↦
                let whole : (byte ∷ line) ∷ rest ≡ (byte ∷ next ∷ raw) ∷ [] = rw is at onto in
                let later : raw_lines (next ∷ raw) ≡ (next ∷ raw) ∷ [] = cc in
                rw (other, raw_lines-single (next ∷ raw) more later (rw last_byte-cons at ended)) refl
          ]
    ]

-- it is the first of the lines that a line feed ends
pub ended_lines-front : (raw more : List ℕ) → raw_lines raw ≡ raw ∷ [] → is_ended raw ≡ true
    → filter is_ended (raw_lines (raw ++ more)) ≡ raw ∷ filter is_ended (raw_lines more)
ended_lines-front raw more single ended =
    let later = filter is_ended (raw_lines more) in
    ap (filter is_ended) (raw_lines-single raw more single ended) ∙ cond-true (is_ended raw) (raw ∷ later) later ended

-- its text is the first of the whole lines
pub whole_lines-front : (raw more : List ℕ) → raw_lines raw ≡ raw ∷ [] → is_ended raw ≡ true → whole_lines (raw ++ more) ≡ line_text raw ∷ whole_lines more
whole_lines-front raw more single ended = ap (map line_text) (ended_lines-front raw more single ended)

-- where no line is whole, a line feed ends none
pub ended_lines-none : (partial : List ℕ) → whole_lines partial ≡ [] → filter is_ended (raw_lines partial) ≡ []
ended_lines-none partial none =
    elim (cases_lines (filter is_ended (raw_lines partial))) [
      | inl empty ↦ empty
      | inr (line, rest, is) ↦ let some : line_text line ∷ map line_text rest ≡ [] = sym (ap (map line_text) is) ∙ none in cc
    ]

-- one line, which a line feed ends
pub record IsWholeLine (raw : List ℕ) : Type 0 where
  pub single : raw_lines raw ≡ raw ∷ []
  pub ended : is_ended raw ≡ true

-- the whole lines of lines that are joined, whatever follows
pub whole_lines-concat : (raws : List (List ℕ)) (more : List ℕ) → All IsWholeLine raws → whole_lines (concat raws ++ more) ≡ map line_text raws ++ whole_lines more
whole_lines-concat [] more all = refl
whole_lines-concat (raw ∷ raws) more all =
    let first = All-head IsWholeLine raw raws all in
    let later = whole_lines-concat raws more (All-tail IsWholeLine raw raws all) in
    rw (append_assoc raw (concat raws) more, whole_lines-front raw (concat raws ++ more) first.single first.ended, later) refl
