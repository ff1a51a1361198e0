-- What a front of an input that is past the greatest size of a script says of the whole.
use Rattle.std.proofs.Common.{◌≡◌, ℕ, ◌+◌, ◌<◌, ◌≤◌, ◌==◌, nat_lt, true, false, Option, Some, None, IfSome, Result, Ok, Err, List, [], ◌∷◌, ◌++◌, length, refl, sym, ap, ◌∙◌, arith, append-nil, lt-ltb, ltb-true, ltb-false, inl, inr}
use Rattle.std.proofs.lemmas.Bool.{cases_Bool, or_parts, or_right}
use Rattle.std.specs.Io.KnownBytes.{Consumes, IsAtEnd}
use Rattle.vfs_base.specs.declared.deck.Deck.{Deck}
use Rattle.vfs_model.specs.Deck.{DeckDraft, deck_from, deck_of, empty_deck, or_bad_line, with_raw_line}
use Rattle.vfs_model.specs.Script.{is_bad_line, line_text, onto_first, raw_lines}
use Rattle.dfs_input.specs.Known.{IsInput}

-- how many bytes the lines have
abbrev size_of : List (List ℕ) → ℕ
size_of [] = 0
size_of (raw ∷ raws) = length raw + size_of raws

onto_first-size : (byte : ℕ) (raws : List (List ℕ)) → size_of (onto_first byte raws) ≡ size_of raws + 1
onto_first-size byte [] = omega arith
onto_first-size byte (raw ∷ raws) = omega arith

raw_lines-size : (bytes : List ℕ) → size_of (raw_lines bytes) ≡ length bytes
raw_lines-size [] = refl
raw_lines-size (byte ∷ bytes) =
    let later = raw_lines-size bytes in
    elim (cases_Bool (byte == 10)) [
      | inl feed ↦ rw feed (omega (arith, later))
      | inr other ↦ rw other (omega (arith, later, onto_first-size byte (raw_lines bytes)))
    ]

-- the first line is as long
abbrev HasFirst : ℕ → List (List ℕ) → Type 0
HasFirst size [] = ⊥
HasFirst size (line ∷ lines) = size ≤ length line

-- the lines begin with these, of which the last may go on
abbrev BeginWith : List (List ℕ) → List (List ℕ) → Type 0
BeginWith [] lines = Unit {0}
BeginWith (raw ∷ []) lines = HasFirst (length raw) lines
BeginWith (raw ∷ next ∷ raws) [] = ⊥
BeginWith (raw ∷ next ∷ raws) (line ∷ lines) = (raw ≡ line) × BeginWith (next ∷ raws) lines

BeginWith-line : (raw : List ℕ) (raws lines : List (List ℕ)) → BeginWith raws lines → BeginWith (raw ∷ raws) (raw ∷ lines)
BeginWith-line raw [] lines begin = omega arith
BeginWith-line raw (next ∷ raws) lines begin = (refl, begin)

BeginWith-onto : (byte : ℕ) (raws lines : List (List ℕ)) → BeginWith raws lines → BeginWith (onto_first byte raws) (onto_first byte lines)
BeginWith-onto byte [] [] begin = omega arith
BeginWith-onto byte [] (line ∷ lines) begin = omega arith
BeginWith-onto byte (raw ∷ []) [] begin = absurd begin
BeginWith-onto byte (raw ∷ []) (line ∷ lines) begin = omega arith
BeginWith-onto byte (raw ∷ next ∷ raws) [] begin = absurd begin
BeginWith-onto byte (raw ∷ next ∷ raws) (line ∷ lines) begin = (ap (λ l. byte ∷ l) begin.0, begin.1)

-- the lines of a front
raw_lines-front : (bytes rest : List ℕ) → BeginWith (raw_lines bytes) (raw_lines (bytes ++ rest))
raw_lines-front [] rest = tt
raw_lines-front (byte ∷ bytes) rest =
    let later = raw_lines-front bytes rest in
    elim (cases_Bool (byte == 10)) [
      | inl feed ↦ rw feed (BeginWith-line (byte ∷ []) (raw_lines bytes) (raw_lines (bytes ++ rest)) later)
      | inr other ↦ rw other (BeginWith-onto byte (raw_lines bytes) (raw_lines (bytes ++ rest)) later)
    ]

-- a line that goes past the greatest size is bad
is_bad_line-far : (size : ℕ) (raw : List ℕ) → 16777216 < size + length raw → is_bad_line size raw ≡ true
is_bad_line-far size raw far =
    or_right (nat_lt 1024 (length (line_text raw))) (nat_lt 16777216 (size + length raw)) (lt-ltb 16777216 (size + length raw) far)

-- a good line stays within it
is_bad_line-within : (size : ℕ) (raw : List ℕ) → is_bad_line size raw ≡ false → size + length raw ≤ 16777216
is_bad_line-within size raw good =
    ltb-false 16777216 (size + length raw) (or_parts (nat_lt 1024 (length (line_text raw))) (nat_lt 16777216 (size + length raw)) good).1

-- the same follows from one draft, so the same is meant
or_bad_line-same : (number : ℕ) (draft : Option DeckDraft) (one other : DeckDraft → Result Deck ℕ) → ((d : DeckDraft) → one d ≡ other d)
    → or_bad_line number draft one ≡ or_bad_line number draft other
or_bad_line-same number None one other same = refl
or_bad_line-same number (Some draft) one other same = same draft

-- what goes past the greatest size is bad at one line, whatever follows
deck_from-front : (number size : ℕ) (draft : DeckDraft) (raws lines : List (List ℕ)) → BeginWith raws lines → size ≤ 16777216 → 16777216 < size + size_of raws
    → deck_from number size draft lines ≡ deck_from number size draft raws
deck_from-front number size draft [] lines begin within past = absurd (omega arith)
deck_from-front number size draft (raw ∷ []) [] begin within past = absurd begin
deck_from-front number size draft (raw ∷ []) (line ∷ lines) begin within past =
    let far = is_bad_line-far size raw (omega arith) in
    let far' = is_bad_line-far size line (omega arith) in
    rw (far', far) refl
deck_from-front number size draft (raw ∷ next ∷ raws) [] begin within past = absurd begin
deck_from-front number size draft (raw ∷ next ∷ raws) (line ∷ lines) begin within past =
    ap (λ l. deck_from number size draft (l ∷ lines)) (sym begin.0)
    ∙ elim (cases_Bool (is_bad_line size raw)) [
      | inl bad ↦ rw bad refl
      | inr good ↦
          let still = is_bad_line-within size raw good in
          rw good (or_bad_line-same number (with_raw_line draft raw)
          (λ d. deck_from (number + 1) (size + length raw) d lines) (λ d. deck_from (number + 1) (size + length raw) d (next ∷ raws))
          (λ d. deck_from-front (number + 1) (size + length raw) d (next ∷ raws) lines begin.1 still (omega arith)))
    ]

-- what follows from a draft is a script
or_bad_line-ok : (number : ℕ) (draft : Option DeckDraft) (go : DeckDraft → Result Deck ℕ) (deck : Deck) (P : Type 0) → or_bad_line number draft go ≡ Ok deck
    → ((d : DeckDraft) → go d ≡ Ok deck → P) → P
or_bad_line-ok number None go deck P is then = cc
or_bad_line-ok number (Some draft) go deck P is then = then draft is

deck_from-within : (number size : ℕ) (draft : DeckDraft) (raws : List (List ℕ)) (deck : Deck) → deck_from number size draft raws ≡ Ok deck → size ≤ 16777216
    → size + size_of raws ≤ 16777216
deck_from-within number size draft [] deck is within = omega arith
deck_from-within number size draft (raw ∷ raws) deck is within =
    elim (cases_Bool (is_bad_line size raw)) [
      | inl bad ↦ let no : Err number ≡ Ok deck = rw bad at is in cc
      | inr good ↦
          let still = is_bad_line-within size raw good in
          or_bad_line-ok number (with_raw_line draft raw) (λ d. deck_from (number + 1) (size + length raw) d raws) deck (size + (length raw + size_of raws) ≤ 16777216) (rw good at is)
          (λ d go. omega (arith, deck_from-within (number + 1) (size + length raw) d raws deck go still))
    ]

-- a script has the greatest size at most
pub script_within : (bytes : List ℕ) (deck : Deck) → deck_of bytes ≡ Ok deck → length bytes ≤ 16777216
unfolding deck_of
script_within bytes deck is =
    omega (arith, raw_lines-size bytes, deck_from-within 1 0 (record { deck = empty_deck; rom = None }) (raw_lines bytes) deck is (omega arith))

-- the bytes that go past it mean what the whole input means
deck_of-front : (bytes rest : List ℕ) → 16777216 < length bytes → deck_of (bytes ++ rest) ≡ deck_of bytes
unfolding deck_of
deck_of-front bytes rest past =
    deck_from-front 1 0 (record { deck = empty_deck; rom = None }) (raw_lines bytes) (raw_lines (bytes ++ rest)) (raw_lines-front bytes rest) (omega arith)
    (omega (arith, raw_lines-size bytes))

-- what was read means what the input does, where its end was reached or the greatest size was passed
pub script_read : (old new : Option (List ℕ)) (bytes : List ℕ) → Consumes old new bytes → (length bytes ≤ 16777216 → IsAtEnd new)
    → IfSome old (λ input. deck_of input ≡ deck_of bytes)
script_read None new bytes taken end = tt
script_read (Some input) None bytes taken end = absurd taken
script_read (Some input) (Some rest) bytes taken end =
    ap deck_of taken
    ∙ elim (cases_Bool (nat_lt 16777216 (length bytes))) [
      | inl past ↦ deck_of-front bytes rest (ltb-true 16777216 (length bytes) past)
      | inr within ↦ ap (λ r. deck_of (bytes ++ r)) (end (ltb-false 16777216 (length bytes) within)) ∙ ap deck_of (append-nil bytes)
    ]

-- some input, which is the told one where it is told, means what the bytes that were read mean
pub known_script : (told : Option (List ℕ)) (bytes : List ℕ) → IfSome told (λ input. deck_of input ≡ deck_of bytes)
    → (input : List ℕ) × IsInput told input × (deck_of input ≡ deck_of bytes)
known_script None bytes same = (bytes, tt, refl)
known_script (Some known) bytes same = (known, refl, same)
