use Rattle.std.proofs.Common.{◌≡◌, ℕ, ◌+◌, ◌<◌, ◌≤◌, Bool, true, false, not, IsTrue, cond, if◌then◌else◌, List, [], ◌∷◌, ◌++◌, length, take, drop, map, filter, Option, Some, None, refl, ap, sym, append_assoc, append-nil, arith}
use Rattle.std.proofs.lemmas.Bool.Decides.{nat_tests}
use Rattle.std.proofs.lemmas.Grind.{common_steps}
use Rattle.std.specs.List.{position, position_or_len, slice_split, onto_first, flat_map}
use Rattle.std.specs.Option.{option_map}
use Rattle.vfs_model.specs.Words.{Part, Piece, is_quote, is_blank_part, part_bytes, has_pieces, part_before, parts, quoted_parts, words_of}
use Rattle.msh_words.specs.Reading.{words_in, words_from, words_quoted, starts_word}

-- the words of the runs between blanks
abbrev run_words : List (List Part) → List (List ℕ)
run_words runs = map (flat_map part_bytes) (filter has_pieces runs)

-- two pieces side by side are one
run_words-pieces : (a b : List ℕ) (runs : List (List Part)) →
    run_words (onto_first (Piece a) (onto_first (Piece b) runs))
    ≡ run_words (onto_first (Piece (a ++ b)) runs)
run_words-pieces a b [] = ap (λ w. w ∷ []) (sym (append_assoc a b []))
run_words-pieces a b (run ∷ runs) =
    ap (λ w. w ∷ run_words runs) (sym (append_assoc a b (flat_map part_bytes run)))

two_pieces : (a b : List ℕ) (found : Option (List Part)) →
    option_map words_of (part_before (Piece a) (part_before (Piece b) found))
    ≡ option_map words_of (part_before (Piece (a ++ b)) found)
two_pieces a b None = refl
two_pieces a b (Some more) = ap Some (run_words-pieces a b (slice_split is_blank_part more))

-- a quoted part ends at the next quote
ends_at : (is_end : Bool) (at : ℕ) (quoted : List ℕ) (byte : ℕ) (text : List ℕ) →
    (at < length text →
    quoted_parts (quoted ++ byte ∷ []) text
    ≡ part_before (Piece ((quoted ++ byte ∷ []) ++ take at text)) (parts (drop (at + 1) text))) →
    cond (not is_end) (1 + at) 0 < length (byte ∷ text) →
    (if is_end then part_before (Piece quoted) (parts text) else quoted_parts (quoted ++ byte ∷ []) text)
    ≡ part_before (Piece (quoted ++ take (cond (not is_end) (1 + at) 0) (byte ∷ text)))
    (parts (drop (cond (not is_end) (1 + at) 0 + 1) (byte ∷ text)))
ends_at true at quoted byte text rest within = simp append-nil
ends_at false at quoted byte text rest within = grind (arith, common_steps)

quoted_parts-closed : (quoted text : List ℕ) → position_or_len is_quote text < length text →
    quoted_parts quoted text
    ≡ part_before (Piece (quoted ++ take (position_or_len is_quote text) text))
    (parts (drop (position_or_len is_quote text + 1) text))
quoted_parts-closed quoted [] within = grind arith
quoted_parts-closed quoted (byte ∷ text) within =
    ends_at (is_quote byte) (position_or_len is_quote text) quoted byte text
    (quoted_parts-closed (quoted ++ byte ∷ []) text) within

quoted_parts-open : (quoted text : List ℕ) → length text ≤ position_or_len is_quote text →
    quoted_parts quoted text ≡ None
quoted_parts-open quoted [] within = refl
quoted_parts-open quoted (byte ∷ text) within =
    grind (arith, common_steps, quoted_parts-open (quoted ++ byte ∷ []) text)

-- a quoted part that is closed goes on with the word
pub words_closed : (word text : List ℕ) (at : ℕ) → Some at ≡ position is_quote text →
    words_quoted word text ≡ words_from (word ++ take at text) (drop (at + 1) text)
words_closed word text at found =
    grind (
      arith,
      nat_tests,
      quoted_parts-closed [] text,
      two_pieces word (take at text) (parts (drop (at + 1) text)),
    )

-- one that isn't closed leaves no words
pub words_open : (word text : List ℕ) → None ≡ position is_quote text →
    words_quoted word text ≡ None
words_open word text found = grind (arith, nat_tests, quoted_parts-open [] text)

pub ruleset quoting = (words_closed, words_open, common_steps)

quoted_parts-begun : (quoted text : List ℕ) → option_map words_of (quoted_parts quoted text)
    ≡ option_map words_of (part_before (Piece []) (quoted_parts quoted text))
quoted_parts-begun quoted [] = refl
quoted_parts-begun quoted (byte ∷ text) =
    grind (arith, two_pieces [] quoted (parts text), quoted_parts-begun (quoted ++ byte ∷ []) text)

-- a text that begins with a piece goes on with an empty word
pub words_begun : (text : List ℕ) → IsTrue (starts_word text) → words_in text ≡ words_from [] text
words_begun [] starts = absurd (cc)
words_begun (byte ∷ text) starts =
    grind (arith, two_pieces [] (byte ∷ []) (parts text), quoted_parts-begun [] text)
