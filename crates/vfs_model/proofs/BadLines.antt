-- The first bad line depends on no later byte.
use Rattle.std.proofs.Common.{◌≡◌, ℕ, suc, ◌+◌, ◌-◌, ◌<◌, ◌≤◌, ◌==◌, Bool, true, false, cond, ◌&&◌, Option, Some, None, Result, Ok, Err, List, [], ◌∷◌, ◌++◌, length, slice_index, if◌then◌else◌, refl, sym, ap, ◌∙◌, arith}
use Rattle.std.proofs.lemmas.Bool.{and_parts}
use Rattle.std.specs.List.{list_all}
use Rattle.std.specs.Prelude.{is_none}
use Rattle.vfs_base.specs.declared.deck.Deck.{Deck}
use Rattle.vfs_model.specs.Deck.{DeckDraft, deck_from, deck_of, empty_deck, or_bad_line, with_raw_line}
use Rattle.vfs_model.specs.Script.{first_bad_from, is_bad_line, is_ended, onto_first, raw_lines}
use Rattle.vfs_model.specs.TextLaws.{BadLineStays, HasWholeLines}

-- the byte before a line that is not empty decides nothing of its end
ended-behind : (byte next : ℕ) (line : List ℕ) → is_ended (byte ∷ next ∷ line) ≡ is_ended (next ∷ line)
ended-behind byte next line =
    let place : length (byte ∷ next ∷ line) - 1 ≡ suc (length (next ∷ line) - 1) = omega arith in
    ap (λ k. slice_index (byte ∷ next ∷ line) k == 10) place

-- a byte that is no line feed goes onto the first of the lines that are whole, and the others stay
onto-joined : (byte : ℕ) (raws all more : List (List ℕ)) → (byte == 10) ≡ false → list_all is_ended (onto_first byte raws) ≡ true →
    (list_all is_ended raws ≡ true → all ≡ raws ++ more) → onto_first byte all ≡ onto_first byte raws ++ more
onto-joined byte [] all more e h joined =
    let feed : (byte == 10) ≡ true = (and_parts (byte == 10) true h).0 in absurd (cc (feed, e))
onto-joined byte ([] ∷ raws) all more e h joined =
    let feed : (byte == 10) ≡ true = (and_parts (byte == 10) (list_all is_ended raws) h).0 in absurd (cc (feed, e))
onto-joined byte ((next ∷ line) ∷ raws) all more e h joined =
    let whole : list_all is_ended ((next ∷ line) ∷ raws) ≡ true =
    ap (λ b. b && list_all is_ended raws) (sym (ended-behind byte next line)) ∙ h in
    ap (onto_first byte) (joined whole)

raw-joined : (read rest : List ℕ) → HasWholeLines read → raw_lines (read ++ rest) ≡ raw_lines read ++ raw_lines rest
raw-joined [] rest h = refl
raw-joined (byte ∷ read) rest h = by_feed (byte == 10) refl h (raw-joined read rest)
  where
    by_feed : (b : Bool) → (byte == 10) ≡ b →
        list_all is_ended (cond b ((byte ∷ []) ∷ raw_lines read) (onto_first byte (raw_lines read))) ≡ true →
        (list_all is_ended (raw_lines read) ≡ true → raw_lines (read ++ rest) ≡ raw_lines read ++ raw_lines rest) →
        cond b ((byte ∷ []) ∷ raw_lines (read ++ rest)) (onto_first byte (raw_lines (read ++ rest)))
        ≡ cond b ((byte ∷ []) ∷ raw_lines read) (onto_first byte (raw_lines read)) ++ raw_lines rest
    by_feed true e h joined =
        let later = (and_parts (is_ended (byte ∷ [])) (list_all is_ended (raw_lines read)) h).1 in
        ap (λ raws. (byte ∷ []) ∷ raws) (joined later)
    by_feed false e h joined = onto-joined byte (raw_lines read) (raw_lines (read ++ rest)) (raw_lines rest) e h joined

-- in either case
either-way : {X : Type 0} (bad : Bool) (first found x y : X) → (x ≡ found → y ≡ found) →
    (if bad then first else x) ≡ found → (if bad then first else y) ≡ found
either-way true first found x y h e = e
either-way false first found x y h e = h e

-- the first bad one of these lines is the first bad one of them and others behind them
bad-stays : (raws more : List (List ℕ)) (number size found : ℕ) → first_bad_from number size raws ≡ Some found →
    first_bad_from number size (raws ++ more) ≡ Some found
bad-stays [] more number size found e = absurd (cc)
bad-stays (raw ∷ raws) more number size found e =
    either-way (is_bad_line size raw) (Some number) (Some found)
    (first_bad_from (number + 1) (size + length raw) raws) (first_bad_from (number + 1) (size + length raw) (raws ++ more))
    (bad-stays raws more (number + 1) (size + length raw) found) e

-- a bad line has at least the number that the first line has
bad-past : (raws : List (List ℕ)) (number size found : ℕ) → first_bad_from number size raws ≡ Some found → number ≤ found
bad-past [] number size found e = absurd (cc)
bad-past (raw ∷ raws) number size found e = by_bad (is_bad_line size raw) e (bad-past raws (number + 1) (size + length raw) found)
  where
    by_bad : (bad : Bool) → (if bad then Some number else first_bad_from (number + 1) (size + length raw) raws) ≡ Some found →
        (first_bad_from (number + 1) (size + length raw) raws ≡ Some found → number + 1 ≤ found) → number ≤ found
    by_bad true e later = let same : number ≡ found = cc in omega (arith, same)
    by_bad false e later = let past = later e in omega (arith, past)

-- and where it is one of them, it is so without the others
bad-was : (raws more : List (List ℕ)) (number size found : ℕ) → found < number + length raws →
    first_bad_from number size (raws ++ more) ≡ Some found → first_bad_from number size raws ≡ Some found
bad-was [] more number size found l e =
    let past = bad-past more number size found e in absurd (omega (arith, past, l))
bad-was (raw ∷ raws) more number size found l e =
    let within : found < number + 1 + length raws = omega (arith, l) in
    either-way (is_bad_line size raw) (Some number) (Some found)
    (first_bad_from (number + 1) (size + length raw) (raws ++ more)) (first_bad_from (number + 1) (size + length raw) raws)
    (bad-was raws more (number + 1) (size + length raw) found within) e

none-open : (closed : Bool) (deck : Deck) (number found : ℕ) → found < number + 0 → (if closed then Ok deck else Err number) ≡ Err found → ⊥
none-open true deck number found l e = cc e
none-open false deck number found l e = let same : number ≡ found = cc e in omega (arith, same, l)

draft-way : (number found : ℕ) (draft : Option DeckDraft) (go then_go : DeckDraft → Result Deck ℕ) →
    ((next : DeckDraft) → go next ≡ Err found → then_go next ≡ Err found) →
    or_bad_line number draft go ≡ Err found → or_bad_line number draft then_go ≡ Err found
draft-way number found None go then_go h e = e
draft-way number found (Some next) go then_go h e = h next e

deck-stays : (raws more : List (List ℕ)) (number size : ℕ) (draft : DeckDraft) (found : ℕ) → found < number + length raws →
    deck_from number size draft raws ≡ Err found → deck_from number size draft (raws ++ more) ≡ Err found
deck-stays [] more number size draft found l e = absurd (none-open (is_none draft.rom) draft.deck number found l e)
deck-stays (raw ∷ raws) more number size draft found l e =
    let within : found < number + 1 + length raws = omega (arith, l) in
    either-way (is_bad_line size raw) (Err number) (Err found)
    (or_bad_line number (with_raw_line draft raw) (λ next. deck_from (number + 1) (size + length raw) next raws))
    (or_bad_line number (with_raw_line draft raw) (λ next. deck_from (number + 1) (size + length raw) next (raws ++ more)))
    (draft-way number found (with_raw_line draft raw) _ _ (λ next. deck-stays raws more (number + 1) (size + length raw) next found within)) e

deck-of : (bytes : List ℕ) → deck_of bytes ≡ deck_from 1 0 (record { deck = empty_deck; rom = None }) (raw_lines bytes)
unfolding deck_of
deck-of bytes = refl

pub bad-line-stays : (read : List ℕ) (number : ℕ) → HasWholeLines read → BadLineStays read number
bad-line-stays read number h = record {
  input = λ rest e. ap (first_bad_from 1 0) (raw-joined read rest h) ∙ bad-stays (raw_lines read) (raw_lines rest) 1 0 number e;
  input_back = λ rest l e.
      bad-was (raw_lines read) (raw_lines rest) 1 0 number (omega (arith, l)) (ap (first_bad_from 1 0) (sym (raw-joined read rest h)) ∙ e);
  script = λ rest l e.
      deck-of (read ++ rest)
      ∙ ap (deck_from 1 0 (record { deck = empty_deck; rom = None })) (raw-joined read rest h)
      ∙ deck-stays (raw_lines read) (raw_lines rest) 1 0 (record { deck = empty_deck; rom = None }) number (omega (arith, l)) (sym (deck-of read) ∙ e);
}
