-- What is read as a schedule is a printed one.
use Rattle.std.proofs.Common.{◌≡◌, ℕ, suc, ◌+◌, ◌-◌, ◌<◌, ◌≤◌, ◌^◌, All, Bool, true, false, not, cond, ◌&&◌, ◌||◌, ◌==◌, nat_lt, Option, Some, None, option_map, Result, Ok, Err, List, [], ◌∷◌, ◌++◌, ◌⊎◌, inl, inr, ⊎_elim, length, take, drop, get_or, refl, sym, ap, ap₂, ◌∙◌, subst, arith, append-nil, take-append-drop, drop-cons, drop_of_length-le}
use Rattle.std.specs.Fmt.{decimal}
use Rattle.std.specs.List.{flat_map, join_with_byte, list_all, position_or_len, slice_split}
use Rattle.std.specs.Str.Parse.{AllDigits, digits_value}
use Rattle.std.specs.Char.{digit_value}
use Rattle.std.proofs.lemmas.Bool.Decides.{nat_tests}
use Rattle.std.proofs.lemmas.Fmt.{decimal-digits_value}
use Rattle.std.proofs.lemmas.List.Splits.{join_with_byte-slice_split}
use Rattle.std.proofs.lemmas.Str.{digit_value_digit}
use Rattle.std.proofs.lemmas.Str.Parse.{IsNumeralModel}
use Rattle.std.proofs.lemmas.List.Elements.{All-cons}
use Rattle.vfs_base.specs.Entry.{entry_text, mark_text, who_text}
use Rattle.vfs_base.specs.declared.entry.Entry.{Entry}
use Rattle.vfs_base.specs.declared.entry.Mark.{Mark}
use Rattle.vfs_base.specs.declared.entry.Mark.TheVariants as mark
use Rattle.vfs_base.specs.declared.entry.Who.{Who}
use Rattle.vfs_base.specs.declared.entry.Who.TheVariants as who
use Rattle.vfs_base.specs.declared.limits.TheConstants.{ROWS, SESSIONS}
use Rattle.vfs_model.specs.Manifest.{is_space}
use Rattle.vfs_model.specs.Numeral.{is_digit, is_numeral, is_within, number_within}
use Rattle.vfs_model.specs.Schedule.{behind_empty, begins_mark, end_of, entries_from, entries_of, entry_before, entry_of, entry_texts, entry_with, entry_word, mark_of, most_moved, schedule_entries, schedule_line, schedule_text, who_of}
use Rattle.vfs_model.specs.Script.{but_last, is_ended}
use Rattle.vfs_model.specs.TranscriptLaws.{IsEntry, IsMark, IsWho, ReadScheduleIsPrinted}

both-true : (x y : Bool) → (x && y) ≡ true → (x ≡ true) × (y ≡ true)
both-true true y h = (refl, h)
both-true false y h = absurd (cc)

either-true : (x y : Bool) → (x || y) ≡ true → (x ≡ true) ⊎ (y ≡ true)
either-true true y h = inl refl
either-true false y h = inr h

-- a value behind a test
pub tested : {A : Type 0} (b : Bool) (x y : A) → cond b (Some x) None ≡ Some y → (b ≡ true) × (x ≡ y)
tested true x y e = (refl, cc)
tested false x y e = absurd (cc)

pub mapped : {A B : Type 0} (f : A → B) (x : Option A) (y : B) → option_map f x ≡ Some y → (a : A) × (x ≡ Some a) × (f a ≡ y)
mapped f None y e = absurd (cc)
mapped f (Some a) y e = (a, refl, cc)

digit-below : (byte : ℕ) → is_digit byte ≡ true → digit_value byte < 10
digit-below byte e =
    let range : (48 ≤ byte) × (byte ≤ 57) = (grind (arith, nat_tests), grind (arith, nat_tests)) in
    let value = digit_value_digit byte range in omega (arith, range.0, range.1, value)

digits-are : (bytes : List ℕ) → list_all is_digit bytes ≡ true → AllDigits 10 bytes
digits-are [] h = tt
digits-are (byte ∷ bytes) h = let parts = both-true (is_digit byte) (list_all is_digit bytes) h in (digit-below byte parts.0, digits-are bytes parts.1)

own : IsNumeralModel (AllDigits 10) (digits_value 10)
own = record { to = λ ds h. h; from = λ ds h. h; same = λ ds h. refl }

-- a numeral is what its number is printed as
numeral-printed : (text : List ℕ) → is_numeral text ≡ true → digits_value 10 text < 2 ^ 64 → decimal (digits_value 10 text) ≡ text
numeral-printed text h small =
    let parts = both-true (nat_lt 0 (length text) && list_all is_digit text) (length text == 1 || not (get_or text 0 0 == 48)) h in
    let front = both-true (nat_lt 0 (length text)) (list_all is_digit text) parts.0 in
    decimal-digits_value own text (digits-are text front.1) (grind (arith, nat_tests))
    (λ first. ⊎_elim (λ one. grind (arith, nat_tests)) (λ other. let no : (get_or text 0 0 == 48) ≡ true = rw first refl in let yes : not true ≡ true = ap not (sym no) ∙ other in absurd (cc)) (either-true (length text == 1) (not (get_or text 0 0 == 48)) parts.1))
    small

-- a number that is read, with its range
number-printed : (least most n : ℕ) (text : List ℕ) → most < 2 ^ 64 → number_within least most text ≡ Some n →
    (text ≡ decimal n) × (least ≤ n) × (n ≤ most)
number-printed least most n text bound e =
    let found = tested (is_numeral text && is_within least most (digits_value 10 text)) (digits_value 10 text) n e in
    let parts = both-true (is_numeral text) (is_within least most (digits_value 10 text)) found.0 in
    let low : least ≤ digits_value 10 text = grind (arith, nat_tests) in
    let high : digits_value 10 text ≤ most = grind (arith, nat_tests) in
    (sym (numeral-printed text parts.0 (omega (arith, high, bound))) ∙ ap decimal found.1, subst (λ m. least ≤ m) found.1 low, subst (λ m. m ≤ most) found.1 high)

-- what is read as a who, of bytes with the first one apart
abbrev pub PrintsWho : List ℕ → Who → Type 0
PrintsWho text w = (text ≡ who_text w) × IsWho w

pub who-printed : (text : List ℕ) (w : Who) → who_of text ≡ Some w → PrintsWho text w
who-printed [] w e = absurd (cc)
who-printed (byte ∷ bytes) w e = by_flush (byte == 102) refl e
  where
    end-printed : (bytes : List ℕ) → byte ≡ 122 → end_of bytes ≡ Some w → PrintsWho (byte ∷ bytes) w
    end-printed [] first e = let same : who.End ≡ w = cc in subst (PrintsWho (byte ∷ [])) same (ap (λ b. b ∷ []) first, tt)
    end-printed (next ∷ bytes) first e = absurd (cc)

    by_end : (b : Bool) → (byte == 122) ≡ b → cond b (end_of bytes) (option_map who.Session (number_within 1 SESSIONS (byte ∷ bytes))) ≡ Some w → PrintsWho (byte ∷ bytes) w
    by_end true t e = end-printed bytes (grind (arith, nat_tests)) e
    by_end false t e =
        let found = mapped who.Session (number_within 1 SESSIONS (byte ∷ bytes)) w e in
        let number = number-printed 1 SESSIONS found.0 (byte ∷ bytes) (omega arith) found.1 in
        subst (PrintsWho (byte ∷ bytes)) found.2 (number.0, (number.1, number.2))

    by_reclaim : (b : Bool) → (byte == 114) ≡ b → cond b (option_map who.Reclaim (number_within 1 ROWS bytes)) (cond (byte == 122) (end_of bytes) (option_map who.Session (number_within 1 SESSIONS (byte ∷ bytes)))) ≡ Some w → PrintsWho (byte ∷ bytes) w
    by_reclaim true t e =
        let found = mapped who.Reclaim (number_within 1 ROWS bytes) w e in
        let number = number-printed 1 ROWS found.0 bytes (omega arith) found.1 in
        let first : byte ≡ 114 = grind (arith, nat_tests) in
        subst (PrintsWho (byte ∷ bytes)) found.2 (ap₂ (λ x xs. x ∷ xs) first number.0, (number.1, number.2))
    by_reclaim false t e = by_end (byte == 122) refl e

    by_flush : (b : Bool) → (byte == 102) ≡ b → cond b (option_map who.Flush (number_within 1 ROWS bytes)) (cond (byte == 114) (option_map who.Reclaim (number_within 1 ROWS bytes)) (cond (byte == 122) (end_of bytes) (option_map who.Session (number_within 1 SESSIONS (byte ∷ bytes))))) ≡ Some w → PrintsWho (byte ∷ bytes) w
    by_flush true t e =
        let found = mapped who.Flush (number_within 1 ROWS bytes) w e in
        let number = number-printed 1 ROWS found.0 bytes (omega arith) found.1 in
        let first : byte ≡ 102 = grind (arith, nat_tests) in
        subst (PrintsWho (byte ∷ bytes)) found.2 (ap₂ (λ x xs. x ∷ xs) first number.0, (number.1, number.2))
    by_flush false t e = by_reclaim (byte == 114) refl e

abbrev PrintsMark : List ℕ → Mark → Type 0
PrintsMark text m = (text ≡ mark_text m) × IsMark m

mark-printed : (text : List ℕ) (m : Mark) → mark_of text ≡ Some m → PrintsMark text m
mark-printed [] m e = let same : mark.Clear ≡ m = cc in subst (PrintsMark []) same (refl, tt)
mark-printed (byte ∷ bytes) m e = by_fault (byte == 33) refl e
  where
    by_memory : (b : Bool) → (byte == 109) ≡ b → cond b (option_map mark.NoMem (number_within 0 most_moved bytes)) None ≡ Some m → PrintsMark (byte ∷ bytes) m
    by_memory true t e =
        let found = mapped mark.NoMem (number_within 0 most_moved bytes) m e in
        let number = number-printed 0 most_moved found.0 bytes (omega arith) found.1 in
        let first : byte ≡ 109 = grind (arith, nat_tests) in
        subst (PrintsMark (byte ∷ bytes)) found.2 (ap₂ (λ x xs. x ∷ xs) first number.0, omega (arith, number.2))
    by_memory false t e = absurd (cc)

    by_fault : (b : Bool) → (byte == 33) ≡ b → cond b (option_map mark.Fault (number_within 0 most_moved bytes)) (cond (byte == 109) (option_map mark.NoMem (number_within 0 most_moved bytes)) None) ≡ Some m → PrintsMark (byte ∷ bytes) m
    by_fault true t e =
        let found = mapped mark.Fault (number_within 0 most_moved bytes) m e in
        let number = number-printed 0 most_moved found.0 bytes (omega arith) found.1 in
        let first : byte ≡ 33 = grind (arith, nat_tests) in
        subst (PrintsMark (byte ∷ bytes)) found.2 (ap₂ (λ x xs. x ∷ xs) first number.0, omega (arith, number.2))
    by_fault false t e = by_memory (byte == 109) refl e

abbrev PrintsEntry : List ℕ → Entry → Type 0
PrintsEntry text entry = (text ≡ entry_text entry) × IsEntry entry

entry-printed : (text : List ℕ) (entry : Entry) → entry_of text ≡ Some entry → PrintsEntry text entry
entry-printed text entry e =
    let ends = position_or_len begins_mark text in
    joined (who_of (take ends text)) (mark_of (drop ends text)) refl refl e
  where
    joined : (x : Option Who) (y : Option Mark) → who_of (take (position_or_len begins_mark text) text) ≡ x → mark_of (drop (position_or_len begins_mark text) text) ≡ y →
        entry_with x y ≡ Some entry → PrintsEntry text entry
    joined None y f g e = absurd (cc)
    joined (Some asker) None f g e = absurd (cc)
    joined (Some asker) (Some m) f g e =
        let front = who-printed (take (position_or_len begins_mark text) text) asker f in
        let back = mark-printed (drop (position_or_len begins_mark text) text) m g in
        let made : Entry = record { who = asker; mark = m } in
        let same : made ≡ entry = cc in
        subst (PrintsEntry text) same (sym (take-append-drop (position_or_len begins_mark text) text) ∙ ap₂ (λ a b. a ++ b) front.0 back.0, (front.1, back.1))

-- the texts that are read as entries are theirs
texts-printed : (at : ℕ) (texts : List (List ℕ)) (entries : List Entry) → entries_from at texts ≡ Ok entries →
    (flat_map (λ text. 32 ∷ text) texts ≡ flat_map entry_word entries) × All IsEntry entries
texts-printed at [] entries e = let same : [] ≡ entries = cc in subst (λ es. ([] ≡ flat_map entry_word es) × All IsEntry es) same (refl, λ i d h. absurd (omega arith))
texts-printed at (text ∷ texts) entries e = joined (entry_of text) (entries_from (at + 1) texts) refl e (texts-printed (at + 1) texts)
  where
    joined : (x : Option Entry) (r : Result (List Entry) ℕ) → entry_of text ≡ x → entry_before at x r ≡ Ok entries →
        ((later : List Entry) → r ≡ Ok later → (flat_map (λ text. 32 ∷ text) texts ≡ flat_map entry_word later) × All IsEntry later) →
        (flat_map (λ text. 32 ∷ text) (text ∷ texts) ≡ flat_map entry_word entries) × All IsEntry entries
    joined None r f e h = absurd (cc)
    joined (Some entry) (Err bad) f e h = absurd (cc)
    joined (Some entry) (Ok later) f e h =
        let first = entry-printed text entry f in
        let rest = h later refl in
        let same : (entry ∷ later) ≡ entries = cc in
        subst (λ es. (flat_map (λ text. 32 ∷ text) (text ∷ texts) ≡ flat_map entry_word es) × All IsEntry es) same
        (ap₂ (λ a b. (32 ∷ a) ++ b) first.0 rest.0, All-cons IsEntry entry later first.1 rest.1)

-- parts that spaces part, put behind one another
parts-joined : (text : List ℕ) (texts : List (List ℕ)) → join_with_byte 32 (text ∷ texts) ≡ text ++ flat_map (λ t. 32 ∷ t) texts
parts-joined text [] = sym (append-nil text)
parts-joined text (next ∷ texts) = ap (λ bytes. text ++ 32 ∷ bytes) (parts-joined next texts)

parts-of : (parts texts : List (List ℕ)) → behind_empty parts ≡ Some texts → parts ≡ [] ∷ texts
parts-of [] texts e = absurd (cc)
parts-of ([] ∷ parts) texts e = cc
parts-of ((byte ∷ bytes) ∷ parts) texts e = absurd (cc)

-- a text whose entries are read is printed
text-printed : (line : List ℕ) (schedule : List Entry) → entries_of (entry_texts line) ≡ Ok schedule → (line ≡ schedule_text schedule) × All IsEntry schedule
text-printed [] schedule e = absurd (cc)
text-printed (byte ∷ bytes) schedule e = by_first (byte == 35) refl e
  where
    by_texts : (x : Option (List (List ℕ))) → behind_empty (slice_split is_space bytes) ≡ x → byte ≡ 35 → entries_of x ≡ Ok schedule → ((byte ∷ bytes) ≡ schedule_text schedule) × All IsEntry schedule
    by_texts None f first e = absurd (cc)
    by_texts (Some texts) f first e =
        let read = texts-printed 0 texts schedule e in
        let parts : slice_split is_space bytes ≡ [] ∷ texts = parts-of (slice_split is_space bytes) texts f in
        let back : bytes ≡ flat_map (λ t. 32 ∷ t) texts = sym (join_with_byte-slice_split 32 bytes) ∙ ap (join_with_byte 32) parts ∙ parts-joined [] texts in
        (ap₂ (λ x xs. x ∷ xs) first (back ∙ read.0), read.1)

    by_first : (b : Bool) → (byte == 35) ≡ b → entries_of (cond b (behind_empty (slice_split is_space bytes)) None) ≡ Ok schedule → ((byte ∷ bytes) ≡ schedule_text schedule) × All IsEntry schedule
    by_first true t e = by_texts (behind_empty (slice_split is_space bytes)) refl (grind (arith, nat_tests)) e
    by_first false t e = absurd (cc)

-- bytes that end with a line feed are those before it, and it
last-apart : (line : List ℕ) → is_ended line ≡ true → line ≡ but_last line ++ 10 ∷ []
last-apart [] e = absurd (cc)
last-apart (byte ∷ bytes) e =
    let line = byte ∷ bytes in
    let count : length line - 1 < length line = omega arith in
    let last : get_or line (length line - 1) 0 ≡ 10 = grind (arith, nat_tests) in
    sym (take-append-drop (length line - 1) line) ∙ ap (λ rest. take (length line - 1) line ++ rest) (drop-last line (length line - 1) count (omega arith) ∙ ap (λ b. b ∷ []) last)
  where
    drop-last : (line : List ℕ) (n : ℕ) → n < length line → length line ≤ suc n → drop n line ≡ get_or line n 0 ∷ []
    drop-last line n h past = drop-cons line n 0 h ∙ ap (λ rest. get_or line n 0 ∷ rest) (drop_of_length-le line past)

pub schedule-exact : ReadScheduleIsPrinted
unfolding schedule_entries
schedule-exact line schedule e = by_end (is_ended line) refl e
  where
    by_end : (b : Bool) → is_ended line ≡ b → entries_of (entry_texts (cond b (but_last line) line)) ≡ Ok schedule → ((line ≡ schedule_line schedule) ⊎ (line ≡ schedule_text schedule)) × All IsEntry schedule
    by_end true t e = let read = text-printed (but_last line) schedule e in (inl (last-apart line t ∙ ap (λ text. text ++ 10 ∷ []) read.0), read.1)
    by_end false t e = let read = text-printed line schedule e in (inr read.0, read.1)
