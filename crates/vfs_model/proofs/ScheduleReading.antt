-- A printed schedule reads back as itself.
use Rattle.std.proofs.Common.{◌≡◌, ℕ, suc, ◌+◌, ◌-◌, ◌<◌, ◌≤◌, ◌^◌, All, Bool, true, false, ◌||◌, ◌==◌, Some, option_map, Ok, List, [], ◌∷◌, ◌++◌, length, take, drop, get_or, map, refl, sym, ap, ap₂, ◌∙◌, arith, append-nil, length-append}
use Rattle.std.specs.Fmt.{decimal}
use Rattle.std.specs.List.{flat_map, list_any, position_or_len, slice_split}
use Rattle.std.proofs.Math.Seq.{take-append_seam, drop-append_seam, get_or-append_seam}
use Rattle.std.proofs.lemmas.Bool.Decides.{nat_tests}
use Rattle.std.proofs.lemmas.Fmt.{decimal_digit}
use Rattle.std.proofs.lemmas.List.Elements.{All-head, All-tail}
use Rattle.vfs_base.specs.Entry.{entry_text, mark_text, who_text}
use Rattle.vfs_base.specs.declared.entry.Entry.{Entry}
use Rattle.vfs_base.specs.declared.entry.Mark.{Mark}
use Rattle.vfs_base.specs.declared.entry.Mark.TheVariants as mark
use Rattle.vfs_base.specs.declared.entry.Who.{Who}
use Rattle.vfs_base.specs.declared.entry.Who.TheVariants as who
use Rattle.vfs_base.specs.declared.limits.TheConstants.{ROWS, SESSIONS}
use Rattle.vfs_model.proofs.ScheduleLemmas.{HasNone, decimal-digits, decimal-within, digits-none, none-append, place-at, place-none, split-at, split-one}
use Rattle.vfs_model.specs.Manifest.{is_space}
use Rattle.vfs_model.specs.Numeral.{is_digit, number_within}
use Rattle.vfs_model.specs.Schedule.{begins_mark, entries_from, entry_before, entry_of, entry_texts, entry_with, entry_word, mark_of, most_moved, schedule_entries, schedule_line, schedule_text, who_of}
use Rattle.vfs_model.specs.Script.{but_last, is_ended, last_byte}
use Rattle.vfs_model.specs.TranscriptLaws.{IsEntry, IsMark, IsWho, PrintedScheduleIsRead}

-- a test that no digit passes, and none of the letters of entries
record IsApart (p : ℕ → Bool) : Type 0 where
  digits : (byte : ℕ) → is_digit byte ≡ true → p byte ≡ false
  flush : p 102 ≡ false
  reclaim : p 114 ≡ false
  end : p 122 ≡ false

mark-apart : IsApart begins_mark
mark-apart = record { digits = λ byte h. grind (arith, nat_tests); flush = refl; reclaim = refl; end = refl }

space-apart : IsApart is_space
space-apart = record { digits = λ byte h. grind (arith, nat_tests); flush = refl; reclaim = refl; end = refl }

feed-apart : IsApart (λ byte. byte == 10)
feed-apart = record { digits = λ byte h. grind (arith, nat_tests); flush = refl; reclaim = refl; end = refl }

decimal-none : (p : ℕ → Bool) (n : ℕ) → IsApart p → n < 2 ^ 64 → HasNone p (decimal n)
decimal-none p n a h = digits-none p (decimal n) a.digits (decimal-digits n h)

who-none : (p : ℕ → Bool) (w : Who) → IsApart p → IsWho w → HasNone p (who_text w)
who-none p (who.Session k) a h = decimal-none p k a (omega (arith, h.1))
who-none p (who.Flush row) a h = rw a.flush (decimal-none p row a (omega (arith, h.1)))
who-none p (who.Reclaim row) a h = rw a.reclaim (decimal-none p row a (omega (arith, h.1)))
who-none p who.End a h = rw a.end refl

mark-none : (p : ℕ → Bool) (m : Mark) → IsApart p → p 33 ≡ false → p 109 ≡ false → IsMark m → HasNone p (mark_text m)
mark-none p mark.Clear a e f h = refl
mark-none p (mark.Fault n) a e f h = rw e (decimal-none p n a h)
mark-none p (mark.NoMem n) a e f h = rw f (decimal-none p n a h)

session-read : (k : ℕ) → 1 ≤ k → k ≤ SESSIONS → who_of (decimal k) ≡ Some (who.Session k)
session-read k low high =
    let text : decimal k ≡ (48 + k) ∷ [] = decimal_digit k (omega arith) in
    let found : number_within 1 SESSIONS ((48 + k) ∷ []) ≡ Some k = ap (number_within 1 SESSIONS) (sym text) ∙ decimal-within 1 SESSIONS k (omega arith) low high in
    let flush : ((48 + k) == 102) ≡ false = grind (arith, nat_tests) in
    let reclaim : ((48 + k) == 114) ≡ false = grind (arith, nat_tests) in
    let end : ((48 + k) == 122) ≡ false = grind (arith, nat_tests) in
    ap who_of text ∙ (rw (flush, reclaim, end, found) refl)

who-read : (w : Who) → IsWho w → who_of (who_text w) ≡ Some w
who-read (who.Session k) h = session-read k h.0 h.1
who-read (who.Flush row) h = ap (option_map who.Flush) (decimal-within 1 ROWS row (omega (arith, h.1)) h.0 h.1)
who-read (who.Reclaim row) h = ap (option_map who.Reclaim) (decimal-within 1 ROWS row (omega (arith, h.1)) h.0 h.1)
who-read who.End h = refl

mark-read : (m : Mark) → IsMark m → mark_of (mark_text m) ≡ Some m
mark-read mark.Clear h = refl
mark-read (mark.Fault n) h = ap (option_map mark.Fault) (decimal-within 0 most_moved n h (omega arith) (omega (arith, h)))
mark-read (mark.NoMem n) h = ap (option_map mark.NoMem) (decimal-within 0 most_moved n h (omega arith) (omega (arith, h)))

-- the mark of an entry begins where its first byte stands that begins one
mark-place : (front : List ℕ) (m : Mark) → HasNone begins_mark front → position_or_len begins_mark (front ++ mark_text m) ≡ length front
mark-place front mark.Clear h = ap (position_or_len begins_mark) (append-nil front) ∙ place-none begins_mark front h
mark-place front (mark.Fault n) h = place-at begins_mark front 33 (decimal n) h refl
mark-place front (mark.NoMem n) h = place-at begins_mark front 109 (decimal n) h refl

pub entry-read : (entry : Entry) → IsEntry entry → entry_of (entry_text entry) ≡ Some entry
entry-read entry h =
    let front = who_text entry.who in
    let place = mark-place front entry.mark (who-none begins_mark entry.who mark-apart h.0) in
    let begin : take (position_or_len begins_mark (entry_text entry)) (entry_text entry) ≡ front =
    ap (λ n. take n (entry_text entry)) place ∙ take-append_seam front (mark_text entry.mark) in
    let end : drop (position_or_len begins_mark (entry_text entry)) (entry_text entry) ≡ mark_text entry.mark =
    ap (λ n. drop n (entry_text entry)) place ∙ drop-append_seam front (mark_text entry.mark) in
    ap₂ entry_with (ap who_of begin ∙ who-read entry.who h.0) (ap mark_of end ∙ mark-read entry.mark h.1)

entry-none : (p : ℕ → Bool) (entry : Entry) → IsApart p → p 33 ≡ false → p 109 ≡ false → IsEntry entry → HasNone p (entry_text entry)
entry-none p entry a e f h = none-append p (who_text entry.who) (mark_text entry.mark) (who-none p entry.who a h.0) (mark-none p entry.mark a e f h.1)

-- the texts of entries that spaces part
texts-split : (entry : Entry) (entries : List Entry) → IsEntry entry → All IsEntry entries →
    slice_split is_space (entry_text entry ++ flat_map entry_word entries) ≡ entry_text entry ∷ map entry_text entries
texts-split entry [] h k =
    ap (slice_split is_space) (append-nil (entry_text entry)) ∙ split-one is_space (entry_text entry) (entry-none is_space entry space-apart refl refl h)
texts-split entry (later ∷ entries) h k =
    split-at is_space (entry_text entry) 32 (entry_text later ++ flat_map entry_word entries) (entry-none is_space entry space-apart refl refl h) refl
    ∙ ap (λ texts. entry_text entry ∷ texts) (texts-split later entries (All-head IsEntry later entries k) (All-tail IsEntry later entries k))

words-split : (entries : List Entry) → All IsEntry entries → slice_split is_space (flat_map entry_word entries) ≡ [] ∷ map entry_text entries
words-split [] k = refl
words-split (entry ∷ entries) k = ap (λ texts. [] ∷ texts) (texts-split entry entries (All-head IsEntry entry entries k) (All-tail IsEntry entry entries k))

texts-read : (at : ℕ) (entries : List Entry) → All IsEntry entries → entries_from at (map entry_text entries) ≡ Ok entries
texts-read at [] k = refl
texts-read at (entry ∷ entries) k =
    ap₂ (entry_before at) (entry-read entry (All-head IsEntry entry entries k)) (texts-read (at + 1) entries (All-tail IsEntry entry entries k))

words-none : (entries : List Entry) → All IsEntry entries → HasNone (λ byte. byte == 10) (flat_map entry_word entries)
words-none [] k = refl
words-none (entry ∷ entries) k =
    none-append (λ byte. byte == 10) (entry_text entry) (flat_map entry_word entries)
    (entry-none (λ byte. byte == 10) entry feed-apart refl refl (All-head IsEntry entry entries k)) (words-none entries (All-tail IsEntry entry entries k))

last_byte-cons : (byte next : ℕ) (bytes : List ℕ) → last_byte (byte ∷ next ∷ bytes) ≡ last_byte (next ∷ bytes)
last_byte-cons byte next bytes = ap (λ n. get_or (byte ∷ next ∷ bytes) n 0) (let e : length (byte ∷ next ∷ bytes) - 1 ≡ suc (length (next ∷ bytes) - 1) = omega arith in e)

-- bytes without a line feed don't end with one
unended : (byte : ℕ) (bytes : List ℕ) → HasNone (λ b. b == 10) (byte ∷ bytes) → is_ended (byte ∷ bytes) ≡ false
unended byte [] h = or-first (byte == 10) false h
  where
    or-first : (x y : Bool) → (x || y) ≡ false → x ≡ false
    or-first true y h = absurd (cc)
    or-first false y h = refl
unended byte (next ∷ bytes) h = ap (λ b. b == 10) (last_byte-cons byte next bytes) ∙ unended next bytes (or-second (byte == 10) (list_any (λ b. b == 10) (next ∷ bytes)) h)
  where
    or-second : (x y : Bool) → (x || y) ≡ false → y ≡ false
    or-second true y h = absurd (cc)
    or-second false y h = h

last_byte-append : (held : List ℕ) (byte : ℕ) → last_byte (held ++ byte ∷ []) ≡ byte
last_byte-append held byte =
    ap (λ n. get_or (held ++ byte ∷ []) n 0) (let e : length (held ++ byte ∷ []) - 1 ≡ length held = omega (arith, length-append held (byte ∷ [])) in e)
    ∙ get_or-append_seam held byte [] 0

but_last-append : (held : List ℕ) (byte : ℕ) → but_last (held ++ byte ∷ []) ≡ held
but_last-append held byte =
    ap (λ n. take n (held ++ byte ∷ [])) (let e : length (held ++ byte ∷ []) - 1 ≡ length held = omega (arith, length-append held (byte ∷ [])) in e)
    ∙ take-append_seam held (byte ∷ [])

text-read : (schedule : List Entry) → All IsEntry schedule → entry_texts (schedule_text schedule) ≡ Some (map entry_text schedule)
text-read schedule k = rw (words-split schedule k) refl

pub schedule-read : PrintedScheduleIsRead
unfolding schedule_entries
schedule-read schedule k =
    let text = text-read schedule k in
    let read = texts-read 0 schedule k in
    let ends : is_ended (schedule_line schedule) ≡ true = ap (λ b. b == 10) (last_byte-append (schedule_text schedule) 10) in
    let bare : is_ended (schedule_text schedule) ≡ false = unended 35 (flat_map entry_word schedule) (words-none schedule k) in
    let cut : but_last (schedule_line schedule) ≡ schedule_text schedule = but_last-append (schedule_text schedule) 10 in
    (rw (ends, cut, text) read, rw (bare, text) read)
