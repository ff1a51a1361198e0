-- Lemmas on what a reader of lines holds.
use Rattle.std.proofs.Common.{◌≡◌, ◌≢◌, ℕ, ◌+◌, ◌-◌, ◌<◌, ◌≤◌, nat_lt, true, false, Option, Some, None, Result, Ok, Err, IfOk, IfSome, List, [], ◌∷◌, ◌++◌, length, drop, slice_range, refl, sym, ap, ◌∙◌, arith, append_assoc, append-nil, length-append, length-take, drop-drop, subst, le-ltb, lt-ltb, ltb-false, if◌then◌else◌}
use Rattle.std.proofs.lemmas.Bool.{both_ways, or_from, or_left, or_right, or_parts}
use Rattle.std.proofs.lemmas.List.{drop-take}
use Rattle.std.proofs.lemmas.List.Elements.{All-append}
use Rattle.std.proofs.KnownBytes.{Consumes-kept, Consumes-trans, prepend_known-nil}
use Rattle.std.specs.Io.KnownBytes.{Consumes, Keeps, prepend_known}
use Rattle.vfs_model.specs.Script.{raw_lines, without_return, is_bad_line, line_text}
use Rattle.dfs_input.specs.declared.line_reader.ReadStop.{ReadStop}
use Rattle.dfs_input.specs.declared.line_reader.ReadStop.TheVariants.{NoMemory, BadLine, Failed}
use Rattle.dfs_input.specs.LineReader.{HasNoFeed, Fills, HoldsAll, EndsLine, LastLine, ahead, TakesLine, ReadsLine, StopsInLine, StopsReading, StopsPastForm, StopsPastSize, StopsAtBadLine, StopsAtLastLine, ReaderState, BeginsBad, BeginsBadLine, is_past_form}
use Rattle.dfs_input.proofs.KnownLemmas.{consumed_input}
use Rattle.dfs_input.proofs.ScriptLemmas.{BeginsBad-past, BeginsBad-feed, BeginsBad-unended, raw_lines-feed, raw_lines-unended, is_ended-feed, whole_lines-unended, line_text-feed, line_text-unended, without_return-length}

-- fewer bytes of a part of a list
pub drop-slice_range : (xs : List ℕ) (from to count : ℕ) → from + count ≤ to → drop count (slice_range xs from to) ≡ slice_range xs (from + count) to
drop-slice_range xs from to count fits =
    let room : to - from ≡ count + (to - (from + count)) = omega arith in
    rw (room, drop-take count (to - (from + count)) (drop from xs), drop-drop) refl

pub length-slice_range : (xs : List ℕ) (from to : ℕ) → length (slice_range xs from to) ≤ to - from
length-slice_range xs from to = omega (arith, length-take (to - from) (drop from xs))

-- a line in the form that a line feed ends
pub is_bad_line-feed : (size : ℕ) (held : List ℕ) → is_past_form size held ≡ false → size + (length held + 1) ≤ 16777216 → is_bad_line size (held ++ 10 ∷ []) ≡ false
is_bad_line-feed size held within fits =
    let raw = held ++ 10 ∷ [] in
    let text : nat_lt 1024 (length (line_text raw)) ≡ false = rw line_text-feed (or_parts (nat_lt 1024 (length (without_return held))) (nat_lt 16777216 (size + length held)) within).0 in
    or_from (nat_lt 1024 (length (line_text raw))) (nat_lt 16777216 (size + length raw)) text (le-ltb 16777216 (size + length raw) (omega (arith, length-append held (10 ∷ []))))

-- it stops at bytes past the form, with more to come
pub StopsAtBadLine-past : (size : ℕ) (held part rest bytes : List ℕ) → HasNoFeed held → HasNoFeed part → size ≤ 16777216 → bytes ≡ part ++ rest
    → (stop : ReadStop) → StopsPastForm size (held ++ part) stop → StopsAtBadLine size (held ++ bytes) stop
StopsAtBadLine-past size held part rest bytes none none' within is NoMemory past = tt
StopsAtBadLine-past size held part rest bytes none none' within is BadLine past = λ more.
    let begins = BeginsBad-past size (held ++ part) (rest ++ more) (All-append (λ b. b ≢ 10) held part none none') within past in
    let joined : (held ++ part) ++ (rest ++ more) ≡ (held ++ bytes) ++ more = simp (is, append_assoc) in
    subst (BeginsBad size) joined begins
StopsAtBadLine-past size held part rest bytes none none' within is Failed past = past

-- it stops at a line that ends past the greatest size of an input
pub StopsAtBadLine-far : (size : ℕ) (held part rest bytes : List ℕ) → HasNoFeed held → HasNoFeed part → bytes ≡ part ++ 10 ∷ rest
    → (stop : ReadStop) → StopsPastSize (size + (length (held ++ part) + 1)) stop → StopsAtBadLine size (held ++ bytes) stop
StopsAtBadLine-far size held part rest bytes none none' is NoMemory far = absurd far
StopsAtBadLine-far size held part rest bytes none none' is BadLine far = λ more.
    let raw = (held ++ part) ++ 10 ∷ [] in
    let bad : is_bad_line size raw ≡ true =
    or_right (nat_lt 1024 (length (line_text raw))) (nat_lt 16777216 (size + length raw)) (lt-ltb 16777216 (size + length raw) (omega (arith, length-append (held ++ part) (10 ∷ [])))) in
    let begins = BeginsBad-feed size (held ++ part) (rest ++ more) (All-append (λ b. b ≢ 10) held part none none') bad in
    let joined : (held ++ part) ++ 10 ∷ (rest ++ more) ≡ (held ++ bytes) ++ more = simp (is, append_assoc) in
    subst (BeginsBad size) joined begins
StopsAtBadLine-far size held part rest bytes none none' is Failed far = far

-- a last line that is too long
pub BeginsBad-long : (size : ℕ) (held : List ℕ) → HasNoFeed held → 1024 < length held → BeginsBad size held
BeginsBad-long size held none long =
    let text : nat_lt 1024 (length (line_text held)) ≡ true = rw (line_text-unended held none) (lt-ltb 1024 (length held) long) in
    BeginsBad-unended size held none (omega arith) (or_left (nat_lt 1024 (length (line_text held))) (nat_lt 16777216 (size + length held)) text)

pub StopsAtLastLine-far : (size : ℕ) (held : List ℕ) → HasNoFeed held → 0 < length held → (stop : ReadStop) → StopsPastSize (size + length held) stop → StopsAtLastLine size held stop
StopsAtLastLine-far size held none some NoMemory far = far
StopsAtLastLine-far size held none some BadLine far =
    BeginsBad-unended size held none some (or_right (nat_lt 1024 (length (line_text held))) (nat_lt 16777216 (size + length held)) (lt-ltb 16777216 (size + length held) far))
StopsAtLastLine-far size held none some Failed far = far

-- first bytes of a line came since the reader was as at first: `held`, and `after` is what the source has left
pub record Holding (first now : ReaderState) (before after : Option (List ℕ)) (held : List ℕ) : Type 0 where
  pub number : now.number ≡ first.number
  pub size : now.size ≡ first.size
  pub consumes : Consumes (ahead first before) (ahead now after) held
  pub unended : HasNoFeed held
  pub small : length held ≤ 1025
  pub form : first.size ≤ 16777216 → is_past_form first.size held ≡ false

-- bytes that may begin a line in the form are few
pub few : (size : ℕ) (held : List ℕ) → is_past_form size held ≡ false → (length held ≤ 1025) × (size + length held ≤ 16777216)
few size held within =
    let parts = or_parts (nat_lt 1024 (length (without_return held))) (nat_lt 16777216 (size + length held)) within in
    (omega (arith, (without_return-length held).1, ltb-false 1024 (length (without_return held)) parts.0), omega (arith, ltb-false 16777216 (size + length held) parts.1))

-- bytes from the front of the buffered ones are those that come first
pub Consumes-front : (old new : ReaderState) (left : Option (List ℕ)) (front : List ℕ) → old.buffered ≡ front ++ new.buffered → new.at_end ≡ old.at_end
    → Consumes (ahead old left) (ahead new left) front
Consumes-front old new left front is same =
    let unread = if old.at_end then Some [] else left in
    let joined : (u : Option (List ℕ)) → Consumes (prepend_known (front ++ new.buffered) u) (prepend_known new.buffered u) front =
    λ u. elim u as (λ u. Consumes (prepend_known (front ++ new.buffered) u) (prepend_known new.buffered u) front) [ None ↦ tt | Some xs ↦ append_assoc front new.buffered xs ] in
    rw (is, same) (joined unread)

-- the first line is one that a line feed ends
pub TakesLine-feed : (before after : Option (List ℕ)) (held : List ℕ) → HasNoFeed held → Consumes before after (held ++ 10 ∷ []) → TakesLine before after (held ++ 10 ∷ [])
TakesLine-feed before after held none consumes = λ rest is.
    (consumed_input before after (held ++ 10 ∷ []) consumes rest is, ap raw_lines (append_assoc held (10 ∷ []) rest) ∙ raw_lines-feed held rest none)

-- the first line is the last one, without a line feed
pub TakesLine-last : (before : Option (List ℕ)) (held : List ℕ) → HasNoFeed held → 0 < length held → Consumes before (Some []) held → TakesLine before (Some []) held
TakesLine-last before held none some consumes = λ rest is.
    let gone : [] ≡ rest = is in
    let alone : raw_lines (held ++ []) ≡ held ∷ [] = ap raw_lines (append-nil held) ∙ raw_lines-unended held none some in
    (consumed_input before (Some []) held consumes rest is, subst (λ (l : List ℕ). raw_lines (held ++ l) ≡ held ∷ raw_lines l) gone alone)

-- a source that tells what it has still tells it behind the line
pub TakesLine-told : (bytes raw : List ℕ) → TakesLine (Some bytes) None raw → ⊥
TakesLine-told bytes raw takes =
    let none : bytes ≡ raw ++ [] = (takes [] tt).0 in
    let one : bytes ≡ raw ++ 0 ∷ [] = (takes (0 ∷ []) tt).0 in
    omega (arith, ap length (sym none ∙ one), length-append raw [], length-append raw (0 ∷ []))

-- bytes that came, and whatever follows them, begin with a bad line
pub BeginsBadLine-front : (size : ℕ) (told left : Option (List ℕ)) (held front : List ℕ) → Consumes told (prepend_known front left) held
    → ((more : List ℕ) → BeginsBad size ((held ++ front) ++ more)) → BeginsBadLine size told
BeginsBadLine-front size None left held front consumes begins = record { bytes = (held ++ front) ++ []; input = tt; begins = begins [] }
BeginsBadLine-front size (Some known) None held front consumes begins = absurd consumes
BeginsBadLine-front size (Some known) (Some more) held front consumes begins =
    record { bytes = known; input = refl; begins = subst (BeginsBad size) (append_assoc held front more ∙ sym consumes) (begins more) }

pub Holding-filled : {first now mid : ReaderState} {before left after : Option (List ℕ)} {held : List ℕ} → Holding first now before left held → Fills now mid left after → Holding first mid before after held
Holding-filled {first} {now} {mid} {before} {left} {after} {held} holding fills = record {
  number = fills.number ∙ holding.number;
  size = fills.size ∙ holding.size;
  consumes = Consumes-kept (ahead first before) (ahead now left) (ahead mid after) held holding.consumes fills.keeps;
  unended = holding.unended;
  small = holding.small;
  form = holding.form;
}

pub HoldsAll-some : {now new : ReaderState} {held line : List ℕ} → HoldsAll now new held line → 0 < length now.buffered → line ≡ [] → ⊥
HoldsAll-some {now} {new} {held} all some none = omega (arith, ap length (sym none ∙ all.line), length-append held now.buffered)

module _ {first now : ReaderState} {before after : Option (List ℕ)} {held : List ℕ} (holding : Holding first now before after held) where
  taken : (new : ReaderState) (part : List ℕ) → now.buffered ≡ part ++ new.buffered → new.at_end ≡ now.at_end → Consumes (ahead first before) (ahead new after) (held ++ part)
  taken new part is same = Consumes-trans (ahead first before) (ahead now after) (ahead new after) held part holding.consumes (Consumes-front now new after part is same)

  -- all that was buffered goes on the line
  pub Holding-more : {new : ReaderState} {line : List ℕ} → HoldsAll now new held line → Holding first new before after line
  Holding-more {new} {line} all =
      let few = few now.size line all.form in
      record {
        number = ap (λ (r : ReaderState). r.number) all.reader ∙ holding.number;
        size = ap (λ (r : ReaderState). r.size) all.reader ∙ holding.size;
        consumes = rw all.line (taken new now.buffered (rw all.reader (sym (append-nil now.buffered))) (ap (λ (r : ReaderState). r.at_end) all.reader));
        unended = rw all.line (All-append (λ b. b ≢ 10) held now.buffered holding.unended all.unended);
        small = few.0;
        form = λ _. rw (sym holding.size) all.form;
      }

  -- a line feed that was buffered ends the line
  pub ReadsLine-feed : {new : ReaderState} {line : List ℕ} → EndsLine now new held line → new.at_end ≡ now.at_end → ReadsLine first new before after line
  ReadsLine-feed {new} ends same =
      let whole = held ++ ends.part in
      let none = All-append (λ b. b ≢ 10) held ends.part holding.unended ends.unended in
      let both = taken new (ends.part ++ 10 ∷ []) (ends.feed ∙ sym (append_assoc ends.part (10 ∷ []) new.buffered)) same in
      record {
        raw = whole ++ 10 ∷ [];
        some = omega (arith, length-append whole (10 ∷ []));
        single = raw_lines-feed whole [] none;
        text = ends.text ∙ sym (line_text-feed whole);
        form = rw (sym holding.size) ends.form;
        takes = TakesLine-feed (ahead first before) (ahead new after) whole none (rw append_assoc both);
        ended = λ _. is_ended-feed whole;
        number = ends.number ∙ ap (λ n. n + 1) holding.number;
        size = ends.size ∙ ap (λ n. n + length (whole ++ 10 ∷ [])) holding.size;
        within = ends.within;
      }

  -- the end of the input ends the line
  pub ReadsLine-last : {new : ReaderState} {line : List ℕ} → now.buffered ≡ [] → now.at_end ≡ true → LastLine now new held line → ReadsLine first new before after line
  ReadsLine-last {new} empty end last =
      let ended : new.at_end ≡ true = ap (λ (r : ReaderState). r.at_end) last.reader ∙ end in
      let rest : new.buffered ≡ [] = ap (λ (r : ReaderState). r.buffered) last.reader ∙ empty in
      record {
        raw = held;
        some = last.some;
        single = raw_lines-unended held holding.unended last.some;
        text = last.text ∙ sym (line_text-unended held holding.unended);
        form = rw (sym holding.size) last.form;
        takes = rw (rest, ended) (TakesLine-last (ahead first before) held holding.unended last.some (rw (empty, end) at holding.consumes));
        ended = λ no. absurd (both_ways new.at_end no ended);
        number = ap (λ (r : ReaderState). r.number) last.reader ∙ ap (λ n. n + 1) holding.number;
        size = ap (λ (r : ReaderState). r.size) last.reader ∙ ap (λ n. n + length held) holding.size;
        within = last.within;
      }

  -- the next line is bad
  pub StopsReading-bad : (new : ReaderState) (stop : ReadStop) → StopsAtBadLine now.size (held ++ now.buffered) stop → StopsReading first new before after stop
  StopsReading-bad new NoMemory stops = tt
  StopsReading-bad new BadLine stops =
      BeginsBadLine-front first.size (ahead first before) (if now.at_end then Some [] else after) held now.buffered holding.consumes (rw (sym holding.size) stops)
  StopsReading-bad new Failed stops = absurd stops

-- the answer at the end of the input
pub line-last : {first now : ReaderState} {before after : Option (List ℕ)} {held : List ℕ} → Holding first now before after held → now.buffered ≡ [] → now.at_end ≡ true
    → (new : ReaderState) (result : Result (Option (List ℕ)) ReadStop) → IfOk result (λ line. IfSome line (LastLine now new held)) → IfOk result (λ line. IfSome line (ReadsLine first new before after))
line-last holding empty end new (Ok (Some line)) last = ReadsLine-last holding empty end last
line-last holding empty end new (Ok None) last = tt
line-last holding empty end new (Err stop) last = tt

-- the source failed
pub StopsInLine-failed : {first now : ReaderState} {before left after : Option (List ℕ)} {held : List ℕ} → Holding first now before left held
    → first.size ≤ 16777216 → now.buffered ≡ [] → now.at_end ≡ false → Keeps left after → StopsInLine first now before after
StopsInLine-failed {first} {now} {before} {left} {after} {held} holding within empty more keeps = record {
  partial = held;
  consumes = Consumes-kept (ahead first before) left after held (rw (empty, more, prepend_known-nil) at holding.consumes) keeps;
  unended = whole_lines-unended held holding.unended;
  form = holding.form within;
  buffered = empty;
  at_end = more;
}
