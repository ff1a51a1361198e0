-- Steps of a character device, by what its calls move.
use Rattle.std.specs.Prelude.{◌≡◌, ℕ, ◌-◌, ◌≤◌, ◌==◌, ◌&&◌, ◌||◌, Bool, true, false, nat_lt, min, Option, Some, None, option_map, IfSome, List, [], ◌++◌, length, take, replicate, refl}
use Rattle.std.proofs.Common.{sym, ◌∙◌, ap, subst, arith, rules}
use Rattle.std.proofs.lemmas.Bool.Decides.{nat_tests}
use Rattle.std.proofs.lemmas.List.{length-append, length-replicate, length-take-le}
use Rattle.vfs_base.specs.declared.entry.Mark.{Mark}
use Rattle.vfs_base.specs.declared.entry.Mark.TheVariants as mark
use Rattle.vfs_base.specs.declared.errno.Errno.TheVariants as errno
use Rattle.vfs_base.specs.declared.reply.Reply.{Reply}
use Rattle.vfs_base.specs.declared.reply.Reply.TheVariants as reply
use Rattle.vfs_base.specs.declared.step.Step.{Step}
use Rattle.vfs_base.specs.declared.step.Step.TheVariants as step
use Rattle.vfs_base.specs.declared.ids.FileId.{FileId}
use Rattle.vfs_model.specs.FileMoves.{move_device}
use Rattle.vfs_model.specs.FileStep.{FileOutcome, count_of, device_count}
use Rattle.vfs_model.specs.declared.world.FileState.{FileState}
use Rattle.vfs_model.specs.declared.world.FileState.TheVariants as file
use Rattle.vfs_outside.specs.Chars.{CharsContents, behind_read, behind_write}
use Rattle.cell_file.specs.CellFile.{moved_under}
use Rattle.cell_file.proofs.Flat.{take-over}
use Rattle.file_row.specs.Passed.{MayTell, PassesChars, ReadsChars, Takes, WritesChars, answer_under, is_short, left_under, may_stop}
use Rattle.file_row.specs.Row.{Char, CharsState, device_file}
use Rattle.file_row.specs.Steps.{MayHave}
use Rattle.file_row.proofs.Passing.{taken}
use Rattle.file_row.proofs.Witnesses.{left-same}

pub row-tells : (generation : ℕ) (device : CharsState) (held : CharsContents) → MayTell device held → MayHave (record { generation = generation; file = Char device }) (device_file generation held)
row-tells generation device held may = record { shape = refl; told = by device.contents may }
  where
    by : (o : Option CharsContents) → IfSome o (λ t. held ≡ t) → IfSome (option_map (device_file generation) o) (λ t. device_file generation held ≡ t)
    by None e = tt
    by (Some t) e = ap (device_file generation) e

pub tells-changed : (old new : CharsState) (change : CharsContents → CharsContents) (held : CharsContents) → MayTell old held → new.contents ≡ option_map change old.contents → MayTell new (change held)
tells-changed old new change held may told = rw told (by old.contents may)
  where
    by : (o : Option CharsContents) → IfSome o (λ t. held ≡ t) → IfSome (option_map change o) (λ t. change held ≡ t)
    by None e = tt
    by (Some t) e = ap change e

and-true : (t : Bool) → t ≡ true → t && true ≡ true
and-true t e = rw e refl

starves-at-none : (t s : Bool) → t ≡ true → (t || s) && (t || false) ≡ true
starves-at-none t s e = rw e refl

stops-short : (generation count : ℕ) (held : CharsContents) (asked : Step) (m : Mark) → count ≡ count_of (device_file generation held) asked → is_short m count ≡ true →
    may_stop (device_file generation held) asked m ≡ true
stops-short generation count held asked mark.Clear same short = refl
stops-short generation count held asked (mark.Fault moved) same short = and-true _ (subst (λ n. (moved == 0 || nat_lt moved n) ≡ true) same short)
stops-short generation count held asked (mark.NoMem moved) same short = starves-at-none (moved == 0) (nat_lt moved (count_of (device_file generation held) asked)) short

-- a step of the row, by what it moves to or from the device
device-takes : {count : CharsContents → ℕ} {answered : CharsContents → ℕ → Reply} {becomes : CharsContents → ℕ → CharsContents} {old new : CharsState} {answer : Reply} {m : Mark} (generation : ℕ) (asked : Step) →
    ((held : CharsContents) → count held ≡ device_count held.input asked) →
    ((held : CharsContents) (n : ℕ) → move_device generation held.input held.output asked n ≡ record { reply = answered held n; next = device_file generation (becomes held n) }) →
    ((held : CharsContents) (n : ℕ) → n ≡ 0 → becomes held n ≡ held) → PassesChars count answered becomes old new answer m → Takes generation (Char old) (Char new) asked answer m
device-takes generation asked same moves none h = by h same moves none
  where
    by : {count : CharsContents → ℕ} {answered : CharsContents → ℕ → Reply} {becomes : CharsContents → ℕ → CharsContents} {old new : CharsState} {answer : Reply} {m : Mark} →
        PassesChars count answered becomes old new answer m → ((held : CharsContents) → count held ≡ device_count held.input asked) →
        ((held : CharsContents) (n : ℕ) → move_device generation held.input held.output asked n ≡ record { reply = answered held n; next = device_file generation (becomes held n) }) →
        ((held : CharsContents) (n : ℕ) → n ≡ 0 → becomes held n ≡ held) → Takes generation (Char old) (Char new) asked answer m
    by {count} {answered} {becomes} {old} {new} {answer} {m} h same moves none =
        let f : FileState = device_file generation h.held in
        let n : ℕ = moved_under m (count h.held) in
        let whole : move_device generation h.held.input h.held.output asked (moved_under m (count_of f asked)) ≡ record { reply = answered h.held n; next = device_file generation (becomes h.held n) } =
        ap (λ k. move_device generation h.held.input h.held.output asked (moved_under m k)) (sym (same h.held)) ∙ moves h.held n in
        taken f asked m (row-tells generation old h.held h.before) (stops-short generation (count h.held) h.held asked m (same h.held) h.within)
        (h.answers ∙ ap (λ (o : FileOutcome). answer_under m o.reply) (sym whole))
        (subst (MayHave (record { generation = generation; file = Char new }))
        (sym (left-same m (count h.held) f (device_file generation (becomes h.held n)) (λ e. ap (device_file generation) (none h.held n e))) ∙ ap (λ (o : FileOutcome). left_under m f o.next) (sym whole))
        (row-tells generation new (becomes h.held n) h.after))

pub reads-take : {old new : CharsState} {answer : Reply} {m : Mark} (generation off len : ℕ) (id : FileId) → ReadsChars len old new answer m →
    Takes generation (Char old) (Char new) (step.Read id off len) answer m
reads-take generation off len id h = device-takes generation (step.Read id off len) (λ held. refl) (λ held n. refl) (λ held n e. ap (λ k. behind_read k held) e) h

append-nothing : (held : CharsContents) (piece : List ℕ) (n : ℕ) → n ≡ 0 → behind_write (take n piece) held ≡ held
append-nothing held piece n none = rw none (ap (λ xs. let c : CharsContents = record { input = held.input; output = xs } in c) (nil held.output))
  where
    nil : (xs : List ℕ) → xs ++ [] ≡ xs
    nil xs = search rules

pub writes-take : {old new : CharsState} {answer : Reply} {m : Mark} (generation off : ℕ) (piece : List ℕ) (id : FileId) → WritesChars piece old new answer m →
    Takes generation (Char old) (Char new) (step.Write id off piece) answer m
writes-take generation off piece id h = device-takes generation (step.Write id off piece) (λ held. refl) (λ held n. refl) (λ held n e. append-nothing held piece n e) h

pub appends-take : {old new : CharsState} {answer : Reply} {m : Mark} (generation : ℕ) (piece : List ℕ) (id : FileId) → WritesChars piece old new answer m →
    Takes generation (Char old) (Char new) (step.Append id piece) answer m
appends-take generation piece id h = device-takes generation (step.Append id piece) (λ held. refl) (λ held n. refl) (λ held n e. append-nothing held piece n e) h

-- So many bytes were read into room for so many at most.
pub record ReadsInto (len n most : ℕ) (out : List ℕ) (m : Mark) : Type 0 where
  pub low : n ≤ most
  pub bounded : most ≤ len
  pub inside : n ≤ length out
  pub short : is_short m most ≡ true
  pub moved : moved_under m most ≡ n

-- what was read, where the device tells it
abbrev pub SeesRead : ℕ → ℕ → List ℕ → Mark → Option CharsContents → Type 0
SeesRead len n out m o = IfSome o (λ told. (is_short m (min len (length told.input)) ≡ true) × (moved_under m (min len (length told.input)) ≡ n) × (take n out ≡ take n told.input))

-- bytes were read, so many of those that there is room for
pub chars-read : {old new : CharsState} {len n most : ℕ} {out : List ℕ} {m : Mark} → ReadsInto len n most out m → SeesRead len n out m old.contents →
    new.contents ≡ option_map (behind_read n) old.contents → ReadsChars len old new (answer_under m (reply.Got (take n out))) m
chars-read {old} room seen told = by old.contents refl room seen told
  where
    by : {old new : CharsState} {len n most : ℕ} {out : List ℕ} {m : Mark} (o : Option CharsContents) → old.contents ≡ o → ReadsInto len n most out m → SeesRead len n out m old.contents →
        new.contents ≡ option_map (behind_read n) old.contents → ReadsChars len old new (answer_under m (reply.Got (take n out))) m
    by {old} {new} {len} {n} {most} {out} {m} (Some t) e room seen told =
        let fact = rw e at seen in record {
          held = t;
          before = rw e refl;
          within = fact.0;
          answers = ap (λ xs. answer_under m (reply.Got xs)) (fact.2 ∙ ap (λ k. take k t.input) (sym fact.1));
          after = subst (λ k. MayTell new (behind_read k t)) (sym fact.1) (tells-changed old new (behind_read n) t (rw e refl) told);
        }
    by {old} {new} {len} {n} {most} {out} {m} None e room seen told =
        let piece : List ℕ = take n out in
        let back : List ℕ = replicate (most - n) 0 in
        let long : length piece ≡ n = length-take-le n out room.inside in
        let behind : length back ≡ most - n = length-replicate (most - n) 0 in
        let all : length (piece ++ back) ≡ most = let two = length-append piece back in let low = room.low in omega (arith, long, behind, two, low) in
        let count : min len (length (piece ++ back)) ≡ most = let bounded = room.bounded in omega (arith, all, bounded) in
        let held : CharsContents = record { input = piece ++ back; output = [] } in
        let is : moved_under m (min len (length held.input)) ≡ n = ap (moved_under m) count ∙ room.moved in
        let front : take n (piece ++ back) ≡ piece = take-over piece back 0 n (omega (arith, long)) ∙ nil piece back in record {
          held = held;
          before = rw e tt;
          within = subst (λ k. is_short m k ≡ true) (sym count) room.short;
          answers = ap (λ xs. answer_under m (reply.Got xs)) (sym (ap (λ k. take k held.input) is ∙ front));
          after = rw (told ∙ ap (option_map (behind_read n)) e) tt;
        }
      where
        nil : (xs back : List ℕ) → xs ++ take 0 back ≡ xs
        nil xs back = search rules

-- a piece was written, or a part of it
pub chars-written : (old new : CharsState) (piece : List ℕ) (m : Mark) → is_short m (length piece) ≡ true →
    new.contents ≡ option_map (behind_write (take (moved_under m (length piece)) piece)) old.contents →
    WritesChars piece old new (answer_under m (reply.Count (moved_under m (length piece)) 0)) m
chars-written old new piece m short told = by old.contents refl
  where
    by : (o : Option CharsContents) → old.contents ≡ o → WritesChars piece old new (answer_under m (reply.Count (moved_under m (length piece)) 0)) m
    by (Some t) e = record {
      held = t;
      before = rw e refl;
      within = short;
      answers = refl;
      after = tells-changed old new (behind_write (take (moved_under m (length piece)) piece)) t (rw e refl) told;
    }
    by None e = record {
      held = record { input = []; output = [] };
      before = rw e tt;
      within = short;
      answers = refl;
      after = rw (told ∙ ap (option_map (behind_write (take (moved_under m (length piece)) piece))) e) tt;
    }

-- memory was wanting for what would be read
pub chars-starved : (len : ℕ) (device : CharsState) → ReadsChars len device device (reply.Refused errno.ENOMEM) (mark.NoMem 0)
chars-starved len device = by device.contents refl
  where
    by : (o : Option CharsContents) → device.contents ≡ o → ReadsChars len device device (reply.Refused errno.ENOMEM) (mark.NoMem 0)
    by (Some t) e = record { held = t; before = rw e refl; within = refl; answers = refl; after = rw e refl }
    by None e = record { held = record { input = []; output = [] }; before = rw e tt; within = refl; answers = refl; after = rw e tt }

-- a step that the device has no part in
pub device-idles : (generation : ℕ) (asked : Step) (device : CharsState) → ((input output : List ℕ) → device_count input asked ≡ 0) →
    ((input output : List ℕ) (n : ℕ) → move_device generation input output asked n ≡ record { reply = reply.Done; next = device_file generation (record { input = input; output = output }) }) →
    Takes generation (Char device) (Char device) asked reply.Done mark.Clear
device-idles generation asked device none moves = by device.contents refl
  where
    with-held : (held : CharsContents) → MayTell device held → Takes generation (Char device) (Char device) asked reply.Done mark.Clear
    with-held held may =
        let idle : PassesChars (λ held. 0) (λ held n. reply.Done) (λ held n. held) device device reply.Done mark.Clear =
        record { held = held; before = may; within = refl; answers = refl; after = may } in
        device-takes generation asked (λ held. sym (none held.input held.output)) (λ held n. moves held.input held.output n) (λ held n e. refl) idle

    by : (o : Option CharsContents) → device.contents ≡ o → Takes generation (Char device) (Char device) asked reply.Done mark.Clear
    by (Some t) e = with-held t (rw e refl)
    by None e = with-held (record { input = []; output = [] }) (rw e tt)

-- a transfer that was stopped moved fewer than this
pub less-short : (n most : ℕ) → n ≤ most - 1 → (n == 0 || nat_lt n most) ≡ true
less-short n most low = grind (arith, nat_tests)

-- a read moved what there was room for, where the device tells it
pub read-seen : (o : Option CharsContents) (len room n : ℕ) (out : List ℕ) → IfSome o (λ t. room ≡ min len (length t.input)) → IfSome o (λ t. n ≡ min room (length t.input)) →
    IfSome o (λ t. take n out ≡ take n t.input) →
    IfSome o (λ t. (is_short mark.Clear (min len (length t.input)) ≡ true) × (moved_under mark.Clear (min len (length t.input)) ≡ n) × (take n out ≡ take n t.input))
read-seen None len room n out a b e = tt
read-seen (Some t) len room n out a b e = (refl, omega (arith, a, b), e)

pub stop-seen : (o : Option CharsContents) (len room n : ℕ) (out : List ℕ) → IfSome o (λ t. room ≡ min len (length t.input)) → IfSome o (λ t. n ≤ min room (length t.input) - 1) →
    IfSome o (λ t. take n out ≡ take n t.input) →
    IfSome o (λ t. (is_short (mark.Fault n) (min len (length t.input)) ≡ true) × (moved_under (mark.Fault n) (min len (length t.input)) ≡ n) × (take n out ≡ take n t.input))
stop-seen None len room n out a b e = tt
stop-seen (Some t) len room n out a b e = (less-short n (min len (length t.input)) (omega (arith, a, b)), refl, e)

-- What a step moves that is none of a character device.
pub record IsNoTransfer (asked : Step) : Type 0 where
  pub none : (input output : List ℕ) → device_count input asked ≡ 0
  pub moves : (generation : ℕ) (input output : List ℕ) (n : ℕ) → move_device generation input output asked n ≡ record { reply = reply.Done; next = file.Device generation input output }

pub is-no-transfer : (asked : Step) → ((id : FileId) (off len : ℕ) → asked ≡ step.Read id off len → ⊥) → ((id : FileId) (off : ℕ) (bytes : List ℕ) → asked ≡ step.Write id off bytes → ⊥) →
    ((id : FileId) (bytes : List ℕ) → asked ≡ step.Append id bytes → ⊥) → IsNoTransfer asked
is-no-transfer (step.Read id off len) a b c = absurd (a id off len refl)
is-no-transfer (step.Write id off bytes) a b c = absurd (b id off bytes refl)
is-no-transfer (step.Append id bytes) a b c = absurd (c id bytes refl)
is-no-transfer _ a b c = record { none = λ input output. refl; moves = λ generation input output n. refl }
