-- `cp` leaves the bytes of one file in another.
use Rattle.std.proofs.Common.{◌≡◌, ℕ, zero, suc, ◌+◌, ◌-◌, ◌<◌, ◌≤◌, Bool, true, false, ◌&&◌, nat_lt, nat_le, min, is_ok, List, [], ◌∷◌, ◌++◌, length, take, drop, Result, Ok, Err, if◌then◌else◌, refl, sym, ap, subst, ◌∙◌, arith}
use Rattle.std.proofs.lemmas.Bool.Decides.{nat_tests}
use Rattle.std.proofs.lemmas.List.{length-take-le, take_all}
use Rattle.std.proofs.Math.Seq.{drop-length, take-add, take-length}
use Rattle.vfs_base.specs.declared.entry.Mark.TheVariants as mark
use Rattle.vfs_base.specs.declared.errno.Errno.{Errno}
use Rattle.vfs_base.specs.declared.errno.Errno.TheVariants as errno
use Rattle.vfs_base.specs.declared.kinds.Kind.{Kind}
use Rattle.vfs_base.specs.declared.kinds.Kind.TheVariants as kind
use Rattle.vfs_base.specs.declared.limits.TheConstants.{PAGE_SIZE}
use Rattle.vfs_base.specs.declared.reply.Reply.{Reply}
use Rattle.vfs_base.specs.declared.reply.Reply.TheVariants as reply
use Rattle.vfs_base.specs.declared.step.Step.TheVariants as step
use Rattle.vfs_model.specs.CommandLaws.{Catted}
use Rattle.vfs_model.specs.CopyCommands.{CopyStage, Reads, close_both, copy_bytes, copy_cut, copy_fails, copy_left, copy_round, copy_step, is_cut, same_file}
use Rattle.vfs_model.specs.CopyLaws.{AreCopies, Copied, CopyMoves, destination_file, source_file}
use Rattle.vfs_model.specs.FileMoves.{clear_step, file_step, write_bytes}
use Rattle.vfs_model.specs.FileStep.{FileOutcome, file_refusals, full_errno, is_rom, moved_count, trunc_refusals, write_refusals, written_at}
use Rattle.vfs_model.specs.Mappings.{is_chr}
use Rattle.vfs_model.specs.OpenFiles.{moved_offset, place_max}
use Rattle.vfs_model.specs.Talk.{After, Again, Answer, Round, Talk, ask_holding, ask_in_turn, round_talk}
use Rattle.vfs_model.specs.declared.shell_state.ShellState.{ShellState}
use Rattle.vfs_model.proofs.EchoedTexts.{appended, refused-never, same-generation, second-false}
use Rattle.vfs_model.proofs.ShownFiles.{piece-length, read-bytes}

cut-writable : (kind : Kind) → is_cut kind ≡ true → is_rom kind ≡ false
cut-writable kind.Tmp e = refl
cut-writable kind.Cell e = refl
cut-writable kind.Rom e = absurd (cc)
cut-writable kind.Chr e = refl

abbrev as_catted : Copied → Catted
as_catted e = record { word = e.src.word; hold = e.src.hold; file = e.src.file; kind = e.src.kind; capacity = e.held; bytes = e.bytes }

-- a write behind the last byte of the destination
module _ (e : Copied) (done : List ℕ) (byte : ℕ) (piece : List ℕ) (writable : is_rom e.dst.kind ≡ false)
    (room : length done + length (byte ∷ piece) ≤ e.room) where
  abbrev outcome : List ℕ → FileOutcome
  outcome written = record {
    reply = reply.Count (length (byte ∷ piece)) (length done + length (byte ∷ piece));
    next = destination_file e written;
  }

  not-full : nat_le e.room (length done) ≡ false
  not-full = let below : length done < e.room = omega (arith, room) in grind (arith, nat_tests, below)

  passes : file_refusals (destination_file e done) (step.Write e.dst.file (length done) (byte ∷ piece)) ≡ Ok tt
  unfolding file_refusals
  passes =
      ap (λ (test : Bool). if test then write_refusals e.dst.kind e.room (length done) (byte ∷ piece) else Err errno.ENOENT) (same-generation e.dst.file)
      ∙ refused-never errno.EROFS (full_errno e.dst.kind) (is_rom e.dst.kind) (nat_lt 0 (length (byte ∷ piece)) && nat_le e.room (length done)) writable
      (second-false (nat_lt 0 (length (byte ∷ piece))) (nat_le e.room (length done)) not-full)

  moves-all : moved_count (destination_file e done) (step.Write e.dst.file (length done) (byte ∷ piece)) ≡ length (byte ∷ piece)
  unfolding moved_count
  moves-all =
      let all : min (length (byte ∷ piece)) (e.room - length done) ≡ length (byte ∷ piece) = omega (arith, room) in
      ap (λ (r : Result (Unit {0}) Errno). if is_ok r then min (length (byte ∷ piece)) (e.room - length done) else 0) passes ∙ all

  written-behind : file_step (destination_file e done) (step.Write e.dst.file (length done) (byte ∷ piece)) mark.Clear ≡ outcome (done ++ byte ∷ piece)
  unfolding file_step
  written-behind =
      ap (λ (r : Result (Unit {0}) Errno). clear_step (destination_file e done) (step.Write e.dst.file (length done) (byte ∷ piece)) r) passes
      ∙ ap (λ count. write_bytes e.dst.file.generation e.dst.kind e.room done (length done) (byte ∷ piece) count) moves-all
      ∙ ap (λ (moved : List ℕ). outcome (written_at (length done) moved done)) (take-length (byte ∷ piece))
      ∙ ap outcome (appended byte piece done)

-- all bytes of the destination go
cut-passes : (e : Copied) → is_rom e.dst.kind ≡ false → file_refusals (destination_file e e.old) (step.Trunc e.dst.file 0) ≡ Ok tt
unfolding file_refusals
cut-passes e writable =
    let fits : nat_lt e.room 0 ≡ false = grind (arith, nat_tests) in
    ap (λ (test : Bool). if test then trunc_refusals e.dst.kind e.room 0 else Err errno.ENOENT) (same-generation e.dst.file)
    ∙ refused-never errno.EROFS (full_errno e.dst.kind) (is_rom e.dst.kind) (nat_lt e.room 0) writable fits

cut-all : (e : Copied) → is_rom e.dst.kind ≡ false →
    file_step (destination_file e e.old) (step.Trunc e.dst.file 0) mark.Clear ≡ record { reply = reply.Done; next = destination_file e [] }
unfolding file_step
cut-all e writable = ap (λ (r : Result (Unit {0}) Errno). clear_step (destination_file e e.old) (step.Trunc e.dst.file 0) r) (cut-passes e writable)

-- the copy from an offset on, and the replies that lead to its end
abbrev copying : Copied → CopyStage → Talk
copying e spot = ask_in_turn (step.Close e.src.hold ∷ step.Close e.dst.hold ∷ []) (copy_step e.src e.dst) (copy_round e.src e.dst) spot

record Copies (e : Copied) (state : ShellState) (offset : ℕ) : Type 0 where
  replies : List Reply
  moves : AreCopies e (destination_file e (take offset e.bytes)) offset replies (destination_file e e.bytes)
  ends : (more : List Reply) → copying e (Reads offset) state (replies ++ more) ≡ close_both e.src e.dst [] state more

-- once a piece is written the next one is read
left-nothing : (e : Copied) (offset : ℕ) (left : List ℕ) → is_chr e.src.kind ≡ false → left ≡ [] →
    copy_left e.src e.dst offset left ≡ Again (Reads offset)
left-nothing e offset [] plain h =
    ap (λ (chr : Bool). if chr then After (close_both e.src e.dst []) else Again (Reads offset)) plain
left-nothing e offset (byte ∷ left) plain h = absurd (cc)

module _ (e : Copied) (state : ShellState) (plain : is_chr e.src.kind ≡ false) (writable : is_rom e.dst.kind ≡ false)
    (fits : length e.bytes ≤ e.room) (small : length e.bytes ≤ place_max) where
  abbrev piece_at : ℕ → List ℕ
  piece_at offset = take (min PAGE_SIZE (length e.bytes - offset)) (drop offset e.bytes)

  reads-so : (offset : ℕ) → (file_step (source_file e) (step.Read e.src.file offset PAGE_SIZE) mark.Clear).reply ≡ reply.Got (piece_at offset)
  reads-so offset = read-bytes (as_catted e) state plain small offset

  size-so : (offset : ℕ) → length (piece_at offset) ≡ min PAGE_SIZE (length e.bytes - offset)
  size-so offset = piece-length (as_catted e) state plain small offset

  nothing-more : (offset : ℕ) → [] ≡ piece_at offset → Copies e state offset
  nothing-more offset p =
      let none : 0 ≡ length (piece_at offset) = ap length p in
      let past : length e.bytes ≤ offset = omega (arith, none, size-so offset) in
      record {
        replies = reply.Got [] ∷ [];
        moves = (ap reply.Got p ∙ sym (reads-so offset), ap (destination_file e) (sym (take_all offset e.bytes past)));
        ends = λ more. refl;
      }

  -- a page more at its offset
  page-written : (offset byte : ℕ) (rest : List ℕ) → byte ∷ rest ≡ piece_at offset → offset ≤ length e.bytes →
      file_step (destination_file e (take offset e.bytes)) (step.Write e.dst.file offset (byte ∷ rest)) mark.Clear
      ≡ record {
        reply = reply.Count (length (byte ∷ rest)) (offset + length (byte ∷ rest));
        next = destination_file e (take (offset + length (byte ∷ rest)) e.bytes);
      }
  page-written offset byte rest p l =
      let count : ℕ = length (byte ∷ rest) in
      let done : List ℕ = take offset e.bytes in
      let size : count ≡ min PAGE_SIZE (length e.bytes - offset) = ap length p ∙ size-so offset in
      let here : length done ≡ offset = length-take-le offset e.bytes l in
      let enough : length done + count ≤ e.room = omega (arith, here, size, l, fits) in
      let joined : done ++ byte ∷ rest ≡ take (offset + count) e.bytes =
      ap (λ piece. done ++ piece) (p ∙ ap (λ n. take n (drop offset e.bytes)) (sym size)) ∙ sym (take-add offset count e.bytes) in
      let next_file : FileOutcome = record { reply = reply.Count count (offset + count); next = destination_file e (done ++ byte ∷ rest) } in
      subst (λ off. file_step (destination_file e done) (step.Write e.dst.file off (byte ∷ rest)) mark.Clear
      ≡ record { reply = reply.Count count (off + count); next = destination_file e (done ++ byte ∷ rest) }) here
      (written-behind e done byte rest writable enough)
      ∙ ap (λ (written : List ℕ). record next_file { next = destination_file e written }) joined

  one-more : (offset byte : ℕ) (rest : List ℕ) → byte ∷ rest ≡ piece_at offset → offset ≤ length e.bytes →
      Copies e state (offset + length (byte ∷ rest)) → Copies e state offset
  one-more offset byte rest p l later =
      let count : ℕ = length (byte ∷ rest) in
      let size : count ≡ min PAGE_SIZE (length e.bytes - offset) = ap length p ∙ size-so offset in
      let there : moved_offset offset count ≡ offset + count = omega (arith, size, l, small) in
      let page = page-written offset byte rest p l in
      record {
        replies = reply.Got (byte ∷ rest) ∷ reply.Count count (offset + count) ∷ later.replies;
        moves = (
          ap reply.Got p ∙ sym (reads-so offset),
          sym (ap (λ (o : FileOutcome). o.reply) page),
          subst (λ dst. AreCopies e dst (offset + count) later.replies (destination_file e e.bytes)) (sym (ap (λ (o : FileOutcome). o.next) page)) later.moves,
        );
        ends = λ more.
            let behind : List Reply = later.replies ++ more in
            ap (λ (round : Round CopyStage). round_talk (λ spot now left. copying e spot state behind) round state behind)
            (left-nothing e (moved_offset offset count) (drop count (byte ∷ rest)) plain (drop-length (byte ∷ rest)))
            ∙ ap (λ (spot : ℕ). copying e (Reads spot) state behind) there
            ∙ later.ends more;
      }

  none-left : (offset byte : ℕ) (rest : List ℕ) → byte ∷ rest ≡ piece_at offset → length e.bytes ≤ offset + 0 → ⊥
  none-left offset byte rest p h =
      let size : length (byte ∷ rest) ≡ min PAGE_SIZE (length e.bytes - offset) = ap length p ∙ size-so offset in
      omega (arith, size, h)

  copies-from : (fuel offset : ℕ) (piece : List ℕ) → piece ≡ piece_at offset → offset ≤ length e.bytes → length e.bytes ≤ offset + fuel →
      Copies e state offset
  copies-from fuel offset [] p l h = nothing-more offset p
  copies-from zero offset (byte ∷ rest) p l h = absurd (none-left offset byte rest p h)
  copies-from (suc fuel) offset (byte ∷ rest) p l h =
      let size : length (byte ∷ rest) ≡ min PAGE_SIZE (length e.bytes - offset) = ap length p ∙ size-so offset in
      let within : offset + length (byte ∷ rest) ≤ length e.bytes = omega (arith, size, l) in
      let nearer : length e.bytes ≤ offset + length (byte ∷ rest) + fuel = omega (arith, h) in
      one-more offset byte rest p l
      (copies-from fuel (offset + length (byte ∷ rest)) (piece_at (offset + length (byte ∷ rest))) refl within nearer)

-- both files are opened, the destination is cut, and the copy begins
abbrev started : Copied → Bool → Bool → Talk
started e alike cuts =
    if alike then copy_fails e.src e.dst e.dst.word errno.EINVAL
    else if cuts
    then ask_holding (step.Close e.src.hold ∷ step.Close e.dst.hold ∷ []) (step.Trunc e.dst.file 0) (copy_cut e.src e.dst)
    else copy_bytes e.src e.dst

begun : (e : Copied) (state : ShellState) (alike cuts : Bool) → alike ≡ false → cuts ≡ true → (replies : List Reply) →
    started e alike cuts state (reply.Done ∷ replies) ≡ copying e (Reads 0) state replies
begun e state true cuts a c replies = absurd (cc)
begun e state false true a c replies = refl
begun e state false false a c replies = absurd (cc)

pub copy-moves : (e : Copied) (state : ShellState) → same_file e.src.file e.dst.file ≡ false → is_chr e.src.kind ≡ false →
    is_cut e.dst.kind ≡ true → length e.bytes ≤ e.room → length e.bytes ≤ place_max → CopyMoves e state
copy-moves e state apart plain cuts fits small =
    let writable = cut-writable e.dst.kind cuts in
    let first : List ℕ = take (min PAGE_SIZE (length e.bytes - 0)) (drop 0 e.bytes) in
    let all = copies-from e state plain writable fits small (length e.bytes) 0 first refl (omega arith) (omega arith) in
    let ending : List Reply = reply.Done ∷ reply.Done ∷ [] in
    record {
      replies = all.replies;
      cut = cut-all e writable;
      moves = all.moves;
      shows = ap (λ (answer : Answer). answer.next)
          (begun e state (same_file e.src.file e.dst.file) (is_cut e.dst.kind) apart cuts (all.replies ++ ending) ∙ all.ends ending);
    }
