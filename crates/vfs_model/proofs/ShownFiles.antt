-- `cat` shows all bytes of a file.
use Rattle.std.proofs.Common.{◌≡◌, ℕ, zero, suc, ◌+◌, ◌-◌, ◌≤◌, Bool, true, false, ◌||◌, min, is_ok, List, [], ◌∷◌, ◌++◌, length, take, drop, Result, Ok, Err, if◌then◌else◌, codes, refl, sym, ap, ap₂, ◌∙◌, arith, append-nil}
use Rattle.std.proofs.lemmas.List.{length-drop, length-take, take_all}
use Rattle.std.proofs.Math.Seq.{take-add}
use Rattle.vfs_base.specs.declared.entry.Mark.TheVariants as mark
use Rattle.vfs_base.specs.declared.errno.Errno.{Errno}
use Rattle.vfs_base.specs.declared.errno.Errno.TheVariants as errno
use Rattle.vfs_base.specs.declared.limits.TheConstants.{PAGE_SIZE}
use Rattle.vfs_base.specs.declared.reply.Reply.{Reply}
use Rattle.vfs_base.specs.declared.reply.Reply.TheVariants as reply
use Rattle.vfs_base.specs.declared.step.Step.TheVariants as step
use Rattle.vfs_model.specs.CommandLaws.{AreReads, CatShows, Catted}
use Rattle.vfs_model.specs.FileMoves.{clear_step, file_step}
use Rattle.vfs_model.specs.FileStep.{file_refusals, moved_count}
use Rattle.vfs_model.specs.Mappings.{is_chr}
use Rattle.vfs_model.specs.OpenFiles.{moved_offset, place_max}
use Rattle.vfs_model.specs.Talk.{After, Again, Answer, Round, Talk, ask_in_turn, round_talk}
use Rattle.vfs_model.specs.TextCommands.{CatStage, cat_files, cat_got, cat_round, cat_step, closes}
use Rattle.vfs_model.specs.declared.shell_state.ShellState.{ShellState}
use Rattle.vfs_model.specs.declared.world.FileState.{FileState}
use Rattle.vfs_model.specs.declared.world.FileState.TheVariants as file
use Rattle.vfs_model.proofs.EchoedTexts.{same-generation}

or-true : (a : Bool) → (a || true) ≡ true
or-true true = refl
or-true false = refl

or-false : (a : Bool) → a ≡ false → (a || false) ≡ false
or-false true e = e
or-false false e = refl

-- what refuses a step of a file of this generation, where its test passes
abbrev tested : Bool → Result (Unit {0}) Errno
tested test = if test then Ok tt else Err errno.ENOENT

module _ (e : Catted) (state : ShellState) (plain : is_chr e.kind ≡ false) (small : length e.bytes ≤ place_max) where
  abbrev here : FileState
  here = file.Bytes e.file.generation e.kind e.capacity e.bytes

  -- what a read of a page gives
  abbrev piece_at : ℕ → List ℕ
  piece_at offset = take (min PAGE_SIZE (length e.bytes - offset)) (drop offset e.bytes)

  read-count : (offset : ℕ) → moved_count here (step.Read e.file offset PAGE_SIZE) ≡ min PAGE_SIZE (length e.bytes - offset)
  unfolding file_refusals moved_count
  read-count offset = ap (λ (test : Bool). if is_ok (tested test) then min PAGE_SIZE (length e.bytes - offset) else 0) (same-generation e.file)

  pub read-bytes : (offset : ℕ) → (file_step here (step.Read e.file offset PAGE_SIZE) mark.Clear).reply ≡ reply.Got (piece_at offset)
  unfolding file_step file_refusals
  read-bytes offset =
      ap (λ (test : Bool). (clear_step here (step.Read e.file offset PAGE_SIZE) (tested test)).reply) (same-generation e.file)
      ∙ ap (λ n. reply.Got (take n (drop offset e.bytes))) (read-count offset)

  pub piece-length : (offset : ℕ) → length (piece_at offset) ≡ min PAGE_SIZE (length e.bytes - offset)
  piece-length offset =
      let cut = length-take (min PAGE_SIZE (length e.bytes - offset)) (drop offset e.bytes) in
      let rest = length-drop offset e.bytes in
      omega (arith, cut, rest)

  abbrev stage : ℕ → List ℕ → CatStage
  stage offset text = record { offset = offset; text = text }

  abbrev closed_with : List ℕ → Talk
  closed_with text = closes (codes "cat") e.word e.hold text (cat_files [])

  got-nothing : (offset : ℕ) (text : List ℕ) → cat_got e.word e.hold e.kind (cat_files []) (stage offset text) [] ≡ After (closed_with (text ++ []))
  got-nothing offset text =
      ap (λ (out : Bool). if out then After (closed_with (text ++ [])) else Again (stage (moved_offset offset 0) (text ++ []))) (or-true (is_chr e.kind))

  got-more : (offset : ℕ) (text : List ℕ) (byte : ℕ) (rest : List ℕ) →
      cat_got e.word e.hold e.kind (cat_files []) (stage offset text) (byte ∷ rest)
      ≡ Again (stage (moved_offset offset (length (byte ∷ rest))) (text ++ byte ∷ rest))
  got-more offset text byte rest =
      ap (λ (out : Bool). if out then After (closed_with (text ++ byte ∷ rest)) else Again (stage (moved_offset offset (length (byte ∷ rest))) (text ++ byte ∷ rest)))
      (or-false (is_chr e.kind) plain)

  -- how the command goes on from an offset
  abbrev reading : CatStage → Talk
  reading spot = ask_in_turn (step.Close e.hold ∷ []) (cat_step e.file) (cat_round e.word e.hold e.kind (cat_files [])) spot

  -- the replies from an offset on, and what they lead to
  record Reads (offset : ℕ) : Type 0 where
    replies : List Reply
    reads : AreReads here e.file offset replies
    ends : (more : List Reply) → reading (stage offset (take offset e.bytes)) state (replies ++ more) ≡ closed_with e.bytes state more

  nothing-more : (offset : ℕ) → [] ≡ piece_at offset → Reads offset
  nothing-more offset p =
      let none : 0 ≡ length (piece_at offset) = ap length p in
      let past : length e.bytes ≤ offset = omega (arith, none, piece-length offset) in
      record {
        replies = reply.Got [] ∷ [];
        reads = (ap reply.Got p ∙ sym (read-bytes offset), tt);
        ends = λ more.
            ap (λ (round : Round CatStage). round_talk (λ spot now left. reading spot state more) round state more) (got-nothing offset (take offset e.bytes))
            ∙ ap (λ text. closed_with text state more) (append-nil (take offset e.bytes) ∙ take_all offset e.bytes past);
      }

  one-more : (offset byte : ℕ) (rest : List ℕ) → byte ∷ rest ≡ piece_at offset → offset ≤ length e.bytes →
      Reads (offset + length (byte ∷ rest)) → Reads offset
  one-more offset byte rest p l later =
      let count : ℕ = length (byte ∷ rest) in
      let size : count ≡ min PAGE_SIZE (length e.bytes - offset) = ap length p ∙ piece-length offset in
      let within : offset + count ≤ length e.bytes = omega (arith, size, l) in
      let there : moved_offset offset count ≡ offset + count = omega (arith, within, small) in
      let joined : take offset e.bytes ++ byte ∷ rest ≡ take (offset + count) e.bytes =
      ap (λ piece. take offset e.bytes ++ piece) (p ∙ ap (λ n. take n (drop offset e.bytes)) (sym size)) ∙ sym (take-add offset count e.bytes) in
      record {
        replies = reply.Got (byte ∷ rest) ∷ later.replies;
        reads = (ap reply.Got p ∙ sym (read-bytes offset), later.reads);
        ends = λ more.
            let behind : List Reply = later.replies ++ more in
            ap (λ (round : Round CatStage). round_talk (λ spot now left. reading spot state behind) round state behind) (got-more offset (take offset e.bytes) byte rest)
            ∙ ap₂ (λ (spot : ℕ) (text : List ℕ). reading (stage spot text) state behind) there joined
            ∙ later.ends more;
      }

  none-left : (offset byte : ℕ) (rest : List ℕ) → byte ∷ rest ≡ piece_at offset → length e.bytes ≤ offset + 0 → ⊥
  none-left offset byte rest p h =
      let size : length (byte ∷ rest) ≡ min PAGE_SIZE (length e.bytes - offset) = ap length p ∙ piece-length offset in
      omega (arith, size, h)

  reads-from : (fuel offset : ℕ) (piece : List ℕ) → piece ≡ piece_at offset → offset ≤ length e.bytes → length e.bytes ≤ offset + fuel → Reads offset
  reads-from fuel offset [] p l h = nothing-more offset p
  reads-from zero offset (byte ∷ rest) p l h = absurd (none-left offset byte rest p h)
  reads-from (suc fuel) offset (byte ∷ rest) p l h =
      let size : length (byte ∷ rest) ≡ min PAGE_SIZE (length e.bytes - offset) = ap length p ∙ piece-length offset in
      let within : offset + length (byte ∷ rest) ≤ length e.bytes = omega (arith, size, l) in
      let nearer : length e.bytes ≤ offset + length (byte ∷ rest) + fuel = omega (arith, h) in
      one-more offset byte rest p l
      (reads-from fuel (offset + length (byte ∷ rest)) (piece_at (offset + length (byte ∷ rest))) refl within nearer)

  pub cat-shows : CatShows e state
  cat-shows =
      let all = reads-from (length e.bytes) 0 (piece_at 0) refl (omega arith) (omega arith) in
      record {
        replies = all.replies;
        reads = all.reads;
        shows = ap (λ (answer : Answer). answer.next) (all.ends (reply.Done ∷ []));
      }
