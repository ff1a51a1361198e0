-- What `echo` leaves in a file.
use Rattle.std.proofs.Common.{◌≡◌, ℕ, ◌+◌, ◌-◌, ◌<◌, ◌≤◌, Bool, true, false, ◌&&◌, nat_lt, nat_le, min, is_ok, Some, List, [], ◌∷◌, ◌++◌, length, drop, replicate, Result, Ok, Err, if◌then◌else◌, codes, refl, ap, ◌∙◌, arith, append-nil}
use Rattle.std.proofs.lemmas.Bool.Decides.{eqb_tells, nat_tests}
use Rattle.std.proofs.Common.{inl, inr}
use Rattle.std.proofs.Math.ListN.{drop_of_length-le}
use Rattle.std.proofs.Math.Seq.{drop-length, take-append_seam, take-length}
use Rattle.vfs_base.specs.declared.entry.Mark.TheVariants as mark
use Rattle.vfs_base.specs.declared.errno.Errno.{Errno}
use Rattle.vfs_base.specs.declared.errno.Errno.TheVariants as errno
use Rattle.vfs_base.specs.declared.ids.FileId.{FileId}
use Rattle.vfs_base.specs.declared.ids.HoldId.{HoldId}
use Rattle.vfs_base.specs.declared.kinds.Kind.{Kind}
use Rattle.vfs_base.specs.declared.reply.Reply.{Reply}
use Rattle.vfs_base.specs.declared.reply.Reply.TheVariants as reply
use Rattle.vfs_base.specs.declared.step.Step.TheVariants as step
use Rattle.vfs_model.specs.Chain.{◌>>◌, refuse◌when◌}
use Rattle.vfs_model.specs.CommandLaws.{EchoAppends, Echoed, echoed_text}
use Rattle.vfs_model.specs.FileMoves.{clear_step, file_step, write_bytes}
use Rattle.vfs_model.specs.FileStep.{FileOutcome, cut_or_padded, file_refusals, full_errno, is_of_generation, is_rom, moved_count, write_refusals, written_at}
use Rattle.vfs_model.specs.Talk.{Answer, Talk, round_talk, shows}
use Rattle.vfs_model.specs.TextCommands.{closes, echo_left}
use Rattle.vfs_model.specs.declared.shell_state.ShellState.{ShellState}
use Rattle.vfs_model.specs.declared.world.FileState.{FileState}
use Rattle.vfs_model.specs.declared.world.FileState.TheVariants as file

pub appended : (byte : ℕ) (piece bytes : List ℕ) → written_at (length bytes) (byte ∷ piece) bytes ≡ bytes ++ byte ∷ piece
appended byte piece bytes =
    let cut = cut_or_padded (length bytes) bytes in
    let past : length bytes ≤ length bytes + length (byte ∷ piece) = omega arith in
    ap (λ rest. cut ++ byte ∷ piece ++ rest) (drop_of_length-le bytes past)
    ∙ append-nil (cut ++ byte ∷ piece)
    ∙ ap (λ front. front ++ byte ∷ piece) (take-append_seam bytes (replicate (length bytes - length bytes) 0))

pub second-false : (a b : Bool) → b ≡ false → (a && b) ≡ false
second-false true b e = e
second-false false b e = refl

pub refused-never : (errno full : Errno) (a b : Bool) → a ≡ false → b ≡ false → (refuse errno when a >> refuse full when b) ≡ Ok tt
refused-never errno full true b e f = absurd (cc)
refused-never errno full false true e f = absurd (cc)
refused-never errno full false false e f = refl

pub same-generation : (id : FileId) → is_of_generation id.generation (Some id) ≡ true
same-generation id = elim (eqb_tells id.generation id.generation) [ inl k ↦ k.0 | inr k ↦ absurd (k.1 refl) ]

-- an append to a file of bytes that has room for the piece
module _ (id : FileId) (kind : Kind) (capacity : ℕ) (bytes : List ℕ) (byte : ℕ) (piece : List ℕ)
    (writable : is_rom kind ≡ false) (room : length bytes + length (byte ∷ piece) ≤ capacity) where
  abbrev Here : FileState
  Here = file.Bytes id.generation kind capacity bytes

  abbrev outcome : List ℕ → FileOutcome
  outcome written = record {
    reply = reply.Count (length (byte ∷ piece)) (length bytes + length (byte ∷ piece));
    next = file.Bytes id.generation kind capacity written;
  }

  not-full : nat_le capacity (length bytes) ≡ false
  not-full = let below : length bytes < capacity = omega (arith, room) in grind (arith, nat_tests, below)

  passes : file_refusals Here (step.Append id (byte ∷ piece)) ≡ Ok tt
  unfolding file_refusals
  passes =
      ap (λ (test : Bool). if test then write_refusals kind capacity (length bytes) (byte ∷ piece) else Err errno.ENOENT) (same-generation id)
      ∙ refused-never errno.EROFS (full_errno kind) (is_rom kind) (nat_lt 0 (length (byte ∷ piece)) && nat_le capacity (length bytes)) writable
      (second-false (nat_lt 0 (length (byte ∷ piece))) (nat_le capacity (length bytes)) not-full)

  moves-all : moved_count Here (step.Append id (byte ∷ piece)) ≡ length (byte ∷ piece)
  unfolding moved_count
  moves-all =
      let all : min (length (byte ∷ piece)) (capacity - length bytes) ≡ length (byte ∷ piece) = omega (arith, room) in
      ap (λ (r : Result (Unit {0}) Errno). if is_ok r then min (length (byte ∷ piece)) (capacity - length bytes) else 0) passes ∙ all

  grown : file_step Here (step.Append id (byte ∷ piece)) mark.Clear ≡ record {
    reply = reply.Count (length (byte ∷ piece)) (length bytes + length (byte ∷ piece));
    next = file.Bytes id.generation kind capacity (bytes ++ byte ∷ piece);
  }
  unfolding file_step
  grown =
      ap (λ (r : Result (Unit {0}) Errno). clear_step Here (step.Append id (byte ∷ piece)) r) passes
      ∙ ap (λ count. write_bytes id.generation kind capacity bytes (length bytes) (byte ∷ piece) count) moves-all
      ∙ ap (λ (moved : List ℕ). outcome (written_at (length bytes) moved bytes)) (take-length (byte ∷ piece))
      ∙ ap outcome (appended byte piece bytes)

-- once nothing is left the file is closed
nothing-left : (word : List ℕ) (hold : HoldId) (again : List ℕ → Talk) (left : List ℕ) (state : ShellState) (replies : List Reply) → left ≡ [] →
    round_talk again (echo_left word hold left) state replies ≡ closes (codes "echo") word hold [] shows state replies
nothing-left word hold again [] state replies e = refl
nothing-left word hold again (byte ∷ left) state replies e = absurd (cc)

pub echo-appends : (e : Echoed) (state : ShellState) → is_rom e.kind ≡ false → length e.bytes + length (echoed_text e) ≤ e.capacity → EchoAppends e state
echo-appends e state writable room = record {
  opens = refl;
  asks = refl;
  grows = grown e.file e.kind e.capacity e.bytes e.first e.rest writable room;
  closes = ap (λ (answer : Answer). answer.next)
      (nothing-left e.word e.hold _ (drop (length (echoed_text e)) (echoed_text e)) state [] (drop-length (echoed_text e)));
  ends = ap (λ (answer : Answer). answer.next)
      (nothing-left e.word e.hold _ (drop (length (echoed_text e)) (echoed_text e)) state (reply.Done ∷ []) (drop-length (echoed_text e)));
}
