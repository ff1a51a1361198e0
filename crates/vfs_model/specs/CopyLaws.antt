-- What `cp` does with two files that nobody else changes.
use Rattle.std.specs.Prelude.{◌≡◌, ℕ, ◌+◌, ◌≤◌, true, false, List, [], ◌∷◌, ◌++◌, length}
use Rattle.vfs_base.specs.declared.entry.Mark.TheVariants as mark
use Rattle.vfs_base.specs.declared.limits.TheConstants.{PAGE_SIZE}
use Rattle.vfs_base.specs.declared.reply.Reply.{Reply}
use Rattle.vfs_base.specs.declared.reply.Reply.TheVariants as reply
use Rattle.vfs_base.specs.declared.step.Step.TheVariants as step
use Rattle.vfs_model.specs.CommandLaws.{got_bytes}
use Rattle.vfs_model.specs.CopyCommands.{CopyFile, cp, is_cut, same_file}
use Rattle.vfs_model.specs.FileMoves.{file_step}
use Rattle.vfs_model.specs.Mappings.{is_chr}
use Rattle.vfs_model.specs.OpenFiles.{place_max}
use Rattle.vfs_model.specs.declared.shell_state.Next.TheVariants as next
use Rattle.vfs_model.specs.declared.shell_state.ShellState.{ShellState}
use Rattle.vfs_model.specs.declared.world.FileState.{FileState}
use Rattle.vfs_model.specs.declared.world.FileState.TheVariants as file

-- a file of these bytes and one of old bytes, as the command has opened them, and how many bytes each of them can have
pub record Copied : Type 0 where
  pub src : CopyFile
  pub dst : CopyFile
  pub held : ℕ
  pub room : ℕ
  pub bytes : List ℕ
  pub old : List ℕ

abbrev pub source_file : Copied → FileState
source_file e = file.Bytes e.src.file.generation e.src.kind e.held e.bytes

-- the destination, when it has these bytes
abbrev pub destination_file : Copied → List ℕ → FileState
destination_file e bytes = file.Bytes e.dst.file.generation e.dst.kind e.room bytes

abbrev pub opened_so : CopyFile → Reply
opened_so f = reply.Opened f.hold f.file f.kind

-- The replies to a copy from an offset on, to a destination that is like this: each page is read behind the one before it and is
-- written there, until nothing is read; so the destination is left.
abbrev pub AreCopies : Copied → FileState → ℕ → List Reply → FileState → Type 0
AreCopies e dst off [] left = ⊥
AreCopies e dst off (read ∷ []) left =
    (read ≡ (file_step (source_file e) (step.Read e.src.file off PAGE_SIZE) mark.Clear).reply) × (left ≡ dst)
AreCopies e dst off (read ∷ written ∷ later) left =
    (read ≡ (file_step (source_file e) (step.Read e.src.file off PAGE_SIZE) mark.Clear).reply)
    × (written ≡ (file_step dst (step.Write e.dst.file off (got_bytes read)) mark.Clear).reply)
    × AreCopies e (file_step dst (step.Write e.dst.file off (got_bytes read)) mark.Clear).next (off + length (got_bytes read)) later left

-- `cp SRC DST` cuts the destination to no byte and copies page by page: it leaves the bytes of the source in it, closes both
-- files, and shows nothing
pub record CopyMoves (e : Copied) (state : ShellState) : Type 0 where
  pub replies : List Reply
  pub cut : file_step (destination_file e e.old) (step.Trunc e.dst.file 0) mark.Clear ≡ record { reply = reply.Done; next = destination_file e [] }
  pub moves : AreCopies e (destination_file e []) 0 replies (destination_file e e.bytes)
  pub shows : (cp (e.src.word ∷ e.dst.word ∷ []) state
      (opened_so e.src ∷ opened_so e.dst ∷ reply.Done ∷ replies ++ reply.Done ∷ reply.Done ∷ [])).next ≡ next.Finished []

-- so it does with two files of which the destination can be cut and has room
abbrev pub CopyMovesBytes : Type 0
CopyMovesBytes = (e : Copied) (state : ShellState) → same_file e.src.file e.dst.file ≡ false → is_chr e.src.kind ≡ false →
    is_cut e.dst.kind ≡ true → length e.bytes ≤ e.room → length e.bytes ≤ place_max → CopyMoves e state
