-- What a command does to a file that nobody else changes.
use Rattle.std.specs.Prelude.{◌≡◌, ℕ, ◌+◌, ◌≤◌, false, List, [], ◌∷◌, ◌++◌, length}
use Rattle.vfs_base.specs.declared.entry.Mark.TheVariants as mark
use Rattle.vfs_base.specs.declared.ids.FileId.{FileId}
use Rattle.vfs_base.specs.declared.ids.HoldId.{HoldId}
use Rattle.vfs_base.specs.declared.kinds.Kind.{Kind}
use Rattle.vfs_base.specs.declared.limits.TheConstants.{PAGE_SIZE}
use Rattle.vfs_base.specs.declared.reply.Reply.{Reply}
use Rattle.vfs_base.specs.declared.reply.Reply.TheVariants as reply
use Rattle.vfs_base.specs.declared.step.Step.TheVariants as step
use Rattle.vfs_model.specs.FileMoves.{file_step}
use Rattle.vfs_model.specs.FileStep.{is_rom}
use Rattle.vfs_model.specs.Mappings.{is_chr}
use Rattle.vfs_model.specs.OpenFiles.{place_max}
use Rattle.vfs_model.specs.Talk.{Answer}
use Rattle.vfs_model.specs.TextCommands.{cat, echo, to_append}
use Rattle.vfs_model.specs.declared.shell_state.Next.TheVariants as next
use Rattle.vfs_model.specs.declared.shell_state.ShellState.{ShellState}
use Rattle.vfs_model.specs.declared.world.FileState.{FileState}
use Rattle.vfs_model.specs.declared.world.FileState.TheVariants as file

-- A text that isn't empty and is to be appended to a file of these bytes, and the reference by which the command opens the file.
pub record Echoed : Type 0 where
  pub first : ℕ
  pub rest : List ℕ
  pub word : List ℕ
  pub hold : HoldId
  pub file : FileId
  pub kind : Kind
  pub capacity : ℕ
  pub bytes : List ℕ

abbrev pub echoed_text : Echoed → List ℕ
echoed_text e = e.first ∷ e.rest

-- how far `echo` comes by these replies
abbrev pub echo_after : Echoed → ShellState → List Reply → Answer
echo_after e state replies = echo (echoed_text e ∷ e.word ∷ []) state replies

-- the file was opened
abbrev pub opened : Echoed → Reply
opened e = reply.Opened e.hold e.file e.kind

-- all bytes were taken
abbrev pub taken : Echoed → Reply
taken e = reply.Count (length (echoed_text e)) (length e.bytes + length (echoed_text e))

-- `echo TEXT FILE` opens the file, appends the text by one step, which leaves its bytes behind those of the file, closes, and
-- shows nothing
pub record EchoAppends (e : Echoed) (state : ShellState) : Type 0 where
  pub opens : (echo_after e state []).next ≡ next.Ask (step.Open e.word to_append)
  pub asks : (echo_after e state (opened e ∷ [])).next ≡ next.Ask (step.Append e.file (echoed_text e))
  pub grows : file_step (file.Bytes e.file.generation e.kind e.capacity e.bytes) (step.Append e.file (echoed_text e)) mark.Clear
      ≡ record { reply = taken e; next = file.Bytes e.file.generation e.kind e.capacity (e.bytes ++ echoed_text e) }
  pub closes : (echo_after e state (opened e ∷ taken e ∷ [])).next ≡ next.Ask (step.Close e.hold)
  pub ends : (echo_after e state (opened e ∷ taken e ∷ reply.Done ∷ [])).next ≡ next.Finished []

-- so it does where the file may be written and has room
abbrev pub EchoAppendsText : Type 0
EchoAppendsText = (e : Echoed) (state : ShellState) → is_rom e.kind ≡ false → length e.bytes + length (echoed_text e) ≤ e.capacity → EchoAppends e state

abbrev pub got_bytes : Reply → List ℕ
got_bytes (reply.Got bytes) = bytes
got_bytes _ = []

-- each reply is what the file answers to a read of a page behind the bytes of the replies before it
abbrev pub AreReads : FileState → FileId → ℕ → List Reply → Type 0
AreReads f id off [] = Unit {0}
AreReads f id off (answer ∷ later) =
    (answer ≡ (file_step f (step.Read id off PAGE_SIZE) mark.Clear).reply) × AreReads f id (off + length (got_bytes answer)) later

-- a file of these bytes that is shown, and the reference by which the command opens it
pub record Catted : Type 0 where
  pub word : List ℕ
  pub hold : HoldId
  pub file : FileId
  pub kind : Kind
  pub capacity : ℕ
  pub bytes : List ℕ

-- `cat FILE` reads the file from its start on until nothing comes, closes it, and shows all its bytes
pub record CatShows (e : Catted) (state : ShellState) : Type 0 where
  pub replies : List Reply
  pub reads : AreReads (file.Bytes e.file.generation e.kind e.capacity e.bytes) e.file 0 replies
  pub shows : (cat (e.word ∷ []) state (reply.Opened e.hold e.file e.kind ∷ replies ++ reply.Done ∷ [])).next ≡ next.Finished e.bytes

abbrev pub CatShowsBytes : Type 0
CatShowsBytes = (e : Catted) (state : ShellState) → is_chr e.kind ≡ false → length e.bytes ≤ place_max → CatShows e state
