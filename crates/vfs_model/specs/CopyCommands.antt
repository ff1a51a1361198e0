-- `cp`, which closes what it opened, also behind a refusal; and the commands that move whole files.
use Rattle.std.specs.Prelude.{ℕ, Bool, true, false, ◌&&◌, ◌==◌, Option, Some, None, List, [], ◌∷◌, drop, codes, if◌then◌else◌}
use Rattle.vfs_base.specs.declared.errno.Errno.{Errno}
use Rattle.vfs_base.specs.declared.errno.Errno.TheVariants as errno
use Rattle.vfs_base.specs.declared.ids.FileId.{FileId}
use Rattle.vfs_base.specs.declared.ids.HoldId.{HoldId}
use Rattle.vfs_base.specs.declared.kinds.Kind.{Kind}
use Rattle.vfs_base.specs.declared.kinds.Kind.TheVariants as kind
use Rattle.vfs_base.specs.declared.limits.TheConstants.{PAGE_SIZE}
use Rattle.vfs_base.specs.declared.reply.Reply.{Reply}
use Rattle.vfs_base.specs.declared.reply.Reply.TheVariants as reply
use Rattle.vfs_base.specs.declared.step.Step.{Step}
use Rattle.vfs_base.specs.declared.step.Step.TheVariants as step
use Rattle.vfs_model.specs.CommandText.{fails, with_error}
use Rattle.vfs_model.specs.CommandWords.{flags, same_word, two_words}
use Rattle.vfs_model.specs.Mappings.{is_chr}
use Rattle.vfs_model.specs.Talk.{After, Again, Round, Talk, ask, ask_holding, ask_in_turn, shows}
use Rattle.vfs_model.specs.TextCommands.{cat, echo, to_read}
use Rattle.vfs_model.specs.OpenFiles.{moved_offset}
use Rattle.vfs_base.specs.declared.flags.OpenFlags.{OpenFlags}

-- `w,creat`
abbrev pub to_replace : OpenFlags
to_replace = flags 6

-- a file that `cp` has opened: its word, its reference, and what it is
pub record CopyFile : Type 0 where
  pub word : List ℕ
  pub hold : HoldId
  pub file : FileId
  pub kind : Kind

-- behind a Close of `cp` the command goes on, also where it was refused
abbrev pub copy_closed : List ℕ → List ℕ → (List ℕ → Talk) → Reply → Talk
copy_closed word text go reply.Done = go text
copy_closed word text go (reply.Refused errno) = go (with_error text (codes "cp") word errno)
copy_closed word text go _ = shows text

abbrev pub close_source : CopyFile → List ℕ → Talk
close_source src text = ask_holding (step.Close src.hold ∷ []) (step.Close src.hold) (copy_closed src.word text shows)

-- the destination is closed, then the source
abbrev pub close_both : CopyFile → CopyFile → List ℕ → Talk
close_both src dst text =
    ask_holding (step.Close src.hold ∷ step.Close dst.hold ∷ []) (step.Close dst.hold) (copy_closed dst.word text (close_source src))

-- the copy ends at an error of this file
abbrev pub copy_fails : CopyFile → CopyFile → List ℕ → Errno → Talk
copy_fails src dst word errno = close_both src dst (with_error [] (codes "cp") word errno)

-- how far `cp` is: at an offset of the source, or with bytes that are still to be written at an offset
pub data CopyStage : Type 0 where
  Reads : ℕ → CopyStage
  Writes : ℕ → List ℕ → CopyStage

abbrev pub copy_step : CopyFile → CopyFile → CopyStage → Step
copy_step src dst (Reads offset) = step.Read src.file offset PAGE_SIZE
copy_step src dst (Writes offset bytes) = step.Write dst.file offset bytes

-- what was read is written, and nothing is the end
abbrev pub copy_got : CopyFile → CopyFile → ℕ → List ℕ → Round CopyStage
copy_got src dst offset [] = After (close_both src dst [])
copy_got src dst offset (byte ∷ bytes) = Again (Writes offset (byte ∷ bytes))

-- a rest is written on; behind the last byte a character device is not read again
abbrev pub copy_left : CopyFile → CopyFile → ℕ → List ℕ → Round CopyStage
copy_left src dst offset [] = if is_chr src.kind then After (close_both src dst []) else Again (Reads offset)
copy_left src dst offset (byte ∷ bytes) = Again (Writes offset (byte ∷ bytes))

abbrev pub copy_read : CopyFile → CopyFile → ℕ → Reply → Round CopyStage
copy_read src dst offset (reply.Got bytes) = copy_got src dst offset bytes
copy_read src dst offset (reply.Refused errno) = After (copy_fails src dst src.word errno)
copy_read src dst offset _ = After (shows [])

abbrev pub copy_written : CopyFile → CopyFile → ℕ → List ℕ → Reply → Round CopyStage
copy_written src dst offset bytes (reply.Count n end) = copy_left src dst (moved_offset offset n) (drop n bytes)
copy_written src dst offset bytes (reply.Refused errno) = After (copy_fails src dst dst.word errno)
copy_written src dst offset bytes _ = After (shows [])

abbrev pub copy_round : CopyFile → CopyFile → CopyStage → Reply → Round CopyStage
copy_round src dst (Reads offset) reply = copy_read src dst offset reply
copy_round src dst (Writes offset bytes) reply = copy_written src dst offset bytes reply

-- all that comes from the source is written to the destination
abbrev pub copy_bytes : CopyFile → CopyFile → Talk
copy_bytes src dst =
    ask_in_turn (step.Close src.hold ∷ step.Close dst.hold ∷ []) (copy_step src dst) (copy_round src dst) (Reads 0)

abbrev pub copy_cut : CopyFile → CopyFile → Reply → Talk
copy_cut src dst reply.Done = copy_bytes src dst
copy_cut src dst (reply.Refused errno) = copy_fails src dst dst.word errno
copy_cut src dst _ = shows []

-- a file that can be cut to no bytes: one of a tree in memory or of a volume
abbrev pub is_cut : Kind → Bool
is_cut kind.Tmp = true
is_cut kind.Cell = true
is_cut kind.Rom = false
is_cut kind.Chr = false

abbrev pub same_file : FileId → FileId → Bool
same_file a b = a.row == b.row && a.generation == b.generation

abbrev pub copy_from_start : CopyFile → CopyFile → Talk
copy_from_start src dst =
    if same_file src.file dst.file then copy_fails src dst dst.word errno.EINVAL
    else if is_cut dst.kind
    then ask_holding (step.Close src.hold ∷ step.Close dst.hold ∷ []) (step.Trunc dst.file 0) (copy_cut src dst)
    else copy_bytes src dst

abbrev pub destination_opened : CopyFile → List ℕ → Reply → Talk
destination_opened src word (reply.Opened hold file kind) =
    copy_from_start src (record { word = word; hold = hold; file = file; kind = kind })
destination_opened src word (reply.Refused errno) = close_source src (with_error [] (codes "cp") word errno)
destination_opened src word _ = shows []

abbrev pub open_destination : List ℕ → CopyFile → Talk
open_destination word src = ask_holding (step.Close src.hold ∷ []) (step.Open word to_replace) (destination_opened src word)

abbrev pub source_opened : List ℕ → List ℕ → Reply → Talk
source_opened word other (reply.Opened hold file kind) =
    open_destination other (record { word = word; hold = hold; file = file; kind = kind })
source_opened word other (reply.Refused errno) = fails (codes "cp") word errno
source_opened word other _ = shows []

abbrev pub cp : List (List ℕ) → Talk
cp words = two_words (codes "cp SRC DST") (λ src dst. ask (step.Open src to_read) (source_opened src dst)) words

-- what a command of this family does with its words
abbrev pub copy_command : List ℕ → List (List ℕ) → Option Talk
copy_command name words =
    if same_word name (codes "cat") then Some (cat words)
    else if same_word name (codes "echo") then Some (echo words)
    else if same_word name (codes "cp") then Some (cp words)
    else None
