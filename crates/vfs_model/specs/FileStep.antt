-- One step of one file.
use Rattle.std.specs.Prelude.{ℕ, ◌+◌, ◌-◌, ◌==◌, min, Bool, true, false, ◌&&◌, nat_lt, nat_le, is_ok, Option, Some, None, List, [], ◌∷◌, ◌++◌, length, take, drop, replicate, Result, Ok, Err, if◌then◌else◌}
use Rattle.vfs_base.specs.declared.errno.Errno.{Errno}
use Rattle.vfs_base.specs.declared.errno.Errno.TheVariants as errno
use Rattle.vfs_base.specs.declared.ids.FileId.{FileId}
use Rattle.vfs_base.specs.declared.kinds.Kind.{Kind}
use Rattle.vfs_base.specs.declared.kinds.Kind.TheVariants as kind
use Rattle.vfs_base.specs.declared.reply.Reply.{Reply}
use Rattle.vfs_base.specs.declared.reply.Reply.TheVariants as reply
use Rattle.vfs_base.specs.declared.step.Step.{Step}
use Rattle.vfs_base.specs.declared.step.Step.TheVariants as step
use Rattle.vfs_model.specs.Chain.{◌>>◌, refuse◌when◌}
use Rattle.vfs_model.specs.declared.world.FileState.{FileState}
use Rattle.vfs_model.specs.declared.world.FileState.TheVariants as file

-- what a file's step answers, and the file that it leaves
pub record FileOutcome : Type 0 where
  pub reply : Reply
  pub next : FileState

abbrev pub refused_file : FileState → Errno → FileOutcome
refused_file f errno = record { reply = reply.Refused errno; next = f }

-- the bytes cut to a length, or padded with zeros to it
abbrev pub cut_or_padded : ℕ → List ℕ → List ℕ
cut_or_padded len bytes = take len (bytes ++ replicate (len - length bytes) 0)

-- the bytes with a piece at an offset; a gap before the piece is zeros, and no piece makes no gap
abbrev pub written_at : ℕ → List ℕ → List ℕ → List ℕ
written_at off [] bytes = bytes
written_at off (byte ∷ piece) bytes =
    cut_or_padded off bytes ++ byte ∷ piece ++ drop (off + length (byte ∷ piece)) bytes

abbrev pub is_rom : Kind → Bool
is_rom kind.Rom = true
is_rom kind.Tmp = false
is_rom kind.Cell = false
is_rom kind.Chr = false

abbrev pub is_cell : Kind → Bool
is_cell kind.Cell = true
is_cell kind.Tmp = false
is_cell kind.Rom = false
is_cell kind.Chr = false

-- the error at the end of a file's room: of its cell, or of the greatest file
abbrev pub full_errno : Kind → Errno
full_errno kind = if is_cell kind then errno.ENOSPC else errno.EFBIG

-- a write of bytes at an offset (POSIX.1-2017, pwrite): the greatest size may be met, and not passed
abbrev pub write_refusals : Kind → ℕ → ℕ → List ℕ → Result (Unit {0}) Errno
write_refusals kind capacity off piece = do
  refuse errno.EROFS when (is_rom kind)
  refuse (full_errno kind) when (nat_lt 0 (length piece) && nat_le capacity off)

abbrev pub trunc_refusals : Kind → ℕ → ℕ → Result (Unit {0}) Errno
trunc_refusals kind capacity len = do
  refuse errno.EROFS when (is_rom kind)
  refuse (full_errno kind) when (nat_lt capacity len)

-- bytes in memory, or on a cell: what is refused
abbrev pub bytes_refusals : Kind → ℕ → ℕ → Step → Result (Unit {0}) Errno
bytes_refusals kind capacity size (step.Write id off piece) = write_refusals kind capacity off piece
bytes_refusals kind capacity size (step.Append id piece) = write_refusals kind capacity size piece
bytes_refusals kind capacity size (step.Trunc id len) = trunc_refusals kind capacity len
bytes_refusals kind capacity size (step.Load id off len) = refuse errno.EFAULT when (nat_lt size (off + len))
bytes_refusals kind capacity size (step.Store id off piece) = do
  refuse errno.EROFS when (is_rom kind)
  refuse errno.EFAULT when (nat_lt size (off + length piece))
bytes_refusals kind capacity size _ = Ok tt

-- a character device: what is refused
abbrev pub device_refusals : Step → Result (Unit {0}) Errno
device_refusals (step.Size id) = Err errno.ESPIPE
device_refusals (step.Trunc id len) = Err errno.EINVAL
device_refusals (step.Sync id) = Err errno.EINVAL
device_refusals (step.Load id off len) = Err errno.EINVAL
device_refusals (step.Store id off piece) = Err errno.EINVAL
device_refusals _ = Ok tt

-- a row that does not have the step's file: only its size and its write-back may be asked for
abbrev pub absent_refusals : Step → Result (Unit {0}) Errno
absent_refusals (step.Flush row) = Ok tt
absent_refusals (step.Reclaim row) = Ok tt
absent_refusals _ = Err errno.ENOENT

-- the file that a step names
abbrev pub step_file : Step → Option FileId
step_file (step.Size id) = Some id
step_file (step.Read id off len) = Some id
step_file (step.Write id off piece) = Some id
step_file (step.Append id piece) = Some id
step_file (step.Trunc id len) = Some id
step_file (step.Sync id) = Some id
step_file (step.Load id off len) = Some id
step_file (step.Store id off piece) = Some id
step_file _ = None

-- the step names no file of another generation
abbrev pub is_of_generation : ℕ → Option FileId → Bool
is_of_generation generation None = true
is_of_generation generation (Some id) = id.generation == generation

-- what a file's step is refused with
unfoldable pub file_refusals : FileState → Step → Result (Unit {0}) Errno
file_refusals (file.Unbound generation) asked = absent_refusals asked
file_refusals (file.Bytes generation kind capacity bytes) asked =
    if is_of_generation generation (step_file asked) then bytes_refusals kind capacity (length bytes) asked else absent_refusals asked
file_refusals (file.Device generation input output) asked =
    if is_of_generation generation (step_file asked) then device_refusals asked else absent_refusals asked

-- how many bytes a step moves that is not refused, in a file of so many bytes
abbrev pub bytes_count : ℕ → ℕ → Step → ℕ
bytes_count capacity size (step.Read id off len) = min len (size - off)
bytes_count capacity size (step.Load id off len) = len
bytes_count capacity size (step.Write id off piece) = min (length piece) (capacity - off)
bytes_count capacity size (step.Append id piece) = min (length piece) (capacity - size)
bytes_count capacity size (step.Store id off piece) = length piece
bytes_count capacity size _ = 0

abbrev pub device_count : List ℕ → Step → ℕ
device_count input (step.Read id off len) = min len (length input)
device_count input (step.Write id off piece) = length piece
device_count input (step.Append id piece) = length piece
device_count input _ = 0

abbrev pub count_of : FileState → Step → ℕ
count_of (file.Unbound generation) asked = 0
count_of (file.Bytes generation kind capacity bytes) asked = bytes_count capacity (length bytes) asked
count_of (file.Device generation input output) asked = device_count input asked

-- how many bytes a step moves where neither a device nor memory fails
unfoldable pub moved_count : FileState → Step → ℕ
moved_count f asked = if is_ok (file_refusals f asked) then count_of f asked else 0
