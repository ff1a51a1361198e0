-- The commands that read, write and place open files; and all commands of open files.
use Rattle.std.specs.Prelude.{ℕ, ◌*◌, not, nat_lt, ℤ, Option, Some, None, List, [], ◌∷◌, length, codes, Result, Ok, Err, if◌then◌else◌}
use Rattle.std.specs.List.{repeat}
use Rattle.vfs_base.specs.declared.errno.Errno.{Errno}
use Rattle.vfs_base.specs.declared.errno.Errno.TheVariants as errno
use Rattle.vfs_base.specs.declared.kinds.Kind.{Kind}
use Rattle.vfs_base.specs.declared.limits.TheConstants.{READ_MAX, WRITE_MAX}
use Rattle.vfs_base.specs.declared.reply.Reply.{Reply}
use Rattle.vfs_base.specs.declared.reply.Reply.TheVariants as reply
use Rattle.vfs_base.specs.declared.step.Step.{Step}
use Rattle.vfs_base.specs.declared.step.Step.TheVariants as step
use Rattle.vfs_model.specs.Chain.{◌>>=◌, ◌>>◌, refuse◌when◌}
use Rattle.vfs_model.specs.CommandText.{bytes_line, fails, number_line, usage}
use Rattle.vfs_model.specs.CommandWords.{meaning, number_of, offset_of, one_word, same_word, three_words, two_words}
use Rattle.vfs_model.specs.OpenCommands.{close, dup, open_words, with_open_files}
use Rattle.vfs_model.specs.FolderCommands.{one_step}
use Rattle.vfs_model.specs.Mappings.{is_chr}
use Rattle.vfs_model.specs.OpenFiles.{moved_offset, open_file, seek, set_place}
use Rattle.vfs_model.specs.Talk.{Talk, ask, changing, checked, shows}
use Rattle.vfs_model.specs.declared.shell_state.OpenFile.{OpenFile}
use Rattle.vfs_model.specs.declared.shell_state.OpenFiles.{OpenFiles}
use Rattle.vfs_model.specs.declared.shell_state.ShellState.{ShellState}
use Rattle.vfs_model.specs.declared.shell_state.Whence.{Whence}
use Rattle.vfs_model.specs.declared.shell_state.Whence.TheVariants as whence

-- the open files after a change that is not refused, or else as they were
abbrev pub changed_or_same : OpenFiles → Result OpenFiles Errno → OpenFiles
changed_or_same open_files (Ok changed) = changed
changed_or_same open_files (Err errno) = open_files

-- a file's place is here now; that of a character device stays 0
abbrev pub kind_place : Kind → ℕ → ℕ
kind_place kind place = if is_chr kind then 0 else place

abbrev pub with_place : ℕ → Kind → ℕ → ShellState → ShellState
with_place fd kind place state =
    with_open_files (changed_or_same state.open_files (set_place state.open_files fd (kind_place kind place))) state

-- the open file of a descriptor, to read so many bytes
abbrev pub read_checks : OpenFiles → ℕ → ℕ → Result OpenFile Errno
read_checks open_files fd n = do
  file ← open_file open_files fd
  refuse errno.EBADF when not file.reads
  refuse errno.EINVAL when nat_lt READ_MAX n
  Ok file

-- the place moves by what came
abbrev pub read_replied : List ℕ → ℕ → OpenFile → Reply → Talk
read_replied word fd file (reply.Got bytes) =
    changing (with_place fd file.kind (moved_offset file.place (length bytes))) (shows (bytes_line bytes))
read_replied word fd file (reply.Refused errno) = fails (codes "read") word errno
read_replied word fd file _ = shows []

abbrev pub read_file : List ℕ → ℕ → ℕ → Talk
read_file word fd n state =
    checked (fails (codes "read") word) (read_checks state.open_files fd n)
    (λ file. ask (step.Read file.file file.place n) (read_replied word fd file)) state

abbrev pub read_form : List ℕ
read_form = codes "read FD N"

abbrev pub read : List (List ℕ) → Talk
read words =
    two_words read_form (λ word n. meaning read_form (number_of word) (λ fd. meaning read_form (number_of n) (read_file word fd))) words

-- the open file of a descriptor, to write so many bytes
abbrev pub write_checks : OpenFiles → ℕ → ℕ → Result OpenFile Errno
write_checks open_files fd size = do
  file ← open_file open_files fd
  refuse errno.EBADF when not file.writes
  refuse errno.EINVAL when nat_lt WRITE_MAX size
  Ok file

-- at the end of the file, or at the place
abbrev pub write_step : OpenFile → List ℕ → Step
write_step file bytes = if file.appends then step.Append file.file bytes else step.Write file.file file.place bytes

-- the place is behind what was written
abbrev pub write_replied : List ℕ → ℕ → OpenFile → Reply → Talk
write_replied word fd file (reply.Count n end) = changing (with_place fd file.kind end) (shows (number_line n))
write_replied word fd file (reply.Refused errno) = fails (codes "write") word errno
write_replied word fd file _ = shows []

-- a text so many times
abbrev pub write_file : List ℕ → ℕ → List ℕ → ℕ → Talk
write_file word fd text count state =
    checked (fails (codes "write") word) (write_checks state.open_files fd (count * length text))
    (λ file. ask (write_step file (repeat count text)) (write_replied word fd file)) state

abbrev pub write_form : List ℕ
write_form = codes "write FD TEXT [COUNT]"

-- a text so many times, or once
abbrev pub write : List (List ℕ) → Talk
write [] = usage write_form
write (word ∷ []) = usage write_form
write (word ∷ text ∷ []) = meaning write_form (number_of word) (λ fd. write_file word fd text 1)
write (word ∷ text ∷ count ∷ []) =
    meaning write_form (number_of word) (λ fd. meaning write_form (number_of count) (write_file word fd text))
write (word ∷ text ∷ count ∷ more ∷ words) = usage write_form

-- the open file of a descriptor that has a place
abbrev pub placed_file : OpenFiles → ℕ → Result OpenFile Errno
placed_file open_files fd = do
  file ← open_file open_files fd
  refuse errno.ESPIPE when is_chr file.kind
  Ok file

-- the place is sought and shown
abbrev pub seek_place : List ℕ → ℕ → ℤ → Whence → Talk
seek_place word fd off whence state =
    checked (fails (codes "lseek") word) (seek state.open_files fd off whence)
    (λ sought. changing (with_open_files sought.open_files) (shows (number_line sought.place))) state

abbrev pub seek_sized : List ℕ → ℕ → ℤ → Reply → Talk
seek_sized word fd off (reply.SizeIs size) = seek_place word fd off (whence.End size)
seek_sized word fd off (reply.Refused errno) = fails (codes "lseek") word errno
seek_sized word fd off _ = shows []

-- where an offset is counted from; for the end the size is asked
abbrev pub seek_from : List ℕ → List ℕ → ℕ → ℤ → Option (OpenFile → Talk)
seek_from from word fd off =
    if same_word from (codes "set") then Some (λ file. seek_place word fd off whence.Set)
    else if same_word from (codes "cur") then Some (λ file. seek_place word fd off whence.Cur)
    else if same_word from (codes "end") then Some (λ file. ask (step.Size file.file) (seek_sized word fd off))
    else None

abbrev pub lseek_file : List ℕ → ℕ → (OpenFile → Talk) → Talk
lseek_file word fd go state = checked (fails (codes "lseek") word) (placed_file state.open_files fd) go state

abbrev pub lseek_form : List ℕ
lseek_form = codes "lseek FD OFF set|cur|end"

abbrev pub lseek : List (List ℕ) → Talk
lseek words =
    three_words lseek_form
    (λ word off from. meaning lseek_form (number_of word)
    (λ fd. meaning lseek_form (offset_of off) (λ offset. meaning lseek_form (seek_from from word fd offset) (lseek_file word fd)))) words

-- the open file of a descriptor, to cut it
abbrev pub cut_checks : OpenFiles → ℕ → Result OpenFile Errno
cut_checks open_files fd = do
  file ← open_file open_files fd
  refuse errno.EINVAL when not file.writes
  Ok file

abbrev pub cut_file : List ℕ → ℕ → ℕ → Talk
cut_file word fd len state =
    checked (fails (codes "ftruncate") word) (cut_checks state.open_files fd)
    (λ file. one_step (codes "ftruncate") word (step.Trunc file.file len)) state

abbrev pub ftruncate_form : List ℕ
ftruncate_form = codes "ftruncate FD LEN"

abbrev pub ftruncate : List (List ℕ) → Talk
ftruncate words =
    two_words ftruncate_form
    (λ word len. meaning ftruncate_form (number_of word) (λ fd. meaning ftruncate_form (number_of len) (cut_file word fd))) words

abbrev pub sync_file : List ℕ → ℕ → Talk
sync_file word fd state =
    checked (fails (codes "fsync") word) (open_file state.open_files fd)
    (λ file. one_step (codes "fsync") word (step.Sync file.file)) state

abbrev pub fsync : List (List ℕ) → Talk
fsync words = one_word (codes "fsync FD") (λ word. meaning (codes "fsync FD") (number_of word) (sync_file word)) words

-- what a command of this family does with its words
abbrev pub file_command : List ℕ → List (List ℕ) → Option Talk
file_command name words =
    if same_word name (codes "open") then Some (open_words words)
    else if same_word name (codes "read") then Some (read words)
    else if same_word name (codes "write") then Some (write words)
    else if same_word name (codes "lseek") then Some (lseek words)
    else if same_word name (codes "dup") then Some (dup words)
    else if same_word name (codes "ftruncate") then Some (ftruncate words)
    else if same_word name (codes "fsync") then Some (fsync words)
    else if same_word name (codes "close") then Some (close words)
    else None
