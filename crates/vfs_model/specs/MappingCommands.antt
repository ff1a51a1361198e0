-- The commands of mappings.
use Rattle.std.specs.Prelude.{ℕ, Bool, true, false, nat_lt, Option, Some, None, List, [], ◌∷◌, ◌++◌, length, codes, decimal, Result, Ok, if◌then◌else◌}
use Rattle.vfs_base.specs.declared.errno.Errno.{Errno}
use Rattle.vfs_base.specs.declared.errno.Errno.TheVariants as errno
use Rattle.vfs_base.specs.declared.limits.TheConstants.{READ_MAX}
use Rattle.vfs_base.specs.declared.reply.Reply.{Reply}
use Rattle.vfs_base.specs.declared.reply.Reply.TheVariants as reply
use Rattle.vfs_base.specs.declared.step.Step.TheVariants as step
use Rattle.vfs_model.specs.Chain.{◌>>=◌, ◌>>◌, refuse◌when◌}
use Rattle.vfs_model.specs.CommandText.{bytes_line, fails, line, number_line}
use Rattle.vfs_model.specs.CommandWords.{four_words, meaning, number_of, one_word, same_word, three_words}
use Rattle.vfs_model.specs.FolderCommands.{done_or_fails, one_step}
use Rattle.vfs_model.specs.Mappings.{FileOffset, add_mapping, check_mapping, has_all_mappings, mapping, may_map, remove_mapping}
use Rattle.vfs_model.specs.OpenFiles.{open_file}
use Rattle.vfs_model.specs.Talk.{Talk, ask, ask_holding, changing, checked, shows}
use Rattle.vfs_model.specs.declared.shell_state.OpenFile.{OpenFile}
use Rattle.vfs_model.specs.declared.shell_state.ShellState.{ShellState}
use Rattle.vfs_model.specs.declared.shell_state.Window.{Window}

abbrev pub with_mappings : List (Option Window) → ShellState → ShellState
with_mappings mappings state = record state { mappings = mappings }

-- the open file of a descriptor, to map a part of it
abbrev pub map_checks : ShellState → ℕ → ℕ → ℕ → Bool → Result OpenFile Errno
map_checks state fd off len is_write = do
  file ← open_file state.open_files fd
  may_map file.kind file.reads file.writes off len is_write
  refuse errno.EMFILE when has_all_mappings state.mappings
  Ok file

abbrev pub add_mapped : List ℕ → Window → Talk
add_mapped word window state =
    checked (fails (codes "mmap") word) (add_mapping state.mappings window)
    (λ new. changing (with_mappings new.mappings) (shows (line (codes "window " ++ decimal new.number)))) state

abbrev pub map_replied : List ℕ → OpenFile → ℕ → ℕ → Bool → Reply → Talk
map_replied word file off len is_write (reply.Held hold) =
    add_mapped word (record { hold = hold; file = file.file; off = off; len = len; writes = is_write })
map_replied word file off len is_write (reply.Refused errno) = fails (codes "mmap") word errno
map_replied word file off len is_write _ = shows []

abbrev pub map_file : List ℕ → ℕ → ℕ → ℕ → Bool → Talk
map_file word fd off len is_write state =
    checked (fails (codes "mmap") word) (map_checks state fd off len is_write)
    (λ file. ask (step.Map file.hold) (map_replied word file off len is_write)) state

-- to read the part, or to read and write it
abbrev pub is_for_writing : List ℕ → Option Bool
is_for_writing word =
    if same_word word (codes "r") then Some false
    else if same_word word (codes "rw") then Some true
    else None

abbrev pub mmap_form : List ℕ
mmap_form = codes "mmap FD OFF LEN r|rw"

abbrev pub mmap : List (List ℕ) → Talk
mmap words =
    four_words mmap_form
    (λ word off len access. meaning mmap_form (number_of word)
    (λ fd. meaning mmap_form (number_of off)
    (λ offset. meaning mmap_form (number_of len) (λ size. meaning mmap_form (is_for_writing access) (map_file word fd offset size))))) words

-- where the part lies that is read
abbrev pub load_checks : List (Option Window) → ℕ → ℕ → ℕ → Result FileOffset Errno
load_checks mappings number off len = do
  refuse errno.EINVAL when nat_lt READ_MAX len
  check_mapping mappings number off len false

abbrev pub load_replied : List ℕ → Reply → Talk
load_replied word (reply.Got bytes) = shows (bytes_line bytes)
load_replied word (reply.Refused errno) = fails (codes "mload") word errno
load_replied word _ = shows []

abbrev pub load_mapped : List ℕ → ℕ → ℕ → ℕ → Talk
load_mapped word number off len state =
    checked (fails (codes "mload") word) (load_checks state.mappings number off len)
    (λ at. ask (step.Load at.file at.offset len) (load_replied word)) state

abbrev pub mload_form : List ℕ
mload_form = codes "mload W OFF LEN"

abbrev pub mload : List (List ℕ) → Talk
mload words =
    three_words mload_form
    (λ word off len. meaning mload_form (number_of word)
    (λ number. meaning mload_form (number_of off) (λ offset. meaning mload_form (number_of len) (load_mapped word number offset)))) words

abbrev pub store_replied : List ℕ → Reply → Talk
store_replied word (reply.Count n end) = shows (number_line n)
store_replied word (reply.Refused errno) = fails (codes "mstore") word errno
store_replied word _ = shows []

abbrev pub store_mapped : List ℕ → List ℕ → ℕ → ℕ → Talk
store_mapped word text number off state =
    checked (fails (codes "mstore") word) (check_mapping state.mappings number off (length text) true)
    (λ at. ask (step.Store at.file at.offset text) (store_replied word)) state

abbrev pub mstore_form : List ℕ
mstore_form = codes "mstore W OFF TEXT"

abbrev pub mstore : List (List ℕ) → Talk
mstore words =
    three_words mstore_form
    (λ word off text. meaning mstore_form (number_of word) (λ number. meaning mstore_form (number_of off) (store_mapped word text number))) words

abbrev pub sync_mapped : List ℕ → ℕ → Talk
sync_mapped word number state =
    checked (fails (codes "msync") word) (mapping state.mappings number)
    (λ window. one_step (codes "msync") word (step.Sync window.file)) state

abbrev pub msync : List (List ℕ) → Talk
msync words = one_word (codes "msync W") (λ word. meaning (codes "msync W") (number_of word) (sync_mapped word)) words

-- the mapping is given up when the Unmap is asked, whatever the reply
abbrev pub unmap : List ℕ → ℕ → Talk
unmap word number state =
    checked (fails (codes "munmap") word) (remove_mapping state.mappings number)
    (λ taken. changing (with_mappings taken.mappings)
    (ask_holding (step.Unmap taken.window.hold ∷ []) (step.Unmap taken.window.hold) (done_or_fails (codes "munmap") word))) state

abbrev pub munmap : List (List ℕ) → Talk
munmap words = one_word (codes "munmap W") (λ word. meaning (codes "munmap W") (number_of word) (unmap word)) words

-- what a command of this family does with its words
abbrev pub mapping_command : List ℕ → List (List ℕ) → Option Talk
mapping_command name words =
    if same_word name (codes "mmap") then Some (mmap words)
    else if same_word name (codes "mload") then Some (mload words)
    else if same_word name (codes "mstore") then Some (mstore words)
    else if same_word name (codes "msync") then Some (msync words)
    else if same_word name (codes "munmap") then Some (munmap words)
    else None
