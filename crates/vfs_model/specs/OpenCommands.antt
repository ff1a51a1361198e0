-- The commands that make and take away descriptors: `open`, `dup` and `close`.
use Rattle.std.specs.Prelude.{ℕ, ◌==◌, bit_and, Bool, ◌&&◌, Option, Some, None, List, [], ◌∷◌, ◌++◌, codes, decimal, if◌then◌else◌}
use Rattle.vfs_base.specs.declared.errno.Errno.TheVariants as errno
use Rattle.vfs_base.specs.declared.flags.OpenFlags.{OpenFlags}
use Rattle.vfs_base.specs.declared.ids.FileId.{FileId}
use Rattle.vfs_base.specs.declared.ids.HoldId.{HoldId}
use Rattle.vfs_base.specs.declared.kinds.Kind.{Kind}
use Rattle.vfs_base.specs.declared.reply.Reply.{Reply}
use Rattle.vfs_base.specs.declared.reply.Reply.TheVariants as reply
use Rattle.vfs_base.specs.declared.step.Step.TheVariants as step
use Rattle.vfs_model.specs.Chain.{refuse◌when◌}
use Rattle.vfs_model.specs.CommandText.{fails, line, subject_error_line}
use Rattle.vfs_model.specs.CommandWords.{flags_of, meaning, number_of, one_word, two_words}
use Rattle.vfs_model.specs.CopyCommands.{is_cut}
use Rattle.vfs_model.specs.FolderCommands.{done_or_fails}
use Rattle.vfs_model.specs.OpenFiles.{add_file, close_file, dup_file, has_all_descriptors}
use Rattle.vfs_model.specs.OpenStep.{for_reading, for_writing, truncates}
use Rattle.vfs_model.specs.Talk.{Talk, ask, ask_holding, changing, checked, shows}
use Rattle.vfs_model.specs.TextCommands.{closes}
use Rattle.vfs_model.specs.declared.shell_state.OpenFile.{OpenFile}
use Rattle.vfs_model.specs.declared.shell_state.OpenFiles.{OpenFiles}
use Rattle.vfs_model.specs.declared.shell_state.ShellState.{ShellState}

abbrev pub with_open_files : OpenFiles → ShellState → ShellState
with_open_files open_files state = record state { open_files = open_files }

abbrev pub descriptor_line : ℕ → List ℕ
descriptor_line fd = line (codes "fd " ++ decimal fd)

-- each write goes to the end of the file
abbrev pub appends_always : OpenFlags → Bool
appends_always flags = bit_and flags.0 32 == 32

-- the open file of an Opened, from its first byte on
abbrev pub opened_file : HoldId → FileId → Kind → OpenFlags → OpenFile
opened_file hold file kind flags = record {
  hold = hold;
  file = file;
  kind = kind;
  reads = for_reading flags;
  writes = for_writing flags;
  appends = appends_always flags;
  place = 0;
}

-- the open file gets its descriptor
abbrev pub add_opened : List ℕ → OpenFile → Talk
add_opened word file state =
    checked (fails (codes "open") word) (add_file state.open_files file)
    (λ new. changing (with_open_files new.open_files) (shows (descriptor_line new.fd))) state

-- a file that was to be cut, and wasn't, is closed again and gets no descriptor
abbrev pub cut_replied : List ℕ → OpenFile → Reply → Talk
cut_replied word file reply.Done = add_opened word file
cut_replied word file (reply.Refused errno) =
    closes (codes "open") word file.hold (subject_error_line (codes "open") word errno) shows
cut_replied word file _ = shows []

-- the file is cut to no bytes where that was asked for, also one that this very command made
abbrev pub cut_opened : List ℕ → OpenFlags → OpenFile → Talk
cut_opened word flags file =
    if truncates flags && is_cut file.kind
    then ask_holding (step.Close file.hold ∷ []) (step.Trunc file.file 0) (cut_replied word file) else add_opened word file

abbrev pub open_replied : List ℕ → OpenFlags → Reply → Talk
open_replied word flags (reply.Opened hold file kind) = cut_opened word flags (opened_file hold file kind flags)
open_replied word flags (reply.Refused errno) = fails (codes "open") word errno
open_replied word flags _ = shows []

-- a descriptor is looked for before the path
abbrev pub open_path : List ℕ → OpenFlags → Talk
open_path word flags state =
    checked (fails (codes "open") word) (refuse errno.EMFILE when has_all_descriptors state.open_files)
    (λ passed. ask (step.Open word flags) (open_replied word flags)) state

abbrev pub open_form : List ℕ
open_form = codes "open PATH FLAGS"

abbrev pub open_words : List (List ℕ) → Talk
open_words words = two_words open_form (λ path mode. meaning open_form (flags_of mode) (open_path path)) words

abbrev pub dup_descriptor : List ℕ → ℕ → Talk
dup_descriptor word fd state =
    checked (fails (codes "dup") word) (dup_file state.open_files fd)
    (λ new. changing (with_open_files new.open_files) (shows (descriptor_line new.fd))) state

abbrev pub dup : List (List ℕ) → Talk
dup words = one_word (codes "dup FD") (λ word. meaning (codes "dup FD") (number_of word) (dup_descriptor word)) words

-- the open file is closed with its last descriptor, and a further descriptor goes without a step
abbrev pub close_last : List ℕ → Option OpenFile → Talk
close_last word None = shows []
close_last word (Some file) = ask_holding (step.Close file.hold ∷ []) (step.Close file.hold) (done_or_fails (codes "close") word)

-- the descriptor is given up when the Close is asked, whatever the reply
abbrev pub close_descriptor : List ℕ → ℕ → Talk
close_descriptor word fd state =
    checked (fails (codes "close") word) (close_file state.open_files fd)
    (λ closed. changing (with_open_files closed.open_files) (close_last word closed.last)) state

abbrev pub close : List (List ℕ) → Talk
close words = one_word (codes "close FD") (λ word. meaning (codes "close FD") (number_of word) (close_descriptor word)) words
