-- What the words of a command of open files do to the shell's state, and what a descriptor's close leads to.
use Rattle.std.proofs.Common.{◌≡◌, ℕ, ℤ, ◌*◌, min, nat_lt, length, List, [], ◌∷◌, Option, Some, None, Result, Ok, Err, refl, codes, arith}
use Rattle.std.proofs.lemmas.Bool.Decides.{nat_tests}
use Rattle.vfs_base.specs.declared.errno.Errno.{Errno}
use Rattle.vfs_base.specs.declared.errno.Errno.TheVariants as errno
use Rattle.vfs_base.specs.declared.flags.OpenFlags.{OpenFlags}
use Rattle.vfs_base.specs.declared.reply.Reply.{Reply}
use Rattle.vfs_base.specs.declared.step.Step.TheVariants as step
use Rattle.vfs_model.specs.Chain.{refuse◌when◌}
use Rattle.vfs_model.specs.CommandText.{fails}
use Rattle.vfs_model.specs.CommandWords.{flags_of, meaning, number_of}
use Rattle.vfs_model.specs.FileCommands.{cut_checks, cut_file, fsync, ftruncate, ftruncate_form, lseek_file, placed_file, read, read_checks, read_file, read_form, seek_sized, sync_file, write, write_checks, write_file, write_form}
use Rattle.vfs_model.specs.FolderCommands.{done_or_fails}
use Rattle.vfs_model.specs.OpenCommands.{close_descriptor, open_form, open_path, open_words, with_open_files}
use Rattle.vfs_model.specs.OpenFiles.{close_file, has_all_descriptors, open_file}
use Rattle.vfs_model.specs.Talk.{Talk, ask, ask_holding, checked, shows}
use Rattle.vfs_model.specs.declared.shell_state.OpenFile.{OpenFile}
use Rattle.vfs_model.specs.declared.shell_state.OpenFiles.{OpenFiles}
use Rattle.vfs_model.specs.declared.shell_state.ShellState.{ShellState}

-- the beginning of the talk keeps the state
abbrev Keeps : Talk → Type 0
Keeps talk = (state : ShellState) → (talk state []).state ≡ state

checked_keeps : {X : Type 0} → (refused : Errno → Talk) (found : Result X Errno) (go : X → Talk) →
    ((errno : Errno) → Keeps (refused errno)) → ((x : X) → Keeps (go x)) → Keeps (checked refused found go)
checked_keeps refused (Ok x) go fails_so goes_so = goes_so x
checked_keeps refused (Err errno) go fails_so goes_so = fails_so errno

meaning_keeps : {X : Type 0} → (form : List ℕ) (found : Option X) (go : X → Talk) → ((x : X) → Keeps (go x)) → Keeps (meaning form found go)
meaning_keeps form (Some x) go goes_so = goes_so x
meaning_keeps form None go goes_so = λ state. refl

open_path_keeps : (path : List ℕ) (flags : OpenFlags) → Keeps (open_path path flags)
open_path_keeps path flags state =
    checked_keeps _ (refuse errno.EMFILE when has_all_descriptors state.open_files) _ (λ errno last. refl) (λ passed last. refl) state

pub open_keeps : (words : List (List ℕ)) → Keeps (open_words words)
open_keeps [] state = refl
open_keeps (path ∷ []) state = refl
open_keeps (path ∷ mode ∷ []) state =
    meaning_keeps open_form (flags_of mode) (open_path path)
    (λ flags. open_path_keeps path flags) state
open_keeps (path ∷ mode ∷ more ∷ words) state = refl

read_file_keeps : (word : List ℕ) (fd n : ℕ) → Keeps (read_file word fd n)
read_file_keeps word fd n state = checked_keeps _ (read_checks state.open_files fd n) _ (λ errno last. refl) (λ file last. refl) state

pub read_keeps : (words : List (List ℕ)) → Keeps (read words)
read_keeps [] state = refl
read_keeps (word ∷ []) state = refl
read_keeps (word ∷ n ∷ []) state =
    meaning_keeps read_form (number_of word) (λ fd. meaning read_form (number_of n) (read_file word fd))
    (λ fd. meaning_keeps read_form (number_of n) (read_file word fd) (read_file_keeps word fd)) state
read_keeps (word ∷ n ∷ more ∷ words) state = refl

write_file_keeps : (word : List ℕ) (fd : ℕ) (text : List ℕ) (count : ℕ) → Keeps (write_file word fd text count)
write_file_keeps word fd text count state =
    checked_keeps _ (write_checks state.open_files fd (count * length text)) _ (λ errno last. refl) (λ file last. refl) state

pub write_keeps : (words : List (List ℕ)) → Keeps (write words)
write_keeps [] state = refl
write_keeps (word ∷ []) state = refl
write_keeps (word ∷ text ∷ []) state =
    meaning_keeps write_form (number_of word) (λ fd. write_file word fd text 1) (λ fd. write_file_keeps word fd text 1) state
write_keeps (word ∷ text ∷ count ∷ []) state =
    meaning_keeps write_form (number_of word) (λ fd. meaning write_form (number_of count) (write_file word fd text))
    (λ fd. meaning_keeps write_form (number_of count) (write_file word fd text) (write_file_keeps word fd text)) state
write_keeps (word ∷ text ∷ count ∷ more ∷ words) state = refl

pub seek_end_keeps : (word : List ℕ) (fd : ℕ) (off : ℤ) → Keeps (lseek_file word fd (λ file. ask (step.Size file.file) (seek_sized word fd off)))
seek_end_keeps word fd off state = checked_keeps _ (placed_file state.open_files fd) _ (λ errno last. refl) (λ file last. refl) state

cut_file_keeps : (word : List ℕ) (fd len : ℕ) → Keeps (cut_file word fd len)
cut_file_keeps word fd len state = checked_keeps _ (cut_checks state.open_files fd) _ (λ errno last. refl) (λ file last. refl) state

pub cut_keeps : (words : List (List ℕ)) → Keeps (ftruncate words)
cut_keeps [] state = refl
cut_keeps (word ∷ []) state = refl
cut_keeps (word ∷ len ∷ []) state =
    meaning_keeps ftruncate_form (number_of word) (λ fd. meaning ftruncate_form (number_of len) (cut_file word fd))
    (λ fd. meaning_keeps ftruncate_form (number_of len) (cut_file word fd) (cut_file_keeps word fd)) state
cut_keeps (word ∷ len ∷ more ∷ words) state = refl

sync_file_keeps : (word : List ℕ) (fd : ℕ) → Keeps (sync_file word fd)
sync_file_keeps word fd state = checked_keeps _ (open_file state.open_files fd) _ (λ errno last. refl) (λ file last. refl) state

pub sync_keeps : (words : List (List ℕ)) → Keeps (fsync words)
sync_keeps [] state = refl
sync_keeps (word ∷ []) state = meaning_keeps (codes "fsync FD") (number_of word) (sync_file word) (sync_file_keeps word) state
sync_keeps (word ∷ more ∷ words) state = refl

-- the last descriptor of an open file is given up, and its Close is asked
pub close_asks : (word : List ℕ) (fd : ℕ) (state : ShellState) (file : OpenFile) (left : OpenFiles) →
    close_file state.open_files fd ≡ Ok (record { last = Some file; open_files = left }) →
    (later : List Reply) → close_descriptor word fd state later
    ≡ ask_holding (step.Close file.hold ∷ []) (step.Close file.hold) (done_or_fails (codes "close") word) (with_open_files left state) later
close_asks word fd state file left closed later = rw closed refl

-- the open file stays with a further descriptor
pub close_goes : (word : List ℕ) (fd : ℕ) (state : ShellState) (left : OpenFiles) →
    close_file state.open_files fd ≡ Ok (record { last = None; open_files = left }) →
    (later : List Reply) → close_descriptor word fd state later ≡ shows [] (with_open_files left state) later
close_goes word fd state left closed later = rw closed refl

saturated : (size : ℕ) → nat_lt 1048576 (min size 18446744073709551615) ≡ nat_lt 1048576 size
saturated size = grind (arith, nat_tests)

pub saturated_checks : (open_files : OpenFiles) (fd size : ℕ) → write_checks open_files fd (min size 18446744073709551615) ≡ write_checks open_files fd size
saturated_checks open_files fd size = rw (saturated size) refl
