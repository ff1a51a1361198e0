-- A part that may be mapped ends at the greatest offset or before; and what the words of a command of mappings do to the
-- shell's state.
use Rattle.std.proofs.Common.{◌≡◌, ◌≤◌, ◌+◌, ℕ, Bool, true, false, nat_lt, length, codes, List, [], ◌∷◌, Option, Some, None, Result, Ok, Err, refl, arith}
use Rattle.std.proofs.lemmas.Bool.Decides.{nat_tests}
use Rattle.vfs_base.specs.declared.errno.Errno.{Errno}
use Rattle.vfs_base.specs.declared.errno.Errno.TheVariants as errno
use Rattle.vfs_base.specs.declared.kinds.Kind.{Kind}
use Rattle.vfs_base.specs.declared.limits.TheConstants.{OFF_MAX}
use Rattle.vfs_model.specs.Chain.{◌>>◌, refuse◌when◌}
use Rattle.vfs_base.specs.declared.reply.Reply.{Reply}
use Rattle.vfs_base.specs.declared.step.Step.TheVariants as step
use Rattle.vfs_model.specs.CommandWords.{meaning, number_of}
use Rattle.vfs_model.specs.FolderCommands.{done_or_fails}
use Rattle.vfs_model.specs.MappingCommands.{is_for_writing, load_checks, load_mapped, map_checks, map_file, mload, mload_form, mmap, mmap_form, mstore, mstore_form, msync, store_mapped, sync_mapped, unmap, with_mappings}
use Rattle.vfs_model.specs.Mappings.{check_mapping, mapping, may_map, remove_mapping}
use Rattle.vfs_model.specs.Talk.{Talk, ask_holding, checked}
use Rattle.vfs_model.specs.declared.shell_state.ShellState.{ShellState}
use Rattle.vfs_model.specs.declared.shell_state.Window.{Window}

within_when : (first second : Bool) (rest : Result (Unit {0}) Errno) →
    ((refuse errno.EINVAL when first) >> ((refuse errno.EOVERFLOW when second) >> rest)) ≡ Ok tt → second ≡ false
within_when true second rest may = search
within_when false true rest may = search
within_when false false rest may = refl

pub mapped_within : (kind : Kind) (reads writes : Bool) (off len : ℕ) (wants : Bool) →
    may_map kind reads writes off len wants ≡ Ok tt → off + len ≤ OFF_MAX
unfolding may_map
mapped_within kind reads writes off len wants may =
    let inside = within_when _ (nat_lt OFF_MAX (off + len)) _ may in grind (arith, nat_tests)

-- the mapping is given up, and its Unmap is asked
pub unmap_asks : (word : List ℕ) (number : ℕ) (state : ShellState) (window : Window) (left : List (Option Window)) →
    remove_mapping state.mappings number ≡ Ok (record { window = window; mappings = left }) →
    (later : List Reply) → unmap word number state later
    ≡ ask_holding (step.Unmap window.hold ∷ []) (step.Unmap window.hold) (done_or_fails (codes "munmap") word) (with_mappings left state) later
unmap_asks word number state window left taken later = rw taken refl

-- the beginning of the talk keeps the state
abbrev Keeps : Talk → Type 0
Keeps talk = (state : ShellState) → (talk state []).state ≡ state

checked_keeps : {X : Type 0} → (refused : Errno → Talk) (found : Result X Errno) (go : X → Talk) →
    ((errno : Errno) → Keeps (refused errno)) → ((x : X) → Keeps (go x)) → Keeps (checked refused found go)
checked_keeps refused (Ok x) go fails_so goes_so = goes_so x
checked_keeps refused (Err errno) go fails_so goes_so = fails_so errno

meaning_keeps : {X : Type 0} → (form : List ℕ) (found : Option X) (go : X → Talk) → ((x : X) → Keeps (go x)) → Keeps (meaning form found go)
meaning_keeps form (Some x) go goes_so = goes_so x
meaning_keeps form None go goes_so = λ state. refl

map_file_keeps : (word : List ℕ) (fd off len : ℕ) (is_write : Bool) → Keeps (map_file word fd off len is_write)
map_file_keeps word fd off len is_write state =
    checked_keeps _ (map_checks state fd off len is_write) _ (λ errno last. refl) (λ file last. refl) state

pub map_keeps : (words : List (List ℕ)) → Keeps (mmap words)
map_keeps [] state = refl
map_keeps (word ∷ []) state = refl
map_keeps (word ∷ off ∷ []) state = refl
map_keeps (word ∷ off ∷ len ∷ []) state = refl
map_keeps (word ∷ off ∷ len ∷ access ∷ []) state =
    meaning_keeps mmap_form (number_of word) _
    (λ fd. meaning_keeps mmap_form (number_of off) _
    (λ offset. meaning_keeps mmap_form (number_of len) _
    (λ size. meaning_keeps mmap_form (is_for_writing access) (map_file word fd offset size) (map_file_keeps word fd offset size)))) state
map_keeps (word ∷ off ∷ len ∷ access ∷ more ∷ words) state = refl

load_mapped_keeps : (word : List ℕ) (number off len : ℕ) → Keeps (load_mapped word number off len)
load_mapped_keeps word number off len state =
    checked_keeps _ (load_checks state.mappings number off len) _ (λ errno last. refl) (λ at last. refl) state

pub load_keeps : (words : List (List ℕ)) → Keeps (mload words)
load_keeps [] state = refl
load_keeps (word ∷ []) state = refl
load_keeps (word ∷ off ∷ []) state = refl
load_keeps (word ∷ off ∷ len ∷ []) state =
    meaning_keeps mload_form (number_of word) _
    (λ number. meaning_keeps mload_form (number_of off) _
    (λ offset. meaning_keeps mload_form (number_of len) (load_mapped word number offset) (load_mapped_keeps word number offset))) state
load_keeps (word ∷ off ∷ len ∷ more ∷ words) state = refl

store_mapped_keeps : (word text : List ℕ) (number off : ℕ) → Keeps (store_mapped word text number off)
store_mapped_keeps word text number off state =
    checked_keeps _ (check_mapping state.mappings number off (length text) true) _ (λ errno last. refl) (λ at last. refl) state

pub store_keeps : (words : List (List ℕ)) → Keeps (mstore words)
store_keeps [] state = refl
store_keeps (word ∷ []) state = refl
store_keeps (word ∷ off ∷ []) state = refl
store_keeps (word ∷ off ∷ text ∷ []) state =
    meaning_keeps mstore_form (number_of word) _
    (λ number. meaning_keeps mstore_form (number_of off) (store_mapped word text number) (store_mapped_keeps word text number)) state
store_keeps (word ∷ off ∷ text ∷ more ∷ words) state = refl

sync_mapped_keeps : (word : List ℕ) (number : ℕ) → Keeps (sync_mapped word number)
sync_mapped_keeps word number state =
    checked_keeps _ (mapping state.mappings number) _ (λ errno last. refl) (λ window last. refl) state

pub sync_keeps : (words : List (List ℕ)) → Keeps (msync words)
sync_keeps [] state = refl
sync_keeps (word ∷ []) state = meaning_keeps (codes "msync W") (number_of word) (sync_mapped word) (sync_mapped_keeps word) state
sync_keeps (word ∷ more ∷ words) state = refl
