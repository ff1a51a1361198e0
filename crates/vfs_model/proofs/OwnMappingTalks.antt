-- The commands of mappings ask only what the session may ask.
use Rattle.std.specs.Prelude.{◌≡◌, ℕ, Bool, true, false, nat_lt, ◌++◌, Some, None, Result, Ok, Err, List, [], ◌∷◌, length, codes, decimal, refl}
use Rattle.std.proofs.Common.{sym, subst}
use Rattle.vfs_base.specs.declared.errno.Errno.{Errno}
use Rattle.vfs_base.specs.declared.errno.Errno.TheVariants as errno
use Rattle.vfs_base.specs.declared.limits.TheConstants.{READ_MAX}
use Rattle.vfs_base.specs.declared.reply.Reply.{Reply}
use Rattle.vfs_base.specs.declared.reply.Reply.TheVariants as reply
use Rattle.vfs_base.specs.declared.step.Step.TheVariants as step
use Rattle.vfs_model.proofs.KnownFiles.{Keeper, Knows, first-opened, keeps_window}
use Rattle.vfs_model.proofs.KnownMappings.{check-kept, map-known, map-passes, remove-known}
use Rattle.vfs_model.proofs.KnownOpenFiles.{found-ok, open-held, then-ok}
use Rattle.vfs_model.proofs.OwnFileTalks.{gone-asks}
use Rattle.vfs_model.proofs.OwnFiles.{AsksOwn, Behind, OptionAsks, WordsAsk, asking-own, asking-plain, checked-by, checked-own, four-ask, known, meaning-asks, one-asks, showing, three-ask}
use Rattle.vfs_model.proofs.OwnFolderTalks.{step-asks}
use Rattle.vfs_model.proofs.StepAnswers.{refuse-passed, then-first}
use Rattle.vfs_model.specs.Chain.{◌>>=◌, ◌>>◌, refuse◌when◌}
use Rattle.vfs_model.specs.CommandText.{fails, line}
use Rattle.vfs_model.specs.CommandWords.{meaning, number_of}
use Rattle.vfs_model.specs.FolderCommands.{done_or_fails, one_step}
use Rattle.vfs_model.specs.HeldFiles.{Held, MapsNew, file_held, held_after_map, with_held}
use Rattle.vfs_model.specs.MappingCommands.{add_mapped, is_for_writing, load_checks, load_mapped, load_replied, map_checks, map_file, map_replied, mapping_command, mload, mload_form, mmap, mmap_form, mstore, mstore_form, msync, munmap, store_mapped, store_replied, sync_mapped, unmap, with_mappings}
use Rattle.vfs_model.specs.Mappings.{add_mapping, check_mapping, has_all_mappings, mapping, may_map, remove_mapping}
use Rattle.vfs_model.specs.OpenFiles.{open_file}
use Rattle.vfs_model.specs.Talk.{ask, ask_holding, changing, shows}
use Rattle.vfs_model.specs.declared.shell_state.OpenFile.{OpenFile}
use Rattle.vfs_model.specs.declared.shell_state.ShellState.{ShellState}
use Rattle.vfs_model.specs.declared.shell_state.Window.{Window}

-- checks behind which the open file of the descriptor is at hand
map-room : (found : Result OpenFile Errno) (file : OpenFile) (first : OpenFile → Result (Unit {0}) Errno) (full : Bool) →
    (found >>= λ x. first x >> ((refuse errno.EMFILE when full) >> Ok x)) ≡ Ok file → full ≡ false
map-room (Err refused) file first full e = absurd (cc)
map-room (Ok x) file first full e =
    refuse-passed errno.EMFILE full (then-first (refuse errno.EMFILE when full) (Ok x) file (then-ok (first x) ((refuse errno.EMFILE when full) >> Ok x) file e))

map-passed : (state : ShellState) (fd off len : ℕ) (is_write : Bool) (file : OpenFile) → map_checks state fd off len is_write ≡ Ok file →
    has_all_mappings state.mappings ≡ false
map-passed state fd off len is_write file e =
    map-room (open_file state.open_files fd) file (λ x. may_map x.kind x.reads x.writes off len is_write) (has_all_mappings state.mappings) e

map-checked : (state : ShellState) (fd off len : ℕ) (is_write : Bool) (file : OpenFile) → map_checks state fd off len is_write ≡ Ok file →
    open_file state.open_files fd ≡ Ok file
map-checked state fd off len is_write file e =
    found-ok (open_file state.open_files fd)
    (λ x. may_map x.kind x.reads x.writes off len is_write >> ((refuse errno.EMFILE when has_all_mappings state.mappings) >> Ok x)) file
    (λ x h. let last = then-ok (refuse errno.EMFILE when has_all_mappings state.mappings) (Ok x) file
    (then-ok (may_map x.kind x.reads x.writes off len is_write) ((refuse errno.EMFILE when has_all_mappings state.mappings) >> Ok x) file h) in cc) e

module _ (k : ℕ) (b : Behind k) where
  add-asks : (word : List ℕ) (window : Window) (state : ShellState) (held : Held) → has_all_mappings state.mappings ≡ false →
      Knows k held state (Some (keeps_window window)) None → AsksOwn k b held (λ more. add_mapped word window state more)
  add-asks word window state held room knows =
      checked-by k b (fails (codes "mmap") word) (add_mapping state.mappings window)
      (λ new. changing (with_mappings new.mappings) (shows (line (codes "window " ++ decimal new.number)))) state held
      (λ errno e. absurd (map-passes state.mappings window errno room e))
      (λ new e. (showing k b _).from (with_mappings new.mappings state) held (map-known k held state window new e knows))

  mapped-asks : (word : List ℕ) (file : OpenFile) (off len : ℕ) (is_write : Bool) (reply : Reply)
      (state : ShellState) (held : Held) → has_all_mappings state.mappings ≡ false → Knows k held state None None → file_held held.files k file.hold ≡ Some file.file →
      MapsNew k held.files (file_held held.files k file.hold) reply →
      AsksOwn k b (held_after_map held (file_held held.files k file.hold) reply) (λ more. map_replied word file off len is_write reply state more)
  mapped-asks word file off len is_write (reply.Held hold) = λ state held room knows is new.
      let window : Window = record { hold = hold; file = file.file; off = off; len = len; writes = is_write } in
      let one : Keeper = keeps_window window in
      let now = add-asks word window state (with_held hold (Some file.file) held) room (first-opened state k held one knows new.0) in
      subst (λ kept. AsksOwn k b (with_held hold kept held) (λ more. add_mapped word window state more)) (sym is) now
  mapped-asks word file off len is_write (reply.Refused errno) = λ state held room knows is new. (showing k b _).from state held knows
  mapped-asks word file off len is_write _ = λ state held room knows is new. absurd new

  map-asks : (word : List ℕ) (fd off len : ℕ) (is_write : Bool) → WordsAsk k b (map_file word fd off len is_write)
  map-asks word fd off len is_write = record {
    from = λ state held knows. checked-own k b (fails (codes "mmap") word) (map_checks state fd off len is_write)
        (λ file. ask (step.Map file.hold) (map_replied word file off len is_write)) state held
        (λ errno. (showing k b _).from state held knows)
        (λ file e. asking-own k b [] (step.Map file.hold) (map_replied word file off len is_write) state held refl
        (λ reply can. mapped-asks word file off len is_write reply state held (map-passed state fd off len is_write file e) knows
        (open-held k held state None None fd file knows (map-checked state fd off len is_write file e)) can));
  }

  loaded-asks : (word : List ℕ) (reply : Reply) → WordsAsk k b (load_replied word reply)
  loaded-asks word (reply.Got bytes) = showing k b _
  loaded-asks word (reply.Refused errno) = showing k b _
  loaded-asks word _ = showing k b _

  load-asks : (word : List ℕ) (number off len : ℕ) → WordsAsk k b (load_mapped word number off len)
  load-asks word number off len = record {
    from = λ state held knows. checked-own k b (fails (codes "mload") word) (load_checks state.mappings number off len)
        (λ at. ask (step.Load at.file at.offset len) (load_replied word)) state held
        (λ errno. (showing k b _).from state held knows)
        (λ at e. asking-plain k b [] (step.Load at.file at.offset len) (load_replied word) state held
        (record {
          may = check-kept k held state number off len false at knows
              (then-ok (refuse errno.EINVAL when nat_lt READ_MAX len) (check_mapping state.mappings number off len false) at e);
          same = λ reply. refl;
        })
        (λ reply. (loaded-asks word reply).from state held knows));
  }

  stored-asks : (word : List ℕ) (reply : Reply) → WordsAsk k b (store_replied word reply)
  stored-asks word (reply.Count n end) = showing k b _
  stored-asks word (reply.Refused errno) = showing k b _
  stored-asks word _ = showing k b _

  store-asks : (word text : List ℕ) (number off : ℕ) → WordsAsk k b (store_mapped word text number off)
  store-asks word text number off = record {
    from = λ state held knows. checked-own k b (fails (codes "mstore") word) (check_mapping state.mappings number off (length text) true)
        (λ at. ask (step.Store at.file at.offset text) (store_replied word)) state held
        (λ errno. (showing k b _).from state held knows)
        (λ at e. asking-plain k b [] (step.Store at.file at.offset text) (store_replied word) state held
        (record { may = check-kept k held state number off (length text) true at knows e; same = λ reply. refl })
        (λ reply. (stored-asks word reply).from state held knows));
  }

  sync-asks : (word : List ℕ) (number : ℕ) → WordsAsk k b (sync_mapped word number)
  sync-asks word number = record {
    from = λ state held knows. checked-own k b (fails (codes "msync") word) (mapping state.mappings number)
        (λ window. one_step (codes "msync") word (step.Sync window.file)) state held
        (λ errno. (showing k b _).from state held knows)
        (λ window e. (step-asks k b (codes "msync") word (step.Sync window.file) (λ held. record { may = refl; same = λ reply. refl })).from state held knows);
  }

  unmap-asks : (word : List ℕ) (number : ℕ) → WordsAsk k b (unmap word number)
  unmap-asks word number = record {
    from = λ state held knows. checked-own k b (fails (codes "munmap") word) (remove_mapping state.mappings number)
        (λ taken. changing (with_mappings taken.mappings)
        (ask_holding (step.Unmap taken.window.hold ∷ []) (step.Unmap taken.window.hold) (done_or_fails (codes "munmap") word))) state held
        (λ errno. (showing k b _).from state held knows)
        (λ taken e. asking-own k b (step.Unmap taken.window.hold ∷ []) (step.Unmap taken.window.hold) (done_or_fails (codes "munmap") word)
        (with_mappings taken.mappings state) held refl
        (λ reply can. gone-asks k b (codes "munmap") word (keeps_window taken.window) reply (with_mappings taken.mappings state) held
        (remove-known k held state number taken e knows)));
  }

  maps-ask : (words : List (List ℕ)) → WordsAsk k b (mmap words)
  maps-ask words =
      four-ask k b mmap_form
      (λ word off len access. meaning mmap_form (number_of word)
      (λ fd. meaning mmap_form (number_of off)
      (λ offset. meaning mmap_form (number_of len) (λ size. meaning mmap_form (is_for_writing access) (map_file word fd offset size)))))
      (λ word off len access. meaning-asks k b mmap_form (number_of word)
      (λ fd. meaning mmap_form (number_of off)
      (λ offset. meaning mmap_form (number_of len) (λ size. meaning mmap_form (is_for_writing access) (map_file word fd offset size))))
      (λ fd. meaning-asks k b mmap_form (number_of off)
      (λ offset. meaning mmap_form (number_of len) (λ size. meaning mmap_form (is_for_writing access) (map_file word fd offset size)))
      (λ offset. meaning-asks k b mmap_form (number_of len) (λ size. meaning mmap_form (is_for_writing access) (map_file word fd offset size))
      (λ size. meaning-asks k b mmap_form (is_for_writing access) (map_file word fd offset size) (map-asks word fd offset size))))) words

  loads-ask : (words : List (List ℕ)) → WordsAsk k b (mload words)
  loads-ask words =
      three-ask k b mload_form
      (λ word off len. meaning mload_form (number_of word)
      (λ number. meaning mload_form (number_of off) (λ offset. meaning mload_form (number_of len) (load_mapped word number offset))))
      (λ word off len. meaning-asks k b mload_form (number_of word)
      (λ number. meaning mload_form (number_of off) (λ offset. meaning mload_form (number_of len) (load_mapped word number offset)))
      (λ number. meaning-asks k b mload_form (number_of off) (λ offset. meaning mload_form (number_of len) (load_mapped word number offset))
      (λ offset. meaning-asks k b mload_form (number_of len) (load_mapped word number offset) (load-asks word number offset)))) words

  stores-ask : (words : List (List ℕ)) → WordsAsk k b (mstore words)
  stores-ask words =
      three-ask k b mstore_form
      (λ word off text. meaning mstore_form (number_of word) (λ number. meaning mstore_form (number_of off) (store_mapped word text number)))
      (λ word off text. meaning-asks k b mstore_form (number_of word) (λ number. meaning mstore_form (number_of off) (store_mapped word text number))
      (λ number. meaning-asks k b mstore_form (number_of off) (store_mapped word text number) (store-asks word text number))) words

  syncs-ask : (words : List (List ℕ)) → WordsAsk k b (msync words)
  syncs-ask words =
      one-asks k b (codes "msync W") (λ word. meaning (codes "msync W") (number_of word) (sync_mapped word))
      (λ word. meaning-asks k b (codes "msync W") (number_of word) (sync_mapped word) (sync-asks word)) words

  unmaps-ask : (words : List (List ℕ)) → WordsAsk k b (munmap words)
  unmaps-ask words =
      one-asks k b (codes "munmap W") (λ word. meaning (codes "munmap W") (number_of word) (unmap word))
      (λ word. meaning-asks k b (codes "munmap W") (number_of word) (unmap word) (unmap-asks word)) words

  pub mapping-asks : (name : List ℕ) (words : List (List ℕ)) → OptionAsks k b (mapping_command name words)
  mapping-asks name words = search (known, maps-ask, loads-ask, stores-ask, syncs-ask, unmaps-ask) depth 12
