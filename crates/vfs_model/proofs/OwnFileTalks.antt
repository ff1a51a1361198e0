-- The commands of open files ask only what the session may ask.
use Rattle.std.specs.Prelude.{◌≡◌, ℕ, ◌*◌, Bool, true, false, not, ◌&&◌, nat_lt, ℤ, Option, Some, None, option_map, Ok, List, [], ◌∷◌, length, codes, if◌then◌else◌, refl}
use Rattle.std.specs.List.{list_any, repeat}
use Rattle.vfs_base.specs.declared.errno.Errno.TheVariants as errno
use Rattle.vfs_base.specs.declared.flags.OpenFlags.{OpenFlags}
use Rattle.vfs_base.specs.declared.ids.FileId.{FileId}
use Rattle.vfs_base.specs.declared.kinds.Kind.{Kind}
use Rattle.vfs_base.specs.declared.limits.TheConstants.{READ_MAX, WRITE_MAX}
use Rattle.vfs_base.specs.declared.reply.Reply.{Reply}
use Rattle.vfs_base.specs.declared.reply.Reply.TheVariants as reply
use Rattle.vfs_base.specs.declared.step.Step.TheVariants as step
use Rattle.vfs_model.proofs.KnownFiles.{Keeper, Knows, first-closed, first-opened, keeps_open}
use Rattle.vfs_model.proofs.KnownOpenFiles.{add-known, add-passes, changed-same, close-known, dup-same, found-ok, open-kept, place-same, same-files-kept, seek-same, then-ok}
use Rattle.vfs_model.proofs.OwnCopyTalks.{closes-asks as closing, first-keeps}
use Rattle.vfs_model.proofs.OwnFiles.{AsksOwn, Behind, IsPlain, OptionAsks, TalkAsks, WordsAsk, asking, asking-formed, asking-own, asking-plain, changing-asks, checked-by, checked-own, known, meaning-asks, one-asks, showing, showing-lost, three-ask, two-ask}
use Rattle.vfs_model.proofs.OwnFolderTalks.{done-asks, step-asks}
use Rattle.vfs_model.proofs.StepAnswers.{refuse-passed}
use Rattle.vfs_model.specs.Chain.{◌>>◌, refuse◌when◌}
use Rattle.vfs_model.specs.CommandText.{fails, number_line, subject_error_line}
use Rattle.vfs_model.specs.CommandWords.{flags_of, meaning, number_of, offset_of, same_word}
use Rattle.vfs_model.specs.CopyCommands.{is_cut}
use Rattle.vfs_model.specs.FileCommands.{changed_or_same, cut_checks, cut_file, file_command, fsync, ftruncate, ftruncate_form, kind_place, lseek, lseek_file, lseek_form, placed_file, read, read_checks, read_file, read_form, read_replied, seek_from, seek_place, seek_sized, sync_file, with_place, write, write_checks, write_file, write_form, write_replied, write_step}
use Rattle.vfs_model.specs.FolderCommands.{done_or_fails, one_step}
use Rattle.vfs_model.specs.HeldFiles.{Held, IsDone, OpensNew, held_after_close, held_after_open, keeps_file}
use Rattle.vfs_model.specs.OpenCommands.{add_opened, close, close_descriptor, close_last, cut_opened, cut_replied, descriptor_line, dup, dup_descriptor, open_form, open_path, open_replied, open_words, opened_file, with_open_files}
use Rattle.vfs_model.specs.OpenFiles.{add_file, close_file, dup_file, has_all_descriptors, open_file, seek, set_place}
use Rattle.vfs_model.specs.OpenStep.{truncates}
use Rattle.vfs_model.specs.Talk.{Talk, ask, ask_holding, changing, shows}
use Rattle.vfs_model.specs.declared.shell_state.OpenFile.{OpenFile}
use Rattle.vfs_model.specs.declared.shell_state.OpenFiles.{OpenFiles}
use Rattle.vfs_model.specs.declared.shell_state.ShellState.{ShellState}
use Rattle.vfs_model.specs.declared.shell_state.Whence.{Whence}
use Rattle.vfs_model.specs.declared.shell_state.Whence.TheVariants as whence

-- checks behind which the open file of the descriptor is at hand
read-checked : (f : OpenFiles) (fd n : ℕ) (file : OpenFile) → read_checks f fd n ≡ Ok file → open_file f fd ≡ Ok file
read-checked f fd n file e =
    found-ok (open_file f fd) (λ x. (refuse errno.EBADF when not x.reads) >> ((refuse errno.EINVAL when nat_lt READ_MAX n) >> Ok x)) file
    (λ x h. let last = then-ok (refuse errno.EINVAL when nat_lt READ_MAX n) (Ok x) file
    (then-ok (refuse errno.EBADF when not x.reads) ((refuse errno.EINVAL when nat_lt READ_MAX n) >> Ok x) file h) in cc) e

write-checked : (f : OpenFiles) (fd n : ℕ) (file : OpenFile) → write_checks f fd n ≡ Ok file → open_file f fd ≡ Ok file
write-checked f fd n file e =
    found-ok (open_file f fd) (λ x. (refuse errno.EBADF when not x.writes) >> ((refuse errno.EINVAL when nat_lt WRITE_MAX n) >> Ok x)) file
    (λ x h. let last = then-ok (refuse errno.EINVAL when nat_lt WRITE_MAX n) (Ok x) file
    (then-ok (refuse errno.EBADF when not x.writes) ((refuse errno.EINVAL when nat_lt WRITE_MAX n) >> Ok x) file h) in cc) e

cut-checked : (f : OpenFiles) (fd : ℕ) (file : OpenFile) → cut_checks f fd ≡ Ok file → open_file f fd ≡ Ok file
cut-checked f fd file e =
    found-ok (open_file f fd) (λ x. (refuse errno.EINVAL when not x.writes) >> Ok x) file
    (λ x h. let last = then-ok (refuse errno.EINVAL when not x.writes) (Ok x) file h in cc) e

-- the place of an open file changes
placed-known : (fd : ℕ) (kind : Kind) (place : ℕ) (state : ShellState) (k : ℕ) (held : Held) → Knows k held state None None →
    Knows k held (with_place fd kind place state) None None
placed-known fd kind place state k held knows =
    same-files-kept k held state None None (changed_or_same state.open_files (set_place state.open_files fd (kind_place kind place)))
    (changed-same state.open_files (set_place state.open_files fd (kind_place kind place)) (place-same state.open_files fd (kind_place kind place))) knows

module _ (k : ℕ) (b : Behind k) where
  module _ (word : List ℕ) (state : ShellState) (held : Held) (room : has_all_descriptors state.open_files ≡ false) where
    add-asks : (file : OpenFile) → Knows k held state (Some (keeps_open file)) None → AsksOwn k b held (λ more. add_opened word file state more)
    add-asks file knows =
        checked-by k b (fails (codes "open") word) (add_file state.open_files file)
        (λ new. changing (with_open_files new.open_files) (shows (descriptor_line new.fd))) state held
        (λ errno e. absurd (add-passes state.open_files file errno room e))
        (λ new e. (showing k b _).from (with_open_files new.open_files state) held (add-known k held state file new e knows))

    cut-replied-asks : (file : OpenFile) (reply : Reply) → IsDone reply → Knows k held state (Some (keeps_open file)) None →
        AsksOwn k b held (λ more. cut_replied word file reply state more)
    cut-replied-asks file reply.Done can = add-asks file
    cut-replied-asks file (reply.Refused errno) can = λ knows.
        (closing k b (codes "open") word (subject_error_line (codes "open") word errno) shows (showing k b) (keeps_open file)).from state held knows
    cut-replied-asks file _ can = absurd can

    cutting : (file : OpenFile) → Knows k held state (Some (keeps_open file)) None →
        AsksOwn k b held (λ more. ask_holding (step.Close file.hold ∷ []) (step.Trunc file.file 0) (cut_replied word file) state more)
    cutting file knows =
        asking-formed k b (step.Close file.hold ∷ []) (step.Trunc file.file 0) (cut_replied word file) state held
        (record { may = first-keeps k b state held (keeps_open file) None knows; same = λ reply. refl })
        (λ reply can. cut-replied-asks file reply can knows)

    cut-by : (cuts : Bool) (file : OpenFile) → Knows k held state (Some (keeps_open file)) None →
        AsksOwn k b held (λ more. (if cuts then ask_holding (step.Close file.hold ∷ []) (step.Trunc file.file 0) (cut_replied word file) else add_opened word file) state more)
    cut-by true file knows = cutting file knows
    cut-by false file knows = add-asks file knows

    cut-asks : (flags : OpenFlags) (file : OpenFile) → Knows k held state (Some (keeps_open file)) None →
        AsksOwn k b held (λ more. cut_opened word flags file state more)
    cut-asks flags file knows = cut-by (truncates flags && is_cut file.kind) file knows

  opened-asks : (word : List ℕ) (flags : OpenFlags) (reply : Reply)
      (state : ShellState) (held : Held) → has_all_descriptors state.open_files ≡ false → Knows k held state None None → OpensNew k held.files reply →
      AsksOwn k b (held_after_open held reply) (λ more. open_replied word flags reply state more)
  opened-asks word flags (reply.Opened hold file kind) = λ state held room knows new.
      let one = opened_file hold file kind flags in
      cut-asks word state _ room flags one (first-opened state k held (keeps_open one) knows new)
  opened-asks word flags (reply.Refused errno) = λ state held room knows new. (showing k b _).from state held knows
  opened-asks word flags _ = λ state held room knows new. absurd new

  open-asks : (word : List ℕ) (flags : OpenFlags) → WordsAsk k b (open_path word flags)
  open-asks word flags = record {
    from = λ state held knows. checked-own k b (fails (codes "open") word) (refuse errno.EMFILE when has_all_descriptors state.open_files)
        (λ passed. ask (step.Open word flags) (open_replied word flags)) state held
        (λ errno. (showing k b _).from state held knows)
        (λ passed e. asking-own k b [] (step.Open word flags) (open_replied word flags) state held refl
        (λ reply can. opened-asks word flags reply state held (refuse-passed errno.EMFILE (has_all_descriptors state.open_files) e) knows can));
  }

  placing : (fd : ℕ) (kind : Kind) (place : ℕ) (text : List ℕ) → WordsAsk k b (changing (with_place fd kind place) (shows text))
  placing fd kind place text =
      changing-asks k b None None (with_place fd kind place) (shows text) (λ state held knows. placed-known fd kind place state k held knows)
      (showing k b text)

  read-replied-asks : (word : List ℕ) (fd : ℕ) (file : OpenFile) (reply : Reply) → WordsAsk k b (read_replied word fd file reply)
  read-replied-asks word fd file (reply.Got bytes) = placing fd file.kind _ _
  read-replied-asks word fd file (reply.Refused errno) = showing k b _
  read-replied-asks word fd file _ = showing k b _

  read-asks : (word : List ℕ) (fd n : ℕ) → WordsAsk k b (read_file word fd n)
  read-asks word fd n = record {
    from = λ state held knows. checked-own k b (fails (codes "read") word) (read_checks state.open_files fd n)
        (λ file. ask (step.Read file.file file.place n) (read_replied word fd file)) state held
        (λ errno. (showing k b _).from state held knows)
        (λ file e. asking-plain k b [] (step.Read file.file file.place n) (read_replied word fd file) state held
        (record { may = open-kept k held state None None fd file knows (read-checked state.open_files fd n file e); same = λ reply. refl })
        (λ reply. (read-replied-asks word fd file reply).from state held knows));
  }

  write-replied-asks : (word : List ℕ) (fd : ℕ) (file : OpenFile) (reply : Reply) → WordsAsk k b (write_replied word fd file reply)
  write-replied-asks word fd file (reply.Count n end) = placing fd file.kind end _
  write-replied-asks word fd file (reply.Refused errno) = showing k b _
  write-replied-asks word fd file _ = showing k b _

  write-by : (appends : Bool) (file : FileId) (place : ℕ) (bytes : List ℕ) (held : Held) → list_any (keeps_file file) held.files ≡ true →
      IsPlain k b held (if appends then step.Append file bytes else step.Write file place bytes)
  write-by true file place bytes held kept = record { may = kept; same = λ reply. refl }
  write-by false file place bytes held kept = record { may = kept; same = λ reply. refl }

  write-asks : (word : List ℕ) (fd : ℕ) (text : List ℕ) (count : ℕ) → WordsAsk k b (write_file word fd text count)
  write-asks word fd text count = record {
    from = λ state held knows. checked-own k b (fails (codes "write") word) (write_checks state.open_files fd (count * length text))
        (λ file. ask (write_step file (repeat count text)) (write_replied word fd file)) state held
        (λ errno. (showing k b _).from state held knows)
        (λ file e. asking-plain k b [] (write_step file (repeat count text)) (write_replied word fd file) state held
        (write-by file.appends file.file file.place (repeat count text) held
        (open-kept k held state None None fd file knows (write-checked state.open_files fd (count * length text) file e)))
        (λ reply. (write-replied-asks word fd file reply).from state held knows));
  }

  writes-ask : (words : List (List ℕ)) → WordsAsk k b (write words)
  writes-ask [] = showing k b _
  writes-ask (word ∷ []) = showing k b _
  writes-ask (word ∷ text ∷ []) =
      meaning-asks k b write_form (number_of word) (λ fd. write_file word fd text 1) (λ fd. write-asks word fd text 1)
  writes-ask (word ∷ text ∷ count ∷ []) =
      meaning-asks k b write_form (number_of word) (λ fd. meaning write_form (number_of count) (write_file word fd text))
      (λ fd. meaning-asks k b write_form (number_of count) (write_file word fd text) (write-asks word fd text))
  writes-ask (word ∷ text ∷ count ∷ more ∷ words) = showing k b _

  place-asks : (word : List ℕ) (fd : ℕ) (off : ℤ) (whence : Whence) → WordsAsk k b (seek_place word fd off whence)
  place-asks word fd off whence = record {
    from = λ state held knows. checked-own k b (fails (codes "lseek") word) (seek state.open_files fd off whence)
        (λ sought. changing (with_open_files sought.open_files) (shows (number_line sought.place))) state held
        (λ errno. (showing k b _).from state held knows)
        (λ sought e. (showing k b _).from (with_open_files sought.open_files state) held
        (same-files-kept k held state None None sought.open_files (seek-same state.open_files fd off whence sought e) knows));
  }

  sized-asks : (word : List ℕ) (fd : ℕ) (off : ℤ) (reply : Reply) → WordsAsk k b (seek_sized word fd off reply)
  sized-asks word fd off (reply.SizeIs size) = place-asks word fd off _
  sized-asks word fd off (reply.Refused errno) = showing k b _
  sized-asks word fd off _ = showing k b _

  end-asks : (word : List ℕ) (fd : ℕ) (off : ℤ) (file : OpenFile) → WordsAsk k b (ask (step.Size file.file) (seek_sized word fd off))
  end-asks word fd off file =
      asking k b None None [] (step.Size file.file) (seek_sized word fd off) (λ held. record { may = refl; same = λ reply. refl }) (sized-asks word fd off)

  -- what a word that says from where leads to
  abbrev FromAsks : Option (OpenFile → Talk) → Type 0
  FromAsks None = Unit {0}
  FromAsks (Some go) = (file : OpenFile) → WordsAsk k b (go file)

  from-if : (test : Bool) (go : OpenFile → Talk) (other : Option (OpenFile → Talk)) →
      ((file : OpenFile) → WordsAsk k b (go file)) → FromAsks other → FromAsks (if test then Some go else other)
  from-if true go other each rest = each
  from-if false go other each rest = rest

  from-asks : (from word : List ℕ) (fd : ℕ) (off : ℤ) → FromAsks (seek_from from word fd off)
  from-asks from word fd off =
      from-if (same_word from (codes "set")) (λ file. seek_place word fd off whence.Set) _ (λ file. place-asks word fd off whence.Set)
      (from-if (same_word from (codes "cur")) (λ file. seek_place word fd off whence.Cur) _ (λ file. place-asks word fd off whence.Cur)
      (from-if (same_word from (codes "end")) (λ file. ask (step.Size file.file) (seek_sized word fd off)) None (end-asks word fd off) tt))

  lseek-file-asks : (word : List ℕ) (fd : ℕ) (go : OpenFile → Talk) → ((file : OpenFile) → WordsAsk k b (go file)) →
      WordsAsk k b (lseek_file word fd go)
  lseek-file-asks word fd go each = record {
    from = λ state held knows. checked-own k b (fails (codes "lseek") word) (placed_file state.open_files fd) go state held
        (λ errno. (showing k b _).from state held knows)
        (λ file e. (each file).from state held knows);
  }

  lseek-asks : (form word : List ℕ) (fd : ℕ) (from : Option (OpenFile → Talk)) → FromAsks from →
      WordsAsk k b (meaning form from (lseek_file word fd))
  lseek-asks form word fd None each = showing k b _
  lseek-asks form word fd (Some go) each = lseek-file-asks word fd go each

  dup-asks : (word : List ℕ) (fd : ℕ) → WordsAsk k b (dup_descriptor word fd)
  dup-asks word fd = record {
    from = λ state held knows. checked-own k b (fails (codes "dup") word) (dup_file state.open_files fd)
        (λ new. changing (with_open_files new.open_files) (shows (descriptor_line new.fd))) state held
        (λ errno. (showing k b _).from state held knows)
        (λ new e. (showing k b _).from (with_open_files new.open_files state) held
        (same-files-kept k held state None None new.open_files (dup-same state.open_files fd new e) knows));
  }

  truncate-asks : (word : List ℕ) (fd len : ℕ) → WordsAsk k b (cut_file word fd len)
  truncate-asks word fd len = record {
    from = λ state held knows. checked-own k b (fails (codes "ftruncate") word) (cut_checks state.open_files fd)
        (λ file. one_step (codes "ftruncate") word (step.Trunc file.file len)) state held
        (λ errno. (showing k b _).from state held knows)
        (λ file e. asking-plain k b [] (step.Trunc file.file len) (done_or_fails (codes "ftruncate") word) state held
        (record { may = open-kept k held state None None fd file knows (cut-checked state.open_files fd file e); same = λ reply. refl })
        (λ reply. (done-asks k b (codes "ftruncate") word reply).from state held knows));
  }

  sync-asks : (word : List ℕ) (fd : ℕ) → WordsAsk k b (sync_file word fd)
  sync-asks word fd = record {
    from = λ state held knows. checked-own k b (fails (codes "fsync") word) (open_file state.open_files fd)
        (λ file. one_step (codes "fsync") word (step.Sync file.file)) state held
        (λ errno. (showing k b _).from state held knows)
        (λ file e. (step-asks k b (codes "fsync") word (step.Sync file.file) (λ held. record { may = refl; same = λ reply. refl })).from state held knows);
  }

  -- a reference that is given up, with nothing to show
  pub gone-asks : (command subject : List ℕ) (one : Keeper) (reply : Reply) (state : ShellState) (held : Held) →
      Knows k held state (Some one) None → AsksOwn k b (held_after_close held one.hold reply) (λ more. done_or_fails command subject reply state more)
  gone-asks command subject one reply.Done = λ state held knows. (showing k b _).from state _ (first-closed state k held None one knows)
  gone-asks command subject one (reply.Refused errno) = λ state held knows. showing-lost k b (Some one) None _ state held knows
  gone-asks command subject one _ = λ state held knows. showing-lost k b (Some one) None _ state held knows

  last-asks : (word : List ℕ) (last : Option OpenFile) → TalkAsks k b (option_map keeps_open last) None (close_last word last)
  last-asks word None = showing k b _
  last-asks word (Some file) = record {
    from = λ state held knows. asking-own k b (step.Close file.hold ∷ []) (step.Close file.hold) (done_or_fails (codes "close") word) state held refl
        (λ reply can. gone-asks (codes "close") word (keeps_open file) reply state held knows);
  }

  close-asks : (word : List ℕ) (fd : ℕ) → WordsAsk k b (close_descriptor word fd)
  close-asks word fd = record {
    from = λ state held knows. checked-own k b (fails (codes "close") word) (close_file state.open_files fd)
        (λ closed. changing (with_open_files closed.open_files) (close_last word closed.last)) state held
        (λ errno. (showing k b _).from state held knows)
        (λ closed e. (last-asks word closed.last).from (with_open_files closed.open_files state) held (close-known k held state fd closed e knows));
  }

  opens-ask : (words : List (List ℕ)) → WordsAsk k b (open_words words)
  opens-ask words =
      two-ask k b open_form (λ path mode. meaning open_form (flags_of mode) (open_path path))
      (λ path mode. meaning-asks k b open_form (flags_of mode) (open_path path) (open-asks path)) words

  reads-ask : (words : List (List ℕ)) → WordsAsk k b (read words)
  reads-ask words =
      two-ask k b read_form (λ word n. meaning read_form (number_of word) (λ fd. meaning read_form (number_of n) (read_file word fd)))
      (λ word n. meaning-asks k b read_form (number_of word) (λ fd. meaning read_form (number_of n) (read_file word fd))
      (λ fd. meaning-asks k b read_form (number_of n) (read_file word fd) (read-asks word fd))) words

  seeks-ask : (words : List (List ℕ)) → WordsAsk k b (lseek words)
  seeks-ask words =
      three-ask k b lseek_form
      (λ word off from. meaning lseek_form (number_of word)
      (λ fd. meaning lseek_form (offset_of off) (λ offset. meaning lseek_form (seek_from from word fd offset) (lseek_file word fd))))
      (λ word off from. meaning-asks k b lseek_form (number_of word)
      (λ fd. meaning lseek_form (offset_of off) (λ offset. meaning lseek_form (seek_from from word fd offset) (lseek_file word fd)))
      (λ fd. meaning-asks k b lseek_form (offset_of off) (λ offset. meaning lseek_form (seek_from from word fd offset) (lseek_file word fd))
      (λ offset. lseek-asks lseek_form word fd (seek_from from word fd offset) (from-asks from word fd offset)))) words

  dups-ask : (words : List (List ℕ)) → WordsAsk k b (dup words)
  dups-ask words =
      one-asks k b (codes "dup FD") (λ word. meaning (codes "dup FD") (number_of word) (dup_descriptor word))
      (λ word. meaning-asks k b (codes "dup FD") (number_of word) (dup_descriptor word) (dup-asks word)) words

  truncates-ask : (words : List (List ℕ)) → WordsAsk k b (ftruncate words)
  truncates-ask words =
      two-ask k b ftruncate_form (λ word len. meaning ftruncate_form (number_of word) (λ fd. meaning ftruncate_form (number_of len) (cut_file word fd)))
      (λ word len. meaning-asks k b ftruncate_form (number_of word) (λ fd. meaning ftruncate_form (number_of len) (cut_file word fd))
      (λ fd. meaning-asks k b ftruncate_form (number_of len) (cut_file word fd) (truncate-asks word fd))) words

  syncs-ask : (words : List (List ℕ)) → WordsAsk k b (fsync words)
  syncs-ask words =
      one-asks k b (codes "fsync FD") (λ word. meaning (codes "fsync FD") (number_of word) (sync_file word))
      (λ word. meaning-asks k b (codes "fsync FD") (number_of word) (sync_file word) (sync-asks word)) words

  closes-ask : (words : List (List ℕ)) → WordsAsk k b (close words)
  closes-ask words =
      one-asks k b (codes "close FD") (λ word. meaning (codes "close FD") (number_of word) (close_descriptor word))
      (λ word. meaning-asks k b (codes "close FD") (number_of word) (close_descriptor word) (close-asks word)) words

  pub file-asks : (name : List ℕ) (words : List (List ℕ)) → OptionAsks k b (file_command name words)
  file-asks name words =
      search (known, opens-ask, reads-ask, writes-ask, seeks-ask, dups-ask, truncates-ask, syncs-ask, closes-ask) depth 12
