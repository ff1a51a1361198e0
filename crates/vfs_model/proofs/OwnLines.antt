-- Every line of the shell, and every exit, asks only what the session may ask.
use Rattle.std.proofs.Common.{◌≡◌, ℕ, zero, suc, ◌+◌, is_some, arith, subst, Bool, true, ◌&&◌, Option, Some, None, option_map, Result, Ok, Err, List, [], ◌∷◌, ◌++◌, length, replicate, slice_index_or, refl, sym, ap, ◌∙◌}
use Rattle.std.proofs.lemmas.Bool.{and_parts}
use Rattle.std.specs.List.{cons_option, filter_map, list_all}
use Rattle.std.specs.Prelude.{codes, slice_get}
use Rattle.vfs_base.specs.Path.{Path}
use Rattle.vfs_base.specs.declared.ids.FileId.{FileId}
use Rattle.vfs_base.specs.declared.limits.TheConstants.{DESCRIPTORS, WINDOWS}
use Rattle.vfs_base.specs.declared.reply.Reply.{Reply}
use Rattle.vfs_base.specs.declared.step.Step.{Step}
use Rattle.vfs_base.specs.declared.step.Step.TheVariants as step
use Rattle.vfs_model.proofs.GivenBack.{GiveBack, exit-back, first-back, step-back}
use Rattle.vfs_model.proofs.KnownFiles.{Keeper, Knows, OfFile, OfFirst, OfMapping, OfSecond, Place, keeps_open, keeps_window, known_at}
use Rattle.vfs_model.proofs.LeavingSessions.{IsLeaving, knows-leaving, leaving, left-empty, step-leaving}
use Rattle.vfs_model.proofs.OwnCopyTalks.{copy-asks}
use Rattle.vfs_model.proofs.OwnFileTalks.{file-asks}
use Rattle.vfs_model.proofs.OwnFiles.{Behind, OptionAsks, WordsAsk, known, none-asks, showing}
use Rattle.vfs_model.proofs.OwnFolderTalks.{folder-asks}
use Rattle.vfs_model.proofs.OwnMappingTalks.{mapping-asks}
use Rattle.vfs_model.proofs.OwnMountTalks.{mount-asks}
use Rattle.vfs_model.proofs.SoundDescriptors.{stays-sound}
use Rattle.vfs_model.specs.Command.{command, help, help_command, help_text, line_talk, opening_shell, talk_or, words_talk}
use Rattle.vfs_model.specs.FileStep.{step_file}
use Rattle.vfs_model.specs.HeldFiles.{AsksItsOwn, Held, IsEmpty, held_after, may_ask_held}
use Rattle.vfs_model.specs.OpenFiles.{file_numbered}
use Rattle.vfs_model.specs.Session.{close_step, exit_steps, files_to_close, home_steps, lines_run, session_run, unmap_step}
use Rattle.vfs_model.specs.Talk.{Talk, shows}
use Rattle.vfs_model.specs.Words.{LineFault, line_words}
use Rattle.vfs_model.specs.declared.shell_state.OpenFile.{OpenFile}
use Rattle.vfs_model.specs.declared.shell_state.OpenFiles.{OpenFiles}
use Rattle.vfs_model.specs.declared.shell_state.ShellState.{ShellState}
use Rattle.vfs_model.specs.declared.shell_state.Window.{Window}

module _ (k : ℕ) (b : Behind k) where
  or-asks : (found : Option Talk) (other : Talk) → OptionAsks k b found → WordsAsk k b other → WordsAsk k b (talk_or found other)
  or-asks (Some talk) other asks rest = asks
  or-asks None other asks rest = rest

  help-asks : (words : List (List ℕ)) → WordsAsk k b (help words)
  help-asks words = none-asks k b (codes "help") (shows help_text) (showing k b help_text) words

  help-command-asks : (name : List ℕ) (words : List (List ℕ)) → OptionAsks k b (help_command name words)
  help-command-asks name words = search (known, help-asks)

  command-asks : (words : List (List ℕ)) → WordsAsk k b (command words)
  command-asks [] = showing k b []
  command-asks (name ∷ words) =
      or-asks _ _ (folder-asks k b name words)
      (or-asks _ _ (copy-asks k b name words)
      (or-asks _ _ (mount-asks k b name words)
      (or-asks _ _ (file-asks k b name words)
      (or-asks _ _ (mapping-asks k b name words)
      (or-asks _ _ (help-command-asks name words) (showing k b _))))))

  words-ask : (words : Result (List (List ℕ)) LineFault) → WordsAsk k b (words_talk words)
  words-ask (Ok words) = command-asks words
  words-ask (Err fault) = showing k b _

  line-asks : (text : List ℕ) → WordsAsk k b (line_talk text)
  line-asks text = words-ask (line_words text)

-- steps that any session may ask
abbrev may_any : Held → Step → Bool
may_any held asked = may_ask_held held.files asked (step_file asked)

unmap-may : (held : Held) (mapping : Option Window) (rest : List Step) → list_all (may_any held) rest ≡ true →
    list_all (may_any held) (cons_option (unmap_step mapping) rest) ≡ true
unmap-may held None rest h = h
unmap-may held (Some window) rest h = h

unmaps-may : (held : Held) (mappings : List (Option Window)) → list_all (may_any held) (filter_map unmap_step mappings) ≡ true
unmaps-may held [] = refl
unmaps-may held (mapping ∷ mappings) = unmap-may held mapping (filter_map unmap_step mappings) (unmaps-may held mappings)

close-may : (held : Held) (found : Option OpenFile) (rest : List Step) → list_all (may_any held) rest ≡ true →
    list_all (may_any held) (cons_option (option_map (λ file. step.Close file.hold) found) rest) ≡ true
close-may held None rest h = h
close-may held (Some file) rest h = h

closes-may : (held : Held) (open_files : OpenFiles) (numbers : List ℕ) →
    list_all (may_any held) (filter_map (close_step open_files) numbers) ≡ true
closes-may held open_files [] = refl
closes-may held open_files (number ∷ numbers) =
    close-may held (file_numbered open_files number) (filter_map (close_step open_files) numbers) (closes-may held open_files numbers)

homes-may : (held : Held) (shown : Path) → list_all (may_any held) (home_steps shown) ≡ true
homes-may held [] = refl
homes-may held (name ∷ names) = refl

both-may : (held : Held) (xs ys : List Step) → list_all (may_any held) xs ≡ true → list_all (may_any held) ys ≡ true →
    list_all (may_any held) (xs ++ ys) ≡ true
both-may held [] ys h g = g
both-may held (asked ∷ xs) ys h g =
    let parts = and_parts (may_any held asked) (list_all (may_any held) xs) h in
    ap (λ b. b && list_all (may_any held) (xs ++ ys)) parts.0 ∙ both-may held xs ys parts.1 g

one-may : (held : Held) (xs : List Step) (place : ℕ) (asked : Step) → list_all (may_any held) xs ≡ true → slice_get xs place ≡ Some asked →
    may_any held asked ≡ true
one-may held [] place asked h e = absurd (cc)
one-may held (x ∷ xs) zero asked h e =
    let same : x ≡ asked = cc in
    ap (may_any held) (sym same) ∙ (and_parts (may_any held x) (list_all (may_any held) xs) h).0
one-may held (x ∷ xs) (suc place) asked h e = one-may held xs place asked (and_parts (may_any held x) (list_all (may_any held) xs) h).1 e

exit-may : (held : Held) (state : ShellState) (left : List Reply) → list_all (may_any held) (exit_steps (leaving state left)) ≡ true
exit-may held state left =
    let unmaps : List Step = filter_map unmap_step state.mappings in
    let closes : List Step = filter_map (close_step state.open_files) (files_to_close state.open_files.descriptors) in
    both-may held (unmaps ++ closes) (home_steps state.shown)
    (both-may held unmaps closes (unmaps-may held state.mappings) (closes-may held state.open_files (files_to_close state.open_files.descriptors)))
    (homes-may held state.shown)

-- what is left of the exit steps after so many replies
abbrev AreLeft : ShellState → ℕ → List Step → Type 0
AreLeft state count steps = (place : ℕ) → slice_get (exit_steps (leaving state [])) (count + place) ≡ slice_get steps place

no-left : (held : Held) (steps : List Step) → IsLeaving held steps → slice_get steps 0 ≡ None → held.whole ≡ true → IsEmpty held
no-left held [] leaving none whole = left-empty held leaving whole
no-left held (x ∷ steps) leaving none whole = absurd (cc)

module _ (k : ℕ) (state : ShellState) where
  now-left : (left : List Reply → List Reply) (count : ℕ) (steps : List Step) → ((more : List Reply) → length (left more) ≡ count + length more) → AreLeft state count steps →
      slice_get (exit_steps (leaving state [])) (length (left [])) ≡ slice_get steps 0
  now-left left count steps counts are = ap (slice_get (exit_steps (leaving state []))) (counts []) ∙ are 0

  exit-asks : (replies : List Reply) (held : Held) (left : List Reply → List Reply) (count : ℕ) (steps : List Step) →
      ((more : List Reply) → length (left more) ≡ count + length more) → AreLeft state count steps → IsLeaving held steps →
      GiveBack k held.files steps → AsksItsOwn k replies held (λ more. leaving state (left more))
  exit-asks [] held left count steps counts are giving = λ back. record {
    wants = λ asked e. one-may held (exit_steps (leaving state (left []))) (length (left [])) asked (exit-may held state (left [])) e;
    gives = λ idle asked e. first-back k held.files steps asked back (sym (now-left left count steps counts are) ∙ e);
    leaves = λ none whole. no-left held steps giving (sym (now-left left count steps counts are) ∙ none) whole;
  }
  exit-asks (answer ∷ later) held left count [] counts are giving = λ back asked e.
      let some : slice_get [] 0 ≡ Some asked = sym (now-left left count [] counts are) ∙ e in
      absurd (cc)
  exit-asks (answer ∷ later) held left count (x ∷ steps) counts are giving = λ back asked e can.
      let some : slice_get (x ∷ steps) 0 ≡ Some asked = sym (now-left left count (x ∷ steps) counts are) ∙ e in
      let same : x ≡ asked = cc in
      subst (λ s. AsksItsOwn k later (held_after k held s answer) (λ more. leaving state (left (answer ∷ more)))) same
      (exit-asks later (held_after k held x answer) (λ more. left (answer ∷ more)) (suc count) steps
      (λ more. let e = counts (answer ∷ more) in omega (arith, e))
      (λ place. ap (slice_get (exit_steps (leaving state []))) (omega arith) ∙ are (suc place))
      (step-leaving k held steps x answer giving) (step-back k held steps x answer back))

lines-ask : (k : ℕ) (lines : List (List ℕ)) (state : ShellState) (held : Held) → Knows k held state None None → (replies : List Reply) →
    AsksItsOwn k replies held (λ more. lines_run lines state more)
lines-ask k [] state held knows replies =
    exit-asks k state replies held (λ more. more) 0 (exit_steps (leaving state [])) (λ more. omega arith) (λ place. ap (slice_get (exit_steps (leaving state []))) (omega arith)) (knows-leaving k held state knows) (exit-back k held state knows)
lines-ask k (line ∷ lines) state held knows replies =
    let b : Behind k = record { start = state; line = line; later = lines_run lines; asks = lines-ask k lines } in
    ((line-asks k b line).from state held knows).each replies

none-at : {X : Type 0} (n place : ℕ) → (let xs : List (Option X) = replicate n None in slice_index_or xs place None) ≡ None
none-at zero place = refl
none-at (suc n) zero = refl
none-at (suc n) (suc place) = none-at n place

-- what a session has at the start
abbrev pub nothing_held : Bool → ℕ → Held
nothing_held whole size = record { files = replicate size None; folder = []; whole = whole }

-- a shell at the start knows of no reference
opening-knows : (k : ℕ) (whole : Bool) (size : ℕ) → Knows k (nothing_held whole size) opening_shell None None
opening-knows k whole size = record {
  are = record {
    place_of = λ number. OfFirst;
    kept = λ place one e. absurd (none-known place one e);
    placed = λ place one e. absurd (none-known place one e);
    each = λ whole place e. let none = ap is_some (none-at {X = FileId} size place) in absurd (cc);
  };
  sound = stays-sound.opening;
  shown = refl;
}
  where
    none-known : (place : Place) (one : Keeper) → known_at opening_shell None None place ≡ Some one → ⊥
    none-known (OfFile number) one e =
        let none : file_numbered opening_shell.open_files number ≡ None = none-at DESCRIPTORS number in
        let told : option_map keeps_open (file_numbered opening_shell.open_files number) ≡ None = ap (option_map keeps_open) none in
        cc
    none-known (OfMapping place) one e =
        let none : slice_index_or opening_shell.mappings place None ≡ None = none-at WINDOWS place in
        let told : option_map keeps_window (slice_index_or opening_shell.mappings place None) ≡ None = ap (option_map keeps_window) none in
        cc
    none-known OfFirst one e = cc
    none-known OfSecond one e = cc

-- a session asks only what it may by the references that it was told of, and where it is done and nothing was lost it has none
pub session-asks-its-own : (k : ℕ) (lines : List (List ℕ)) (whole : Bool) (size : ℕ) (replies : List Reply) →
    AsksItsOwn k replies (nothing_held whole size) (λ more. session_run lines more)
unfolding session_run
session-asks-its-own k lines whole size replies = lines-ask k lines opening_shell (nothing_held whole size) (opening-knows k whole size) replies
