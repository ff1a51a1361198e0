-- The commands of folders and names ask only what the session may ask.
use Rattle.std.specs.Prelude.{ℕ, None, List, [], ◌∷◌, codes, refl}
use Rattle.vfs_base.specs.Path.{Path}
use Rattle.vfs_base.specs.declared.reply.Reply.{Reply}
use Rattle.vfs_base.specs.declared.reply.Reply.TheVariants as reply
use Rattle.vfs_base.specs.declared.step.Step.{Step}
use Rattle.vfs_base.specs.declared.step.Step.TheVariants as step
use Rattle.vfs_base.specs.declared.kinds.Kind.{Kind}
use Rattle.vfs_base.specs.declared.kinds.Kind.TheVariants as kind
use Rattle.vfs_base.specs.declared.kinds.NodeKind.{NodeKind}
use Rattle.vfs_base.specs.declared.kinds.NodeKind.TheVariants as node
use Rattle.vfs_base.specs.declared.ids.FileId.{FileId}
use Rattle.vfs_base.specs.declared.reply.ListEntry.{ListEntry}
use Rattle.vfs_model.proofs.KnownFiles.{Knows, moved-known}
use Rattle.vfs_model.proofs.OwnFiles.{AsksOwn, Behind, IsPlain, OptionAsks, WordsAsk, asking, asking-own, if-asks, known, none-asks, one-asks, showing, two-ask}
use Rattle.vfs_model.specs.FolderCommands.{cd, done_or_fails, folder_command, in_folder, is_absent, list_entries, list_file, list_node, listed, ls, mkdir, moved_to, mv, one_step, pwd, remove_all, removed, rm, rmdir, sized, stat, stat_file, stat_node, stat_size, tell_folder, told_folder}
use Rattle.vfs_model.specs.HeldFiles.{Held, held_after_move}
use Rattle.vfs_model.specs.Talk.{Talk, ask, changing, shows}
use Rattle.vfs_model.specs.declared.shell_state.ShellState.{ShellState}

module _ (k : ℕ) (b : Behind k) where
  pub done-asks : (command subject : List ℕ) (reply : Reply) → WordsAsk k b (done_or_fails command subject reply)
  done-asks command subject (reply.Refused errno) = showing k b _
  done-asks command subject _ = showing k b _

  pub step-asks : (command subject : List ℕ) (asked : Step) → ((held : Held) → IsPlain k b held asked) → WordsAsk k b (one_step command subject asked)
  step-asks command subject asked plain = asking k b None None [] asked _ plain (done-asks command subject)

  -- the shell shows the folder that it was told
  shown-asks : (path : Path) (text : List ℕ) (state : ShellState) (held : Held) → Knows k held state None None →
      AsksOwn k b (held_after_move held (reply.At path)) (λ more. changing (in_folder path) (shows text) state more)
  shown-asks path text state held knows = (showing k b text).from (in_folder path state) _ (moved-known path state k held None None knows)

  told : (command : List ℕ) (reply : Reply) (state : ShellState) (held : Held) → Knows k held state None None →
      AsksOwn k b (held_after_move held reply) (λ more. told_folder command reply state more)
  told command (reply.At path) = λ state held knows. shown-asks path _ state held knows
  told command (reply.Refused errno) = λ state held knows. (showing k b _).from state held knows
  told command _ = λ state held knows. (showing k b _).from state held knows

  tell : (command : List ℕ) → WordsAsk k b (tell_folder command)
  tell command = record {
    from = λ state held knows. asking-own k b [] step.Cwd (told_folder command) state held refl (λ reply can. told command reply state held knows);
  }

  moved : (word : List ℕ) (reply : Reply) (state : ShellState) (held : Held) → Knows k held state None None →
      AsksOwn k b (held_after_move held reply) (λ more. moved_to word reply state more)
  moved word (reply.At path) = λ state held knows. shown-asks path _ state held knows
  moved word (reply.Refused errno) = λ state held knows. (showing k b _).from state held knows
  moved word _ = λ state held knows. (showing k b _).from state held knows

  moving : (word : List ℕ) → WordsAsk k b (ask (step.Chdir word) (moved_to word))
  moving word = record {
    from = λ state held knows. asking-own k b [] (step.Chdir word) (moved_to word) state held refl (λ reply can. moved word reply state held knows);
  }

  cd-asks : (words : List (List ℕ)) → WordsAsk k b (cd words)
  cd-asks [] = tell (codes "cd")
  cd-asks (word ∷ []) = moving word
  cd-asks (word ∷ more ∷ words) = showing k b _

  sized-asks : (word text name : List ℕ) (go : List ℕ → Talk) → ((t : List ℕ) → WordsAsk k b (go t)) → (reply : Reply) →
      WordsAsk k b (sized word text name go reply)
  sized-asks word text name go each (reply.SizeIs size) = each _
  sized-asks word text name go each (reply.Refused errno) = if-asks k b _ _ (is_absent errno) _ _ (each _) (showing k b _)
  sized-asks word text name go each _ = showing k b _

  size-plain : (file : FileId) (held : Held) → IsPlain k b held (step.Size file)
  size-plain file held = record { may = refl; same = λ reply. refl }

  file-asks : (word text name : List ℕ) (go : List ℕ → Talk) → ((t : List ℕ) → WordsAsk k b (go t)) → (file : FileId) (kind : Kind) →
      WordsAsk k b (list_file word text name go file kind)
  file-asks word text name go each file kind.Chr = each _
  file-asks word text name go each file kind.Tmp = asking k b _ _ [] (step.Size file) _ (size-plain file) (sized-asks word text name go each)
  file-asks word text name go each file kind.Rom = asking k b _ _ [] (step.Size file) _ (size-plain file) (sized-asks word text name go each)
  file-asks word text name go each file kind.Cell = asking k b _ _ [] (step.Size file) _ (size-plain file) (sized-asks word text name go each)

  node-asks : (word text name : List ℕ) (go : List ℕ → Talk) → ((t : List ℕ) → WordsAsk k b (go t)) → (node : NodeKind) →
      WordsAsk k b (list_node word text name go node)
  node-asks word text name go each node.Dir = each _
  node-asks word text name go each (node.File file kind) = file-asks word text name go each file kind

  entries-ask : (word : List ℕ) (entries : List ListEntry) (text : List ℕ) → WordsAsk k b (list_entries word entries text)
  entries-ask word [] text = showing k b _
  entries-ask word (entry ∷ entries) text =
      node-asks word text entry.name (list_entries word entries) (entries-ask word entries) entry.node

  listed-asks : (word : List ℕ) (reply : Reply) → WordsAsk k b (listed word reply)
  listed-asks word (reply.Listing path entries) = entries-ask word entries _
  listed-asks word (reply.Refused errno) = showing k b _
  listed-asks word _ = showing k b _

  list-plain : (word : List ℕ) (held : Held) → IsPlain k b held (step.List word)
  list-plain word held = record { may = refl; same = λ reply. refl }

  ls-asks : (words : List (List ℕ)) → WordsAsk k b (ls words)
  ls-asks [] = asking k b _ _ [] (step.List (codes ".")) (listed (codes ".")) (list-plain (codes ".")) (listed-asks (codes "."))
  ls-asks (word ∷ []) = asking k b _ _ [] (step.List word) (listed word) (list-plain word) (listed-asks word)
  ls-asks (word ∷ more ∷ words) = showing k b _

  removed-asks : (word : List ℕ) (go : Talk) → WordsAsk k b go → (reply : Reply) → WordsAsk k b (removed word go reply)
  removed-asks word go asks reply.Done = asks
  removed-asks word go asks (reply.Refused errno) = showing k b _
  removed-asks word go asks _ = showing k b _

  all-ask : (words : List (List ℕ)) → WordsAsk k b (remove_all words)
  all-ask [] = showing k b _
  all-ask (word ∷ words) =
      asking k b _ _ [] (step.Unlink word) _ (λ held. record { may = refl; same = λ reply. refl }) (removed-asks word (remove_all words) (all-ask words))

  rm-asks : (words : List (List ℕ)) → WordsAsk k b (rm words)
  rm-asks [] = showing k b _
  rm-asks (word ∷ words) = all-ask (word ∷ words)

  size-asks : (word : List ℕ) (reply : Reply) → WordsAsk k b (stat_size word reply)
  size-asks word (reply.SizeIs size) = showing k b _
  size-asks word (reply.Refused errno) = if-asks k b _ _ (is_absent errno) _ _ (showing k b _) (showing k b _)
  size-asks word _ = showing k b _

  stat-file-asks : (word : List ℕ) (file : FileId) (kind : Kind) → WordsAsk k b (stat_file word file kind)
  stat-file-asks word file kind.Chr = showing k b _
  stat-file-asks word file kind.Tmp = asking k b _ _ [] (step.Size file) _ (size-plain file) (size-asks word)
  stat-file-asks word file kind.Rom = asking k b _ _ [] (step.Size file) _ (size-plain file) (size-asks word)
  stat-file-asks word file kind.Cell = asking k b _ _ [] (step.Size file) _ (size-plain file) (size-asks word)

  stat-asks : (word : List ℕ) (reply : Reply) → WordsAsk k b (stat_node word reply)
  stat-asks word (reply.Node node.Dir) = showing k b _
  stat-asks word (reply.Node (node.File file kind)) = stat-file-asks word file kind
  stat-asks word (reply.Refused errno) = showing k b _
  stat-asks word _ = showing k b _

  pwd-asks : (words : List (List ℕ)) → WordsAsk k b (pwd words)
  pwd-asks words = none-asks k b (codes "pwd") (tell_folder (codes "pwd")) (tell (codes "pwd")) words

  mkdir-asks : (words : List (List ℕ)) → WordsAsk k b (mkdir words)
  mkdir-asks words =
      one-asks k b (codes "mkdir PATH") (λ path. one_step (codes "mkdir") path (step.Mkdir path))
      (λ path. step-asks (codes "mkdir") path (step.Mkdir path) (λ held. record { may = refl; same = λ reply. refl })) words

  rmdir-asks : (words : List (List ℕ)) → WordsAsk k b (rmdir words)
  rmdir-asks words =
      one-asks k b (codes "rmdir PATH") (λ path. one_step (codes "rmdir") path (step.Rmdir path))
      (λ path. step-asks (codes "rmdir") path (step.Rmdir path) (λ held. record { may = refl; same = λ reply. refl })) words

  mv-asks : (words : List (List ℕ)) → WordsAsk k b (mv words)
  mv-asks words =
      two-ask k b (codes "mv OLD NEW") (λ old new. one_step (codes "mv") old (step.Rename old new))
      (λ old new. step-asks (codes "mv") old (step.Rename old new) (λ held. record { may = refl; same = λ reply. refl })) words

  stats-ask : (words : List (List ℕ)) → WordsAsk k b (stat words)
  stats-ask words =
      one-asks k b (codes "stat PATH") (λ path. ask (step.Stat path) (stat_node path))
      (λ path. asking k b None None [] (step.Stat path) (stat_node path) (λ held. record { may = refl; same = λ reply. refl }) (stat-asks path)) words

  pub folder-asks : (name : List ℕ) (words : List (List ℕ)) → OptionAsks k b (folder_command name words)
  folder-asks name words =
      search (known, pwd-asks, cd-asks, ls-asks, mkdir-asks, rmdir-asks, rm-asks, mv-asks, stats-ask) depth 12
