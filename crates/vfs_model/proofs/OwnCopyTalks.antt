-- The commands that move whole files ask only what the session may ask.
use Rattle.std.specs.Prelude.{◌≡◌, ℕ, true, Option, Some, None, List, [], ◌∷◌, ◌++◌, codes, refl}
use Rattle.std.specs.List.{list_any}
use Rattle.vfs_base.specs.declared.reply.Reply.{Reply}
use Rattle.vfs_base.specs.declared.reply.Reply.TheVariants as reply
use Rattle.vfs_base.specs.declared.step.Step.TheVariants as step
use Rattle.vfs_base.specs.declared.kinds.Kind.{Kind}
use Rattle.vfs_model.proofs.KnownFiles.{Keeper, Knows, OfFirst, OfSecond, first-closed, first-opened, forgets, forgets-second, known-kept, known_at, second-closed, second-opened}
use Rattle.vfs_model.proofs.OwnFiles.{AsksOwn, Behind, IsPlain, OptionAsks, RoundAsks, TalkAsks, WordsAsk, asking-formed, asking-own, if-asks, if-round, known, showing, showing-lost, turning, two-ask}
use Rattle.vfs_model.specs.CommandText.{with_error}
use Rattle.vfs_model.specs.CopyCommands.{CopyFile, CopyStage, Reads, Writes, close_both, close_source, copy_bytes, copy_closed, copy_command, copy_cut, copy_from_start, copy_got, copy_left, copy_read, copy_round, copy_step, copy_written, cp, destination_opened, is_cut, same_file, source_opened, to_replace}
use Rattle.vfs_model.specs.HeldFiles.{CanReply, Held, IsCount, IsDone, IsGot, OpensNew, held_after_close, held_after_open, keeps_file, lost, with_held}
use Rattle.vfs_model.specs.Mappings.{is_chr}
use Rattle.vfs_model.specs.Talk.{After, Again, Round, Talk, ask, ask_holding, shows}
use Rattle.vfs_model.specs.TextCommands.{CatStage, cat, cat_files, cat_opened, cat_round, cat_step, closed, closes, echo, echo_left, echo_opened, echo_round, echo_text, is_read_out, to_append, to_read}
use Rattle.vfs_model.specs.declared.shell_state.ShellState.{ShellState}

module _ (k : ℕ) (b : Behind k) where
  closed-asks : (command word text : List ℕ) (go : List ℕ → Talk) → ((t : List ℕ) → WordsAsk k b (go t)) → (one : Keeper) (reply : Reply)
      (state : ShellState) (held : Held) → Knows k held state (Some one) None →
      AsksOwn k b (held_after_close held one.hold reply) (λ more. closed command word text go reply state more)
  closed-asks command word text go each one reply.Done = λ state held knows. (each text).from state _ (first-closed state k held None one knows)
  closed-asks command word text go each one (reply.Refused errno) = λ state held knows. showing-lost k b (Some one) None _ state held knows
  closed-asks command word text go each one _ = λ state held knows. showing-lost k b (Some one) None _ state held knows

  -- a command gives up its only reference
  pub closes-asks : (command word text : List ℕ) (go : List ℕ → Talk) → ((t : List ℕ) → WordsAsk k b (go t)) → (one : Keeper) →
      TalkAsks k b (Some one) None (closes command word one.hold text go)
  closes-asks command word text go each one = record {
    from = λ state held knows. asking-own k b (step.Close one.hold ∷ []) (step.Close one.hold) (closed command word text go) state held refl
        (λ reply can. closed-asks command word text go each one reply state held knows);
  }

  -- what a command's reference keeps may be read and written
  pub first-keeps : (state : ShellState) (held : Held) (one : Keeper) (second : Option Keeper) → Knows k held state (Some one) second →
      list_any (keeps_file one.file) held.files ≡ true
  first-keeps state held one second knows = known-kept k held (known_at state (Some one) second) OfFirst one knows.are refl

  second-keeps : (state : ShellState) (held : Held) (one : Keeper) (first : Option Keeper) → Knows k held state first (Some one) →
      list_any (keeps_file one.file) held.files ≡ true
  second-keeps state held one first knows = known-kept k held (known_at state first (Some one)) OfSecond one knows.are refl

  cat-round-asks : (word : List ℕ) (one : Keeper) (kind : Kind) (go : List ℕ → Talk) → ((t : List ℕ) → WordsAsk k b (go t)) →
      (state : ShellState) (held : Held) → Knows k held state (Some one) None →
      (stage : CatStage) (reply : Reply) → IsGot reply → RoundAsks k b held state (cat_round word one.hold kind go stage reply)
  cat-round-asks word one kind go each state held knows stage (reply.Got bytes) = λ can.
      if-round k b held state (is_read_out kind bytes) _ _ ((closes-asks (codes "cat") word (stage.text ++ bytes) go each one).from state held knows) tt
  cat-round-asks word one kind go each state held knows stage (reply.Refused errno) = λ can.
      (closes-asks (codes "cat") word (with_error stage.text (codes "cat") word errno) shows (showing k b) one).from state held knows
  cat-round-asks word one kind go each state held knows stage _ = λ can. absurd can

  cat-opened-asks : (text word : List ℕ) (go : List ℕ → Talk) → ((t : List ℕ) → WordsAsk k b (go t)) → (reply : Reply)
      (state : ShellState) (held : Held) → Knows k held state None None → OpensNew k held.files reply →
      AsksOwn k b (held_after_open held reply) (λ more. cat_opened text word go reply state more)
  cat-opened-asks text word go each (reply.Opened hold file kind) = λ state held knows new.
      let one : Keeper = record { hold = hold; file = file } in
      let now = first-opened state k held one knows new in
      turning k b (step.Close hold ∷ []) (cat_step file) (cat_round word hold kind go) state _
      (λ stage. record { may = first-keeps state _ one None now; same = λ reply. refl })
      (cat-round-asks word one kind go each state _ now) _
  cat-opened-asks text word go each (reply.Refused errno) = λ state held knows new. (showing k b _).from state held knows
  cat-opened-asks text word go each _ = λ state held knows new. absurd new

  files-ask : (words : List (List ℕ)) (text : List ℕ) → WordsAsk k b (cat_files words text)
  files-ask [] text = showing k b _
  files-ask (word ∷ words) text = record {
    from = λ state held knows. asking-own k b [] (step.Open word to_read) (cat_opened text word (cat_files words)) state held refl
        (λ reply can. cat-opened-asks text word (cat_files words) (files-ask words) reply state held knows can);
  }

  cat-asks : (words : List (List ℕ)) → WordsAsk k b (cat words)
  cat-asks [] = showing k b _
  cat-asks (word ∷ words) = files-ask (word ∷ words) []

  left-asks : (word : List ℕ) (one : Keeper) (bytes : List ℕ) (state : ShellState) (held : Held) → Knows k held state (Some one) None →
      RoundAsks k b held state (echo_left word one.hold bytes)
  left-asks word one [] state held knows = (closes-asks (codes "echo") word [] shows (showing k b) one).from state held knows
  left-asks word one (byte ∷ bytes) state held knows = tt

  echo-round-asks : (word : List ℕ) (one : Keeper) (state : ShellState) (held : Held) → Knows k held state (Some one) None →
      (bytes : List ℕ) (reply : Reply) → IsCount reply → RoundAsks k b held state (echo_round word one.hold bytes reply)
  echo-round-asks word one state held knows bytes (reply.Count n end) = λ can. left-asks word one _ state held knows
  echo-round-asks word one state held knows bytes (reply.Refused errno) = λ can.
      (closes-asks (codes "echo") word (with_error [] (codes "echo") word errno) shows (showing k b) one).from state held knows
  echo-round-asks word one state held knows bytes _ = λ can. absurd can

  echo-text-asks : (word : List ℕ) (one : Keeper) (round : Round (List ℕ)) (state : ShellState) (held : Held) →
      Knows k held state (Some one) None → RoundAsks k b held state round → AsksOwn k b held (λ more. echo_text word one.hold one.file round state more)
  echo-text-asks word one (After go) state held knows asks = asks
  echo-text-asks word one (Again bytes) state held knows asks =
      turning k b (step.Close one.hold ∷ []) (λ rest. step.Append one.file rest) (echo_round word one.hold) state held
      (λ stage. record { may = first-keeps state held one None knows; same = λ reply. refl })
      (echo-round-asks word one state held knows) bytes

  echo-opened-asks : (text word : List ℕ) (reply : Reply)
      (state : ShellState) (held : Held) → Knows k held state None None → OpensNew k held.files reply →
      AsksOwn k b (held_after_open held reply) (λ more. echo_opened text word reply state more)
  echo-opened-asks text word (reply.Opened hold file kind) = λ state held knows new.
      let one : Keeper = record { hold = hold; file = file } in
      let now = first-opened state k held one knows new in
      echo-text-asks word one (echo_left word hold text) state _ now (left-asks word one text state _ now)
  echo-opened-asks text word (reply.Refused errno) = λ state held knows new. (showing k b _).from state held knows
  echo-opened-asks text word _ = λ state held knows new. absurd new

  echo-asks : (words : List (List ℕ)) → WordsAsk k b (echo words)
  echo-asks [] = showing k b _
  echo-asks (text ∷ []) = showing k b _
  echo-asks (text ∷ file ∷ []) = record {
    from = λ state held knows. asking-own k b [] (step.Open file to_append) (echo_opened text file) state held refl
        (λ reply can. echo-opened-asks text file reply state held knows can);
  }
  echo-asks (text ∷ file ∷ more ∷ words) = showing k b _

  abbrev keeps_copy : CopyFile → Keeper
  keeps_copy src = record { hold = src.hold; file = src.file }

  -- behind a Close of `cp`: what is left to close
  copy-closed-asks : (word text : List ℕ) (go : List ℕ → Talk) (first : Option Keeper) → ((t : List ℕ) → TalkAsks k b first None (go t)) → (one : Keeper)
      (reply : Reply) (state : ShellState) (held : Held) →
      Knows k (with_held one.hold None held) state first None → Knows k (lost held) state first None →
      AsksOwn k b (held_after_close held one.hold reply) (λ more. copy_closed word text go reply state more)
  copy-closed-asks word text go first each one reply.Done = λ state held gone kept. (each text).from state _ gone
  copy-closed-asks word text go first each one (reply.Refused errno) = λ state held gone kept. (each _).from state _ kept
  copy-closed-asks word text go first each one _ = λ state held gone kept. showing-lost k b first None _ state (lost held) kept

  source-asks : (src : CopyFile) (text : List ℕ) → TalkAsks k b (Some (keeps_copy src)) None (close_source src text)
  source-asks src text = record {
    from = λ state held knows. asking-own k b (step.Close src.hold ∷ []) (step.Close src.hold) (copy_closed src.word text shows) state held refl
        (λ reply can. copy-closed-asks src.word text shows None (showing k b) (keeps_copy src) reply state held
        (first-closed state k held None (keeps_copy src) knows) (forgets state k held (Some (keeps_copy src)) None knows));
  }

  both-ask : (src dst : CopyFile) (text : List ℕ) → TalkAsks k b (Some (keeps_copy src)) (Some (keeps_copy dst)) (close_both src dst text)
  both-ask src dst text = record {
    from = λ state held knows. asking-own k b (step.Close src.hold ∷ step.Close dst.hold ∷ []) (step.Close dst.hold) (copy_closed dst.word text (close_source src)) state held refl
        (λ reply can. copy-closed-asks dst.word text (close_source src) (Some (keeps_copy src)) (source-asks src) (keeps_copy dst) reply state held
        (second-closed state k held (Some (keeps_copy src)) (keeps_copy dst) knows)
        (forgets-second state k held (Some (keeps_copy src)) (Some (keeps_copy dst)) knows));
  }

  module _ (src dst : CopyFile) (state : ShellState) (held : Held) (knows : Knows k held state (Some (keeps_copy src)) (Some (keeps_copy dst))) where
    got-asks : (place : ℕ) (bytes : List ℕ) → RoundAsks k b held state (copy_got src dst place bytes)
    got-asks place [] = (both-ask src dst _).from state held knows
    got-asks place (byte ∷ bytes) = tt

    copy-left-asks : (place : ℕ) (bytes : List ℕ) → RoundAsks k b held state (copy_left src dst place bytes)
    copy-left-asks place [] = if-round k b held state (is_chr src.kind) _ _ ((both-ask src dst _).from state held knows) tt
    copy-left-asks place (byte ∷ bytes) = tt

    read-asks : (place : ℕ) (reply : Reply) → IsGot reply → RoundAsks k b held state (copy_read src dst place reply)
    read-asks place (reply.Got bytes) = λ can. got-asks place bytes
    read-asks place (reply.Refused errno) = λ can. (both-ask src dst _).from state held knows
    read-asks place _ = λ can. absurd can

    written-asks : (place : ℕ) (bytes : List ℕ) (reply : Reply) → IsCount reply → RoundAsks k b held state (copy_written src dst place bytes reply)
    written-asks place bytes (reply.Count n end) = λ can. copy-left-asks _ _
    written-asks place bytes (reply.Refused errno) = λ can. (both-ask src dst _).from state held knows
    written-asks place bytes _ = λ can. absurd can

    copy-round-asks : (stage : CopyStage) (reply : Reply) → CanReply k held.files (copy_step src dst stage) reply → RoundAsks k b held state (copy_round src dst stage reply)
    copy-round-asks (Reads place) reply = read-asks place reply
    copy-round-asks (Writes place bytes) reply = written-asks place bytes reply

    copy-plain : (stage : CopyStage) → IsPlain k b held (copy_step src dst stage)
    copy-plain (Reads place) = record { may = first-keeps state held (keeps_copy src) (Some (keeps_copy dst)) knows; same = λ reply. refl }
    copy-plain (Writes place bytes) = record { may = second-keeps state held (keeps_copy dst) (Some (keeps_copy src)) knows; same = λ reply. refl }

    bytes-ask : AsksOwn k b held (λ more. copy_bytes src dst state more)
    bytes-ask = turning k b (step.Close src.hold ∷ step.Close dst.hold ∷ []) (copy_step src dst) (copy_round src dst) state held copy-plain copy-round-asks (Reads 0)

    cut-asks : (reply : Reply) → IsDone reply → AsksOwn k b held (λ more. copy_cut src dst reply state more)
    cut-asks reply.Done = λ can. bytes-ask
    cut-asks (reply.Refused errno) = λ can. (both-ask src dst _).from state held knows
    cut-asks _ = λ can. absurd can

    cutting : AsksOwn k b held (λ more. ask_holding (step.Close src.hold ∷ step.Close dst.hold ∷ []) (step.Trunc dst.file 0) (copy_cut src dst) state more)
    cutting =
        asking-formed k b (step.Close src.hold ∷ step.Close dst.hold ∷ []) (step.Trunc dst.file 0) (copy_cut src dst) state held
        (record { may = second-keeps state held (keeps_copy dst) (Some (keeps_copy src)) knows; same = λ reply. refl }) cut-asks

  bytes-talk : (src dst : CopyFile) → TalkAsks k b (Some (keeps_copy src)) (Some (keeps_copy dst)) (copy_bytes src dst)
  bytes-talk src dst = record { from = λ state held knows. bytes-ask src dst state held knows }

  cut-talk : (src dst : CopyFile) → TalkAsks k b (Some (keeps_copy src)) (Some (keeps_copy dst)) (ask_holding (step.Close src.hold ∷ step.Close dst.hold ∷ []) (step.Trunc dst.file 0) (copy_cut src dst))
  cut-talk src dst = record { from = λ state held knows. cutting src dst state held knows }

  start-asks : (src dst : CopyFile) → TalkAsks k b (Some (keeps_copy src)) (Some (keeps_copy dst)) (copy_from_start src dst)
  start-asks src dst =
      if-asks k b _ _ (same_file src.file dst.file) _ _ (both-ask src dst _)
      (if-asks k b _ _ (is_cut dst.kind) _ _ (cut-talk src dst) (bytes-talk src dst))

  destination-asks : (src : CopyFile) (word : List ℕ) (reply : Reply)
      (state : ShellState) (held : Held) → Knows k held state (Some (keeps_copy src)) None → OpensNew k held.files reply →
      AsksOwn k b (held_after_open held reply) (λ more. destination_opened src word reply state more)
  destination-asks src word (reply.Opened hold file kind) = λ state held knows new.
      let dst : CopyFile = record { word = word; hold = hold; file = file; kind = kind } in
      (start-asks src dst).from state _ (second-opened state k held (Some (keeps_copy src)) (keeps_copy dst) knows new)
  destination-asks src word (reply.Refused errno) = λ state held knows new. (source-asks src _).from state held knows
  destination-asks src word _ = λ state held knows new. absurd new

  opened-asks : (word other : List ℕ) (reply : Reply)
      (state : ShellState) (held : Held) → Knows k held state None None → OpensNew k held.files reply →
      AsksOwn k b (held_after_open held reply) (λ more. source_opened word other reply state more)
  opened-asks word other (reply.Opened hold file kind) = λ state held knows new.
      let src : CopyFile = record { word = word; hold = hold; file = file; kind = kind } in
      let now = first-opened state k held (keeps_copy src) knows new in
      asking-own k b (step.Close hold ∷ []) (step.Open other to_replace) (destination_opened src other) state _ refl
      (λ reply can. destination-asks src other reply state _ now can)
  opened-asks word other (reply.Refused errno) = λ state held knows new. (showing k b _).from state held knows
  opened-asks word other _ = λ state held knows new. absurd new

  source-talk : (src dst : List ℕ) → WordsAsk k b (ask (step.Open src to_read) (source_opened src dst))
  source-talk src dst = record {
    from = λ state held knows. asking-own k b [] (step.Open src to_read) (source_opened src dst) state held refl
        (λ reply can. opened-asks src dst reply state held knows can);
  }

  cp-asks : (words : List (List ℕ)) → WordsAsk k b (cp words)
  cp-asks words = two-ask k b (codes "cp SRC DST") (λ src dst. ask (step.Open src to_read) (source_opened src dst)) source-talk words

  pub copy-asks : (name : List ℕ) (words : List (List ℕ)) → OptionAsks k b (copy_command name words)
  copy-asks name words = search (known, cat-asks, echo-asks, cp-asks)
