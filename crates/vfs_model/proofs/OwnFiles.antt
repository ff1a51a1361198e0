-- What talks are made of asks only what the session may ask.
use Rattle.std.specs.Prelude.{◌≡◌, ℕ, Bool, true, false, Option, Some, None, Result, Ok, Err, List, [], ◌∷◌, if◌then◌else◌, refl}
use Rattle.std.proofs.Common.{sym, subst}
use Rattle.vfs_base.specs.declared.errno.Errno.{Errno}
use Rattle.vfs_base.specs.declared.reply.Reply.{Reply}
use Rattle.vfs_base.specs.declared.step.Step.{Step}
use Rattle.vfs_model.proofs.KnownFiles.{Keeper, Knows, forgets}
use Rattle.vfs_model.specs.CommandWords.{four_words, meaning, no_word, one_word, three_words, two_words}
use Rattle.vfs_model.specs.FileStep.{step_file}
use Rattle.vfs_model.specs.HeldFiles.{AsksItsOwn, CanReply, Held, held_after, lost, may_ask_held}
use Rattle.vfs_model.specs.Session.{SessionRun, after_line, block_before}
use Rattle.vfs_model.specs.Talk.{After, Again, Answer, Round, Talk, ask_holding, ask_in_turn, changing, checked, round_talk, shows}
use Rattle.vfs_model.specs.declared.shell_state.ShellState.{ShellState}

-- a line that was typed in a state, and the lines behind it, which ask only what they may
pub record Behind (k : ℕ) : Type 0 where
  pub start : ShellState
  pub line : List ℕ
  pub later : ShellState → List Reply → SessionRun
  pub asks : (state : ShellState) (held : Held) → Knows k held state None None → (replies : List Reply) →
      AsksItsOwn k replies held (λ more. later state more)

-- how far a session comes whose command comes so far
abbrev pub run_of : {k : ℕ} → Behind k → (List Reply → Answer) → List Reply → SessionRun
run_of b run more = after_line b.start b.line (run more) b.later

-- from here on, with what is kept now, the session asks only what it may
pub record AsksOwn (k : ℕ) (b : Behind k) (held : Held) (run : List Reply → Answer) : Type 0 where
  pub each : (replies : List Reply) → AsksItsOwn k replies held (λ more. run_of b run more)

-- so does the talk in each state in which it has these references
pub record TalkAsks (k : ℕ) (b : Behind k) (first second : Option Keeper) (talk : Talk) : Type 0 where
  pub from : (state : ShellState) (held : Held) → Knows k held state first second → AsksOwn k b held (λ more. talk state more)

-- a block is no part of what is asked
block-asks : (k : ℕ) (block : List ℕ) (replies : List Reply) (held : Held) (run : List Reply → SessionRun) →
    AsksItsOwn k replies held run → AsksItsOwn k replies held (λ more. block_before block (run more))
block-asks k block [] held run asks = record { wants = asks.wants; gives = asks.gives; leaves = asks.leaves }
block-asks k block (answer ∷ later) held run asks =
    λ asked e can. block-asks k block later (held_after k held asked answer) (λ more. run (answer ∷ more)) (asks asked e can)

module _ (k : ℕ) (b : Behind k) where
  pub showing-own : (text : List ℕ) (state : ShellState) (held : Held) → Knows k held state None None →
      AsksOwn k b held (λ more. shows text state more)
  showing-own text state held knows = record {
    each = λ replies. block-asks k _ replies held (λ more. b.later state more) (b.asks state held knows replies);
  }

  -- the command is finished, and what it had is given up
  pub showing : (text : List ℕ) → TalkAsks k b None None (shows text)
  showing text = record { from = λ state held knows. showing-own text state held knows }

  -- or what it has is lost
  pub showing-lost : (first second : Option Keeper) (text : List ℕ) (state : ShellState) (held : Held) → Knows k held state first second →
      AsksOwn k b (lost held) (λ more. shows text state more)
  showing-lost first second text state held knows = showing-own text state (lost held) (forgets state k held first second knows)

  asking-each : (own : List Step) (step : Step) (go : Reply → Talk) (state : ShellState) (held : Held) →
      may_ask_held held.files step (step_file step) ≡ true →
      ((reply : Reply) → CanReply k held.files step reply → AsksOwn k b (held_after k held step reply) (λ more. go reply state more)) →
      (replies : List Reply) → AsksItsOwn k replies held (λ more. run_of b (λ more. ask_holding own step go state more) more)
  asking-each own step go state held may next [] = record {
    wants = λ asked e. let same : step ≡ asked = cc in subst (λ s. may_ask_held held.files s (step_file s) ≡ true) same may;
    gives = λ idle. absurd (cc);
    leaves = λ none whole. absurd (cc);
  }
  asking-each own step go state held may next (reply ∷ replies) = λ asked e.
      let same : step ≡ asked = cc in
      subst (λ s. CanReply k held.files s reply → AsksItsOwn k replies (held_after k held s reply) (λ more. run_of b (λ more. go reply state more) more))
      same (λ can. (next reply can).each replies)

  pub asking-own : (own : List Step) (step : Step) (go : Reply → Talk) (state : ShellState) (held : Held) →
      may_ask_held held.files step (step_file step) ≡ true →
      ((reply : Reply) → CanReply k held.files step reply → AsksOwn k b (held_after k held step reply) (λ more. go reply state more)) →
      AsksOwn k b held (λ more. ask_holding own step go state more)
  asking-own own step go state held may next = record { each = asking-each own step go state held may next }

  -- a step that neither gives nor takes a reference, and that may be asked
  pub record IsPlain (held : Held) (step : Step) : Type 0 where
    pub may : may_ask_held held.files step (step_file step) ≡ true
    pub same : (reply : Reply) → held_after k held step reply ≡ held

  pub asking-plain : (own : List Step) (step : Step) (go : Reply → Talk) (state : ShellState) (held : Held) → IsPlain held step →
      ((reply : Reply) → AsksOwn k b held (λ more. go reply state more)) → AsksOwn k b held (λ more. ask_holding own step go state more)
  asking-plain own step go state held plain next =
      asking-own own step go state held plain.may
      (λ reply can. subst (λ h. AsksOwn k b h (λ more. go reply state more)) (sym (plain.same reply)) (next reply))

  -- so does a step whose reply is one that it can have
  pub asking-formed : (own : List Step) (step : Step) (go : Reply → Talk) (state : ShellState) (held : Held) → IsPlain held step →
      ((reply : Reply) → CanReply k held.files step reply → AsksOwn k b held (λ more. go reply state more)) → AsksOwn k b held (λ more. ask_holding own step go state more)
  asking-formed own step go state held plain next =
      asking-own own step go state held plain.may
      (λ reply can. subst (λ h. AsksOwn k b h (λ more. go reply state more)) (sym (plain.same reply)) (next reply can))

  -- a step that any session may ask, and that neither gives nor takes a reference
  pub asking : (first second : Option Keeper) (own : List Step) (step : Step) (go : Reply → Talk) →
      ((held : Held) → IsPlain held step) →
      ((reply : Reply) → TalkAsks k b first second (go reply)) → TalkAsks k b first second (ask_holding own step go)
  asking first second own step go plain each = record {
    from = λ state held knows. asking-plain own step go state held (plain held) (λ reply. (each reply).from state held knows);
  }

  pub changing-asks : (first second : Option Keeper) (change : ShellState → ShellState) (go : Talk) →
      ((state : ShellState) (held : Held) → Knows k held state first second → Knows k held (change state) first second) →
      TalkAsks k b first second go → TalkAsks k b first second (changing change go)
  changing-asks first second change go keeps asks = record { from = λ state held knows. asks.from (change state) held (keeps state held knows) }

  pub checked-own : {X : Type 0} (refused : Errno → Talk) (found : Result X Errno) (go : X → Talk) (state : ShellState) (held : Held) →
      ((errno : Errno) → AsksOwn k b held (λ more. refused errno state more)) →
      ((x : X) → found ≡ Ok x → AsksOwn k b held (λ more. go x state more)) →
      AsksOwn k b held (λ more. checked refused found go state more)
  checked-own refused (Ok x) go state held fails each = each x refl
  checked-own refused (Err errno) go state held fails each = fails errno

  -- the same, where what is refused is known
  pub checked-by : {X : Type 0} (refused : Errno → Talk) (found : Result X Errno) (go : X → Talk) (state : ShellState) (held : Held) →
      ((errno : Errno) → found ≡ Err errno → AsksOwn k b held (λ more. refused errno state more)) →
      ((x : X) → found ≡ Ok x → AsksOwn k b held (λ more. go x state more)) →
      AsksOwn k b held (λ more. checked refused found go state more)
  checked-by refused (Ok x) go state held fails each = each x refl
  checked-by refused (Err errno) go state held fails each = fails errno refl

  pub if-asks : (first second : Option Keeper) (test : Bool) (one other : Talk) → TalkAsks k b first second one → TalkAsks k b first second other →
      TalkAsks k b first second (if test then one else other)
  if-asks first second true one other p q = p
  if-asks first second false one other p q = q

  abbrev pub RoundAsks : {S : Type 0} → Held → ShellState → Round S → Type 0
  RoundAsks held state (Again stage) = Unit {0}
  RoundAsks held state (After go) = AsksOwn k b held (λ more. go state more)

  pub if-round : {S : Type 0} (held : Held) (state : ShellState) (test : Bool) (one other : Round S) →
      RoundAsks held state one → RoundAsks held state other → RoundAsks held state (if test then one else other)
  if-round held state true one other p q = p
  if-round held state false one other p q = q

  round-asks : {S : Type 0} (again : S → List Reply → Answer) (found : Round S) (state : ShellState) (held : Held) (replies : List Reply) →
      RoundAsks held state found → ((stage : S) → AsksItsOwn k replies held (λ more. run_of b (λ more. again stage more) more)) →
      AsksItsOwn k replies held (λ more. run_of b (λ more. round_talk (λ later now behind. again later more) found state more) more)
  round-asks again (Again stage) state held replies asks each = each stage
  round-asks again (After go) state held replies asks each = asks.each replies

  turning-each : {S : Type 0} (own : List Step) (step : S → Step) (round : S → Reply → Round S) (state : ShellState) (held : Held) →
      ((stage : S) → IsPlain held (step stage)) → ((stage : S) (reply : Reply) → CanReply k held.files (step stage) reply → RoundAsks held state (round stage reply)) →
      (replies : List Reply) (stage : S) → AsksItsOwn k replies held (λ more. run_of b (λ more. ask_in_turn own step round stage state more) more)
  turning-each own step round state held plain each [] stage =
      record {
        wants = λ asked e. let same : step stage ≡ asked = cc in subst (λ s. may_ask_held held.files s (step_file s) ≡ true) same (plain stage).may;
        gives = λ idle. absurd (cc);
        leaves = λ none whole. absurd (cc);
      }
  turning-each own step round state held plain each (reply ∷ replies) stage = λ asked e.
      let same : step stage ≡ asked = cc in
      let now : CanReply k held.files (step stage) reply → AsksItsOwn k replies (held_after k held (step stage) reply) (λ more. run_of b (λ more. ask_in_turn own step round stage state (reply ∷ more)) more) =
      λ can.
      let next = round-asks (λ later behind. ask_in_turn own step round later state behind) (round stage reply) state held replies (each stage reply can)
      (λ later. turning-each own step round state held plain each replies later) in
      subst (λ h. AsksItsOwn k replies h (λ more. run_of b (λ more. ask_in_turn own step round stage state (reply ∷ more)) more)) (sym ((plain stage).same reply)) next in
      subst (λ s. CanReply k held.files s reply → AsksItsOwn k replies (held_after k held s reply) (λ more. run_of b (λ more. ask_in_turn own step round stage state (reply ∷ more)) more))
      same now

  pub turning : {S : Type 0} (own : List Step) (step : S → Step) (round : S → Reply → Round S) (state : ShellState) (held : Held) →
      ((stage : S) → IsPlain held (step stage)) → ((stage : S) (reply : Reply) → CanReply k held.files (step stage) reply → RoundAsks held state (round stage reply)) →
      (stage : S) → AsksOwn k b held (λ more. ask_in_turn own step round stage state more)
  turning own step round state held plain each stage = record { each = λ replies. turning-each own step round state held plain each replies stage }

  -- a talk of a line's words, which has no reference at its start
  abbrev pub WordsAsk : Talk → Type 0
  WordsAsk talk = TalkAsks k b None None talk

  pub meaning-asks : {X : Type 0} (form : List ℕ) (found : Option X) (go : X → Talk) → ((x : X) → WordsAsk (go x)) → WordsAsk (meaning form found go)
  meaning-asks form (Some x) go each = each x
  meaning-asks form None go each = showing _

  pub none-asks : (form : List ℕ) (go : Talk) → WordsAsk go → (words : List (List ℕ)) → WordsAsk (no_word form go words)
  none-asks form go asks [] = asks
  none-asks form go asks (a ∷ words) = showing _

  pub one-asks : (form : List ℕ) (go : List ℕ → Talk) → ((a : List ℕ) → WordsAsk (go a)) → (words : List (List ℕ)) → WordsAsk (one_word form go words)
  one-asks form go each [] = showing _
  one-asks form go each (a ∷ []) = each a
  one-asks form go each (a ∷ b ∷ words) = showing _

  pub two-ask : (form : List ℕ) (go : List ℕ → List ℕ → Talk) → ((a b : List ℕ) → WordsAsk (go a b)) →
      (words : List (List ℕ)) → WordsAsk (two_words form go words)
  two-ask form go each [] = showing _
  two-ask form go each (a ∷ []) = showing _
  two-ask form go each (a ∷ b ∷ []) = each a b
  two-ask form go each (a ∷ b ∷ c ∷ words) = showing _

  pub three-ask : (form : List ℕ) (go : List ℕ → List ℕ → List ℕ → Talk) → ((a b c : List ℕ) → WordsAsk (go a b c)) →
      (words : List (List ℕ)) → WordsAsk (three_words form go words)
  three-ask form go each [] = showing _
  three-ask form go each (a ∷ []) = showing _
  three-ask form go each (a ∷ b ∷ []) = showing _
  three-ask form go each (a ∷ b ∷ c ∷ []) = each a b c
  three-ask form go each (a ∷ b ∷ c ∷ d ∷ words) = showing _

  pub four-ask : (form : List ℕ) (go : List ℕ → List ℕ → List ℕ → List ℕ → Talk) → ((a b c d : List ℕ) → WordsAsk (go a b c d)) →
      (words : List (List ℕ)) → WordsAsk (four_words form go words)
  four-ask form go each [] = showing _
  four-ask form go each (a ∷ []) = showing _
  four-ask form go each (a ∷ b ∷ []) = showing _
  four-ask form go each (a ∷ b ∷ c ∷ []) = showing _
  four-ask form go each (a ∷ b ∷ c ∷ d ∷ []) = each a b c d
  four-ask form go each (a ∷ b ∷ c ∷ d ∷ e ∷ words) = showing _

  abbrev pub OptionAsks : Option Talk → Type 0
  OptionAsks None = Unit {0}
  OptionAsks (Some talk) = WordsAsk talk

  -- one command more of a family
  pub known : (test : Bool) (talk : Talk) (other : Option Talk) → WordsAsk talk → OptionAsks other →
      OptionAsks (if test then Some talk else other)
  known true talk other asks rest = asks
  known false talk other asks rest = rest
