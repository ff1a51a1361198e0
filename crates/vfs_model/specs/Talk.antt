-- What a shell does from one step to the next: it asks a step, and goes on with the reply.
use Rattle.std.specs.Prelude.{ℕ, List, [], ◌∷◌, Result, Ok, Err}
use Rattle.vfs_base.specs.declared.errno.Errno.{Errno}
use Rattle.vfs_base.specs.declared.reply.Reply.{Reply}
use Rattle.vfs_base.specs.declared.step.Step.{Step}
use Rattle.vfs_model.specs.declared.shell_state.Next.{Next}
use Rattle.vfs_model.specs.declared.shell_state.Next.TheVariants as next
use Rattle.vfs_model.specs.declared.shell_state.ShellState.{ShellState}

-- how far a command has come with the replies so far
pub record Answer : Type 0 where
  -- the step that is asked now, or the whole text
  pub next : Next
  -- the shell's state, with all replies taken in
  pub state : ShellState
  -- what gives back each reference that the command has and no descriptor or mapping has, in the order of opening
  pub own : List Step
  -- the replies behind the command's last one
  pub left : List Reply

-- what a command does from a state on, for any replies
abbrev pub Talk : Type 0
Talk = ShellState → List Reply → Answer

-- asks a step, with references that the command has, and goes on with the reply
abbrev pub ask_holding : List Step → Step → (Reply → Talk) → Talk
ask_holding own step go state [] = record { next = next.Ask step; state = state; own = own; left = [] }
ask_holding own step go state (reply ∷ replies) = go reply state replies

-- asks a step, with no reference
abbrev pub ask : Step → (Reply → Talk) → Talk
ask step go = ask_holding [] step go

-- is finished with this text
abbrev pub shows : List ℕ → Talk
shows text state replies = record { next = next.Finished text; state = state; own = []; left = replies }

-- goes on in another state
abbrev pub changing : (ShellState → ShellState) → Talk → Talk
changing change go state replies = go (change state) replies

-- what a reply in a loop leads to: the next round, or what comes after the loop
pub data Round (S : Type 0) : Type 0 where
  Again : S → Round S
  After : Talk → Round S

abbrev pub round_talk : {S : Type 0} → (S → Talk) → Round S → Talk
round_talk again (Again stage) = again stage
round_talk again (After go) = go

-- asks the step of each stage in turn; the reply leads to the next stage, or out of the loop
abbrev pub ask_in_turn : {S : Type 0} → List Step → (S → Step) → (S → Reply → Round S) → S → Talk
ask_in_turn own step round stage state [] = record { next = next.Ask (step stage); state = state; own = own; left = [] }
ask_in_turn own step round stage state (reply ∷ replies) =
    round_talk (λ later now behind. ask_in_turn own step round later state replies) (round stage reply) state replies

-- goes on with what checks leave, or else with the first error
abbrev pub checked : {X : Type 0} → (Errno → Talk) → Result X Errno → (X → Talk) → Talk
checked refused (Ok x) go = go x
checked refused (Err errno) go = refused errno
