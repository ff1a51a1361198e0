-- Lines of shells on the world: each is run to its end before the next one, and nothing stops a step.
use Rattle.std.specs.Prelude.{ℕ, zero, suc, ◌-◌, List, [], ◌∷◌, ◌++◌, replicate, slice_index_or, slice_set}
use Rattle.vfs_base.specs.declared.entry.Mark.TheVariants as mark
use Rattle.vfs_base.specs.declared.entry.Who.TheVariants as who
use Rattle.vfs_base.specs.declared.limits.TheConstants.{SESSIONS}
use Rattle.vfs_base.specs.declared.reply.Reply.{Reply}
use Rattle.vfs_model.specs.Command.{line_talk, opening_shell}
use Rattle.vfs_model.specs.Talk.{Talk}
use Rattle.vfs_model.specs.World.{world_step}
use Rattle.vfs_model.specs.declared.shell_state.Next.{Next}
use Rattle.vfs_model.specs.declared.shell_state.Next.TheVariants as next
use Rattle.vfs_model.specs.declared.shell_state.ShellState.{ShellState}
use Rattle.vfs_model.specs.declared.world.WorldState.{WorldState}

-- a session types a line
pub record Typed : Type 0 where
  pub session : ℕ
  pub line : List ℕ

abbrev pub types : ℕ → List ℕ → Typed
types session line = record { session = session; line = line }

-- what a line shows, and the world and the shell that it leaves
pub record LineRun : Type 0 where
  pub text : List ℕ
  pub world : WorldState
  pub state : ShellState

abbrev pub run_next : ℕ → WorldState → ShellState → Next → (WorldState → Reply → LineRun) → LineRun
run_next k w state (next.Finished text) go = record { text = text; world = w; state = state }
run_next k w state (next.Ask asked) go =
    let outcome = world_step w (who.Session k) asked mark.Clear in
    go outcome.next outcome.reply

-- a line that asks at most so many steps
abbrev pub run_line : ℕ → ℕ → WorldState → ShellState → Talk → List Reply → LineRun
run_line zero k w state talk replies = record { text = []; world = w; state = state }
run_line (suc more) k w state talk replies =
    let answer = talk state replies in
    run_next k w answer.state answer.next (λ next reply. run_line more k next state talk (replies ++ reply ∷ []))

-- what lines show, one after the other
abbrev pub texts_from : WorldState → List ShellState → List Typed → List (List ℕ)
texts_from w states [] = []
texts_from w states (typed ∷ later) =
    let run = run_line 40 typed.session w (slice_index_or states (typed.session - 1) opening_shell) (line_talk typed.line) [] in
    run.text ∷ texts_from run.world (slice_set states (typed.session - 1) run.state) later

abbrev pub texts : WorldState → List Typed → List (List ℕ)
texts w lines = texts_from w (replicate SESSIONS opening_shell) lines
