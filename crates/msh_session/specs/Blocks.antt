-- The block of a line, in its parts.
use Rattle.std.specs.Prelude.{◌≡◌, ℕ, false, Some, List, [], ◌∷◌, ◌++◌, codes}
use Rattle.vfs_base.specs.Path.{Path, printed}
use Rattle.vfs_base.specs.declared.reply.Reply.{Reply}
use Rattle.vfs_model.specs.CommandText.{whole_lines}
use Rattle.vfs_model.specs.Session.{SessionRun, block_before}
use Rattle.vfs_model.specs.ShellLaws.{is_finished}
use Rattle.vfs_model.specs.Talk.{Answer}
use Rattle.vfs_model.specs.declared.shell_state.Next.{Next}
use Rattle.vfs_model.specs.declared.shell_state.Next.TheVariants as next
use Rattle.vfs_model.specs.declared.shell_state.ShellState.{ShellState}
use Rattle.msh_commands.specs.CommandTalks.{command_talk}
use Rattle.msh_commands.specs.declared.command.Command.{Command}
use Rattle.msh_session.specs.declared.turn.Turn.{Turn}
use Rattle.msh_session.specs.declared.turn.Turn.TheVariants as turn

-- the prompt with the shown folder, the line, and a line feed
abbrev pub block_head : Path → List ℕ → List ℕ
block_head shown line = codes "msh " ++ printed shown ++ codes ">" ++ line ++ 10 ∷ []

-- a command that came so far, whose block has this head, and then the lines behind it
abbrev pub after_head : List ℕ → Answer → (ShellState → List Reply → SessionRun) → SessionRun
after_head head answer later = by_next answer.next answer later
  where
    by_next : Next → Answer → (ShellState → List Reply → SessionRun) → SessionRun
    by_next (next.Ask asked) answer later =
        record { blocks = []; wanted = Some asked; own = answer.own; state = answer.state; left = [] }
    by_next (next.Finished text) answer later = block_before (head ++ whole_lines text) (later answer.state answer.left)

-- the command asks a step, or it is finished and has this block, whatever comes behind
abbrev pub Turns : List ℕ → Command → Turn → Type 0
Turns head command (turn.Asks same) =
    (same ≡ head) × ((state : ShellState) → is_finished (command_talk command state []).next ≡ false)
Turns head command (turn.Shows block) =
    (state : ShellState) (replies : List Reply) (later : ShellState → List Reply → SessionRun) →
    after_head head (command_talk command state replies) later ≡ block_before block (later state replies)
