-- A session: its lines one after the other, what it is shown of each, and how it leaves.
use Rattle.std.specs.Prelude.{ℕ, Bool, is_some, Option, Some, None, option_map, List, [], ◌∷◌, ◌++◌, length, codes, slice_get, if◌then◌else◌}
use Rattle.std.specs.List.{filter_map, list_any}
use Rattle.vfs_base.specs.Path.{Path, printed}
use Rattle.vfs_base.specs.declared.reply.Reply.{Reply}
use Rattle.vfs_base.specs.declared.step.Step.{Step}
use Rattle.vfs_base.specs.declared.step.Step.TheVariants as step
use Rattle.vfs_model.specs.Command.{line_talk, opening_shell}
use Rattle.vfs_model.specs.CommandText.{whole_lines}
use Rattle.vfs_model.specs.OpenFiles.{file_numbered, leads_to}
use Rattle.vfs_model.specs.Talk.{Answer}
use Rattle.vfs_model.specs.declared.shell_state.Next.{Next}
use Rattle.vfs_model.specs.declared.shell_state.Next.TheVariants as next
use Rattle.vfs_model.specs.declared.shell_state.OpenFiles.{OpenFiles}
use Rattle.vfs_model.specs.declared.shell_state.ShellState.{ShellState}
use Rattle.vfs_model.specs.declared.shell_state.Window.{Window}

-- the prompt with the shown folder, the line, a line feed, and the command's text, which ends with a line feed unless
-- it is empty
abbrev pub block_of : Path → List ℕ → List ℕ → List ℕ
block_of shown line text = codes "msh " ++ printed shown ++ codes ">" ++ line ++ 10 ∷ whole_lines text

-- How far the lines of a session have come by its replies so far.
pub record SessionRun : Type 0 where
  -- the blocks of the finished lines, in their order
  pub blocks : List (List ℕ)
  -- the step that the pending command asks; none where nothing is pending
  pub wanted : Option Step
  -- what gives back the references that the pending command has and the shell has not
  pub own : List Step
  -- the shell's state, with all replies of commands taken in
  pub state : ShellState
  -- the replies behind those of the lines: to exit steps
  pub left : List Reply

-- a block before those of the lines behind it
abbrev pub block_before : List ℕ → SessionRun → SessionRun
block_before block run = record run { blocks = block ∷ run.blocks }

-- a line whose command came so far from this state on, and then the lines behind it
abbrev pub after_line : ShellState → List ℕ → Answer → (ShellState → List Reply → SessionRun) → SessionRun
after_line state line answer later = by_next answer.next answer later
  where
    by_next : Next → Answer → (ShellState → List Reply → SessionRun) → SessionRun
    by_next (next.Ask asked) answer later =
        record { blocks = []; wanted = Some asked; own = answer.own; state = answer.state; left = [] }
    by_next (next.Finished text) answer later = block_before (block_of state.shown line text) (later answer.state answer.left)

-- the lines one after the other, each from the state and with the replies that the one before it left
abbrev pub lines_run : List (List ℕ) → ShellState → List Reply → SessionRun
lines_run [] state replies = record { blocks = []; wanted = None; own = []; state = state; left = replies }
lines_run (line ∷ lines) state replies = after_line state line (line_talk line state replies) (lines_run lines)

-- how far a session's lines come by these replies
unfoldable pub session_run : List (List ℕ) → List Reply → SessionRun
session_run lines replies = lines_run lines opening_shell replies

-- a command has begun, and isn't finished
abbrev pub is_pending : SessionRun → Bool
is_pending run = is_some run.wanted

-- a mapping is given up
abbrev pub unmap_step : Option Window → Option Step
unmap_step mapping = option_map (λ window. step.Unmap window.hold) mapping

-- the open files by number, in the order of the greatest descriptor of each
abbrev pub files_to_close : List (Option ℕ) → List ℕ
files_to_close [] = []
files_to_close (None ∷ later) = files_to_close later
files_to_close (Some number ∷ later) =
    if list_any (leads_to number) later then files_to_close later else number ∷ files_to_close later

-- an open file is given up
abbrev pub close_step : OpenFiles → ℕ → Option Step
close_step open_files number = option_map (λ file. step.Close file.hold) (file_numbered open_files number)

-- the way back to `/`, where the shown folder is another
abbrev pub home_steps : Path → List Step
home_steps [] = []
home_steps (name ∷ names) = step.Home ∷ []

-- The steps by which a session leaves: a command that is given up gives back its own references, then go the
-- mappings by number, the open files by their greatest descriptors, and the working directory.
abbrev pub exit_steps : SessionRun → List Step
exit_steps run =
    run.own
    ++ filter_map unmap_step run.state.mappings
    ++ filter_map (close_step run.state.open_files) (files_to_close run.state.open_files.descriptors)
    ++ home_steps run.state.shown

-- the next exit step: each is asked once, whatever the reply to the one before it
abbrev pub exit_step : SessionRun → Option Step
exit_step run = slice_get (exit_steps run) (length run.left)

-- the step that a session wants next: its pending command's, and when all its lines are done an exit step
abbrev pub wanted_step : SessionRun → Option Step
wanted_step run = if is_pending run then run.wanted else exit_step run
