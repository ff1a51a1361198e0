-- What a command of open files does from where it stands.
use Rattle.std.specs.Prelude.{◌≡◌, ℕ, codes, List, [], ◌∷◌, Option, Some, None}
use Rattle.vfs_base.specs.declared.errno.Errno.{Errno}
use Rattle.vfs_base.specs.declared.ids.HoldId.{HoldId}
use Rattle.vfs_base.specs.declared.reply.Reply.{Reply}
use Rattle.vfs_base.specs.declared.step.Step.{Step}
use Rattle.vfs_base.specs.declared.step.Step.TheVariants as step
use Rattle.vfs_model.specs.CommandText.{number_line, subject_error_line}
use Rattle.vfs_model.specs.FileCommands.{read_replied, seek_sized, write_replied, write_step}
use Rattle.vfs_model.specs.FolderCommands.{done_or_fails, one_step}
use Rattle.vfs_model.specs.OpenCommands.{cut_replied, descriptor_line, open_replied}
use Rattle.vfs_model.specs.Talk.{Talk, ask, ask_holding, shows}
use Rattle.vfs_model.specs.TextCommands.{closed}
use Rattle.vfs_model.specs.declared.shell_state.ShellState.{ShellState}
use Rattle.msh_file_commands.specs.declared.files.FileCommand.{FileCommand}
use Rattle.msh_file_commands.specs.declared.files.FileCommand.TheVariants as command

-- an `open` whose Trunc was refused, behind the reply to its Close
abbrev pub open_ended : List ℕ → Errno → Reply → Talk
open_ended word errno reply = closed (codes "open") word (subject_error_line (codes "open") word errno) shows reply

-- what the command does for any later replies
abbrev pub file_talk : FileCommand → Talk
file_talk (command.Shown text) = shows text
file_talk (command.ShownNumber number) = shows (number_line number)
file_talk (command.ShownDescriptor fd) = shows (descriptor_line fd)
file_talk (command.Open word flags) = ask (step.Open word flags) (open_replied word flags)
file_talk (command.OpenCut word file) = ask_holding (step.Close file.hold ∷ []) (step.Trunc file.file 0) (cut_replied word file)
file_talk (command.OpenEnd word hold errno) = ask_holding (step.Close hold ∷ []) (step.Close hold) (open_ended word errno)
file_talk (command.Read word fd n opened) = ask (step.Read opened.file opened.place n) (read_replied word fd opened)
file_talk (command.Write word fd opened bytes) = ask (write_step opened bytes) (write_replied word fd opened)
file_talk (command.SeekEnd word fd off file) = ask (step.Size file) (seek_sized word fd off)
file_talk (command.Cut word file len) = one_step (codes "ftruncate") word (step.Trunc file len)
file_talk (command.Sync word file) = one_step (codes "fsync") word (step.Sync file)
file_talk (command.Close word hold) = ask_holding (step.Close hold ∷ []) (step.Close hold) (done_or_fails (codes "close") word)

-- from one state on the command does what the talk does from another
abbrev pub GoesOn : Talk → ShellState → FileCommand → ShellState → Type 0
GoesOn talk before command after = (later : List Reply) → file_talk command after later ≡ talk before later

-- the state that a talk leads to with no further reply
abbrev pub state_behind : Talk → ShellState → ShellState
state_behind talk state = (talk state []).state

-- a command has begun as the talk of its words, where its name is of this family
abbrev pub BeginsFile : Option Talk → ShellState → Option FileCommand → ShellState → Type 0
BeginsFile None before None after = after ≡ before
BeginsFile (Some talk) before (Some command) after = GoesOn talk before command after
BeginsFile _ before _ after = ⊥

-- the state behind the beginning of a command
abbrev pub begun_state : Option Talk → ShellState → ShellState
begun_state None state = state
begun_state (Some talk) state = state_behind talk state

-- with no further reply the talk has no reference
abbrev pub OwnsNone : Talk → ShellState → Type 0
OwnsNone talk state = (talk state []).own ≡ []

-- what gives back a reference, if there is one
abbrev pub own_of : Option HoldId → List Step
own_of None = []
own_of (Some hold) = step.Close hold ∷ []
