-- What a command of mappings does from where it stands.
use Rattle.std.specs.Prelude.{◌≡◌, ℕ, codes, List, [], ◌∷◌, Option, Some, None}
use Rattle.vfs_base.specs.declared.reply.Reply.{Reply}
use Rattle.vfs_base.specs.declared.step.Step.TheVariants as step
use Rattle.vfs_model.specs.FolderCommands.{done_or_fails, one_step}
use Rattle.vfs_model.specs.MappingCommands.{load_replied, map_replied, store_replied}
use Rattle.vfs_model.specs.Talk.{Talk, ask, ask_holding, shows}
use Rattle.vfs_model.specs.declared.shell_state.ShellState.{ShellState}
use Rattle.msh_file_commands.specs.declared.mappings.MappingCommand.{MappingCommand}
use Rattle.msh_file_commands.specs.declared.mappings.MappingCommand.TheVariants as command

-- what the command does for any later replies
abbrev pub mapping_talk : MappingCommand → Talk
mapping_talk (command.Shown text) = shows text
mapping_talk (command.Map word part) = ask (step.Map part.file.hold) (map_replied word part.file part.off part.len part.writes)
mapping_talk (command.Load word file offset len) = ask (step.Load file offset len) (load_replied word)
mapping_talk (command.Store word file offset bytes) = ask (step.Store file offset bytes) (store_replied word)
mapping_talk (command.Sync word file) = one_step (codes "msync") word (step.Sync file)
mapping_talk (command.Unmap word hold) = ask_holding (step.Unmap hold ∷ []) (step.Unmap hold) (done_or_fails (codes "munmap") word)

-- from one state on the command does what the talk does from another
abbrev pub GoesOn : Talk → ShellState → MappingCommand → ShellState → Type 0
GoesOn talk before command after = (later : List Reply) → mapping_talk command after later ≡ talk before later

-- a command has begun as the talk of its words, where its name is of this family
abbrev pub BeginsMapping : Option Talk → ShellState → Option MappingCommand → ShellState → Type 0
BeginsMapping None before None after = after ≡ before
BeginsMapping (Some talk) before (Some command) after = GoesOn talk before command after
BeginsMapping _ before _ after = ⊥
