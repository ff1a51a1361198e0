-- What holds of each command where no further reply comes.
use Rattle.std.proofs.Common.{◌≡◌, ◌≤◌, ℕ, List, [], length, arith, refl, ap}
use Rattle.vfs_base.specs.declared.reply.Reply.{Reply}
use Rattle.vfs_model.specs.Talk.{Talk, shows}
use Rattle.vfs_model.specs.declared.shell_state.Next.TheVariants as next
use Rattle.vfs_model.specs.declared.shell_state.ShellState.{ShellState}
use Rattle.msh_commands.specs.CommandTalks.{command_talk, family_talk}
use Rattle.msh_text_commands.specs.CopyTalks.{copy_talk}
use Rattle.msh_file_commands.specs.FileTalks.{file_talk}
use Rattle.msh_tree_commands.specs.FolderTalks.{folder_talk}
use Rattle.msh_file_commands.specs.MappingTalks.{mapping_talk}
use Rattle.msh_tree_commands.specs.MountTalks.{mount_talk}
use Rattle.msh_text_commands.specs.TextTalks.{text_talk}
use Rattle.msh_commands.specs.declared.command.Command.{Command}
use Rattle.msh_commands.specs.declared.command.Family.{Family}
use Rattle.msh_commands.specs.declared.command.Family.TheVariants as family
use Rattle.msh_text_commands.specs.declared.copies.CopyCommand.{CopyCommand}
use Rattle.msh_text_commands.specs.declared.copies.CopyCommand.TheVariants as copies
use Rattle.msh_file_commands.specs.declared.files.FileCommand.{FileCommand}
use Rattle.msh_file_commands.specs.declared.files.FileCommand.TheVariants as files
use Rattle.msh_tree_commands.specs.declared.folders.FolderCommand.{FolderCommand}
use Rattle.msh_tree_commands.specs.declared.folders.FolderCommand.TheVariants as folders
use Rattle.msh_file_commands.specs.declared.mappings.MappingCommand.{MappingCommand}
use Rattle.msh_file_commands.specs.declared.mappings.MappingCommand.TheVariants as mappings
use Rattle.msh_tree_commands.specs.declared.mounts.MountCommand.{MountCommand}
use Rattle.msh_tree_commands.specs.declared.mounts.MountCommand.TheVariants as mounts
use Rattle.msh_text_commands.specs.declared.texts.TextCommand.{TextCommand}
use Rattle.msh_text_commands.specs.declared.texts.TextCommand.TheVariants as texts

-- With no reply a talk leaves the state, has at most two references, and where it is finished it looks at no reply.
pub record Rests (talk : Talk) : Type 0 where
  pub state : (state : ShellState) → (talk state []).state ≡ state
  pub few : (state : ShellState) → length (talk state []).own ≤ 2
  pub finished : (before state : ShellState) (text : List ℕ) (replies : List Reply) →
      (talk before []).next ≡ next.Finished text → talk state replies ≡ shows text state replies

shown-rests : (text : List ℕ) → Rests (shows text)
shown-rests text = record {
  state = λ state. refl;
  few = λ state. omega arith;
  finished = λ before state other replies e. let same : text ≡ other = cc in ap (λ t. shows t state replies) same;
}

folders-rest : (c : FolderCommand) → Rests (folder_talk c)
folders-rest (folders.Shown text) = shown-rests text
folders-rest _ = record { state = λ state. refl; few = λ state. omega arith; finished = λ before state text replies e. absurd (cc) }

mounts-rest : (c : MountCommand) → Rests (mount_talk c)
mounts-rest (mounts.Shown text) = shown-rests text
mounts-rest _ = record { state = λ state. refl; few = λ state. omega arith; finished = λ before state text replies e. absurd (cc) }

texts-rest : (c : TextCommand) → Rests (text_talk c)
texts-rest (texts.Shown text) = shown-rests text
texts-rest _ = record { state = λ state. refl; few = λ state. omega arith; finished = λ before state text replies e. absurd (cc) }

copies-rest : (c : CopyCommand) → Rests (copy_talk c)
copies-rest (copies.Shown text) = shown-rests text
copies-rest _ = record { state = λ state. refl; few = λ state. omega arith; finished = λ before state text replies e. absurd (cc) }

files-rest : (c : FileCommand) → Rests (file_talk c)
files-rest (files.Shown text) = shown-rests text
files-rest (files.ShownNumber number) = shown-rests _
files-rest (files.ShownDescriptor fd) = shown-rests _
files-rest _ = record { state = λ state. refl; few = λ state. omega arith; finished = λ before state text replies e. absurd (cc) }

mappings-rest : (c : MappingCommand) → Rests (mapping_talk c)
mappings-rest (mappings.Shown text) = shown-rests text
mappings-rest _ = record { state = λ state. refl; few = λ state. omega arith; finished = λ before state text replies e. absurd (cc) }

families-rest : (c : Family) → Rests (family_talk c)
families-rest (family.Shown text) = shown-rests text
families-rest (family.Folders command) = folders-rest command
families-rest (family.Mounts command) = mounts-rest command
families-rest (family.Texts command) = texts-rest command
families-rest (family.Copies command) = copies-rest command
families-rest (family.Files command) = files-rest command
families-rest (family.Mappings command) = mappings-rest command

pub commands-rest : (c : Command) → Rests (command_talk c)
commands-rest c = families-rest c.family
