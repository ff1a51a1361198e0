-- Behind a reply no command of mappings has a reference that no mapping has.
use Rattle.std.proofs.Common.{◌≡◌, ◌++◌, ℕ, List, [], ◌∷◌, Option, Result, Ok, Err, refl, codes, decimal}
use Rattle.vfs_base.specs.declared.errno.Errno.{Errno}
use Rattle.vfs_base.specs.declared.reply.Reply.{Reply}
use Rattle.vfs_base.specs.declared.reply.Reply.TheVariants as reply
use Rattle.vfs_model.specs.CommandText.{fails, line}
use Rattle.vfs_model.specs.FolderCommands.{done_or_fails}
use Rattle.vfs_model.specs.MappingCommands.{load_replied, map_replied, store_replied, with_mappings}
use Rattle.vfs_model.specs.Mappings.{NewMapping, add_mapping}
use Rattle.vfs_model.specs.Talk.{Talk, changing, checked, shows}
use Rattle.vfs_model.specs.declared.shell_state.ShellState.{ShellState}
use Rattle.vfs_model.specs.declared.shell_state.Window.{Window}
use Rattle.msh_file_commands.specs.MappingTalks.{mapping_talk}
use Rattle.msh_file_commands.specs.declared.map_part.MapPart.{MapPart}
use Rattle.msh_file_commands.specs.declared.mappings.MappingCommand.{MappingCommand}
use Rattle.msh_file_commands.specs.declared.mappings.MappingCommand.TheVariants as command

-- with no further reply the talk has no reference
abbrev OwnsNone : Talk → ShellState → Type 0
OwnsNone talk state = (talk state []).own ≡ []

done_owns : (name subject : List ℕ) (reply : Reply) (state : ShellState) → OwnsNone (done_or_fails name subject reply) state
done_owns name subject (reply.Refused errno) state = refl
done_owns name subject _ state = refl

added_owns : (word : List ℕ) (found : Result NewMapping Errno) (state : ShellState) →
    OwnsNone (checked (fails (codes "mmap") word) found (λ new. changing (with_mappings new.mappings) (shows (line (codes "window " ++ decimal new.number))))) state
added_owns word (Ok new) state = refl
added_owns word (Err errno) state = refl

map_owns : (word : List ℕ) (part : MapPart) (reply : Reply) (state : ShellState) →
    OwnsNone (map_replied word part.file part.off part.len part.writes reply) state
map_owns word part (reply.Held hold) state = added_owns word (add_mapping state.mappings _) state
map_owns word part (reply.Refused errno) state = refl
map_owns word part _ state = refl

load_owns : (word : List ℕ) (reply : Reply) (state : ShellState) → OwnsNone (load_replied word reply) state
load_owns word (reply.Got bytes) state = refl
load_owns word (reply.Refused errno) state = refl
load_owns word _ state = refl

store_owns : (word : List ℕ) (reply : Reply) (state : ShellState) → OwnsNone (store_replied word reply) state
store_owns word (reply.Count n end) state = refl
store_owns word (reply.Refused errno) state = refl
store_owns word _ state = refl

pub reply_owns : (c : MappingCommand) (reply : Reply) (state : ShellState) → (mapping_talk c state (reply ∷ [])).own ≡ []
reply_owns (command.Shown text) reply state = refl
reply_owns (command.Map word part) reply state = map_owns word part reply state
reply_owns (command.Load word file offset len) reply state = load_owns word reply state
reply_owns (command.Store word file offset bytes) reply state = store_owns word reply state
reply_owns (command.Sync word file) reply state = done_owns (codes "msync") word reply state
reply_owns (command.Unmap word hold) reply state = done_owns (codes "munmap") word reply state
