-- What a command of folders and names does from where it stands.
use Rattle.std.specs.Prelude.{◌≡◌, ℕ, codes, List, Option, Some, None}
use Rattle.vfs_base.specs.declared.ids.FileId.{FileId}
use Rattle.vfs_base.specs.declared.reply.ListEntry.{ListEntry}
use Rattle.vfs_base.specs.declared.reply.Reply.{Reply}
use Rattle.vfs_base.specs.declared.reply.Reply.TheVariants as reply
use Rattle.vfs_base.specs.declared.step.Step.TheVariants as step
use Rattle.vfs_model.specs.FolderCommands.{in_folder, list, list_entries, list_node, moved_to, one_step, removed, remove_all, sized, stat_node, stat_size, tell_folder}
use Rattle.vfs_model.specs.Talk.{Talk, ask, shows}
use Rattle.vfs_model.specs.declared.shell_state.ShellState.{ShellState}
use Rattle.msh_tree_commands.specs.declared.listing.Listing.{Listing}
use Rattle.msh_tree_commands.specs.declared.folders.FolderCommand.{FolderCommand}
use Rattle.msh_tree_commands.specs.declared.folders.FolderCommand.TheVariants as command

-- the entries that are left are listed behind the text so far
abbrev pub listing_talk : Listing → Talk
listing_talk listing = list_entries listing.word listing.entries.items listing.text

-- the line of an entry is appended, or else it wants the size of a file
abbrev pub Lists : ListEntry → List ℕ → List ℕ → Option FileId → Type 0
Lists entry old new None = (word : List ℕ) (go : List ℕ → Talk) → list_node word old entry.name go entry.node ≡ go new
Lists entry old new (Some file) =
    (new ≡ old) × ((word : List ℕ) (go : List ℕ → Talk) → list_node word old entry.name go entry.node ≡ ask (step.Size file) (sized word old entry.name go))

-- what the command does for any later replies
abbrev pub folder_talk : FolderCommand → Talk
folder_talk (command.Shown text) = shows text
folder_talk command.Pwd = tell_folder (codes "pwd")
folder_talk command.Cd = tell_folder (codes "cd")
folder_talk (command.CdTo word) = ask (step.Chdir word) (moved_to word)
folder_talk (command.Ls word) = list word
folder_talk (command.LsSize listing name file) = ask (step.Size file) (sized listing.word listing.text name (list_entries listing.word listing.entries.items))
folder_talk (command.Mkdir word) = one_step (codes "mkdir") word (step.Mkdir word)
folder_talk (command.Rmdir word) = one_step (codes "rmdir") word (step.Rmdir word)
folder_talk (command.Rm word others) = ask (step.Unlink word) (removed word (remove_all others.items))
folder_talk (command.Mv old new) = one_step (codes "mv") old (step.Rename old new)
folder_talk (command.Stat word) = ask (step.Stat word) (stat_node word)
folder_talk (command.StatSize word file) = ask (step.Size file) (stat_size word)

-- the prompt shows the folder that a reply tells
abbrev pub after_folder : Reply → ShellState → ShellState
after_folder (reply.At path) state = in_folder path state
after_folder _ state = state

-- the state with a reply taken in
abbrev pub after_reply : FolderCommand → Reply → ShellState → ShellState
after_reply command.Pwd reply state = after_folder reply state
after_reply command.Cd reply state = after_folder reply state
after_reply (command.CdTo word) reply state = after_folder reply state
after_reply _ reply state = state

-- a step is asked
abbrev pub IsAsking : FolderCommand → Type 0
IsAsking (command.Shown text) = ⊥
IsAsking _ = Unit {0}
