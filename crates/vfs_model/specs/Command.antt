-- What a line of the shell does, from its first step to its text.
use Rattle.std.specs.Prelude.{ℕ, Option, Some, None, Result, Ok, Err, List, [], ◌∷◌, ◌++◌, codes, if◌then◌else◌}
use Rattle.vfs_model.specs.CommandText.{line}
use Rattle.vfs_model.specs.CommandWords.{no_word, same_word}
use Rattle.vfs_model.specs.CopyCommands.{copy_command}
use Rattle.vfs_model.specs.FileCommands.{file_command}
use Rattle.vfs_model.specs.FolderCommands.{folder_command}
use Rattle.vfs_model.specs.MappingCommands.{mapping_command}
use Rattle.vfs_model.specs.Mappings.{opening_mappings}
use Rattle.vfs_model.specs.MountCommands.{mount_command}
use Rattle.vfs_model.specs.OpenFiles.{opening_files}
use Rattle.vfs_model.specs.Shown.{bad_line_text}
use Rattle.vfs_model.specs.Talk.{Talk, shows}
use Rattle.vfs_model.specs.Words.{LineFault, line_words}
use Rattle.vfs_model.specs.declared.shell_state.ShellState.{ShellState}

-- a shell at the start: no open file, no mapping, in `/`
abbrev pub opening_shell : ShellState
opening_shell = record { open_files = opening_files; mappings = opening_mappings; shown = [] }

-- the names of all commands
abbrev pub help_text : List ℕ
help_text = line (
    codes "cat cd close cp dentries df dup echo fsync ftruncate help list_device ls lseek mkdir mkfs mload mmap mount mstore "
    ++ codes "msync munmap mv open pwd read rm rmdir stat sync umount write")

abbrev pub help : List (List ℕ) → Talk
help words = no_word (codes "help") (shows help_text) words

abbrev pub help_command : List ℕ → List (List ℕ) → Option Talk
help_command name words = if same_word name (codes "help") then Some (help words) else None

abbrev pub unknown : List ℕ → Talk
unknown name = shows (line (name ++ codes ": command not found."))

-- the first that is known, or else the last
abbrev pub talk_or : Option Talk → Talk → Talk
talk_or (Some talk) other = talk
talk_or None other = other

-- what the words of a line do: the first is the command's name
abbrev pub command : List (List ℕ) → Talk
command [] = shows []
command (name ∷ words) =
    talk_or (folder_command name words) (
    talk_or (copy_command name words) (
    talk_or (mount_command name words) (
    talk_or (file_command name words) (
    talk_or (mapping_command name words) (
    talk_or (help_command name words) (unknown name))))))

abbrev pub words_talk : Result (List (List ℕ)) LineFault → Talk
words_talk (Ok words) = command words
words_talk (Err fault) = shows bad_line_text

-- what a line does: a line whose words are faulty is a bad line, and one without words does nothing
abbrev pub line_talk : List ℕ → Talk
line_talk line = words_talk (line_words line)
