-- The commands of folders and names. In every command a reply of a form that its step does not have ends the command
-- with the text so far.
use Rattle.std.specs.Prelude.{ℕ, Bool, true, false, Option, Some, None, List, [], ◌∷◌, ◌++◌, codes, decimal, if◌then◌else◌}
use Rattle.vfs_base.specs.Path.{Path, printed}
use Rattle.vfs_base.specs.declared.errno.Errno.{Errno}
use Rattle.vfs_base.specs.declared.errno.Errno.TheVariants as errno
use Rattle.vfs_base.specs.declared.ids.FileId.{FileId}
use Rattle.vfs_base.specs.declared.kinds.Kind.{Kind}
use Rattle.vfs_base.specs.declared.kinds.Kind.TheVariants as kind
use Rattle.vfs_base.specs.declared.kinds.NodeKind.{NodeKind}
use Rattle.vfs_base.specs.declared.kinds.NodeKind.TheVariants as node
use Rattle.vfs_base.specs.declared.reply.ListEntry.{ListEntry}
use Rattle.vfs_base.specs.declared.reply.Reply.{Reply}
use Rattle.vfs_base.specs.declared.reply.Reply.TheVariants as reply
use Rattle.vfs_base.specs.declared.step.Step.{Step}
use Rattle.vfs_base.specs.declared.step.Step.TheVariants as step
use Rattle.vfs_model.specs.CommandText.{column_line, error_line, fails, fails_after, line, usage}
use Rattle.vfs_model.specs.CommandWords.{no_word, one_word, same_word, two_words}
use Rattle.vfs_model.specs.Talk.{Talk, ask, changing, shows}
use Rattle.vfs_model.specs.declared.shell_state.ShellState.{ShellState}

-- a step that has nothing to show
abbrev pub done_or_fails : List ℕ → List ℕ → Reply → Talk
done_or_fails command subject (reply.Refused errno) = fails command subject errno
done_or_fails command subject _ = shows []

-- one step, which has nothing to show
abbrev pub one_step : List ℕ → List ℕ → Step → Talk
one_step command subject asked = ask asked (done_or_fails command subject)

-- the prompt shows the folder of the last At
abbrev pub in_folder : Path → ShellState → ShellState
in_folder path state = record state { shown = path }

abbrev pub told_folder : List ℕ → Reply → Talk
told_folder command (reply.At path) = changing (in_folder path) (shows (line (printed path)))
told_folder command (reply.Refused errno) = shows (error_line command errno)
told_folder command _ = shows []

-- the working directory is shown
abbrev pub tell_folder : List ℕ → Talk
tell_folder command = ask step.Cwd (told_folder command)

abbrev pub pwd : List (List ℕ) → Talk
pwd words = no_word (codes "pwd") (tell_folder (codes "pwd")) words

abbrev pub moved_to : List ℕ → Reply → Talk
moved_to word (reply.At path) = changing (in_folder path) (shows [])
moved_to word (reply.Refused errno) = fails (codes "cd") word errno
moved_to word _ = shows []

abbrev pub cd : List (List ℕ) → Talk
cd [] = tell_folder (codes "cd")
cd (word ∷ []) = ask (step.Chdir word) (moved_to word)
cd (word ∷ more ∷ words) = usage (codes "cd [PATH]")

abbrev pub is_absent : Errno → Bool
is_absent errno.ENOENT = true
is_absent _ = false

-- the size of a listed file; a file that has gone since is no error
abbrev pub sized : List ℕ → List ℕ → List ℕ → (List ℕ → Talk) → Reply → Talk
sized word text name go (reply.SizeIs size) = go (text ++ column_line name (decimal size))
sized word text name go (reply.Refused errno) =
    if is_absent errno then go (text ++ column_line name (codes "gone")) else fails_after text (codes "ls") word errno
sized word text name go _ = shows text

-- the line of a listed file; a character device has no size
abbrev pub list_file : List ℕ → List ℕ → List ℕ → (List ℕ → Talk) → FileId → Kind → Talk
list_file word text name go file kind.Chr = go (text ++ column_line name (codes "<CHR>"))
list_file word text name go file kind.Tmp = ask (step.Size file) (sized word text name go)
list_file word text name go file kind.Rom = ask (step.Size file) (sized word text name go)
list_file word text name go file kind.Cell = ask (step.Size file) (sized word text name go)

abbrev pub list_node : List ℕ → List ℕ → List ℕ → (List ℕ → Talk) → NodeKind → Talk
list_node word text name go node.Dir = go (text ++ column_line name (codes "<DIR>"))
list_node word text name go (node.File file kind) = list_file word text name go file kind

-- a line for each entry, behind the text so far
abbrev pub list_entries : List ℕ → List ListEntry → List ℕ → Talk
list_entries word [] text = shows text
list_entries word (entry ∷ entries) text = list_node word text entry.name (list_entries word entries) entry.node

abbrev pub listed : List ℕ → Reply → Talk
listed word (reply.Listing path entries) = list_entries word entries (line (codes "Directory " ++ printed path ++ codes ":"))
listed word (reply.Refused errno) = fails (codes "ls") word errno
listed word _ = shows []

abbrev pub list : List ℕ → Talk
list word = ask (step.List word) (listed word)

abbrev pub ls : List (List ℕ) → Talk
ls [] = list (codes ".")
ls (word ∷ []) = list word
ls (word ∷ more ∷ words) = usage (codes "ls [PATH]")

abbrev pub mkdir : List (List ℕ) → Talk
mkdir words = one_word (codes "mkdir PATH") (λ path. one_step (codes "mkdir") path (step.Mkdir path)) words

abbrev pub rmdir : List (List ℕ) → Talk
rmdir words = one_word (codes "rmdir PATH") (λ path. one_step (codes "rmdir") path (step.Rmdir path)) words

abbrev pub removed : List ℕ → Talk → Reply → Talk
removed word go reply.Done = go
removed word go (reply.Refused errno) = fails (codes "rm") word errno
removed word go _ = shows []

-- one word after the other; none is tried behind one that is refused
abbrev pub remove_all : List (List ℕ) → Talk
remove_all [] = shows []
remove_all (word ∷ words) = ask (step.Unlink word) (removed word (remove_all words))

abbrev pub rm : List (List ℕ) → Talk
rm [] = usage (codes "rm PATH..")
rm (word ∷ words) = remove_all (word ∷ words)

abbrev pub mv : List (List ℕ) → Talk
mv words = two_words (codes "mv OLD NEW") (λ old new. one_step (codes "mv") old (step.Rename old new)) words

abbrev pub stat_line : List ℕ → List ℕ → List ℕ
stat_line word text = line (word ++ codes " " ++ text)

abbrev pub stat_size : List ℕ → Reply → Talk
stat_size word (reply.SizeIs size) = shows (stat_line word (codes "file " ++ decimal size))
stat_size word (reply.Refused errno) =
    if is_absent errno then shows (stat_line word (codes "gone")) else fails (codes "stat") word errno
stat_size word _ = shows []

abbrev pub stat_file : List ℕ → FileId → Kind → Talk
stat_file word file kind.Chr = shows (stat_line word (codes "chr"))
stat_file word file kind.Tmp = ask (step.Size file) (stat_size word)
stat_file word file kind.Rom = ask (step.Size file) (stat_size word)
stat_file word file kind.Cell = ask (step.Size file) (stat_size word)

abbrev pub stat_node : List ℕ → Reply → Talk
stat_node word (reply.Node node.Dir) = shows (stat_line word (codes "dir"))
stat_node word (reply.Node (node.File file kind)) = stat_file word file kind
stat_node word (reply.Refused errno) = fails (codes "stat") word errno
stat_node word _ = shows []

-- the word is shown as it was typed
abbrev pub stat : List (List ℕ) → Talk
stat words = one_word (codes "stat PATH") (λ path. ask (step.Stat path) (stat_node path)) words

-- what a command of this family does with its words
abbrev pub folder_command : List ℕ → List (List ℕ) → Option Talk
folder_command name words =
    if same_word name (codes "pwd") then Some (pwd words)
    else if same_word name (codes "cd") then Some (cd words)
    else if same_word name (codes "ls") then Some (ls words)
    else if same_word name (codes "mkdir") then Some (mkdir words)
    else if same_word name (codes "rmdir") then Some (rmdir words)
    else if same_word name (codes "rm") then Some (rm words)
    else if same_word name (codes "mv") then Some (mv words)
    else if same_word name (codes "stat") then Some (stat words)
    else None
