-- Which replies leave a command of open files no reference that no descriptor has.
use Rattle.std.proofs.Common.{◌≡◌, ℕ, ℤ, List, [], Result, Ok, Err, refl, codes}
use Rattle.vfs_base.specs.declared.errno.Errno.{Errno}
use Rattle.vfs_base.specs.declared.reply.Reply.{Reply}
use Rattle.vfs_base.specs.declared.reply.Reply.TheVariants as reply
use Rattle.vfs_model.specs.CommandText.{fails, number_line}
use Rattle.vfs_model.specs.FileCommands.{read_replied, seek_place, seek_sized, write_replied}
use Rattle.vfs_model.specs.FolderCommands.{done_or_fails}
use Rattle.vfs_model.specs.OpenCommands.{add_opened, descriptor_line, with_open_files}
use Rattle.vfs_model.specs.OpenFiles.{add_file, seek}
use Rattle.vfs_model.specs.Talk.{Talk, changing, checked, shows}
use Rattle.vfs_model.specs.declared.shell_state.OpenFile.{OpenFile}
use Rattle.vfs_model.specs.declared.shell_state.ShellState.{ShellState}
use Rattle.vfs_model.specs.declared.shell_state.Whence.{Whence}
use Rattle.vfs_model.specs.declared.shell_state.Whence.TheVariants as whence
use Rattle.msh_file_commands.specs.FileTalks.{OwnsNone, open_ended}

checked_owns : {X : Type 0} → (refused : Errno → Talk) (found : Result X Errno) (go : X → Talk) (state : ShellState) →
    ((errno : Errno) → OwnsNone (refused errno) state) → ((x : X) → OwnsNone (go x) state) → OwnsNone (checked refused found go) state
checked_owns refused (Ok x) go state fails_so goes_so = goes_so x
checked_owns refused (Err errno) go state fails_so goes_so = fails_so errno

pub done_owns : (name subject : List ℕ) (reply : Reply) (state : ShellState) → OwnsNone (done_or_fails name subject reply) state
done_owns name subject (reply.Refused errno) state = refl
done_owns name subject _ state = refl

-- the open file is its descriptor's, or there is none
pub add_owns : (word : List ℕ) (file : OpenFile) (state : ShellState) → OwnsNone (add_opened word file) state
add_owns word file state =
    checked_owns (fails (codes "open") word) (add_file state.open_files file)
    (λ new. changing (with_open_files new.open_files) (shows (descriptor_line new.fd))) state
    (λ errno. refl) (λ new. refl)

pub ended_owns : (word : List ℕ) (errno : Errno) (reply : Reply) (state : ShellState) → OwnsNone (open_ended word errno reply) state
ended_owns word errno reply.Done state = refl
ended_owns word errno (reply.Refused other) state = refl
ended_owns word errno _ state = refl

pub read_owns : (word : List ℕ) (fd : ℕ) (file : OpenFile) (reply : Reply) (state : ShellState) → OwnsNone (read_replied word fd file reply) state
read_owns word fd file (reply.Got bytes) state = refl
read_owns word fd file (reply.Refused errno) state = refl
read_owns word fd file _ state = refl

pub write_owns : (word : List ℕ) (fd : ℕ) (file : OpenFile) (reply : Reply) (state : ShellState) → OwnsNone (write_replied word fd file reply) state
write_owns word fd file (reply.Count n end) state = refl
write_owns word fd file (reply.Refused errno) state = refl
write_owns word fd file _ state = refl

sought_owns : (word : List ℕ) (fd : ℕ) (off : ℤ) (whence : Whence) (state : ShellState) → OwnsNone (seek_place word fd off whence) state
sought_owns word fd off whence state =
    checked_owns (fails (codes "lseek") word) (seek state.open_files fd off whence)
    (λ sought. changing (with_open_files sought.open_files) (shows (number_line sought.place))) state
    (λ errno. refl) (λ sought. refl)

pub sized_owns : (word : List ℕ) (fd : ℕ) (off : ℤ) (reply : Reply) (state : ShellState) → OwnsNone (seek_sized word fd off reply) state
sized_owns word fd off (reply.SizeIs size) state = sought_owns word fd off (whence.End size) state
sized_owns word fd off (reply.Refused errno) state = refl
sized_owns word fd off _ state = refl

pub ruleset reply_owns = (read_owns, write_owns, sized_owns, done_owns, ended_owns)
