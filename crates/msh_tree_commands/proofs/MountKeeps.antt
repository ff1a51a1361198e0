-- A reply to a command of mounts leaves the shell's state as it is, and such a command has no reference.
use Rattle.std.proofs.Common.{◌≡◌, List, [], ◌∷◌, refl, codes}
use Rattle.std.proofs.lemmas.Bool.{cond_both}
use Rattle.vfs_base.specs.declared.ids.FileId.{FileId}
use Rattle.vfs_base.specs.declared.reply.Reply.{Reply}
use Rattle.vfs_base.specs.declared.reply.Reply.TheVariants as reply
use Rattle.vfs_model.specs.CommandText.{fails}
use Rattle.vfs_model.specs.FolderCommands.{is_absent}
use Rattle.vfs_model.specs.MountCommands.{cells_told, devices_told, holders_told, mounts_told, row_text, sync_files, synced}
use Rattle.vfs_model.specs.declared.shell_state.ShellState.{ShellState}
use Rattle.msh_tree_commands.proofs.Leaving.{Leaves, done_leaves}
use Rattle.msh_desk.specs.FitsReply.{TakesReply}
use Rattle.msh_tree_commands.specs.MountTalks.{mount_talk, IsAsking}
use Rattle.msh_tree_commands.specs.declared.mounts.MountCommand.{MountCommand}
use Rattle.msh_tree_commands.specs.declared.mounts.MountCommand.TheVariants as command

mounts_leave : (reply : Reply) (state : ShellState) → Leaves (mounts_told reply) state state
mounts_leave (reply.MountList lines) state = (refl, refl)
mounts_leave (reply.Refused errno) state = (refl, refl)
mounts_leave _ state = (refl, refl)

devices_leave : (reply : Reply) (state : ShellState) → Leaves (devices_told reply) state state
devices_leave (reply.DeviceList lines) state = (refl, refl)
devices_leave (reply.Refused errno) state = (refl, refl)
devices_leave _ state = (refl, refl)

holders_leave : (reply : Reply) (state : ShellState) → Leaves (holders_told reply) state state
holders_leave (reply.Holders lines) state = (refl, refl)
holders_leave (reply.Refused errno) state = (refl, refl)
holders_leave _ state = (refl, refl)

files_leave : (files : List FileId) (state : ShellState) → Leaves (sync_files files) state state
files_leave [] state = (refl, refl)
files_leave (file ∷ files) state = (refl, refl)

cells_leave : (reply : Reply) (state : ShellState) → Leaves (cells_told reply) state state
cells_leave (reply.Files files) state = files_leave files state
cells_leave (reply.Refused errno) state = (refl, refl)
cells_leave _ state = (refl, refl)

synced_leaves : (file : FileId) (files : List FileId) (reply : Reply) (state : ShellState) → Leaves (synced file (sync_files files) reply) state state
synced_leaves file files reply.Done state = files_leave files state
synced_leaves file files (reply.Refused errno) state =
    cond_both (is_absent errno) (sync_files files) (fails (codes "sync") (row_text file.row) errno)
    (λ talk. Leaves talk state state) (λ _. files_leave files state) (λ _. (refl, refl))
synced_leaves file files _ state = (refl, refl)

pub reply_leaves : (c : MountCommand) (reply : Reply) (state : ShellState) →
    ((mount_talk c state (reply ∷ [])).state ≡ state) × ((mount_talk c state (reply ∷ [])).own ≡ [])
reply_leaves (command.Shown text) reply state = (refl, refl)
reply_leaves (command.Mount source point fs) reply state = done_leaves (codes "mount") point reply state
reply_leaves (command.Umount point) reply state = done_leaves (codes "umount") point reply state
reply_leaves (command.Mkfs name) reply state = done_leaves (codes "mkfs") name reply state
reply_leaves command.Df reply state = mounts_leave reply state
reply_leaves command.ListDevice reply state = devices_leave reply state
reply_leaves command.Dentries reply state = holders_leave reply state
reply_leaves command.Sync reply state = cells_leave reply state
reply_leaves (command.SyncFile file others) reply state = synced_leaves file others.items reply state

pub takes_asking : (c : MountCommand) (reply : Reply) (state : ShellState) → TakesReply (mount_talk c state []).next reply → IsAsking c
takes_asking (command.Shown text) reply state takes = takes
takes_asking _ reply state takes = tt
