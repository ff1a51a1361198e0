-- What a command of mounts and devices does from where it stands.
use Rattle.std.specs.Prelude.{codes}
use Rattle.vfs_base.specs.declared.step.Step.TheVariants as step
use Rattle.vfs_model.specs.FolderCommands.{one_step}
use Rattle.vfs_model.specs.MountCommands.{cells_told, devices_told, holders_told, mounts_told, sync_files, synced}
use Rattle.vfs_model.specs.Talk.{Talk, ask, shows}
use Rattle.msh_tree_commands.specs.declared.mounts.MountCommand.{MountCommand}
use Rattle.msh_tree_commands.specs.declared.mounts.MountCommand.TheVariants as command

-- what the command does for any later replies
abbrev pub mount_talk : MountCommand → Talk
mount_talk (command.Shown text) = shows text
mount_talk (command.Mount source point fs) = one_step (codes "mount") point (step.Mount source point fs)
mount_talk (command.Umount point) = one_step (codes "umount") point (step.Umount point)
mount_talk (command.Mkfs name) = one_step (codes "mkfs") name (step.Mkfs name)
mount_talk command.Df = ask step.Mounts mounts_told
mount_talk command.ListDevice = ask step.Devices devices_told
mount_talk command.Dentries = ask step.Dentries holders_told
mount_talk command.Sync = ask step.Cells cells_told
mount_talk (command.SyncFile file others) = ask (step.Sync file) (synced file (sync_files others.items))

-- a step is asked
abbrev pub IsAsking : MountCommand → Type 0
IsAsking (command.Shown text) = ⊥
IsAsking _ = Unit {0}
