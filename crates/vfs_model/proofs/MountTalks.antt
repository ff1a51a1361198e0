-- The commands of mounts and devices take replies as they should.
use Rattle.std.specs.Prelude.{ℕ, List, [], ◌∷◌, codes}
use Rattle.vfs_base.specs.declared.reply.Reply.{Reply}
use Rattle.vfs_base.specs.declared.reply.Reply.TheVariants as reply
use Rattle.vfs_base.specs.declared.step.Step.TheVariants as step
use Rattle.vfs_base.specs.declared.ids.FileId.{FileId}
use Rattle.vfs_model.proofs.ReplyTaking.{asking, if-takes, none-takes, one-takes, showing, three-take, OptionTakes, known}
use Rattle.vfs_model.specs.ShellLaws.{TalkTakesReplies}
use Rattle.vfs_model.specs.Talk.{Talk, ask}
use Rattle.vfs_model.proofs.FolderTalks.{step-takes}
use Rattle.vfs_model.specs.FolderCommands.{is_absent, one_step}
use Rattle.vfs_model.specs.MountCommands.{cells_told, dentries, devices_told, df, holders_told, list_device, mkfs, mount, mount_command, mounts_told, sync, sync_files, synced, umount}

mounts-take : (reply : Reply) → TalkTakesReplies (mounts_told reply)
mounts-take (reply.MountList lines) = showing _
mounts-take (reply.Refused errno) = showing _
mounts-take _ = showing _

devices-take : (reply : Reply) → TalkTakesReplies (devices_told reply)
devices-take (reply.DeviceList lines) = showing _
devices-take (reply.Refused errno) = showing _
devices-take _ = showing _

holders-take : (reply : Reply) → TalkTakesReplies (holders_told reply)
holders-take (reply.Holders lines) = showing _
holders-take (reply.Refused errno) = showing _
holders-take _ = showing _

synced-takes : (file : FileId) (go : Talk) → TalkTakesReplies go → (reply : Reply) → TalkTakesReplies (synced file go reply)
synced-takes file go takes reply.Done = takes
synced-takes file go takes (reply.Refused errno) = if-takes (is_absent errno) _ _ takes (showing _)
synced-takes file go takes _ = showing _

files-take : (files : List FileId) → TalkTakesReplies (sync_files files)
files-take [] = showing _
files-take (file ∷ files) = asking [] (step.Sync file) _ (synced-takes file (sync_files files) (files-take files))

cells-take : (reply : Reply) → TalkTakesReplies (cells_told reply)
cells-take (reply.Files files) = files-take files
cells-take (reply.Refused errno) = showing _
cells-take _ = showing _

mount-words-take : (words : List (List ℕ)) → TalkTakesReplies (mount words)
mount-words-take words =
    three-take (codes "mount SOURCE POINT TYPE") (λ source point fs. one_step (codes "mount") point (step.Mount source point fs))
    (λ source point fs. step-takes (codes "mount") point (step.Mount source point fs)) words

umount-takes : (words : List (List ℕ)) → TalkTakesReplies (umount words)
umount-takes words =
    one-takes (codes "umount POINT") (λ point. one_step (codes "umount") point (step.Umount point))
    (λ point. step-takes (codes "umount") point (step.Umount point)) words

mkfs-takes : (words : List (List ℕ)) → TalkTakesReplies (mkfs words)
mkfs-takes words =
    one-takes (codes "mkfs VOLUME") (λ name. one_step (codes "mkfs") name (step.Mkfs name)) (λ name. step-takes (codes "mkfs") name (step.Mkfs name)) words

df-takes : (words : List (List ℕ)) → TalkTakesReplies (df words)
df-takes words = none-takes (codes "df") (ask step.Mounts mounts_told) (asking [] step.Mounts mounts_told mounts-take) words

list-takes : (words : List (List ℕ)) → TalkTakesReplies (list_device words)
list-takes words = none-takes (codes "list_device") (ask step.Devices devices_told) (asking [] step.Devices devices_told devices-take) words

dentries-take : (words : List (List ℕ)) → TalkTakesReplies (dentries words)
dentries-take words = none-takes (codes "dentries") (ask step.Dentries holders_told) (asking [] step.Dentries holders_told holders-take) words

syncs-take : (words : List (List ℕ)) → TalkTakesReplies (sync words)
syncs-take words = none-takes (codes "sync") (ask step.Cells cells_told) (asking [] step.Cells cells_told cells-take) words

pub mount-takes : (name : List ℕ) (words : List (List ℕ)) → OptionTakes (mount_command name words)
mount-takes name words = search (known, mount-words-take, umount-takes, mkfs-takes, df-takes, list-takes, dentries-take, syncs-take) depth 12
