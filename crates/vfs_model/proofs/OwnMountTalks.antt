-- The commands of mounts and devices ask only what the session may ask.
use Rattle.std.specs.Prelude.{ℕ, None, List, [], ◌∷◌, codes, refl}
use Rattle.vfs_base.specs.declared.reply.Reply.{Reply}
use Rattle.vfs_base.specs.declared.reply.Reply.TheVariants as reply
use Rattle.vfs_base.specs.declared.step.Step.TheVariants as step
use Rattle.vfs_base.specs.declared.ids.FileId.{FileId}
use Rattle.vfs_model.proofs.OwnFiles.{Behind, OptionAsks, WordsAsk, asking, if-asks, known, none-asks, one-asks, showing, three-ask}
use Rattle.vfs_model.proofs.OwnFolderTalks.{step-asks}
use Rattle.vfs_model.specs.FolderCommands.{is_absent, one_step}
use Rattle.vfs_model.specs.MountCommands.{cells_told, dentries, devices_told, df, holders_told, list_device, mkfs, mount, mount_command, mounts_told, sync, sync_files, synced, umount}
use Rattle.vfs_model.specs.Talk.{Talk, ask}

module _ (k : ℕ) (b : Behind k) where
  mounts-ask : (reply : Reply) → WordsAsk k b (mounts_told reply)
  mounts-ask (reply.MountList lines) = showing k b _
  mounts-ask (reply.Refused errno) = showing k b _
  mounts-ask _ = showing k b _

  devices-ask : (reply : Reply) → WordsAsk k b (devices_told reply)
  devices-ask (reply.DeviceList lines) = showing k b _
  devices-ask (reply.Refused errno) = showing k b _
  devices-ask _ = showing k b _

  holders-ask : (reply : Reply) → WordsAsk k b (holders_told reply)
  holders-ask (reply.Holders lines) = showing k b _
  holders-ask (reply.Refused errno) = showing k b _
  holders-ask _ = showing k b _

  synced-asks : (file : FileId) (go : Talk) → WordsAsk k b go → (reply : Reply) → WordsAsk k b (synced file go reply)
  synced-asks file go asks reply.Done = asks
  synced-asks file go asks (reply.Refused errno) = if-asks k b _ _ (is_absent errno) _ _ asks (showing k b _)
  synced-asks file go asks _ = showing k b _

  files-ask : (files : List FileId) → WordsAsk k b (sync_files files)
  files-ask [] = showing k b _
  files-ask (file ∷ files) =
      asking k b _ _ [] (step.Sync file) _ (λ held. record { may = refl; same = λ reply. refl }) (synced-asks file (sync_files files) (files-ask files))

  cells-ask : (reply : Reply) → WordsAsk k b (cells_told reply)
  cells-ask (reply.Files files) = files-ask files
  cells-ask (reply.Refused errno) = showing k b _
  cells-ask _ = showing k b _

  mount-words-ask : (words : List (List ℕ)) → WordsAsk k b (mount words)
  mount-words-ask words =
      three-ask k b (codes "mount SOURCE POINT TYPE") (λ source point fs. one_step (codes "mount") point (step.Mount source point fs))
      (λ source point fs. step-asks k b (codes "mount") point (step.Mount source point fs) (λ held. record { may = refl; same = λ reply. refl })) words

  umount-asks : (words : List (List ℕ)) → WordsAsk k b (umount words)
  umount-asks words =
      one-asks k b (codes "umount POINT") (λ point. one_step (codes "umount") point (step.Umount point))
      (λ point. step-asks k b (codes "umount") point (step.Umount point) (λ held. record { may = refl; same = λ reply. refl })) words

  mkfs-asks : (words : List (List ℕ)) → WordsAsk k b (mkfs words)
  mkfs-asks words =
      one-asks k b (codes "mkfs VOLUME") (λ name. one_step (codes "mkfs") name (step.Mkfs name))
      (λ name. step-asks k b (codes "mkfs") name (step.Mkfs name) (λ held. record { may = refl; same = λ reply. refl })) words

  df-asks : (words : List (List ℕ)) → WordsAsk k b (df words)
  df-asks words =
      none-asks k b (codes "df") (ask step.Mounts mounts_told)
      (asking k b None None [] step.Mounts mounts_told (λ held. record { may = refl; same = λ reply. refl }) mounts-ask) words

  list-asks : (words : List (List ℕ)) → WordsAsk k b (list_device words)
  list-asks words =
      none-asks k b (codes "list_device") (ask step.Devices devices_told)
      (asking k b None None [] step.Devices devices_told (λ held. record { may = refl; same = λ reply. refl }) devices-ask) words

  dentries-ask : (words : List (List ℕ)) → WordsAsk k b (dentries words)
  dentries-ask words =
      none-asks k b (codes "dentries") (ask step.Dentries holders_told)
      (asking k b None None [] step.Dentries holders_told (λ held. record { may = refl; same = λ reply. refl }) holders-ask) words

  syncs-ask : (words : List (List ℕ)) → WordsAsk k b (sync words)
  syncs-ask words =
      none-asks k b (codes "sync") (ask step.Cells cells_told)
      (asking k b None None [] step.Cells cells_told (λ held. record { may = refl; same = λ reply. refl }) cells-ask) words

  pub mount-asks : (name : List ℕ) (words : List (List ℕ)) → OptionAsks k b (mount_command name words)
  mount-asks name words =
      search (known, mount-words-ask, umount-asks, mkfs-asks, df-asks, list-asks, dentries-ask, syncs-ask) depth 12
