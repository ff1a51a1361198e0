-- Every step of the namespace answers with a flat reply, or only tells.
use Rattle.std.proofs.Common.{◌≡◌, ℕ, false, not, nat_lt, Option, Some, None, List, [], refl}
use Rattle.std.specs.List.{list_any}
use Rattle.vfs_base.specs.Flat.{IsFlat}
use Rattle.vfs_base.specs.Path.{Path}
use Rattle.vfs_base.specs.declared.entry.Mark.{Mark}
use Rattle.vfs_base.specs.declared.entry.Mark.TheVariants as mark
use Rattle.vfs_base.specs.declared.errno.Errno.TheVariants as errno
use Rattle.vfs_base.specs.declared.flags.OpenFlags.{OpenFlags}
use Rattle.vfs_base.specs.declared.ids.HoldId.{HoldId}
use Rattle.vfs_base.specs.declared.kinds.FsType.{FsType}
use Rattle.vfs_base.specs.declared.kinds.FsType.TheVariants as fs
use Rattle.vfs_base.specs.declared.kinds.NodeKind.{NodeKind}
use Rattle.vfs_base.specs.declared.kinds.NodeKind.TheVariants as node
use Rattle.vfs_base.specs.declared.limits.TheConstants.{HOLDS}
use Rattle.vfs_base.specs.declared.reply.Reply.{Reply}
use Rattle.vfs_base.specs.declared.reply.Reply.TheVariants as reply
use Rattle.vfs_base.specs.declared.step.Step.{Step}
use Rattle.vfs_base.specs.declared.step.Step.TheVariants as step
use Rattle.vfs_model.specs.Chain.{refuse◌when◌, refuse_by, wanted}
use Rattle.vfs_model.specs.Content.{fs_type_of, is_mounted}
use Rattle.vfs_model.specs.FileLife.{Rows}
use Rattle.vfs_model.specs.Lookup.{asked_path, node_at, walk_refusal}
use Rattle.vfs_model.specs.MountStep.{mount_at, mount_refusals}
use Rattle.vfs_model.specs.NameSteps.{folder_refusals, mkdir_refusals, rmdir_refusals, unlink_refusals}
use Rattle.vfs_model.specs.Namespace.{same_bytes, same_path}
use Rattle.vfs_model.specs.NamespaceOutcome.{NamespaceOutcome}
use Rattle.vfs_model.specs.NamespaceStep.{namespace_answer, namespace_step, shutdown_step}
use Rattle.vfs_model.specs.OpenStep.{least_free_number, open_at, open_file, open_refusals, with_file_at}
use Rattle.vfs_model.specs.ReferenceSteps.{give_up_step, is_device_kind, map_step, reference_at}
use Rattle.vfs_model.specs.RenameStep.{move_at, move_refusals, rename_at, rename_refusals}
use Rattle.vfs_model.specs.RowChange.{is_chdir}
use Rattle.vfs_model.specs.Sizes.{is_at, tells_folder}
use Rattle.vfs_model.specs.UmountSteps.{is_busy, mkfs_step, mount_at_point, umount_at}
use Rattle.vfs_model.specs.declared.namespace.Namespace.{Namespace}
use Rattle.vfs_model.specs.declared.namespace.Role.{Role}
use Rattle.vfs_model.specs.declared.namespace.Role.TheVariants as role
use Rattle.vfs_model.specs.declared.namespace.RowChange.{RowChange}
use Rattle.vfs_model.proofs.StepAnswers.{Holds, bind-holds, either-holds, marked-holds, then-holds}

-- what holds of each outcome with a flat reply, and of each that only tells, holds of every answer but that of a Chdir
module _ (n : Namespace) (k : ℕ) (P : NamespaceOutcome → Type 0) (flat : (outcome : NamespaceOutcome) → IsFlat outcome.reply → P outcome) where
  plain : (answer : Reply) (next : Namespace) (changes : List RowChange) → IsFlat answer →
      P (record { reply = answer; next = next; changes = changes })
  plain answer next changes h = flat (record { reply = answer; next = next; changes = changes }) h

  open_file-replies : (path : Path) (rows : Rows) (found : Option NodeKind) → Holds P (open_file k path rows found)
  open_file-replies path rows None = tt
  open_file-replies path rows (Some node.Dir) = tt
  open_file-replies path rows (Some (node.File file kind)) = plain (reply.Opened _ file kind) _ _ tt

  open-replies : (path : Path) (flags : OpenFlags) → Holds P (open_at n k path flags)
  unfolding open_at
  open-replies path flags =
      then-holds P (open_refusals n k path flags) _ (λ h.
      open_file-replies path (with_file_at n path) (node_at (with_file_at n path).next path))

  give_up-replies : (as_role : Role) (hold : HoldId) → Holds P (give_up_step as_role n k hold)
  unfolding give_up_step
  give_up-replies as_role hold = bind-holds P (wanted errno.EBADF (reference_at n k hold as_role)) _ (λ reference e. plain reply.Done _ _ tt)

  map-replies : (hold : HoldId) → Holds P (map_step n k hold)
  unfolding map_step
  map-replies hold =
      bind-holds P (wanted errno.EBADF (reference_at n k hold role.Open)) _ (λ opened e.
      then-holds P (refuse errno.ENODEV when (is_device_kind opened.kind)) _ (λ h.
      then-holds P (refuse errno.EMFILE when (nat_lt HOLDS (least_free_number n k))) _ (λ l. plain (reply.Held _) _ _ tt)))

  move-replies : (old new : Path) → Holds P (move_at n old new)
  unfolding move_at
  move-replies old new = then-holds P (move_refusals n old new) _ (λ h. plain reply.Done _ _ tt)

  rename-replies : (old new : Path) → Holds P (rename_at n old new)
  unfolding rename_at
  rename-replies old new =
      then-holds P (rename_refusals n old new) _ (λ h.
      either-holds P (same_path old new) _ _ (plain reply.Done _ _ tt) (move-replies old new))

  mount-replies : (path : Path) (asked : FsType) (source : List ℕ) → Holds P (mount_at n path asked source)
  unfolding mount_at
  mount-replies path asked source = then-holds P (mount_refusals n path asked source) _ (λ h. plain reply.Done _ _ tt)

  umount-replies : (path : Path) → Holds P (umount_at n path)
  unfolding umount_at
  umount-replies path =
      bind-holds P (wanted errno.EINVAL (mount_at_point n path)) _ (λ mount e.
      then-holds P (refuse errno.EBUSY when (is_busy n mount)) _ (λ h. plain reply.Done _ _ tt))

  mkfs-replies : (name : List ℕ) → Holds P (mkfs_step n name)
  unfolding mkfs_step
  mkfs-replies name =
      then-holds P (refuse errno.ENXIO when (not (list_any (λ volume. same_bytes volume.name name) n.volumes))) _ (λ h.
      then-holds P (refuse errno.EBUSY when (is_mounted n fs.Cell name)) _ (λ l. plain reply.Done _ _ tt))

  answer-replies : (asked : Step) →
      ((answer : Reply) → is_at answer ≡ tells_folder asked → P (record { reply = answer; next = n; changes = [] })) →
      is_chdir asked ≡ false → Holds P (namespace_answer n k asked)
  answer-replies (step.Stat path) tells c =
      bind-holds P (asked_path n k path) _ (λ p e.
      then-holds P (refuse_by (walk_refusal n p)) _ (λ h.
      bind-holds P (wanted errno.ENOENT (node_at n p)) _ (λ there f. plain (reply.Node there) _ _ tt)))
  answer-replies (step.Open path flags) tells c = bind-holds P (asked_path n k path) _ (λ p e. open-replies p flags)
  answer-replies (step.Close hold) tells c = give_up-replies role.Open hold
  answer-replies (step.Mkdir path) tells c =
      bind-holds P (asked_path n k path) _ (λ p e. then-holds P (mkdir_refusals n p) _ (λ h. plain reply.Done _ _ tt))
  answer-replies (step.Rmdir path) tells c =
      bind-holds P (asked_path n k path) _ (λ p e. then-holds P (rmdir_refusals n p) _ (λ h. plain reply.Done _ _ tt))
  answer-replies (step.Unlink path) tells c =
      bind-holds P (asked_path n k path) _ (λ p e. then-holds P (unlink_refusals n p) _ (λ h. plain reply.Done _ _ tt))
  answer-replies (step.Rename old new) tells c =
      bind-holds P (asked_path n k old) _ (λ p e. bind-holds P (asked_path n k new) _ (λ q f. rename-replies p q))
  answer-replies (step.List path) tells c =
      bind-holds P (asked_path n k path) _ (λ p e. then-holds P (folder_refusals n p) _ (λ h. tells (reply.Listing p _) refl))
  answer-replies (step.Chdir path) tells c = absurd (cc)
  answer-replies step.Home tells c = plain reply.Done _ _ tt
  answer-replies step.Cwd tells c = tells (reply.At _) refl
  answer-replies (step.Mount source point word) tells c =
      bind-holds P (asked_path n k point) _ (λ p e.
      bind-holds P (wanted errno.ENODEV (fs_type_of word)) _ (λ asked f. mount-replies p asked source))
  answer-replies (step.Umount point) tells c = bind-holds P (asked_path n k point) _ (λ p e. umount-replies p)
  answer-replies (step.Map hold) tells c = map-replies hold
  answer-replies (step.Unmap hold) tells c = give_up-replies role.Map hold
  answer-replies step.Mounts tells c = tells (reply.MountList _) refl
  answer-replies step.Dentries tells c = tells (reply.Holders _) refl
  answer-replies step.Cells tells c = tells (reply.Files _) refl
  answer-replies (step.Mkfs name) tells c = mkfs-replies name
  answer-replies step.Devices tells c = tells (reply.DeviceList _) refl
  answer-replies _ tells c = tt

  shutdown-replies : (m : Mark) → P (shutdown_step n m)
  unfolding shutdown_step
  shutdown-replies mark.Clear = plain reply.Done _ _ tt
  shutdown-replies (mark.Fault moved) = plain (reply.Refused errno.EIO) _ _ tt
  shutdown-replies (mark.NoMem moved) = plain (reply.Refused errno.ENOMEM) _ _ tt

  pub step-replies : (asked : Step) (m : Mark) →
      ((answer : Reply) → is_at answer ≡ tells_folder asked → P (record { reply = answer; next = n; changes = [] })) →
      is_chdir asked ≡ false → P (namespace_step n k asked m)
  unfolding namespace_step
  step-replies step.Shutdown m tells c = shutdown-replies m
  step-replies asked m tells c =
      marked-holds P n (namespace_answer n k asked) m (λ errno. plain (reply.Refused errno) _ _ tt) (answer-replies asked tells c)
