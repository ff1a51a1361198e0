-- Only opening, mapping and giving up change what references there are, only moving changes a working directory, and the end both.
use Rattle.std.proofs.Common.{◌≡◌, ℕ, ◌-◌, Bool, true, false, not, ◌||◌, Option, Some, None, List, [], ◌∷◌, ◌++◌, fold, slice_set, if◌then◌else◌, refl, ◌∙◌}
use Rattle.std.specs.List.{list_any}
use Rattle.vfs_base.specs.Path.{Path}
use Rattle.vfs_base.specs.declared.errno.Errno.TheVariants as errno
use Rattle.vfs_base.specs.declared.kinds.FsType.{FsType}
use Rattle.vfs_base.specs.declared.kinds.FsType.TheVariants as fs
use Rattle.vfs_base.specs.declared.kinds.NodeKind.{NodeKind}
use Rattle.vfs_base.specs.declared.kinds.NodeKind.TheVariants as node
use Rattle.vfs_base.specs.declared.step.Step.{Step}
use Rattle.vfs_base.specs.declared.step.Step.TheVariants as step
use Rattle.vfs_model.specs.Chain.{refuse◌when◌, refuse_by, wanted}
use Rattle.vfs_model.specs.Content.{Content, content_of, fs_type_of, is_mounted}
use Rattle.vfs_model.specs.FileLife.{Rows, after_end, after_taking, backing_of, bind_row, end_of_dropped, end_of_unmounted, free_if_unused, free_row, is_held, is_linked, least_free_row}
use Rattle.vfs_model.specs.Lookup.{asked_path, node_at, walk_refusal, with_node, with_tree}
use Rattle.vfs_model.specs.MountStep.{add_content, add_mount, least_free_mount, mount_at, mount_refusals, with_entry, without_kept}
use Rattle.vfs_model.specs.NameSteps.{after_loss, folder_refusals, mkdir_refusals, rmdir_refusals, unlink_refusals, without_node}
use Rattle.vfs_model.specs.Namespace.{life_at, same_bytes, same_path}
use Rattle.vfs_model.specs.NamespaceOutcome.{NamespaceOutcome}
use Rattle.vfs_model.specs.NamespaceStep.{namespace_answer}
use Rattle.vfs_model.specs.OpenStep.{make_file, new_life}
use Rattle.vfs_model.specs.RenameStep.{move_at, move_refusals, rename_at, rename_refusals, with_moved}
use Rattle.vfs_model.specs.UmountSteps.{empty_mount, is_busy, keep_names, mkfs_step, mount_at_point, remove_mount, rows_of_mount, umount_at}
use Rattle.vfs_model.specs.declared.namespace.Backing.{Backing}
use Rattle.vfs_model.specs.declared.namespace.Backing.TheVariants as backing
use Rattle.vfs_model.specs.declared.namespace.End.{End}
use Rattle.vfs_model.specs.declared.namespace.End.TheVariants as end
use Rattle.vfs_model.specs.declared.namespace.LiveFile.{LiveFile}
use Rattle.vfs_model.specs.declared.namespace.Mount.{Mount}
use Rattle.vfs_model.specs.declared.namespace.Namespace.{Namespace}
use Rattle.vfs_model.specs.declared.namespace.Origin.{Origin}
use Rattle.vfs_model.specs.declared.namespace.Reference.{Reference}
use Rattle.vfs_model.proofs.StepAnswers.{Holds, bind-holds, either-holds, then-holds}

-- the steps that change which references there are, or a working directory
abbrev pub changes_users : Step → Bool
changes_users (step.Open path flags) = true
changes_users (step.Close hold) = true
changes_users (step.Map hold) = true
changes_users (step.Unmap hold) = true
changes_users (step.Chdir path) = true
changes_users step.Home = true
changes_users step.Shutdown = true
changes_users _ = false

-- the references and the working directories
abbrev pub users : Namespace → List (Option Reference) × List Path
users n = (n.references, n.working_directories)

-- the outcome has the references and the working directories of the namespace
abbrev pub KeepsUsers : Namespace → NamespaceOutcome → Type 0
KeepsUsers n outcome = users outcome.next ≡ users n

ended-users : (n : Namespace) (e : End) → users (after_end n e) ≡ users n
ended-users n end.Nothing = refl
ended-users n (end.Spare volume cell) = refl
ended-users n (end.Kept volume cell) = refl
ended-users n (end.Device device) = refl

taken-users : (n : Namespace) (b : Backing) → users (after_taking n b) ≡ users n
taken-users n backing.Memory = refl
taken-users n (backing.Cell volume cell) = refl
taken-users n (backing.Device device) = refl

bound-users : (n : Namespace) (row : ℕ) (life : LiveFile) → users (bind_row n row life) ≡ users n
unfolding bind_row
bound-users n row life = taken-users _ life.backing

freed-users : (ending : Backing → End) (left : List ℕ) (rows : Rows) → users (fold (free_row ending) rows left).next ≡ users rows.next
unfolding free_row
freed-users ending [] rows = refl
freed-users ending (row ∷ left) rows =
    freed-users ending left (free_row ending rows row)
    ∙ ended-users (record rows.next { live_files = slice_set rows.next.live_files (row - 1) None }) (ending (backing_of (life_at rows.next row)))

dropped-users : (n : Namespace) (row : ℕ) (named : Bool) →
    users (if named then record { next = n; changes = [] } else free_row end_of_dropped (record { next = n; changes = [] }) row).next ≡ users n
dropped-users n row true = refl
dropped-users n row false = freed-users end_of_dropped (row ∷ []) (record { next = n; changes = [] })

pub unused-users : (n : Namespace) (row : ℕ) → users (free_if_unused n row).next ≡ users n
unfolding free_if_unused
unused-users n row = dropped-users n row (is_linked n row || is_held n row)

loss-users : (n : Namespace) (found : Option NodeKind) → users (after_loss n found).next ≡ users n
loss-users n (Some (node.File file kind)) = unused-users n file.row
loss-users n (Some node.Dir) = refl
loss-users n None = refl

node-users : (n : Namespace) (path : Path) (new : NodeKind) → users (with_node n path new) ≡ users n
unfolding with_node
node-users n path new = refl

without-users : (n : Namespace) (path : Path) → users (without_node n path) ≡ users n
unfolding without_node
without-users n path = refl

moved-users : (n : Namespace) (old new : Path) → users (with_moved n old new) ≡ users n
unfolding with_moved
moved-users n old new = refl

pub made-users : (n : Namespace) (path : Path) → users (make_file n path).next ≡ users n
unfolding make_file
made-users n path = bound-users _ (least_free_row n) (new_life n path) ∙ node-users n path _

content-users : (mount : Mount) (rows : Rows) (path : Path) (begins : Option Origin) → users (add_content mount rows path begins).next ≡ users rows.next
content-users mount rows path None = refl
content-users mount rows path (Some begins) = bound-users (with_entry rows.next mount.number path _) (least_free_row rows.next) _

contents-users : (mount : Mount) (rows : Rows) (content : Content) → users (fold (λ rows entry. add_content mount rows entry.0 entry.1) rows content).next ≡ users rows.next
contents-users mount rows [] = refl
contents-users mount rows (entry ∷ content) =
    contents-users mount (add_content mount rows entry.0 entry.1) content ∙ content-users mount rows entry.0 entry.1

kept-users : (n : Namespace) (f : FsType) (source : List ℕ) → users (without_kept n f source) ≡ users n
kept-users n fs.Tmp source = refl
kept-users n fs.Rom source = refl
kept-users n fs.Cell source = refl
kept-users n fs.Dev source = refl

added-users : (n : Namespace) (mount : Mount) → users (add_mount n mount).next ≡ users n
unfolding add_mount
added-users n mount =
    contents-users mount (record { next = without_kept (record n { mounts = n.mounts ++ mount ∷ [] }) mount.fs mount.source; changes = [] })
    (content_of n mount.fs mount.source)
    ∙ kept-users (record n { mounts = n.mounts ++ mount ∷ [] }) mount.fs mount.source

named-users : (n : Namespace) (mount : Mount) (f : FsType) → users (with_tree (keep_names n mount f) mount.number []) ≡ users n
named-users n mount fs.Tmp = refl
named-users n mount fs.Rom = refl
named-users n mount fs.Cell = refl
named-users n mount fs.Dev = refl

emptied-users : (rows : Rows) (mount : Mount) → users (empty_mount rows mount).next ≡ users rows.next
unfolding empty_mount
emptied-users rows mount = freed-users end_of_unmounted (rows_of_mount rows.next mount.number) _ ∙ named-users rows.next mount mount.fs

removed-users : (rows : Rows) (mount : Mount) → users (remove_mount rows mount).next ≡ users rows.next
unfolding remove_mount
removed-users rows mount = emptied-users rows mount

-- each step but those
module _ (n : Namespace) (k : ℕ) where
  abbrev Keeps : NamespaceOutcome → Type 0
  Keeps = KeepsUsers n

  move-keeps : (old new : Path) → Holds Keeps (move_at n old new)
  unfolding move_at
  move-keeps old new =
      then-holds Keeps (move_refusals n old new) _ (λ h. loss-users (with_moved n old new) (node_at n new) ∙ moved-users n old new)

  rename-keeps : (old new : Path) → Holds Keeps (rename_at n old new)
  unfolding rename_at
  rename-keeps old new = then-holds Keeps (rename_refusals n old new) _ (λ h. either-holds Keeps (same_path old new) _ _ refl (move-keeps old new))

  mount-keeps : (path : Path) (asked : FsType) (source : List ℕ) → Holds Keeps (mount_at n path asked source)
  unfolding mount_at
  mount-keeps path asked source =
      let mount : Mount = record { number = least_free_mount n; point = path; fs = asked; source = source } in
      then-holds Keeps (mount_refusals n path asked source) _ (λ h. added-users n mount)

  umount-keeps : (path : Path) → Holds Keeps (umount_at n path)
  unfolding umount_at
  umount-keeps path =
      bind-holds Keeps (wanted errno.EINVAL (mount_at_point n path)) _ (λ mount e.
      then-holds Keeps (refuse errno.EBUSY when (is_busy n mount)) _ (λ h. removed-users (record { next = n; changes = [] }) mount))

  mkfs-keeps : (name : List ℕ) → Holds Keeps (mkfs_step n name)
  unfolding mkfs_step
  mkfs-keeps name =
      then-holds Keeps (refuse errno.ENXIO when (not (list_any (λ volume. same_bytes volume.name name) n.volumes))) _ (λ h.
      then-holds Keeps (refuse errno.EBUSY when (is_mounted n fs.Cell name)) _ (λ l. refl))

  pub answer-keeps : (asked : Step) → changes_users asked ≡ false → Holds Keeps (namespace_answer n k asked)
  answer-keeps (step.Stat path) c =
      bind-holds Keeps (asked_path n k path) _ (λ p e.
      then-holds Keeps (refuse_by (walk_refusal n p)) _ (λ h. bind-holds Keeps (wanted errno.ENOENT (node_at n p)) _ (λ there f. refl)))
  answer-keeps (step.Open path flags) c = absurd (cc)
  answer-keeps (step.Close hold) c = absurd (cc)
  answer-keeps (step.Mkdir path) c =
      bind-holds Keeps (asked_path n k path) _ (λ p e. then-holds Keeps (mkdir_refusals n p) _ (λ h. node-users n p node.Dir))
  answer-keeps (step.Rmdir path) c =
      bind-holds Keeps (asked_path n k path) _ (λ p e. then-holds Keeps (rmdir_refusals n p) _ (λ h. without-users n p))
  answer-keeps (step.Unlink path) c =
      bind-holds Keeps (asked_path n k path) _ (λ p e.
      then-holds Keeps (unlink_refusals n p) _ (λ h. loss-users (without_node n p) (node_at n p) ∙ without-users n p))
  answer-keeps (step.Rename old new) c =
      bind-holds Keeps (asked_path n k old) _ (λ p e. bind-holds Keeps (asked_path n k new) _ (λ q f. rename-keeps p q))
  answer-keeps (step.List path) c = bind-holds Keeps (asked_path n k path) _ (λ p e. then-holds Keeps (folder_refusals n p) _ (λ h. refl))
  answer-keeps (step.Chdir path) c = absurd (cc)
  answer-keeps step.Home c = absurd (cc)
  answer-keeps step.Cwd c = refl
  answer-keeps (step.Mount source point word) c =
      bind-holds Keeps (asked_path n k point) _ (λ p e. bind-holds Keeps (wanted errno.ENODEV (fs_type_of word)) _ (λ asked f. mount-keeps p asked source))
  answer-keeps (step.Umount point) c = bind-holds Keeps (asked_path n k point) _ (λ p e. umount-keeps p)
  answer-keeps (step.Map hold) c = absurd (cc)
  answer-keeps (step.Unmap hold) c = absurd (cc)
  answer-keeps step.Mounts c = refl
  answer-keeps step.Dentries c = refl
  answer-keeps step.Cells c = refl
  answer-keeps (step.Mkfs name) c = mkfs-keeps name
  answer-keeps step.Devices c = refl
  answer-keeps _ c = tt
