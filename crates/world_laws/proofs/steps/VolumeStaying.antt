-- What a volume keeps that is not mounted stays through each step that neither formats it nor mounts it.
use Rattle.std.proofs.Common.{◌≡◌, ◌≢◌, ℕ, Bool, true, false, ◌&&◌, ◌||◌, Option, Some, None, List, [], ◌∷◌, map, fold, reverse, slice_index_or, inl, inr, Result, Ok, Err, if◌then◌else◌, refl, sym, ap, subst, ◌∙◌}
use Rattle.std.proofs.lemmas.List.{get_or_past, reverse-append}
use Rattle.std.proofs.lemmas.List.Folds.{list_any-append}
use Rattle.std.specs.Cmp.Lexicographic.{bytes_decides}
use Rattle.std.specs.List.{list_any}
use Rattle.vfs_base.specs.Path.{Path}
use Rattle.vfs_base.specs.declared.entry.Mark.{Mark}
use Rattle.vfs_base.specs.declared.entry.Mark.TheVariants as mark
use Rattle.vfs_base.specs.declared.errno.Errno.{Errno}
use Rattle.vfs_base.specs.declared.errno.Errno.TheVariants as errno
use Rattle.vfs_base.specs.declared.ids.HoldId.{HoldId}
use Rattle.vfs_base.specs.declared.kinds.FsType.{FsType}
use Rattle.vfs_base.specs.declared.kinds.FsType.TheVariants as fs
use Rattle.vfs_base.specs.declared.kinds.NodeKind.{NodeKind}
use Rattle.vfs_base.specs.declared.kinds.NodeKind.TheVariants as node
use Rattle.vfs_base.specs.declared.flags.OpenFlags.{OpenFlags}
use Rattle.vfs_base.specs.declared.reply.Reply.TheVariants as reply
use Rattle.vfs_base.specs.declared.step.Step.{Step}
use Rattle.vfs_base.specs.declared.step.Step.TheVariants as step
use Rattle.std.specs.Prelude.{nat_lt}
use Rattle.vfs_base.specs.declared.limits.TheConstants.{HOLDS}
use Rattle.vfs_model.specs.Chain.{◌>>=◌, ◌>>◌, refuse◌when◌, refuse_by, wanted}
use Rattle.vfs_model.specs.Content.{Content, content_of, device_content, fs_type_of, is_mounted, kept_origin, no_rom, rom_at, rom_origin, same_type}
use Rattle.vfs_model.specs.FileLife.{Rows, backing_of, end_of_dropped, free_if_unused, free_row, is_held, is_linked, no_volume, volume_at, volume_named}
use Rattle.vfs_model.specs.Lookup.{asked_path, is_there, node_at, walk_refusal, with_node}
use Rattle.vfs_model.specs.MountStep.{add_content, add_mount, mount_at, mount_refusals, mount_step, without_kept}
use Rattle.vfs_model.specs.NameSteps.{after_loss, chdir_step, folder_refusals, list_step, mkdir_refusals, mkdir_step, rmdir_refusals, rmdir_step, stat_step, unlink_refusals, unlink_step, without_node}
use Rattle.vfs_model.specs.Namespace.{all_mounts, life_at, same_bytes, same_path, with_folder_of, with_reference}
use Rattle.vfs_model.specs.NamespaceOutcome.{NamespaceOutcome, settled}
use Rattle.vfs_model.specs.NamespaceStep.{namespace_answer, namespace_step, shutdown_step, under_mark}
use Rattle.vfs_model.specs.OpenStep.{least_free_number, make_file, new_origin, open_at, open_file, open_refusals, open_step, with_file_at}
use Rattle.vfs_model.specs.ReferenceSteps.{give_up_step, is_device_kind, map_step, reference_at}
use Rattle.vfs_model.specs.RenameStep.{move_at, move_refusals, rename_at, rename_refusals, rename_step, with_moved}
use Rattle.vfs_model.specs.UmountSteps.{come_to_rest, is_busy, mount_at_point, remove_all, remove_mount, umount_at, umount_step, unlinked_rows, unreferred}
use Rattle.vfs_model.specs.declared.namespace.Backing.{Backing}
use Rattle.vfs_model.specs.declared.namespace.Backing.TheVariants as backing
use Rattle.vfs_model.specs.declared.namespace.KeptNode.{KeptNode}
use Rattle.vfs_model.specs.declared.namespace.KeptNode.TheVariants as kept
use Rattle.vfs_model.specs.declared.namespace.Mount.{Mount}
use Rattle.vfs_model.specs.declared.namespace.Namespace.{Namespace}
use Rattle.vfs_model.specs.declared.namespace.Origin.{Origin}
use Rattle.vfs_model.specs.declared.namespace.Origin.TheVariants as origin
use Rattle.vfs_model.specs.declared.namespace.Role.{Role}
use Rattle.vfs_model.specs.declared.namespace.Role.TheVariants as role
use Rattle.vfs_model.specs.declared.namespace.RomNode.{RomNode}
use Rattle.vfs_model.specs.declared.namespace.RomNode.TheVariants as rom
use Rattle.world_laws.proofs.lists.Lists.{neither, no-place, nor-first, nor-second}
use Rattle.world_laws.proofs.parts.Contents.{AllDevices, device-content}
use Rattle.world_laws.proofs.parts.Untouched.{BeginsAway, IsAway, IsBare, Passes, Untouched, all-removed-pass, bound-untouched, emptied-passes, freed-passes, freed-untouched, is_of_volume, other-volume, removed-passes, untouched-beside, untouched-named, untouched-same}
use Rattle.world_laws.proofs.steps.Adding.{with_one}
use Rattle.world_laws.proofs.steps.MountEnd.{new_mount}
use Rattle.world_laws.proofs.steps.StepKeeping.{is_mkfs}
use Rattle.world_laws.proofs.steps.UmountKeeping.{found-at}
use Rattle.world_laws.specs.Mounted.{is_cell_type, asks_volume}

none-reversed : {X : Type 0} (p : X → Bool) (xs : List X) → list_any p xs ≡ false → list_any p (reverse xs) ≡ false
none-reversed p [] h = h
none-reversed p (x ∷ xs) h =
    ap (list_any p) (reverse-append (x ∷ []) xs) ∙ list_any-append p (reverse xs) (x ∷ [])
    ∙ neither (list_any p (reverse xs)) _ (none-reversed p xs (nor-second (p x) (list_any p xs) h)) (neither (p x) false (nor-first (p x) (list_any p xs) h) refl)

module _ (name : List ℕ) (n : Namespace) (off : is_mounted n fs.Cell name ≡ false) where
  abbrev Stays : Result NamespaceOutcome Errno → Type 0
  Stays (Ok outcome) = Untouched name n outcome.next outcome.changes
  Stays (Err errno) = Unit {0}

  then-stays : (r : Result (Unit {0}) Errno) (rest : Result NamespaceOutcome Errno) → Stays rest → Stays (r >> rest)
  then-stays (Ok tt) rest h = h
  then-stays (Err errno) rest h = tt

  bind-stays : {X : Type 0} (r : Result X Errno) (f : X → Result NamespaceOutcome Errno) → ((x : X) → r ≡ Ok x → Stays (f x)) → Stays (r >>= f)
  bind-stays (Ok x) f h = h x refl
  bind-stays (Err errno) f h = tt

  wanted-stays : {X : Type 0} (errno : Errno) (found : Option X) (f : X → Result NamespaceOutcome Errno) → ((x : X) → found ≡ Some x → Stays (f x)) → Stays (wanted errno found >>= f)
  wanted-stays errno (Some x) f h = h x refl
  wanted-stays errno None f h = tt

  same : Untouched name n n []
  same = untouched-same name n off

  -- a step that changes neither volumes nor mounts
  beside : (m : Namespace) → all_mounts m ≡ all_mounts n → m.volumes ≡ n.volumes → Untouched name n m []
  beside m mounts volumes = untouched-beside name n n m [] mounts volumes same

  dropped-away : (b : Backing) → IsAway name n (end_of_dropped b)
  dropped-away backing.Memory cell e = absurd (cc)
  dropped-away (backing.Cell other at) cell e = absurd (cc)
  dropped-away (backing.Device device) cell e = absurd (cc)

  unused-untouched : (m : Namespace) (row : ℕ) → Untouched name n m [] → Untouched name n (free_if_unused m row).next (free_if_unused m row).changes
  unfolding free_if_unused
  unused-untouched m row u = by (is_linked m row || is_held m row)
    where
      by : (b : Bool) → let rows = if b then record { next = m; changes = [] } else free_row end_of_dropped (record { next = m; changes = [] }) row in Untouched name n rows.next rows.changes
      by true = u
      by false = freed-untouched name n end_of_dropped (record { next = m; changes = [] }) row (dropped-away (backing_of (life_at m row))) u

  lost-untouched : (m : Namespace) (found : Option NodeKind) → Untouched name n m [] → Untouched name n (after_loss m found).next (after_loss m found).changes
  lost-untouched m None u = u
  lost-untouched m (Some node.Dir) u = u
  lost-untouched m (Some (node.File id kind)) u = unused-untouched m id.row u

  node-untouched : (path : Path) (new : NodeKind) → Untouched name n (with_node n path new) []
  unfolding with_node
  node-untouched path new = beside (with_node n path new) refl refl

  without-untouched : (path : Path) → Untouched name n (without_node n path) []
  unfolding without_node
  without-untouched path = beside (without_node n path) refl refl

  mkdir-stays : (k : ℕ) (text : List ℕ) → Stays (mkdir_step n k text)
  mkdir-stays k text = bind-stays (asked_path n k text) _ (λ path e. then-stays (mkdir_refusals n path) _ (node-untouched path node.Dir))

  rmdir-stays : (k : ℕ) (text : List ℕ) → Stays (rmdir_step n k text)
  rmdir-stays k text = bind-stays (asked_path n k text) _ (λ path e. then-stays (rmdir_refusals n path) _ (without-untouched path))

  unlink-stays : (k : ℕ) (text : List ℕ) → Stays (unlink_step n k text)
  unlink-stays k text = bind-stays (asked_path n k text) _ (λ path e. then-stays (unlink_refusals n path) _ (lost-untouched (without_node n path) (node_at n path) (without-untouched path)))

  stat-stays : (k : ℕ) (text : List ℕ) → Stays (stat_step n k text)
  stat-stays k text = bind-stays (asked_path n k text) _ (λ path e. then-stays (refuse_by (walk_refusal n path)) _ (wanted-stays errno.ENOENT (node_at n path) _ (λ there h. same)))

  list-stays : (k : ℕ) (text : List ℕ) → Stays (list_step n k text)
  list-stays k text = bind-stays (asked_path n k text) _ (λ path e. then-stays (folder_refusals n path) _ same)

  chdir-stays : (k : ℕ) (text : List ℕ) → Stays (chdir_step n k text)
  chdir-stays k text = bind-stays (asked_path n k text) _ (λ path e. then-stays (folder_refusals n path) _ (beside (with_folder_of n k path) refl refl))

  moved-untouched : (old new : Path) → Untouched name n (with_moved n old new) []
  unfolding with_moved
  moved-untouched old new = beside (with_moved n old new) refl refl

  move-stays : (old new : Path) → Stays (move_at n old new)
  unfolding move_at
  move-stays old new = then-stays (move_refusals n old new) _ (lost-untouched (with_moved n old new) (node_at n new) (moved-untouched old new))

  rename-at-stays : (old new : Path) → Stays (rename_at n old new)
  unfolding rename_at
  rename-at-stays old new = then-stays (rename_refusals n old new) _ (by (same_path old new))
    where
      by : (b : Bool) → Stays (if b then Ok (record { reply = reply.Done; next = n; changes = [] }) else move_at n old new)
      by true = same
      by false = move-stays old new

  rename-stays : (k : ℕ) (old_text new_text : List ℕ) → Stays (rename_step n k old_text new_text)
  rename-stays k old_text new_text = bind-stays (asked_path n k old_text) _ (λ old e. bind-stays (asked_path n k new_text) _ (λ new h. rename-at-stays old new))

  new-away : (b : Backing) → BeginsAway name n (new_origin b)
  new-away backing.Memory cell e = absurd (cc)
  new-away (backing.Cell other at) cell e = absurd (cc)
  new-away (backing.Device device) cell e = absurd (cc)

  made-untouched : (path : Path) → Untouched name n (make_file n path).next (make_file n path).changes
  unfolding make_file
  made-untouched path = bound-untouched name n _ _ _ _ _ [] (new-away _) (node-untouched path _)

  file-at-untouched : (path : Path) → Untouched name n (with_file_at n path).next (with_file_at n path).changes
  file-at-untouched path = by (is_there n path)
    where
      by : (b : Bool) → let rows = if b then record { next = n; changes = [] } else make_file n path in Untouched name n rows.next rows.changes
      by true = same
      by false = made-untouched path

  opened-stays : (k : ℕ) (path : Path) (rows : Rows) (found : Option NodeKind) → Untouched name n rows.next rows.changes → Stays (open_file k path rows found)
  opened-stays k path rows None u = tt
  opened-stays k path rows (Some node.Dir) u = tt
  opened-stays k path rows (Some (node.File id kind)) u = untouched-beside name n rows.next _ rows.changes refl refl u

  open-at-stays : (k : ℕ) (path : Path) (flags : OpenFlags) → Stays (open_at n k path flags)
  unfolding open_at
  open-at-stays k path flags = then-stays (open_refusals n k path flags) _ (opened-stays k path (with_file_at n path) (node_at (with_file_at n path).next path) (file-at-untouched path))

  open-stays : (k : ℕ) (text : List ℕ) (flags : OpenFlags) → Stays (open_step n k text flags)
  open-stays k text flags = bind-stays (asked_path n k text) _ (λ path e. open-at-stays k path flags)

  give-up-stays : (as_role : Role) (k : ℕ) (hold : HoldId) → Stays (give_up_step as_role n k hold)
  unfolding give_up_step
  give-up-stays as_role k hold =
      wanted-stays errno.EBADF (reference_at n k hold as_role) _ (λ reference e. unused-untouched (with_reference n k hold.number None) reference.file.row (beside (with_reference n k hold.number None) refl refl))

  map-stays : (k : ℕ) (hold : HoldId) → Stays (map_step n k hold)
  unfolding map_step
  map-stays k hold =
      wanted-stays errno.EBADF (reference_at n k hold role.Open) _ (λ opened e.
      then-stays (refuse errno.ENODEV when (is_device_kind opened.kind)) _
      (then-stays (refuse errno.EMFILE when (nat_lt HOLDS (least_free_number n k))) _
      (beside (with_reference n k (least_free_number n k) (Some (record opened { role = role.Map }))) refl refl)))

  -- what a mount of another source begins with lies on no cell of the volume
  abbrev EntryAway : Option Origin → Type 0
  EntryAway None = Unit {0}
  EntryAway (Some begins) = BeginsAway name n begins

  abbrev AllAway : Content → Type 0
  AllAway [] = Unit {0}
  AllAway (entry ∷ content) = EntryAway entry.1 × AllAway content

  rom-away : (place : ℕ) (nodes : List (Path × RomNode)) → AllAway (map (λ entry. (entry.0, rom_origin place entry.0 entry.1)) nodes)
  rom-away place [] = tt
  rom-away place (entry ∷ nodes) = (one entry.1, rom-away place nodes)
    where
      one : (x : RomNode) → EntryAway (rom_origin place entry.0 x)
      one rom.Dir = tt
      one (rom.File bytes) = λ cell e. absurd (cc)

  cell-away : (other : ℕ) (nodes : List (Path × KeptNode)) → other ≢ volume_named n name → AllAway (map (λ entry. (entry.0, kept_origin other entry.1)) nodes)
  cell-away other [] apart = tt
  cell-away other (entry ∷ nodes) apart = (one entry.1, cell-away other nodes apart)
    where
      place : Origin → ℕ
      place origin.Empty = other
      place (origin.Rom at path) = other
      place (origin.Cell volume cell) = volume
      place (origin.NewCell volume cell) = volume
      place (origin.Device device) = other

      one : (x : KeptNode) → EntryAway (kept_origin other x)
      one kept.Dir = tt
      one (kept.File c) = λ cell e. apart (ap place e)

  devices-away : (content : Content) → AllDevices n content → AllAway content
  devices-away [] all = tt
  devices-away (entry ∷ content) all = (subst EntryAway (sym all.0.is) (λ cell e. absurd (cc)), devices-away content all.1)

  content-away : (f : FsType) (source : List ℕ) → (f ≡ fs.Cell → source ≢ name) → AllAway (content_of n f source)
  content-away fs.Tmp source differ = tt
  content-away fs.Rom source differ = rom-away (rom_at n source) (slice_index_or n.roms (rom_at n source) no_rom).nodes
  content-away fs.Dev source differ = devices-away (device_content n) (device-content n).all
  content-away fs.Cell source differ = elim (other-volume n source name (differ refl)) [
    | inl apart ↦ cell-away (volume_named n source) (volume_at n (volume_named n source)).kept apart
    | inr past ↦ subst (λ volume. AllAway (map (λ entry. (entry.0, kept_origin (volume_named n source) entry.1)) volume.kept)) (sym (get_or_past n.volumes (volume_named n source) no_volume past)) tt
  ]

  entry-untouched : (mount : Mount) (rows : Rows) (path : Path) (o : Option Origin) → EntryAway o → Untouched name n rows.next rows.changes →
      Untouched name n (add_content mount rows path o).next (add_content mount rows path o).changes
  entry-untouched mount rows path None away u = untouched-beside name n rows.next _ rows.changes refl refl u
  entry-untouched mount rows path (Some begins) away u =
      bound-untouched name n _ _ _ _ begins rows.changes away (untouched-beside name n rows.next _ rows.changes refl refl u)

  filled-untouched : (mount : Mount) (content : Content) (rows : Rows) → AllAway content → Untouched name n rows.next rows.changes →
      let out = fold (λ rows entry. add_content mount rows entry.0 entry.1) rows content in Untouched name n out.next out.changes
  filled-untouched mount [] rows away u = u
  filled-untouched mount (entry ∷ content) rows away u =
      filled-untouched mount content (add_content mount rows entry.0 entry.1) away.1 (entry-untouched mount rows entry.0 entry.1 away.0 u)

  with-one-untouched : (mount : Mount) → is_of_volume name mount ≡ false → Untouched name n (with_one n mount) []
  with-one-untouched mount other = record {
    place = λ word. refl;
    kept = refl;
    off = list_any-append (is_of_volume name) (all_mounts n) (mount ∷ []) ∙ neither (list_any (is_of_volume name) (all_mounts n)) _ off (neither (is_of_volume name mount) false other refl);
    bytes = λ v cell. refl;
  }

  begun-untouched : (mount : Mount) (f : FsType) → (f ≡ fs.Cell → mount.source ≢ name) → is_of_volume name mount ≡ false → Untouched name n (without_kept (with_one n mount) f mount.source) []
  begun-untouched mount fs.Tmp differ other = with-one-untouched mount other
  begun-untouched mount fs.Rom differ other = with-one-untouched mount other
  begun-untouched mount fs.Dev differ other = with-one-untouched mount other
  begun-untouched mount fs.Cell differ other = untouched-named name n (with_one n mount) mount.source [] [] (differ refl) (with-one-untouched mount other)

  -- a mount of volumes has another source
  source-differs : (f : FsType) (source : List ℕ) → (same_type f fs.Cell && same_bytes source name) ≡ false → f ≡ fs.Cell → source ≢ name
  source-differs f source other e h =
      let none : same_bytes source name ≡ false = sym (ap (λ t. same_type t fs.Cell && same_bytes source name) e) ∙ other in
      let yes = (bytes_decides source name).1 h in
      absurd (cc)

  added-untouched : (mount : Mount) → is_of_volume name mount ≡ false → Untouched name n (add_mount n mount).next (add_mount n mount).changes
  unfolding add_mount
  added-untouched mount other =
      let differ = source-differs mount.fs mount.source other in
      filled-untouched mount (content_of n mount.fs mount.source) _ (content-away mount.fs mount.source differ) (begun-untouched mount mount.fs differ other)

  mount-at-stays : (path : Path) (asked : FsType) (source : List ℕ) → (same_type asked fs.Cell && same_bytes source name) ≡ false → Stays (mount_at n path asked source)
  unfolding mount_at
  mount-at-stays path asked source other = then-stays (mount_refusals n path asked source) _ (added-untouched (new_mount n path asked source) other)

  mount-stays : (k : ℕ) (source point_text type_text : List ℕ) → (is_cell_type (fs_type_of type_text) && same_bytes source name) ≡ false → Stays (mount_step n k source point_text type_text)
  mount-stays k source point_text type_text other =
      bind-stays (asked_path n k point_text) _ (λ path e. wanted-stays errno.ENODEV (fs_type_of type_text) _ (λ asked known. mount-at-stays path asked source (sym (ap (λ found. is_cell_type found && same_bytes source name) known) ∙ other)))

  module _ (bare : IsBare name n n) where
    found-other : (mount : Mount) (path : Path) → mount_at_point n path ≡ Some mount → is_of_volume name mount ≡ false
    found-other mount path found =
        let at = found-at (λ m. same_path m.point path) (all_mounts n) mount found in
        sym (ap (is_of_volume name) at.is) ∙ no-place (is_of_volume name) (all_mounts n) at.place mount off at.within

    umount-at-stays : (path : Path) → Stays (umount_at n path)
    unfolding umount_at
    umount-at-stays path =
        wanted-stays errno.EINVAL (mount_at_point n path) _ (λ mount found. then-stays (refuse errno.EBUSY when (is_busy n mount)) _
        (removed-passes name n (record { next = n; changes = [] }) mount (found-other mount path found) (record { untouched = same; bare = bare })).untouched)

    umount-stays : (k : ℕ) (text : List ℕ) → Stays (umount_step n k text)
    umount-stays k text = bind-stays (asked_path n k text) _ (λ path e. umount-at-stays path)

    rests : Passes name n (come_to_rest n)
    unfolding come_to_rest
    rests = freed-passes name n end_of_dropped (λ b other. dropped-away b) (unlinked_rows n) (record { next = unreferred n; changes = [] })
        (record { untouched = beside (unreferred n) refl refl; bare = bare })

    all-gone : Passes name n (remove_all n)
    unfolding remove_all
    all-gone =
        emptied-passes name n (fold remove_mount (come_to_rest n) (reverse n.mounts)) n.root (nor-first (is_of_volume name n.root) (list_any (is_of_volume name) n.mounts) off)
        (all-removed-pass name n (reverse n.mounts) (come_to_rest n) (none-reversed (is_of_volume name) n.mounts (nor-second (is_of_volume name n.root) (list_any (is_of_volume name) n.mounts) off)) rests)

    shutdown-untouched : (m : Mark) → Untouched name n (shutdown_step n m).next (shutdown_step n m).changes
    unfolding shutdown_step
    shutdown-untouched mark.Clear = all-gone.untouched
    shutdown-untouched (mark.NoMem moved) = same
    shutdown-untouched (mark.Fault moved) = untouched-beside name n (remove_all n).next (record (remove_all n).next { is_stopped = true }) (remove_all n).changes refl refl all-gone.untouched

    answer-stays : (k : ℕ) (asked : Step) → is_mkfs asked ≡ false → asks_volume name asked ≡ false → Stays (namespace_answer n k asked)
    answer-stays k (step.Stat path) h l = stat-stays k path
    answer-stays k (step.Open path flags) h l = open-stays k path flags
    answer-stays k (step.Close hold) h l = give-up-stays role.Open k hold
    answer-stays k (step.Mkdir path) h l = mkdir-stays k path
    answer-stays k (step.Rmdir path) h l = rmdir-stays k path
    answer-stays k (step.Unlink path) h l = unlink-stays k path
    answer-stays k (step.Rename old new) h l = rename-stays k old new
    answer-stays k (step.List path) h l = list-stays k path
    answer-stays k (step.Chdir path) h l = chdir-stays k path
    answer-stays k step.Home h l = beside (with_folder_of n k []) refl refl
    answer-stays k step.Cwd h l = same
    answer-stays k (step.Mount source point type) h l = mount-stays k source point type l
    answer-stays k (step.Umount point) h l = umount-stays k point
    answer-stays k (step.Map hold) h l = map-stays k hold
    answer-stays k (step.Unmap hold) h l = give-up-stays role.Map k hold
    answer-stays k step.Mounts h l = same
    answer-stays k step.Dentries h l = same
    answer-stays k step.Cells h l = same
    answer-stays k (step.Mkfs other) h l = absurd (cc)
    answer-stays k step.Devices h l = same
    answer-stays k step.Shutdown h l = tt
    answer-stays k (step.Size id) h l = tt
    answer-stays k (step.Read id from len) h l = tt
    answer-stays k (step.Write id from piece) h l = tt
    answer-stays k (step.Append id piece) h l = tt
    answer-stays k (step.Trunc id len) h l = tt
    answer-stays k (step.Sync id) h l = tt
    answer-stays k (step.Load id from len) h l = tt
    answer-stays k (step.Store id from piece) h l = tt
    answer-stays k (step.Flush row) h l = tt
    answer-stays k (step.Reclaim row) h l = tt

    settled-untouched : (answer : Result NamespaceOutcome Errno) → Stays answer → Untouched name n (settled n answer).next (settled n answer).changes
    settled-untouched (Ok outcome) stays = stays
    settled-untouched (Err errno) stays = same

    marked-untouched : (answer : Result NamespaceOutcome Errno) (m : Mark) → Stays answer → Untouched name n (under_mark n answer m).next (under_mark n answer m).changes
    marked-untouched answer mark.Clear stays = settled-untouched answer stays
    marked-untouched answer (mark.Fault moved) stays = same
    marked-untouched answer (mark.NoMem moved) stays = same

    pub step-untouched : (k : ℕ) (asked : Step) (m : Mark) → is_mkfs asked ≡ false → asks_volume name asked ≡ false →
        Untouched name n (namespace_step n k asked m).next (namespace_step n k asked m).changes
    unfolding namespace_step
    step-untouched k step.Shutdown m h l = shutdown-untouched m
    step-untouched k asked m h l = marked-untouched (namespace_answer n k asked) m (answer-stays k asked h l)
