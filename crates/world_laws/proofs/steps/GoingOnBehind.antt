-- Every step of the namespace goes on behind what devices had at entry.
use Rattle.std.proofs.Common.{◌≡◌, ℕ, ◌-◌, ◌<◌, Bool, true, false, not, ◌||◌, T, Option, Some, None, List, [], ◌∷◌, ◌++◌, length, map, fold, reverse, slice_index_or, slice_set, if◌then◌else◌, inl, inr, refl, sym, ap, subst, ◌∙◌, arith}
use Rattle.std.proofs.lemmas.List.{get_or_past, length-set}
use Rattle.std.proofs.lemmas.List.Sums.{fold-append}
use Rattle.std.specs.FinMap.Entries.{below_all, is_sorted}
use Rattle.std.specs.List.{list_any}
use Rattle.std.specs.Ordering.{is_lt}
use Rattle.std.specs.Prelude.{nat_lt}
use Rattle.vfs_base.specs.Path.{Path, path_cmp}
use Rattle.vfs_base.specs.declared.entry.Mark.{Mark}
use Rattle.vfs_base.specs.declared.entry.Mark.TheVariants as mark
use Rattle.vfs_base.specs.declared.errno.Errno.TheVariants as errno
use Rattle.vfs_base.specs.declared.flags.OpenFlags.{OpenFlags}
use Rattle.vfs_base.specs.declared.ids.HoldId.{HoldId}
use Rattle.vfs_base.specs.declared.kinds.FsType.{FsType}
use Rattle.vfs_base.specs.declared.kinds.FsType.TheVariants as fs
use Rattle.vfs_base.specs.declared.kinds.NodeKind.{NodeKind}
use Rattle.vfs_base.specs.declared.kinds.NodeKind.TheVariants as node
use Rattle.vfs_base.specs.declared.limits.TheConstants.{HOLDS}
use Rattle.vfs_base.specs.declared.step.Step.{Step}
use Rattle.vfs_base.specs.declared.step.Step.TheVariants as step
use Rattle.vfs_model.proofs.StepAnswers.{Holds, bind-holds, either-holds, marked-holds, then-holds}
use Rattle.vfs_model.specs.Chain.{refuse◌when◌, refuse_by, wanted}
use Rattle.vfs_model.specs.Content.{Content, content_of, device_content, fs_type_of, is_mounted, kept_origin, no_rom, rom_at, rom_origin}
use Rattle.vfs_model.specs.FileLife.{Rows, after_end, after_taking, backing_of, bind_row, end_of_dropped, end_of_unmounted, free_if_unused, free_row, is_held, is_linked, least_free_row, next_file, no_device, volume_at, volume_named}
use Rattle.vfs_model.specs.Homes.{change_row}
use Rattle.vfs_model.specs.Lookup.{asked_path, covering_mount, node_at, walk_refusal, with_node}
use Rattle.vfs_model.specs.MountStep.{add_content, add_mount, is_taken, least_free_mount, mount_at, mount_refusals, origin_backing, with_entry, without_kept}
use Rattle.vfs_model.specs.NameSteps.{after_loss, folder_refusals, mkdir_refusals, rmdir_refusals, unlink_refusals, without_node}
use Rattle.vfs_model.specs.Namespace.{file_of, life_at, same_bytes, same_path, with_reference}
use Rattle.vfs_model.specs.NamespaceOutcome.{NamespaceOutcome}
use Rattle.vfs_model.specs.NamespaceStep.{namespace_answer, namespace_step, shutdown_step}
use Rattle.vfs_model.specs.OpenStep.{kind_of, least_free_number, make_file, new_backing, new_life, new_origin, open_at, open_file, open_refusals, with_file_at}
use Rattle.vfs_model.specs.ReferenceSteps.{give_up_step, is_device_kind, map_step, reference_at}
use Rattle.vfs_model.specs.RenameStep.{move_at, move_refusals, rename_at, rename_refusals, with_moved}
use Rattle.vfs_model.specs.UmountSteps.{come_to_rest, empty_mount, is_busy, keep_names, mkfs_step, mount_at_point, remove_all, remove_mount, rows_of_mount, umount_at, unlinked_rows, unreferred}
use Rattle.vfs_model.specs.declared.namespace.Backing.{Backing}
use Rattle.vfs_model.specs.declared.namespace.Backing.TheVariants as backing
use Rattle.vfs_model.specs.declared.namespace.DeviceState.{DeviceState}
use Rattle.vfs_model.specs.declared.namespace.End.{End}
use Rattle.vfs_model.specs.declared.namespace.End.TheVariants as end
use Rattle.vfs_model.specs.declared.namespace.KeptNode.{KeptNode}
use Rattle.vfs_model.specs.declared.namespace.KeptNode.TheVariants as kept
use Rattle.vfs_model.specs.declared.namespace.LiveFile.{LiveFile}
use Rattle.vfs_model.specs.declared.namespace.Mount.{Mount}
use Rattle.vfs_model.specs.declared.namespace.Namespace.{Namespace}
use Rattle.vfs_model.specs.declared.namespace.Origin.{Origin}
use Rattle.vfs_model.specs.declared.namespace.Role.{Role}
use Rattle.vfs_model.specs.declared.namespace.Role.TheVariants as role
use Rattle.vfs_model.specs.declared.namespace.RomNode.{RomNode}
use Rattle.vfs_model.specs.declared.namespace.RomNode.TheVariants as rom
use Rattle.vfs_model.specs.declared.namespace.RowChange.{RowChange}
use Rattle.vfs_model.specs.declared.namespace.RowChange.TheVariants as change
use Rattle.vfs_model.specs.declared.world.WorldState.{WorldState}
use Rattle.world_laws.proofs.lists.Lists.{below-or-past, same-or-other, set-there, t-first, t-second, true-or-false}
use Rattle.world_laws.proofs.parts.Contents.{AllDevices, device-content}
use Rattle.world_laws.proofs.parts.RowsBehind.{Behind, EndsAs, MayTakeFrom, bind-behind, free-behind, states_given, states_taken}
use Rattle.world_laws.proofs.parts.Standing.{Nothing, Stands}
use Rattle.world_laws.proofs.steps.Filling.{less-apart}
use Rattle.world_laws.proofs.steps.MountEnd.{may-begin}
use Rattle.world_laws.proofs.steps.MountKeeping.{all-home}

-- two worlds, one behind the other with a namespace's rows and devices, are so with the next one's after the changes
abbrev pub GoesOn : List (List ℕ) → Namespace → Namespace → List RowChange → Type 0
GoesOn before n next changes = (w v : WorldState) → Behind before n.live_files n.devices w v →
    Behind before next.live_files next.devices (fold change_row w changes) (fold change_row v changes)

moved-behind : (before : List (List ℕ)) (lives others : List (Option LiveFile)) (states those : List DeviceState) (w x v y : WorldState) → lives ≡ others → states ≡ those → w ≡ x → v ≡ y →
    Behind before lives states w v → Behind before others those x y
moved-behind before lives others states those w x v y = λ e f g h b.
    subst (λ u. Behind before others those x u) h (subst (λ u. Behind before others those u v) g
    (subst (λ u. Behind before others u w v) f (subst (λ u. Behind before u states w v) e b)))

taken-lives : (m : Namespace) (b : Backing) → (after_taking m b).live_files ≡ m.live_files
taken-lives m backing.Memory = refl
taken-lives m (backing.Cell volume cell) = refl
taken-lives m (backing.Device device) = refl

taken-states : (m : Namespace) (b : Backing) → (after_taking m b).devices ≡ states_taken m.devices b
taken-states m backing.Memory = refl
taken-states m (backing.Cell volume cell) = refl
taken-states m (backing.Device device) = refl

ended-lives : (m : Namespace) (e : End) → (after_end m e).live_files ≡ m.live_files
ended-lives m end.Nothing = refl
ended-lives m (end.Spare volume cell) = refl
ended-lives m (end.Kept volume cell) = refl
ended-lives m (end.Device device) = refl

ended-states : (m : Namespace) (e : End) → (after_end m e).devices ≡ states_given m.devices e
ended-states m end.Nothing = refl
ended-states m (end.Spare volume cell) = refl
ended-states m (end.Kept volume cell) = refl
ended-states m (end.Device device) = refl

dropped-ends : (b : Backing) → EndsAs b (end_of_dropped b)
dropped-ends backing.Memory = tt
dropped-ends (backing.Cell volume cell) = tt
dropped-ends (backing.Device device) = refl

unmounted-ends : (b : Backing) → EndsAs b (end_of_unmounted b)
unmounted-ends backing.Memory = tt
unmounted-ends (backing.Cell volume cell) = tt
unmounted-ends (backing.Device device) = refl

bound-states : (m : Namespace) (row : ℕ) (life : LiveFile) → (bind_row m row life).devices ≡ states_taken m.devices life.backing
unfolding bind_row
bound-states m row life = taken-states _ life.backing

-- what a mount begins with is at home, also after what comes before it has been taken
abbrev pub IsReady : List DeviceState → Content → Type 0
IsReady states [] = Unit {0}
IsReady states ((p, None) ∷ left) = IsReady states left
IsReady states ((p, Some begins) ∷ left) = MayTakeFrom states begins × IsReady (states_taken states (origin_backing begins)) left

rom-ready : (states : List DeviceState) (place : ℕ) (nodes : List (Path × RomNode)) → IsReady states (map (λ entry. (entry.0, rom_origin place entry.0 entry.1)) nodes)
rom-ready states place [] = tt
rom-ready states place ((p, rom.Dir) ∷ nodes) = rom-ready states place nodes
rom-ready states place ((p, rom.File bytes) ∷ nodes) = (tt, rom-ready states place nodes)

kept-ready : (states : List DeviceState) (volume : ℕ) (nodes : List (Path × KeptNode)) → IsReady states (map (λ entry. (entry.0, kept_origin volume entry.1)) nodes)
kept-ready states volume [] = tt
kept-ready states volume ((p, kept.Dir) ∷ nodes) = kept-ready states volume nodes
kept-ready states volume ((p, kept.File cell) ∷ nodes) = (tt, kept-ready states volume nodes)

-- devices that are out already come before all that are left
devices-ready : (mount : Mount) (n : Namespace) (content : Content) (states : List DeviceState) → AllDevices n content → T (is_sorted path_cmp content) → length states ≡ length n.devices →
    ((device : ℕ) → (slice_index_or states device no_device).is_out ≡ true → T (below_all path_cmp ((slice_index_or n.devices device no_device).name ∷ []) content)) → IsReady states content
devices-ready mount n [] states = λ all sorted e out. tt
devices-ready mount n ((p, o) ∷ content) states = λ all sorted e out.
    let own = all.0 in
    let device = own.device in
    let new : DeviceState = record (slice_index_or states device no_device) { is_out = true } in
    let home : (slice_index_or states device no_device).is_out ≡ false = elim (true-or-false (slice_index_or states device no_device).is_out) [
      | inr h ↦ h
      | inl h ↦ absurd (less-apart mount ((slice_index_or n.devices device no_device).name ∷ []) p (t-first _ (below_all path_cmp ((slice_index_or n.devices device no_device).name ∷ []) content) (out device h)) (sym own.name))
    ] in
    let later = devices-ready mount n content (slice_set states device new) all.1 (t-second (below_all path_cmp p content) _ sorted) (length-set states device new ∙ e) (λ other h. elim (same-or-other other device) [
      | inl same ↦ subst (λ q. T (below_all path_cmp q content)) (own.name ∙ ap (λ k. (slice_index_or n.devices k no_device).name ∷ []) (sym same)) (t-first (below_all path_cmp p content) _ sorted)
      | inr apart ↦ t-second (is_lt (path_cmp ((slice_index_or n.devices other no_device).name ∷ []) p)) _ (out other (sym (ap (λ d. d.is_out) (set-there states device other new no_device apart)) ∙ h))
    ]) in
    subst (λ x. IsReady states ((p, x) ∷ content)) (sym own.is) ((let l = own.within in omega (arith, l, e), home), later)

module _ (before : List (List ℕ)) (n : Namespace) where
  -- a row is freed
  free-goes : (ending : Backing → End) (rows : Rows) (row : ℕ) → ((b : Backing) → EndsAs b (ending b)) → GoesOn before n rows.next rows.changes →
      GoesOn before n (free_row ending rows row).next (free_row ending rows row).changes
  unfolding free_row
  free-goes ending rows row ends goes = λ w v b.
      let m = rows.next in
      let at_end = ending (backing_of (life_at m row)) in
      let freed = record m { live_files = slice_set m.live_files (row - 1) None } in
      let last = free-behind before m.live_files m.devices (fold change_row w rows.changes) (fold change_row v rows.changes) (goes w v b) (file_of m row) at_end (ends (backing_of (life_at m row))) in
      moved-behind before _ _ _ _ _ _ _ _ (sym (ended-lives freed at_end)) (sym (ended-states freed at_end))
      (sym (fold-append change_row w rows.changes (change.Free (file_of m row) at_end ∷ []))) (sym (fold-append change_row v rows.changes (change.Free (file_of m row) at_end ∷ []))) last

  frees-goes : (ending : Backing → End) (rows : Rows) (list : List ℕ) → ((b : Backing) → EndsAs b (ending b)) → GoesOn before n rows.next rows.changes →
      GoesOn before n (fold (free_row ending) rows list).next (fold (free_row ending) rows list).changes
  frees-goes ending rows [] ends goes = goes
  frees-goes ending rows (row ∷ list) ends goes = frees-goes ending (free_row ending rows row) list ends (free-goes ending rows row ends goes)

  -- a row is bound
  bind-goes : (m : Namespace) (changes : List RowChange) (row : ℕ) (life : LiveFile) (begins : Origin) → life.backing ≡ origin_backing begins → MayTakeFrom m.devices begins → GoesOn before n m changes →
      GoesOn before n (bind_row m row life) (changes ++ change.Bind (next_file m row) begins ∷ [])
  unfolding bind_row
  bind-goes m changes row life begins e may goes = λ w v b.
      let taken = record m { live_files = slice_set m.live_files (row - 1) (Some life) } in
      let last = bind-behind before m.live_files m.devices (fold change_row w changes) (fold change_row v changes) (goes w v b) (next_file m row) life begins e may in
      moved-behind before _ _ _ _ _ _ _ _ (sym (taken-lives _ life.backing)) (ap (states_taken m.devices) (sym e) ∙ sym (taken-states _ life.backing))
      (sym (fold-append change_row w changes (change.Bind (next_file m row) begins ∷ []))) (sym (fold-append change_row v changes (change.Bind (next_file m row) begins ∷ []))) last

  dropped-goes : (m : Namespace) (row : ℕ) (named : Bool) → m.live_files ≡ n.live_files → m.devices ≡ n.devices →
      let rows = if named then record { next = m; changes = [] } else free_row end_of_dropped (record { next = m; changes = [] }) row in GoesOn before n rows.next rows.changes
  dropped-goes m row true e f = λ w v b. moved-behind before _ _ _ _ _ _ _ _ (sym e) (sym f) refl refl b
  dropped-goes m row false e f = free-goes end_of_dropped (record { next = m; changes = [] }) row dropped-ends (λ w v b. moved-behind before _ _ _ _ _ _ _ _ (sym e) (sym f) refl refl b)

  unused-goes : (m : Namespace) (row : ℕ) → m.live_files ≡ n.live_files → m.devices ≡ n.devices → GoesOn before n (free_if_unused m row).next (free_if_unused m row).changes
  unfolding free_if_unused
  unused-goes m row e f = dropped-goes m row (is_linked m row || is_held m row) e f

  loss-goes : (m : Namespace) (found : Option NodeKind) → m.live_files ≡ n.live_files → m.devices ≡ n.devices → GoesOn before n (after_loss m found).next (after_loss m found).changes
  loss-goes m (Some (node.File file kind)) e f = unused-goes m file.row e f
  loss-goes m (Some node.Dir) e f = λ w v b. moved-behind before _ _ _ _ _ _ _ _ (sym e) (sym f) refl refl b
  loss-goes m None e f = λ w v b. moved-behind before _ _ _ _ _ _ _ _ (sym e) (sym f) refl refl b

  abbrev Goes : NamespaceOutcome → Type 0
  Goes outcome = GoesOn before n outcome.next outcome.changes

  give_up-goes : (as_role : Role) (k : ℕ) (hold : HoldId) → Holds Goes (give_up_step as_role n k hold)
  unfolding give_up_step
  give_up-goes as_role k hold =
      bind-holds Goes (wanted errno.EBADF (reference_at n k hold as_role)) _ (λ reference e. unused-goes (with_reference n k hold.number None) reference.file.row refl refl)

  -- a file is made

  new-taken : (b : Backing) → b ≡ origin_backing (new_origin b)
  new-taken backing.Memory = refl
  new-taken (backing.Cell volume cell) = refl
  new-taken (backing.Device device) = refl

  new-may : (states : List DeviceState) (mount : Mount) (f : FsType) → MayTakeFrom states (new_origin (new_backing n mount f))
  new-may states mount fs.Tmp = tt
  new-may states mount fs.Rom = tt
  new-may states mount fs.Cell = tt
  new-may states mount fs.Dev = tt

  made-goes : (p : Path) → GoesOn before n (make_file n p).next (make_file n p).changes
  unfolding make_file with_node
  made-goes p =
      let life = new_life n p in
      bind-goes (with_node n p (node.File (next_file n (least_free_row n)) life.kind)) [] (least_free_row n) life (new_origin life.backing) (new-taken life.backing)
      (new-may n.devices (covering_mount n p) (covering_mount n p).fs) (λ w v b. b)

  there-goes : (p : Path) (there : Bool) → let rows = if there then record { next = n; changes = [] } else make_file n p in GoesOn before n rows.next rows.changes
  there-goes p true = λ w v b. b
  there-goes p false = made-goes p

  open_file-goes : (k : ℕ) (p : Path) (rows : Rows) (found : Option NodeKind) → GoesOn before n rows.next rows.changes → Holds Goes (open_file k p rows found)
  open_file-goes k p rows None h = tt
  open_file-goes k p rows (Some node.Dir) h = tt
  open_file-goes k p rows (Some (node.File file kind)) h = λ w v b. h w v b

  open-goes : (k : ℕ) (p : Path) (flags : OpenFlags) → Holds Goes (open_at n k p flags)
  unfolding open_at
  open-goes k p flags =
      then-holds Goes (open_refusals n k p flags) _ (λ h. open_file-goes k p (with_file_at n p) (node_at (with_file_at n p).next p) (there-goes p _))

  -- a mount is filled

  fill-goes : (mount : Mount) (content : Content) (rows : Rows) → IsReady rows.next.devices content → GoesOn before n rows.next rows.changes →
      let filled = fold (λ rows entry. add_content mount rows entry.0 entry.1) rows content in GoesOn before n filled.next filled.changes
  fill-goes mount [] rows = λ ready goes. goes
  fill-goes mount ((p, None) ∷ content) rows = λ ready goes. fill-goes mount content (add_content mount rows p None) ready (λ w v b. goes w v b)
  fill-goes mount ((p, Some begins) ∷ content) rows = λ ready goes.
      let row = least_free_row rows.next in
      let life : LiveFile = record { kind = kind_of mount.fs; mount = mount.number; backing = origin_backing begins } in
      let placed = with_entry rows.next mount.number p (node.File (next_file rows.next row) life.kind) in
      fill-goes mount content (add_content mount rows p (Some begins)) (subst (λ states. IsReady states content) (sym (bound-states placed row life)) ready.1)
      (bind-goes placed rows.changes row life begins refl ready.0 (λ w v b. goes w v b))

  start-lives : (mount : Mount) (f : FsType) (source : List ℕ) → let m = without_kept (record n { mounts = n.mounts ++ mount ∷ [] }) f source in (m.live_files ≡ n.live_files) × (m.devices ≡ n.devices)
  start-lives mount fs.Tmp source = (refl, refl)
  start-lives mount fs.Rom source = (refl, refl)
  start-lives mount fs.Cell source = (refl, refl)
  start-lives mount fs.Dev source = (refl, refl)

  content-ready : (mount : Mount) (f : FsType) (source : List ℕ) → (f ≡ fs.Dev → (device : ℕ) → device < length n.devices → (slice_index_or n.devices device no_device).is_out ≡ false) → IsReady n.devices (content_of n f source)
  content-ready mount fs.Tmp source home = tt
  content-ready mount fs.Rom source home = rom-ready n.devices (rom_at n source) (slice_index_or n.roms (rom_at n source) no_rom).nodes
  content-ready mount fs.Cell source home = kept-ready n.devices (volume_named n source) (volume_at n (volume_named n source)).kept
  content-ready mount fs.Dev source home =
      devices-ready mount n (device_content n) n.devices (device-content n).all (device-content n).sorted refl (λ device h. elim (below-or-past device (length n.devices)) [
        | inl l ↦ let no = home refl device l in absurd (cc)
        | inr l ↦ let no = ap (λ d. d.is_out) (get_or_past n.devices device no_device l) in absurd (cc)
      ])

  added-goes : (mount : Mount) → (mount.fs ≡ fs.Dev → (device : ℕ) → device < length n.devices → (slice_index_or n.devices device no_device).is_out ≡ false) →
      GoesOn before n (add_mount n mount).next (add_mount n mount).changes
  unfolding add_mount
  added-goes mount home =
      let start = start-lives mount mount.fs mount.source in
      fill-goes mount (content_of n mount.fs mount.source) (record { next = without_kept (record n { mounts = n.mounts ++ mount ∷ [] }) mount.fs mount.source; changes = [] })
      (subst (λ states. IsReady states (content_of n mount.fs mount.source)) (sym start.1) (content-ready mount mount.fs mount.source home))
      (λ w v b. moved-behind before _ _ _ _ _ _ _ _ (sym start.0) (sym start.1) refl refl b)

  mount-goes : (path : Path) (asked : FsType) (source : List ℕ) → Stands Nothing n → Holds Goes (mount_at n path asked source)
  unfolding mount_at
  mount-goes path asked source s =
      let mount : Mount = record { number = least_free_mount n; point = path; fs = asked; source = source } in
      then-holds Goes (mount_refusals n path asked source) _ (λ h.
      let begin = may-begin n path asked source s h in
      added-goes mount (λ e. all-home n source s (subst (λ t. is_taken n t source ≡ false) e begin.taken)))

  -- mounts go

  kept-lives : (m : Namespace) (mount : Mount) (f : FsType) → ((keep_names m mount f).live_files ≡ m.live_files) × ((keep_names m mount f).devices ≡ m.devices)
  kept-lives m mount fs.Tmp = (refl, refl)
  kept-lives m mount fs.Rom = (refl, refl)
  kept-lives m mount fs.Cell = (refl, refl)
  kept-lives m mount fs.Dev = (refl, refl)

  emptied-goes : (rows : Rows) (mount : Mount) → GoesOn before n rows.next rows.changes → GoesOn before n (empty_mount rows mount).next (empty_mount rows mount).changes
  unfolding empty_mount
  emptied-goes rows mount goes =
      let same = kept-lives rows.next mount mount.fs in
      frees-goes end_of_unmounted _ (rows_of_mount rows.next mount.number) unmounted-ends (λ w v b. moved-behind before _ _ _ _ _ _ _ _ (sym same.0) (sym same.1) refl refl (goes w v b))

  removed-goes : (rows : Rows) (mount : Mount) → GoesOn before n rows.next rows.changes → GoesOn before n (remove_mount rows mount).next (remove_mount rows mount).changes
  unfolding remove_mount
  removed-goes rows mount goes = λ w v b. emptied-goes rows mount goes w v b

  mounts-goes : (rows : Rows) (mounts : List Mount) → GoesOn before n rows.next rows.changes → GoesOn before n (fold remove_mount rows mounts).next (fold remove_mount rows mounts).changes
  mounts-goes rows [] goes = goes
  mounts-goes rows (mount ∷ mounts) goes = mounts-goes (remove_mount rows mount) mounts (removed-goes rows mount goes)

  rested-goes : GoesOn before n (come_to_rest n).next (come_to_rest n).changes
  unfolding come_to_rest
  rested-goes = frees-goes end_of_dropped (record { next = unreferred n; changes = [] }) (unlinked_rows n) dropped-ends (λ w v b. b)

  all-goes : GoesOn before n (remove_all n).next (remove_all n).changes
  unfolding remove_all
  all-goes = emptied-goes _ n.root (mounts-goes (come_to_rest n) (reverse n.mounts) rested-goes)

  shutdown-goes : (m : Mark) → Goes (shutdown_step n m)
  unfolding shutdown_step
  shutdown-goes mark.Clear = all-goes
  shutdown-goes (mark.Fault moved) = λ w v b. all-goes w v b
  shutdown-goes (mark.NoMem moved) = λ w v b. b

  umount-goes : (path : Path) → Holds Goes (umount_at n path)
  unfolding umount_at
  umount-goes path =
      bind-holds Goes (wanted errno.EINVAL (mount_at_point n path)) _ (λ mount e.
      then-holds Goes (refuse errno.EBUSY when (is_busy n mount)) _ (λ h. removed-goes (record { next = n; changes = [] }) mount (λ w v b. b)))

  -- the other steps

  mkfs-goes : (name : List ℕ) → Holds Goes (mkfs_step n name)
  unfolding mkfs_step
  mkfs-goes name =
      then-holds Goes (refuse errno.ENXIO when (not (list_any (λ volume. same_bytes volume.name name) n.volumes))) _ (λ h.
      then-holds Goes (refuse errno.EBUSY when (is_mounted n fs.Cell name)) _ (λ l w v b. b))

  map-goes : (k : ℕ) (hold : HoldId) → Holds Goes (map_step n k hold)
  unfolding map_step
  map-goes k hold =
      bind-holds Goes (wanted errno.EBADF (reference_at n k hold role.Open)) _ (λ opened e.
      then-holds Goes (refuse errno.ENODEV when (is_device_kind opened.kind)) _ (λ h.
      then-holds Goes (refuse errno.EMFILE when (nat_lt HOLDS (least_free_number n k))) _ (λ l w v b. b)))

  move-goes : (old new : Path) → Holds Goes (move_at n old new)
  unfolding move_at with_moved
  move-goes old new = then-holds Goes (move_refusals n old new) _ (λ h. loss-goes (with_moved n old new) (node_at n new) refl refl)

  rename-goes : (old new : Path) → Holds Goes (rename_at n old new)
  unfolding rename_at
  rename-goes old new =
      then-holds Goes (rename_refusals n old new) _ (λ h. either-holds Goes (same_path old new) _ _ (λ w v b. b) (move-goes old new))

  unlinked-goes : (p : Path) → GoesOn before n (after_loss (without_node n p) (node_at n p)).next (after_loss (without_node n p) (node_at n p)).changes
  unfolding without_node
  unlinked-goes p = loss-goes (without_node n p) (node_at n p) refl refl

  removed_folder-goes : (p : Path) → GoesOn before n (without_node n p) []
  unfolding without_node
  removed_folder-goes p = λ w v b. b

  made_folder-goes : (p : Path) → GoesOn before n (with_node n p node.Dir) []
  unfolding with_node
  made_folder-goes p = λ w v b. b

  answer-goes : (k : ℕ) (asked : Step) → Stands Nothing n → Holds Goes (namespace_answer n k asked)
  answer-goes k (step.Stat path) s =
      bind-holds Goes (asked_path n k path) _ (λ p e.
      then-holds Goes (refuse_by (walk_refusal n p)) _ (λ h. bind-holds Goes (wanted errno.ENOENT (node_at n p)) _ (λ there f w v b. b)))
  answer-goes k (step.Open path flags) s = bind-holds Goes (asked_path n k path) _ (λ p e. open-goes k p flags)
  answer-goes k (step.Close hold) s = give_up-goes role.Open k hold
  answer-goes k (step.Mkdir path) s =
      bind-holds Goes (asked_path n k path) _ (λ p e. then-holds Goes (mkdir_refusals n p) _ (λ h. made_folder-goes p))
  answer-goes k (step.Rmdir path) s =
      bind-holds Goes (asked_path n k path) _ (λ p e. then-holds Goes (rmdir_refusals n p) _ (λ h. removed_folder-goes p))
  answer-goes k (step.Unlink path) s =
      bind-holds Goes (asked_path n k path) _ (λ p e. then-holds Goes (unlink_refusals n p) _ (λ h. unlinked-goes p))
  answer-goes k (step.Rename old new) s =
      bind-holds Goes (asked_path n k old) _ (λ p e. bind-holds Goes (asked_path n k new) _ (λ q f. rename-goes p q))
  answer-goes k (step.List path) s =
      bind-holds Goes (asked_path n k path) _ (λ p e. then-holds Goes (folder_refusals n p) _ (λ h w v b. b))
  answer-goes k (step.Chdir path) s =
      bind-holds Goes (asked_path n k path) _ (λ p e. then-holds Goes (folder_refusals n p) _ (λ h w v b. b))
  answer-goes k step.Home s = λ w v b. b
  answer-goes k step.Cwd s = λ w v b. b
  answer-goes k (step.Mount source point word) s =
      bind-holds Goes (asked_path n k point) _ (λ p e. bind-holds Goes (wanted errno.ENODEV (fs_type_of word)) _ (λ asked f. mount-goes p asked source s))
  answer-goes k (step.Umount point) s = bind-holds Goes (asked_path n k point) _ (λ p e. umount-goes p)
  answer-goes k (step.Map hold) s = map-goes k hold
  answer-goes k (step.Unmap hold) s = give_up-goes role.Map k hold
  answer-goes k step.Mounts s = λ w v b. b
  answer-goes k step.Dentries s = λ w v b. b
  answer-goes k step.Cells s = λ w v b. b
  answer-goes k (step.Mkfs name) s = mkfs-goes name
  answer-goes k step.Devices s = λ w v b. b
  answer-goes k _ s = tt

  pub step-goes : (k : ℕ) (asked : Step) (m : Mark) → Stands Nothing n → GoesOn before n (namespace_step n k asked m).next (namespace_step n k asked m).changes
  unfolding namespace_step
  step-goes k step.Shutdown m s = shutdown-goes m
  step-goes k asked m s = marked-holds Goes n (namespace_answer n k asked) m (λ errno w v b. b) (answer-goes k asked s)
