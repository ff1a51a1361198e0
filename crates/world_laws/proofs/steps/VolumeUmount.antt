-- A volume that is unmounted keeps the folders and the files of its mount.
use Rattle.std.proofs.Common.{◌≡◌, ℕ, ◌-◌, ◌<◌, Bool, true, false, Option, Some, None, option_map, IsSomeAnd, List, [], ◌∷◌, ◌++◌, length, drop, fold, slice_index_or, slice_set, Result, Ok, inl, inr, refl, sym, ap, subst, ◌∙◌, arith}
use Rattle.std.specs.Cmp.Lexicographic.{bytes_decides, pointwise_decides}
use Rattle.std.specs.FinMap.Entries.{find as value_at}
use Rattle.std.specs.List.{position_or_len}
use Rattle.vfs_base.specs.Path.{Path, path_cmp}
use Rattle.vfs_base.specs.declared.entry.Mark.TheVariants as mark
use Rattle.vfs_base.specs.declared.entry.Who.TheVariants as who
use Rattle.vfs_base.specs.declared.errno.Errno.{Errno}
use Rattle.vfs_base.specs.declared.errno.Errno.TheVariants as errno
use Rattle.vfs_base.specs.declared.ids.FileId.{FileId}
use Rattle.vfs_base.specs.declared.kinds.FsType.TheVariants as fs
use Rattle.vfs_base.specs.declared.kinds.Kind.{Kind}
use Rattle.vfs_base.specs.declared.kinds.Kind.TheVariants as kind
use Rattle.vfs_base.specs.declared.kinds.NodeKind.{NodeKind}
use Rattle.vfs_base.specs.declared.kinds.NodeKind.TheVariants as node
use Rattle.vfs_base.specs.declared.reply.Reply.TheVariants as reply
use Rattle.vfs_base.specs.declared.step.Step.TheVariants as step
use Rattle.vfs_model.proofs.MountLaws.{prefixes-nest}
use Rattle.vfs_model.proofs.MovedLaws.{prefix-append}
use Rattle.vfs_model.proofs.Rests.{changed-namespace}
use Rattle.vfs_model.specs.Boxes.{IsConsistent, fits_kind, is_cell_mount}
use Rattle.vfs_model.specs.Chain.{◌>>=◌, ◌>>◌, refuse◌when◌, wanted}
use Rattle.vfs_model.specs.Consistency.{same_kind}
use Rattle.vfs_model.specs.Content.{same_type}
use Rattle.vfs_model.specs.FileLife.{Rows, after_end, backing_of, end_of_unmounted, free_row, no_volume, volume_at, volume_named}
use Rattle.vfs_model.specs.Homes.{cell_bytes}
use Rattle.vfs_model.specs.Lookup.{asked_path, covering_mount, has_mount_below, is_below, node_at, node_in}
use Rattle.vfs_model.specs.NameSteps.{done}
use Rattle.vfs_model.specs.Namespace.{all_mounts, life_at, same_bytes, same_path, tree_of}
use Rattle.vfs_model.specs.NamespaceOutcome.{NamespaceOutcome, settled}
use Rattle.vfs_model.specs.NamespaceStep.{namespace_step}
use Rattle.vfs_model.specs.OpenStep.{kind_of}
use Rattle.vfs_model.specs.UmountSteps.{cell_of, is_busy, kept_node, mount_at_point, remove_mount, rows_of_mount, umount_at, umount_step}
use Rattle.vfs_model.specs.World.{namespace_part, world_step}
use Rattle.vfs_model.specs.declared.namespace.Backing.{Backing}
use Rattle.vfs_model.specs.declared.namespace.Backing.TheVariants as backing
use Rattle.vfs_model.specs.declared.namespace.LiveFile.{LiveFile}
use Rattle.vfs_model.specs.declared.namespace.Mount.{Mount}
use Rattle.vfs_model.specs.declared.namespace.Namespace.{Namespace}
use Rattle.vfs_model.specs.declared.world.WorldState.{WorldState}
use Rattle.world_laws.proofs.lists.Lists.{below-or-past, no-place}
use Rattle.world_laws.proofs.lists.Passing.{and-first}
use Rattle.world_laws.proofs.parts.Clear.{below-prefix}
use Rattle.world_laws.proofs.parts.Covering.{covering-is, covers-longest, covers-prefix, drop-front, one-point, same-prefix}
use Rattle.world_laws.proofs.parts.Emptying.{InRows}
use Rattle.world_laws.proofs.parts.Standing.{Nothing, Stands, stands-of}
use Rattle.world_laws.proofs.steps.KeptBytes.{bytes-kept, unmounted_world}
use Rattle.world_laws.proofs.steps.MountRemoval.{removed}
use Rattle.world_laws.proofs.steps.UmountKeeping.{found-at, may-leave}
use Rattle.world_laws.proofs.steps.Unmounting.{MayLeave, keep-named, keep-own, left_by, name-at}
use Rattle.world_laws.proofs.steps.Vacating.{node-row, of-volume, own-fits}
use Rattle.world_laws.specs.Mounted.{KeepsNode, kept_names}

-- a file of the kind of cells lies on one
cell-backing : (life : LiveFile) → life.kind ≡ kind.Cell → fits_kind (Some life) ≡ true → (volume cell : ℕ) × (life.backing ≡ backing.Cell volume cell)
cell-backing life e h = by life.backing (subst (λ k. fits_kind (Some (record life { kind = k })) ≡ true) e h)
  where
    by : (b : Backing) → fits_kind (Some (record life { kind = kind.Cell; backing = b })) ≡ true → (volume cell : ℕ) × (b ≡ backing.Cell volume cell)
    by backing.Memory k = absurd (cc)
    by (backing.Device device) k = absurd (cc)
    by (backing.Cell volume cell) k = (volume, cell, refl)

kind-is-cell : (k : Kind) → same_kind k kind.Cell ≡ true → k ≡ kind.Cell
kind-is-cell kind.Tmp h = absurd (cc)
kind-is-cell kind.Rom h = absurd (cc)
kind-is-cell kind.Cell h = refl
kind-is-cell kind.Chr h = absurd (cc)

-- the files of a mount that are freed leave the volumes
ended-volumes : (m : Namespace) (b : Backing) → (after_end m (end_of_unmounted b)).volumes ≡ m.volumes
ended-volumes m backing.Memory = refl
ended-volumes m (backing.Cell volume cell) = refl
ended-volumes m (backing.Device device) = refl

freed-volumes : (left : List ℕ) (rows : Rows) → (fold (free_row end_of_unmounted) rows left).next.volumes ≡ rows.next.volumes
unfolding free_row
freed-volumes [] rows = refl
freed-volumes (row ∷ left) rows =
    freed-volumes left (free_row end_of_unmounted rows row)
    ∙ ended-volumes (record rows.next { live_files = slice_set rows.next.live_files (row - 1) None }) (backing_of (life_at rows.next row))

module _ (w : WorldState) (mount : Mount) (c : IsConsistent w) (may : MayLeave w.namespace mount) where
  s : Stands Nothing w.namespace
  s = stands-of w c

  -- nothing is mounted below the mount, so it covers all paths below its point
  covers-below : (p : Path) → covering_mount w.namespace (mount.point ++ p) ≡ mount
  unfolding has_mount_below
  covers-below p =
      let n = w.namespace in
      let f = s.working_directories in
      let found = covering_mount n (mount.point ++ p) in
      let is = covering-is n (mount.point ++ p) f in
      let up = prefix-append mount.point p in
      let own = covers-prefix n (mount.point ++ p) f in
      let longest = covers-longest n (mount.point ++ p) mount f may.is up in
      elim (below-or-past (length mount.point) (length found.point)) [
        | inr past ↦ one-point n found mount f is may.is (same-prefix found.point mount.point (mount.point ++ p) own up (omega (arith, longest, past)))
        | inl longer ↦
            let below = below-prefix mount.point found.point (prefixes-nest mount.point found.point (mount.point ++ p) up own longest) longer in
            let none = no-place (λ m. is_below mount.point m.point) (all_mounts n) is.place found may.alone is.within in
            let yes = ap (λ m. is_below mount.point m.point) is.is ∙ below in
            absurd (cc)
      ]

  pub below-point : (p : Path) → node_at w.namespace (mount.point ++ p) ≡ node_in (tree_of w.namespace mount.number) p
  unfolding node_at
  below-point p =
      ap (λ m. node_in (tree_of w.namespace m.number) (drop (length m.point) (mount.point ++ p))) (covers-below p)
      ∙ ap (node_in (tree_of w.namespace mount.number)) (drop-front mount.point p)

  volumes-left : (unmounted_world w mount).namespace.volumes ≡ (left_by w.namespace mount mount.fs).volumes
  volumes-left =
      let out = remove_mount (record { next = w.namespace; changes = [] }) mount in
      ap (λ n. n.volumes) (changed-namespace out.changes (record w { namespace = out.next }))
      ∙ ap (λ r. r.next.volumes) (removed w.namespace mount [])
      ∙ freed-volumes (rows_of_mount w.namespace mount.number) (record { next = left_by w.namespace mount mount.fs; changes = [] })

  module _ (of_cells : mount.fs ≡ fs.Cell) where
    volumes-are : (unmounted_world w mount).namespace.volumes ≡ (left_by w.namespace mount fs.Cell).volumes
    volumes-are = volumes-left ∙ ap (λ f. (left_by w.namespace mount f).volumes) of_cells

    -- its source is the name of one
    within : volume_named w.namespace mount.source < length w.namespace.volumes
    within =
        let is = may.is in
        subst (λ m. volume_named w.namespace m.source < length w.namespace.volumes) is.is
        (c.boxes_placed.sources is.place mount is.within (ap is_cell_mount is.is ∙ ap (λ t. same_type t fs.Cell) of_cells))

    same-volume : volume_named (unmounted_world w mount).namespace mount.source ≡ volume_named w.namespace mount.source
    same-volume = ap (position_or_len (λ volume. same_bytes volume.name mount.source)) volumes-are ∙ keep-named w.namespace mount s may mount.source

    names-are : (p : Path) →
        value_at path_cmp p (kept_names (unmounted_world w mount).namespace mount.source) ≡ option_map (kept_node w.namespace) (value_at path_cmp p (tree_of w.namespace mount.number))
    names-are p =
        ap (λ volume. value_at path_cmp p (volume_at (unmounted_world w mount).namespace volume).kept) same-volume
        ∙ ap (λ volumes. value_at path_cmp p (slice_index_or volumes (volume_named w.namespace mount.source) no_volume).kept) volumes-are
        ∙ ap (value_at path_cmp p) (keep-own w.namespace mount s may within)
        ∙ name-at w.namespace mount s may p (tree_of w.namespace mount.number)

    -- a file of the mount lies on a cell of its volume
    record OnCell (id : FileId) (shape : Kind) : Type 0 where
      pub cell : ℕ
      pub is : shape ≡ kind.Cell
      pub backing : backing_of (life_at w.namespace id.row) ≡ backing.Cell (volume_named w.namespace mount.source) cell
      pub row : InRows (rows_of_mount w.namespace mount.number) id.row

    on-cell : (p : Path) (id : FileId) (shape : Kind) → value_at path_cmp p (tree_of w.namespace mount.number) ≡ Some (node.File id shape) → OnCell id shape
    on-cell p id shape h =
        let live = s.live.linked mount.number p id shape h in
        by (life_at w.namespace id.row) refl live.life
      where
        by : (found : Option LiveFile) → life_at w.namespace id.row ≡ found → IsSomeAnd found (λ life. (life.kind ≡ shape) × (life.mount ≡ mount.number)) → OnCell id shape
        by None e k = absurd k
        by (Some life) e k =
            let fits = own-fits w.namespace mount s may id.row life e k.1 in
            let same : same_kind life.kind kind.Cell ≡ true = ap (λ f. same_kind life.kind (kind_of f)) (sym of_cells) ∙ and-first (same_kind life.kind (kind_of mount.fs)) _ fits in
            let is = kind-is-cell life.kind same in
            let lies = cell-backing life is (sym (ap fits_kind e) ∙ s.boxes.kinds id.row) in
            let own = of-volume w.namespace mount s may life lies.0 lies.1 lies.2 fits in
            record {
              cell = lies.1;
              is = sym k.0 ∙ is;
              backing = ap backing_of e ∙ lies.2 ∙ ap (λ volume. backing.Cell volume lies.1) own;
              row = node-row w.namespace mount s may p id shape h;
            }

    pub keeps-node : (p : Path) (found : Option NodeKind) → value_at path_cmp p (tree_of w.namespace mount.number) ≡ found →
        KeepsNode w found (unmounted_world w mount).homes (volume_named (unmounted_world w mount).namespace mount.source) (value_at path_cmp p (kept_names (unmounted_world w mount).namespace mount.source))
    keeps-node p None e = names-are p ∙ ap (option_map (kept_node w.namespace)) e
    keeps-node p (Some node.Dir) e = names-are p ∙ ap (option_map (kept_node w.namespace)) e
    keeps-node p (Some (node.File id shape)) e =
        let on = on-cell p id shape e in (
          on.is,
          on.cell,
          names-are p ∙ ap (option_map (kept_node w.namespace)) e ∙ ap (λ b. Some (cell_of b)) on.backing,
          ap (λ volume. cell_bytes (unmounted_world w mount).homes volume on.cell) same-volume
              ∙ bytes-kept w mount c may id.row (volume_named w.namespace mount.source) on.cell on.row on.backing,
        )

-- what holds of the world that the mount leaves holds where the step is answered
module _ (w : WorldState) (point_text : List ℕ) (path : Path) (mount : Mount) (c : IsConsistent w) (P : WorldState → Type 0)
    (leaves : MayLeave w.namespace mount → P (unmounted_world w mount)) where
  abbrev Holds : Result NamespaceOutcome Errno → Type 0
  Holds answer =
      let part = namespace_part w (settled w.namespace answer) (step.Umount point_text) in
      part.reply ≡ reply.Done → P part.next

  -- where the mount is busy, nothing is claimed
  busy-or-gone : (b : Bool) → is_busy w.namespace mount ≡ b → mount_at_point w.namespace path ≡ Some mount →
      Holds (refuse errno.EBUSY when b >> done (remove_mount (record { next = w.namespace; changes = [] }) mount))
  busy-or-gone true h found e = absurd (cc)
  busy-or-gone false h found e = leaves (may-leave w.namespace path mount (stands-of w c) found h)

  answered : (k : ℕ) → asked_path w.namespace k point_text ≡ Ok path → mount_at_point w.namespace path ≡ Some mount → Holds (umount_step w.namespace k point_text)
  unfolding umount_at
  answered k named found =
      let n = w.namespace in
      let is : umount_step n k point_text ≡ (refuse errno.EBUSY when (is_busy n mount) >> done (remove_mount (record { next = n; changes = [] }) mount)) =
      ap (λ asked. asked >>= umount_at n) named
      ∙ ap (λ there. wanted errno.EINVAL there >>= (λ m. refuse errno.EBUSY when (is_busy n m) >> done (remove_mount (record { next = n; changes = [] }) m))) found in
      subst Holds (sym is) (busy-or-gone (is_busy n mount) refl found)

  pub where-unmounted : (k : ℕ) → asked_path w.namespace k point_text ≡ Ok path → mount_at_point w.namespace path ≡ Some mount →
      (world_step w (who.Session k) (step.Umount point_text) mark.Clear).reply ≡ reply.Done →
      P (world_step w (who.Session k) (step.Umount point_text) mark.Clear).next
  unfolding world_step namespace_step
  where-unmounted k named found = λ e. answered k named found e

-- the mount that is found at a path has it as its point
pub point-is : (n : Namespace) (path : Path) (mount : Mount) → mount_at_point n path ≡ Some mount → mount.point ≡ path
point-is n path mount found =
    (pointwise_decides bytes_decides mount.point path).0 (found-at (λ m. same_path m.point path) (all_mounts n) mount found).holds
