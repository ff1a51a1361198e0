-- A mount is removed: its names are kept, its files freed, and it goes.
use Rattle.std.proofs.Common.{◌≡◌, ℕ, zero, suc, ◌-◌, ◌*◌, ◌<◌, true, Some, None, IsSomeAnd, List, [], ◌∷◌, map, filter, fold, slice_index_or, slice_set, inl, inr, refl, sym, ap, subst, ◌∙◌, arith}
use Rattle.vfs_base.specs.declared.kinds.FsType.{FsType}
use Rattle.vfs_base.specs.declared.kinds.FsType.TheVariants as fs
use Rattle.vfs_model.specs.Consistency.{fits_mount, mount_numbered}
use Rattle.vfs_model.specs.FileLife.{Rows, after_end, backing_of, end_of_unmounted, free_row, no_volume, volume_at, volume_named, with_kept}
use Rattle.vfs_model.specs.Homes.{cell_capacity, change_row}
use Rattle.vfs_model.specs.Lookup.{with_tree}
use Rattle.vfs_model.specs.Namespace.{life_at, tree_of}
use Rattle.vfs_model.specs.UmountSteps.{keep_names, kept_node, empty_mount, remove_mount, rows_of_mount}
use Rattle.vfs_model.specs.declared.namespace.End.{End}
use Rattle.vfs_model.specs.declared.namespace.End.TheVariants as end
use Rattle.vfs_model.specs.declared.namespace.LiveFile.{LiveFile}
use Rattle.vfs_model.specs.declared.namespace.Mount.{Mount}
use Rattle.vfs_model.specs.declared.namespace.Namespace.{Namespace}
use Rattle.vfs_model.specs.declared.namespace.RowChange.{RowChange}
use Rattle.vfs_model.specs.declared.world.WorldState.{WorldState}
use Rattle.world_laws.proofs.parts.Agreeing.{Agrees, agrees-beside, agrees-named}
use Rattle.world_laws.proofs.parts.Binding.{rest-stands}
use Rattle.world_laws.proofs.parts.Emptying.{Empty, empty-all}
use Rattle.world_laws.proofs.lists.Lists.{same-or-other}
use Rattle.world_laws.proofs.parts.Standing.{Nothing, Stands}
use Rattle.world_laws.proofs.parts.Taking.{boxes-all, set-at}
use Rattle.world_laws.proofs.steps.Unmounting.{MayLeave, left-same, left_by, stays}
use Rattle.world_laws.proofs.steps.Vacating.{vacated}

-- no file of a mount is left, so everything stands
pub emptied-stands : (number : ℕ) (m : Namespace) → Empty number m [] → Stands Nothing m
emptied-stands number m e = rest-stands Nothing m e.rest (boxes-all m e.cells e.devices e.boxes) fits
  where
    counted : (row : ℕ) (life : LiveFile) → 0 < row → life_at m row ≡ Some life → IsSomeAnd (mount_numbered m life.mount) (λ mount. fits_mount m life mount ≡ true)
    counted row life l h = elim (same-or-other life.mount number) [
      | inr other ↦ e.live_files row life h other
      | inl same ↦ absurd (e.whole row life l h same)
    ]

    fits : (row : ℕ) (life : LiveFile) → life_at m row ≡ Some life → IsSomeAnd (mount_numbered m life.mount) (λ mount. fits_mount m life mount ≡ true)
    fits zero life h = counted 1 life (omega arith) h
    fits (suc row) life h = counted (suc row) life (omega arith) h

abbrev with_mounts : List Mount → Rows → Rows
with_mounts mounts rows = record rows { next = record rows.next { mounts = mounts } }

ended-mounts : (m : Namespace) (e : End) (mounts : List Mount) → after_end (record m { mounts = mounts }) e ≡ record (after_end m e) { mounts = mounts }
ended-mounts m end.Nothing mounts = refl
ended-mounts m (end.Spare volume cell) mounts = refl
ended-mounts m (end.Kept volume cell) mounts = refl
ended-mounts m (end.Device device) mounts = refl

freed-mounts : (rows : Rows) (row : ℕ) (mounts : List Mount) → free_row end_of_unmounted (with_mounts mounts rows) row ≡ with_mounts mounts (free_row end_of_unmounted rows row)
unfolding free_row
freed-mounts rows row mounts =
    ap (λ n. record {
      next = n;
      changes = (free_row end_of_unmounted rows row).changes;
    }) (ended-mounts (record rows.next { live_files = slice_set rows.next.live_files (row - 1) None }) (end_of_unmounted (backing_of (life_at rows.next row))) mounts)

all-freed : (left : List ℕ) (rows : Rows) (mounts : List Mount) → fold (free_row end_of_unmounted) (with_mounts mounts rows) left ≡ with_mounts mounts (fold (free_row end_of_unmounted) rows left)
all-freed [] rows mounts = refl
all-freed (row ∷ left) rows mounts =
    ap (λ next. fold (free_row end_of_unmounted) next left) (freed-mounts rows row mounts) ∙ all-freed left (free_row end_of_unmounted rows row) mounts

freed-same : (rows : Rows) (row : ℕ) → (free_row end_of_unmounted rows row).next.mounts ≡ rows.next.mounts
unfolding free_row
freed-same rows row = by (end_of_unmounted (backing_of (life_at rows.next row)))
  where
    by : (e : End) → (after_end (record rows.next { live_files = slice_set rows.next.live_files (row - 1) None }) e).mounts ≡ rows.next.mounts
    by end.Nothing = refl
    by (end.Spare volume cell) = refl
    by (end.Kept volume cell) = refl
    by (end.Device device) = refl

same-mounts : (left : List ℕ) (rows : Rows) → (fold (free_row end_of_unmounted) rows left).next.mounts ≡ rows.next.mounts
same-mounts [] rows = refl
same-mounts (row ∷ left) rows = same-mounts left (free_row end_of_unmounted rows row) ∙ freed-same rows row

kept-mounts : (n : Namespace) (mount : Mount) (f : FsType) → (with_tree (keep_names n mount f) mount.number []).mounts ≡ n.mounts
kept-mounts n mount fs.Tmp = refl
kept-mounts n mount fs.Rom = refl
kept-mounts n mount fs.Cell = refl
kept-mounts n mount fs.Dev = refl

-- a removal frees the files of the namespace that the mount left
pub removed : (n : Namespace) (mount : Mount) (changes : List RowChange) →
    remove_mount (record { next = n; changes = changes }) mount ≡ fold (free_row end_of_unmounted) (record { next = left_by n mount mount.fs; changes = changes }) (rows_of_mount n mount.number)
unfolding remove_mount empty_mount
removed n mount changes =
    let kept = with_tree (keep_names n mount mount.fs) mount.number [] in
    let emptied = fold (free_row end_of_unmounted) (record { next = kept; changes = changes }) (rows_of_mount n mount.number) in
    ap (λ mounts. with_mounts (filter (stays mount.number) mounts) emptied) (same-mounts (rows_of_mount n mount.number) (record { next = kept; changes = changes }) ∙ kept-mounts n mount mount.fs)
    ∙ sym (all-freed (rows_of_mount n mount.number) (record { next = kept; changes = changes }) (filter (stays mount.number) n.mounts))

-- what a removal of a mount keeps, where rows changed before
pub record Removed (n : Namespace) (mount : Mount) (changes : List RowChange) (out : Rows) : Type 0 where
  pub stands : Stands Nothing out.next
  pub pages : (volume cell : ℕ) → cell_capacity out.next volume cell ≡ cell_capacity n volume cell
  pub files : (v : WorldState) → Agrees (fold change_row v changes) n → Agrees (fold change_row v out.changes) out.next
  pub references : out.next.references ≡ n.references
  pub working_directories : out.next.working_directories ≡ n.working_directories
  pub root : out.next.root ≡ n.root
  pub mounts : out.next.mounts ≡ filter (stays mount.number) n.mounts

-- what freeing rows leaves alone
record Beside (before after : Namespace) : Type 0 where
  pub references : after.references ≡ before.references
  pub working_directories : after.working_directories ≡ before.working_directories
  pub root : after.root ≡ before.root

ended-beside : (m : Namespace) (e : End) → Beside m (after_end m e)
ended-beside m end.Nothing = record { references = refl; working_directories = refl; root = refl }
ended-beside m (end.Spare volume cell) = record { references = refl; working_directories = refl; root = refl }
ended-beside m (end.Kept volume cell) = record { references = refl; working_directories = refl; root = refl }
ended-beside m (end.Device device) = record { references = refl; working_directories = refl; root = refl }

freed-beside : (left : List ℕ) (rows : Rows) → Beside rows.next (fold (free_row end_of_unmounted) rows left).next
unfolding free_row
freed-beside [] rows = record { references = refl; working_directories = refl; root = refl }
freed-beside (row ∷ left) rows =
    let first = ended-beside (record rows.next { live_files = slice_set rows.next.live_files (row - 1) None }) (end_of_unmounted (backing_of (life_at rows.next row))) in
    let later = freed-beside left (free_row end_of_unmounted rows row) in
    record { references = later.references ∙ first.references; working_directories = later.working_directories ∙ first.working_directories; root = later.root ∙ first.root }

left-pages : (n : Namespace) (mount : Mount) (f : FsType) (volume cell : ℕ) → cell_capacity (left_by n mount f) volume cell ≡ cell_capacity n volume cell
left-pages n mount fs.Tmp volume cell = refl
left-pages n mount fs.Rom volume cell = refl
left-pages n mount fs.Dev volume cell = refl
left-pages n mount fs.Cell volume cell = ap (λ pages. 4096 * slice_index_or pages cell 0) (kept-pages n mount volume)
  where
    kept-pages : (n : Namespace) (mount : Mount) (u : ℕ) → (volume_at (left_by n mount fs.Cell) u).pages ≡ (volume_at n u).pages
    kept-pages n mount u =
        set-at (λ v. v.pages ≡ (volume_at n u).pages) n.volumes (volume_named n mount.source) u
        (record (volume_at n (volume_named n mount.source)) { kept = map (λ entry. (entry.0, kept_node n entry.1)) (tree_of n mount.number) }) no_volume
        (λ e. ap (λ k. (volume_at n k).pages) (sym e)) refl

-- the names that a volume keeps change nothing that agrees
left-agrees : (v : WorldState) (n : Namespace) (mount : Mount) (f : FsType) → Agrees v n → Agrees v (left_by n mount f)
left-agrees v n mount fs.Tmp a = agrees-beside v n (left_by n mount fs.Tmp) (refl, refl, refl, refl) a
left-agrees v n mount fs.Rom a = agrees-beside v n (left_by n mount fs.Rom) (refl, refl, refl, refl) a
left-agrees v n mount fs.Dev a = agrees-beside v n (left_by n mount fs.Dev) (refl, refl, refl, refl) a
left-agrees v n mount fs.Cell a =
    let named = with_kept n (volume_named n mount.source) (map (λ entry. (entry.0, kept_node n entry.1)) (tree_of n mount.number)) in
    agrees-beside v named (left_by n mount fs.Cell) (refl, refl, refl, refl)
    (agrees-named v n (volume_named n mount.source) (map (λ entry. (entry.0, kept_node n entry.1)) (tree_of n mount.number)) a)

pub removal : (n : Namespace) (mount : Mount) (changes : List RowChange) → Stands Nothing n → MayLeave n mount → Removed n mount changes (remove_mount (record { next = n; changes = changes }) mount)
removal n mount changes s may =
    subst (Removed n mount changes) (sym (removed n mount changes))
    (let same = left-same n mount s may mount.fs in
    let all = empty-all (rows_of_mount n mount.number) mount.number (left_by n mount mount.fs) changes (vacated n mount s may) in
    let beside = freed-beside (rows_of_mount n mount.number) (record { next = left_by n mount mount.fs; changes = changes }) in
    record {
      stands = emptied-stands mount.number _ all.empty;
      pages = λ volume cell. all.pages volume cell ∙ left-pages n mount mount.fs volume cell;
      files = λ v a. all.files v (left-agrees (fold change_row v changes) n mount mount.fs a);
      references = beside.references ∙ same.2;
      working_directories = beside.working_directories ∙ same.3;
      root = beside.root ∙ same.6;
      mounts = same-mounts (rows_of_mount n mount.number) (record { next = left_by n mount mount.fs; changes = changes }) ∙ same.7;
    })
