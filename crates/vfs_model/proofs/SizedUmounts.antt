-- Unmounting, formatting and the end make no namespace larger than it may be.
use Rattle.std.proofs.Common.{◌≡◌, ℕ, zero, suc, ◌-◌, ◌≤◌, List, [], ◌∷◌, ◌==◌, length, map, reverse, replicate, slice_index_or, refl, ap, sym, subst, ◌∙◌, arith}
use Rattle.std.specs.Prelude.{Bool, true, false, cond, not, ◌||◌, filter, fold, slice_set}
use Rattle.std.specs.List.{list_any}
use Rattle.std.proofs.lemmas.Bool.Decides.{nat_tests}
use Rattle.std.proofs.lemmas.List.{length-map, length-replicate}
use Rattle.vfs_base.specs.Path.{Path, printed}
use Rattle.vfs_base.specs.declared.entry.Mark.{Mark}
use Rattle.vfs_base.specs.declared.entry.Mark.TheVariants as mark
use Rattle.vfs_base.specs.declared.errno.Errno.TheVariants as errno
use Rattle.vfs_base.specs.declared.kinds.NodeKind.{NodeKind}
use Rattle.vfs_base.specs.declared.kinds.FsType.{FsType}
use Rattle.vfs_base.specs.declared.kinds.FsType.TheVariants as fs
use Rattle.vfs_model.specs.Chain.{refuse◌when◌, wanted}
use Rattle.vfs_model.specs.Consistency.{is_number}
use Rattle.vfs_model.specs.Content.{is_mounted}
use Rattle.vfs_model.specs.FileLife.{Rows, after_end, backing_of, end_of_dropped, end_of_unmounted, free_row, no_volume, volume_at, volume_named}
use Rattle.vfs_model.specs.Namespace.{Tree, folder_of, life_at, same_bytes, tree_of}
use Rattle.vfs_model.specs.NamespaceOutcome.{NamespaceOutcome}
use Rattle.vfs_model.specs.NamespaceStep.{shutdown_step}
use Rattle.vfs_model.specs.UmountSteps.{come_to_rest, empty_mount, format_volume, is_busy, keep_names, kept_node, mkfs_step, mount_at_point, remove_all, remove_mount, rows_of_mount, umount_at, unlinked_rows, unreferred}
use Rattle.vfs_model.specs.declared.namespace.Backing.{Backing}
use Rattle.vfs_model.specs.declared.namespace.End.{End}
use Rattle.vfs_model.specs.declared.namespace.End.TheVariants as end
use Rattle.vfs_model.specs.declared.namespace.KeptNode.{KeptNode}
use Rattle.vfs_model.specs.declared.namespace.Mount.{Mount}
use Rattle.vfs_model.specs.declared.namespace.Namespace.{Namespace}
use Rattle.vfs_model.specs.declared.namespace.VolumeState.{VolumeState}
use Rattle.vfs_model.proofs.SizedNodes.{filter_shrinks, item_kept, sized_freed, sized_tree}
use Rattle.vfs_model.specs.Sizes.{IsSized}
use Rattle.vfs_model.proofs.StepAnswers.{Holds, bind-holds, then-holds}

-- the namespace that a step leaves is no larger than it may be
abbrev pub Sized : NamespaceOutcome → Type 0
Sized outcome = IsSized outcome.next

-- a volume of other names, or of other spare cells
pub sized_volume : (n : Namespace) (place : ℕ) (volume : VolumeState) → IsSized n →
    length volume.spare ≤ 1024 → length volume.pages ≤ 1024 → length volume.kept ≤ 4096 →
    IsSized (record n { volumes = slice_set n.volumes place volume })
sized_volume n place volume s spare pages kept = record {
  live_files = s.live_files;
  generations = s.generations;
  references = s.references;
  working_directories = s.working_directories;
  short = λ k. s.short k;
  mounts = s.mounts;
  places = s.places;
  trees = λ j. s.trees j;
  spares = λ v. item_kept (λ one. length one.spare ≤ 1024) n.volumes place v volume no_volume spare (s.spares v);
  pages = λ v. item_kept (λ one. length one.pages ≤ 1024) n.volumes place v volume no_volume pages (s.pages v);
  kept = λ v. item_kept (λ one. length one.kept ≤ 4096) n.volumes place v volume no_volume kept (s.kept v);
  roms = λ place. s.roms place;
  unused = λ number h. s.unused number h;
}

pub sized_format : (n : Namespace) (place : ℕ) → IsSized n → IsSized (format_volume n place)
sized_format n place s =
    let volume = volume_at n place in
    let same = length-replicate (length volume.pages) true in
    sized_volume n place (record volume { spare = replicate (length volume.pages) true; kept = [] }) s
    (omega (arith, same, s.pages place)) (s.pages place) (omega arith)

sized_names : (n : Namespace) (mount : Mount) (kind : FsType) → IsSized n → IsSized (keep_names n mount kind)
sized_names n mount fs.Tmp s = s
sized_names n mount fs.Rom s = s
sized_names n mount fs.Dev s = s
sized_names n mount fs.Cell s =
    let place = volume_named n mount.source in
    let tree = tree_of n mount.number in
    let names : List (Path × KeptNode) = map (λ entry. (entry.0, kept_node n entry.1)) tree in
    let keep : Path × NodeKind → Path × KeptNode = λ entry. (entry.0, kept_node n entry.1) in
    let same = length-map tree keep in
    sized_volume n place (record (volume_at n place) { kept = names }) s
    (s.spares place) (s.pages place) (omega (arith, same, s.trees mount.number))

sized_rows : (ending : Backing → End) (rows : Rows) (list : List ℕ) → IsSized rows.next → IsSized (fold (free_row ending) rows list).next
unfolding free_row
sized_rows ending rows [] s = s
sized_rows ending rows (row ∷ list) s =
    sized_rows ending (free_row ending rows row) list (sized_freed rows.next row (ending (backing_of (life_at rows.next row))) s)

sized_emptied : (rows : Rows) (mount : Mount) → IsSized rows.next → IsSized (empty_mount rows mount).next
unfolding empty_mount
sized_emptied rows mount s =
    sized_rows end_of_unmounted _ (rows_of_mount rows.next mount.number)
    (sized_tree (keep_names rows.next mount mount.fs) mount.number [] (sized_names rows.next mount mount.fs s) (omega arith) (λ no. refl))

pub sized_mounts : (n : Namespace) (mounts : List Mount) → IsSized n → length mounts ≤ 15 →
    ((number : ℕ) → is_number (record n { mounts = mounts }) number ≡ false → tree_of n number ≡ []) → IsSized (record n { mounts = mounts })
sized_mounts n mounts s few unused = record {
  live_files = s.live_files;
  generations = s.generations;
  references = s.references;
  working_directories = s.working_directories;
  short = λ k. s.short k;
  mounts = few;
  places = s.places;
  trees = λ j. s.trees j;
  spares = λ v. s.spares v;
  pages = λ v. s.pages v;
  kept = λ v. s.kept v;
  roms = λ place. s.roms place;
  unused = unused;
}

-- where all mounts but those of one number stay, another number that none has now none had before
stays_unused : (gone number : ℕ) (mounts : List Mount) → (number == gone) ≡ false →
    list_any (λ mount. mount.number == number) (filter (λ other. not (other.number == gone)) mounts) ≡ false →
    list_any (λ mount. mount.number == number) mounts ≡ false
stays_unused gone number [] other h = refl
stays_unused gone number (mount ∷ mounts) other h = elim (mount.number == gone) as (λ b. (mount.number == gone) ≡ b →
    list_any (λ mount. mount.number == number) (cond (not b) (mount ∷ filter (λ other. not (other.number == gone)) mounts) (filter (λ other. not (other.number == gone)) mounts)) ≡ false →
    list_any (λ mount. mount.number == number) (mount ∷ mounts) ≡ false) [
      | true ↦ λ e h. grind (arith, nat_tests, e, other, stays_unused gone number mounts other h)
      | false ↦ λ e h. grind (arith, h, stays_unused gone number mounts other)
    ] refl h

set_empty : (trees : List Tree) (number : ℕ) → slice_index_or (slice_set trees number []) number [] ≡ []
set_empty [] number = refl
set_empty (tree ∷ trees) zero = refl
set_empty (tree ∷ trees) (suc number) = set_empty trees number

same_trees_end : (n : Namespace) (e : End) → (after_end n e).trees ≡ n.trees
same_trees_end n end.Nothing = refl
same_trees_end n (end.Spare volume cell) = refl
same_trees_end n (end.Kept volume cell) = refl
same_trees_end n (end.Device device) = refl

same_trees : (rows : Rows) (list : List ℕ) → (fold (free_row end_of_unmounted) rows list).next.trees ≡ rows.next.trees
unfolding free_row
same_trees rows [] = refl
same_trees rows (row ∷ list) =
    same_trees (free_row end_of_unmounted rows row) list
    ∙ same_trees_end _ (end_of_unmounted (backing_of (life_at rows.next row)))

emptied_tree : (rows : Rows) (mount : Mount) → tree_of (empty_mount rows mount).next mount.number ≡ []
unfolding empty_mount
emptied_tree rows mount =
    ap (λ (trees : List Tree). slice_index_or trees mount.number []) (same_trees _ (rows_of_mount rows.next mount.number))
    ∙ set_empty (keep_names rows.next mount mount.fs).trees mount.number

pub neither : (a b c : Bool) → (a || b) ≡ false → (b ≡ false → c ≡ false) → (a || c) ≡ false
neither true b c h k = absurd (cc (h))
neither false b c h k = k h

-- a number that none has after a mount went is that of an empty tree
removed_unused : (n : Namespace) (gone : ℕ) → IsSized n → tree_of n gone ≡ [] → (number : ℕ) →
    is_number (record n { mounts = filter (λ other. not (other.number == gone)) n.mounts }) number ≡ false → tree_of n number ≡ []
removed_unused n gone s empty number h = elim (number == gone) as (λ b. (number == gone) ≡ b → tree_of n number ≡ []) [
  | true ↦ λ e.
      let same : number ≡ gone = grind (arith, nat_tests, e) in
      subst (λ k. tree_of n k ≡ []) (sym same) empty
  | false ↦ λ e. s.unused number (neither (n.root.number == number) _ _ h (stays_unused gone number n.mounts e))
] refl

sized_removed : (rows : Rows) (mount : Mount) → IsSized rows.next → IsSized (remove_mount rows mount).next
unfolding remove_mount
sized_removed rows mount s =
    let emptied = empty_mount rows mount in
    let small = sized_emptied rows mount s in
    let fewer = filter_shrinks (λ other. not (other.number == mount.number)) emptied.next.mounts in
    sized_mounts emptied.next (filter (λ other. not (other.number == mount.number)) emptied.next.mounts) small (omega (arith, fewer, small.mounts))
    (removed_unused emptied.next mount.number small (emptied_tree rows mount))

sized_mounts_gone : (rows : Rows) (mounts : List Mount) → IsSized rows.next → IsSized (fold remove_mount rows mounts).next
sized_mounts_gone rows [] s = s
sized_mounts_gone rows (mount ∷ mounts) s = sized_mounts_gone (remove_mount rows mount) mounts (sized_removed rows mount s)

-- at one unmount, where nothing refuses it
pub umount-sized : (n : Namespace) (path : Path) → IsSized n → Holds Sized (umount_at n path)
unfolding umount_at
umount-sized n path s =
    bind-holds Sized (wanted errno.EINVAL (mount_at_point n path)) _ (λ mount e.
    then-holds Sized (refuse errno.EBUSY when (is_busy n mount)) _ (λ h. sized_removed (record { next = n; changes = [] }) mount s))

pub mkfs-sized : (n : Namespace) (name : List ℕ) → IsSized n → Holds Sized (mkfs_step n name)
unfolding mkfs_step
mkfs-sized n name s =
    then-holds Sized (refuse errno.ENXIO when (not (list_any (λ volume. same_bytes volume.name name) n.volumes))) _ (λ h.
    then-holds Sized (refuse errno.EBUSY when (is_mounted n fs.Cell name)) _ (λ l. sized_format n (volume_named n name) s))

root-anywhere : (folders : List Path) (place : ℕ) → slice_index_or (map {B = Path} (λ folder. []) folders) place [] ≡ []
root-anywhere [] place = refl
root-anywhere (folder ∷ folders) zero = refl
root-anywhere (folder ∷ folders) (suc place) = root-anywhere folders place

-- where nobody refers to anything and each session is in `/`
sized_unreferred : (n : Namespace) → IsSized n → IsSized (unreferred n)
sized_unreferred n s = record {
  live_files = s.live_files;
  generations = s.generations;
  references = let same : length (unreferred n).references ≡ length n.references = length-map n.references _ in let few = s.references in omega (arith, same, few);
  working_directories = let same : length (unreferred n).working_directories ≡ length n.working_directories = length-map n.working_directories _ in
      let few = s.working_directories in omega (arith, same, few);
  short = λ k. let root : length (printed (folder_of (unreferred n) k)) ≡ length (printed []) = ap (λ folder. length (printed folder)) (root-anywhere n.working_directories (k - 1)) in omega (arith, root);
  mounts = s.mounts;
  places = s.places;
  trees = λ j. s.trees j;
  spares = λ v. s.spares v;
  pages = λ v. s.pages v;
  kept = λ v. s.kept v;
  roms = λ place. s.roms place;
  unused = λ number h. s.unused number h;
}

sized_rest : (n : Namespace) → IsSized n → IsSized (come_to_rest n).next
unfolding come_to_rest
sized_rest n s = sized_rows end_of_dropped (record { next = unreferred n; changes = [] }) (unlinked_rows n) (sized_unreferred n s)

-- at the end
all-sized : (n : Namespace) → IsSized n → IsSized (remove_all n).next
unfolding remove_all
all-sized n s = sized_emptied _ n.root (sized_mounts_gone (come_to_rest n) (reverse n.mounts) (sized_rest n s))

-- an end that a device failed is remembered
sized_stopped : (n : Namespace) (is_stopped : Bool) → IsSized n → IsSized (record n { is_stopped = is_stopped })
sized_stopped n is_stopped s = record {
  live_files = s.live_files;
  generations = s.generations;
  references = s.references;
  working_directories = s.working_directories;
  short = λ k. s.short k;
  mounts = s.mounts;
  places = s.places;
  trees = λ j. s.trees j;
  spares = λ v. s.spares v;
  pages = λ v. s.pages v;
  kept = λ v. s.kept v;
  roms = λ place. s.roms place;
  unused = λ number h. s.unused number h;
}

pub shutdown-sized : (n : Namespace) (m : Mark) → IsSized n → IsSized (shutdown_step n m).next
unfolding shutdown_step
shutdown-sized n mark.Clear s = all-sized n s
shutdown-sized n (mark.Fault moved) s = sized_stopped (remove_all n).next true (all-sized n s)
shutdown-sized n (mark.NoMem moved) s = s
