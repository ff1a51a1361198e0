-- A mount makes no namespace larger than it may be.
use Rattle.std.proofs.Common.{◌≡◌, ℕ, ◌+◌, ◌≤◌, List, [], ◌∷◌, ◌++◌, ◌==◌, length, refl, ap, ◌∙◌, arith, slice_index_or, nat_lt}
use Rattle.std.specs.Prelude.{Bool, true, false, not, ◌&&◌, ◌||◌, nat_le, fold, Option, Some, None, Ok}
use Rattle.std.specs.FinMap.Entries.{put}
use Rattle.std.specs.List.{list_any}
use Rattle.std.proofs.lemmas.Bool.Decides.{nat_tests}
use Rattle.std.proofs.lemmas.List.{length-append}
use Rattle.vfs_base.specs.Path.{Path, path_cmp}
use Rattle.vfs_base.specs.declared.errno.Errno.TheVariants as errno
use Rattle.vfs_base.specs.declared.kinds.FsType.{FsType}
use Rattle.vfs_base.specs.declared.kinds.FsType.TheVariants as fs
use Rattle.vfs_base.specs.declared.kinds.NodeKind.{NodeKind}
use Rattle.vfs_base.specs.declared.kinds.NodeKind.TheVariants as node
use Rattle.vfs_base.specs.declared.limits.TheConstants.{MOUNTS}
use Rattle.vfs_model.specs.Chain.{refuse◌when◌, refuse_by}
use Rattle.vfs_model.specs.Consistency.{is_number}
use Rattle.vfs_model.specs.Content.{Content, content_of, file_count, same_type}
use Rattle.vfs_model.specs.FileLife.{Rows, after_taking, bind_row, least_free_row, next_file, volume_at, volume_named}
use Rattle.vfs_model.specs.Lookup.{has_folder_within, has_mount_below, has_nodes, is_file, is_point, is_there, walk_refusal}
use Rattle.vfs_model.specs.MountStep.{add_content, add_mount, is_taken, is_without_source, least_free_mount, mount_at, mount_refusals, origin_backing, with_entry, without_kept}
use Rattle.vfs_model.specs.Namespace.{Tree, all_mounts, tree_of}
use Rattle.vfs_model.specs.OpenStep.{kind_of}
use Rattle.vfs_model.specs.Sizes.{IsSized}
use Rattle.vfs_model.specs.declared.namespace.Backing.{Backing}
use Rattle.vfs_model.specs.declared.namespace.Backing.TheVariants as backing
use Rattle.vfs_model.specs.declared.namespace.LiveFile.{LiveFile}
use Rattle.vfs_model.specs.declared.namespace.Mount.{Mount}
use Rattle.vfs_model.specs.declared.namespace.Namespace.{Namespace}
use Rattle.vfs_model.specs.declared.namespace.Origin.{Origin}
use Rattle.vfs_model.proofs.ContentSizes.{content_fits, free_count, free_few}
use Rattle.vfs_model.proofs.FreeNumbers.{least_is_free}
use Rattle.vfs_model.proofs.SizedNodes.{item_kept, or_second, put_grows, sized_bind, sized_tree}
use Rattle.vfs_model.proofs.SizedUmounts.{Sized, neither, sized_mounts, sized_volume}
use Rattle.vfs_model.proofs.StepAnswers.{Holds, refuse-passed, then-first, then-holds, then-rest}

sized_with_entry : (n : Namespace) (number : ℕ) (path : Path) (new : NodeKind) → IsSized n → is_number n number ≡ true →
    length (tree_of n number) + 1 ≤ 4096 → IsSized (with_entry n number path new)
sized_with_entry n number path new s has room =
    sized_tree n number (put path_cmp path new (tree_of n number)) s (omega (arith, put_grows path new (tree_of n number), room))
    (λ h. absurd (cc (has, h)))

tree_with_entry : (n : Namespace) (number : ℕ) (path : Path) (new : NodeKind) → length (tree_of (with_entry n number path new) number) ≤ length (tree_of n number) + 1
tree_with_entry n number path new =
    item_kept (λ t. length t ≤ length (tree_of n number) + 1) n.trees number number (put path_cmp path new (tree_of n number)) []
    (put_grows path new (tree_of n number)) (omega arith)

-- what a step on the way of a mount leaves: the mounts, and one node more at most
record Comes (old new : Namespace) (number : ℕ) : Type 0 where
  sized : IsSized new
  is_number : is_number new number ≡ is_number old number
  grown : length (tree_of new number) ≤ length (tree_of old number) + 1

trees_taking : (n : Namespace) (b : Backing) → (after_taking n b).trees ≡ n.trees
trees_taking n backing.Memory = refl
trees_taking n (backing.Cell volume cell) = refl
trees_taking n (backing.Device device) = refl

numbers_taking : (n : Namespace) (b : Backing) (number : ℕ) → is_number (after_taking n b) number ≡ is_number n number
numbers_taking n backing.Memory number = refl
numbers_taking n (backing.Cell volume cell) number = refl
numbers_taking n (backing.Device device) number = refl

tree_bound : (n : Namespace) (row : ℕ) (life : LiveFile) (number : ℕ) → tree_of (bind_row n row life) number ≡ tree_of n number
unfolding bind_row
tree_bound n row life number = ap (λ (trees : List Tree). slice_index_or trees number []) (trees_taking _ life.backing)

entry_comes : (mount : Mount) (rows : Rows) (path : Path) (begins : Option Origin) → IsSized rows.next → is_number rows.next mount.number ≡ true →
    length (tree_of rows.next mount.number) + 1 ≤ 4096 → Comes rows.next (add_content mount rows path begins).next mount.number
unfolding bind_row
entry_comes mount rows path None s has room = record {
  sized = sized_with_entry rows.next mount.number path _ s has room;
  is_number = refl;
  grown = tree_with_entry rows.next mount.number path _;
}
entry_comes mount rows path (Some begins) s has room =
    let row = least_free_row rows.next in
    let new : NodeKind = node.File (next_file rows.next row) (kind_of mount.fs) in
    let life : LiveFile = record { kind = kind_of mount.fs; mount = mount.number; backing = origin_backing begins } in
    let put_in = with_entry rows.next mount.number path new in
    let same : length (tree_of (bind_row put_in row life) mount.number) ≡ length (tree_of put_in mount.number) =
    ap (λ (tree : Tree). length tree) (tree_bound put_in row life mount.number) in
    record {
      sized = sized_bind put_in row life (sized_with_entry rows.next mount.number path new s has room);
      is_number = numbers_taking _ (origin_backing begins) mount.number;
      grown = omega (arith, same, tree_with_entry rows.next mount.number path new);
    }

-- one entry of the content after the other
abbrev add_entries : Mount → Rows → Content → Rows
add_entries mount rows content = fold (λ rows entry. add_content mount rows entry.0 entry.1) rows content

entries_come : (mount : Mount) (rows : Rows) (content : Content) → IsSized rows.next → is_number rows.next mount.number ≡ true →
    length (tree_of rows.next mount.number) + length content ≤ 4096 → IsSized (add_entries mount rows content).next
entries_come mount rows [] s has room = s
entries_come mount rows (entry ∷ content) s has room =
    let one = entry_comes mount rows entry.0 entry.1 s has (omega (arith, room)) in
    entries_come mount (add_content mount rows entry.0 entry.1) content one.sized (one.is_number ∙ has) (omega (arith, one.grown, room))

none_before : (test : Mount → Bool) (mounts more : List Mount) → list_any test (mounts ++ more) ≡ false → list_any test mounts ≡ false
none_before test [] more h = refl
none_before test (mount ∷ mounts) more h = neither (test mount) (list_any test (mounts ++ more)) (list_any test mounts) h (none_before test mounts more)

last_numbered : (mounts : List Mount) (mount : Mount) → list_any (λ other. other.number == mount.number) (mounts ++ mount ∷ []) ≡ true
last_numbered [] mount = grind (arith, nat_tests)
last_numbered (other ∷ mounts) mount = or_second (other.number == mount.number) _ (last_numbered mounts mount)

sized_without_kept : (n : Namespace) (asked : FsType) (source : List ℕ) → IsSized n → IsSized (without_kept n asked source)
sized_without_kept n fs.Tmp source s = s
sized_without_kept n fs.Rom source s = s
sized_without_kept n fs.Dev source s = s
sized_without_kept n fs.Cell source s =
    let place = volume_named n source in
    sized_volume n place (record (volume_at n place) { kept = [] }) s (s.spares place) (s.pages place) (omega arith)

numbers_without_kept : (n : Namespace) (asked : FsType) (source : List ℕ) (number : ℕ) → is_number (without_kept n asked source) number ≡ is_number n number
numbers_without_kept n fs.Tmp source number = refl
numbers_without_kept n fs.Rom source number = refl
numbers_without_kept n fs.Cell source number = refl
numbers_without_kept n fs.Dev source number = refl

-- the mount is one of the mounts, and has no nodes of its own yet
abbrev begun : Namespace → Mount → Namespace
begun n mount = without_kept (record n { mounts = n.mounts ++ mount ∷ [] }) mount.fs mount.source

sized_begun : (n : Namespace) (mount : Mount) → IsSized n → length n.mounts ≤ 14 → IsSized (begun n mount)
sized_begun n mount s few =
    let more = length-append n.mounts (mount ∷ []) in
    sized_without_kept (record n { mounts = n.mounts ++ mount ∷ [] }) mount.fs mount.source
    (sized_mounts n (n.mounts ++ mount ∷ []) s (omega (arith, more, few))
    (λ number h. s.unused number (neither (n.root.number == number) _ _ h (none_before (λ other. other.number == number) n.mounts (mount ∷ [])))))

mount_numbered : (n : Namespace) (mount : Mount) → is_number (begun n mount) mount.number ≡ true
mount_numbered n mount =
    numbers_without_kept (record n { mounts = n.mounts ++ mount ∷ [] }) mount.fs mount.source mount.number
    ∙ or_second (n.root.number == mount.number) _ (last_numbered n.mounts mount)

trees_of_mount : (n : Namespace) (asked : FsType) (source : List ℕ) → (without_kept n asked source).trees ≡ n.trees
trees_of_mount n fs.Tmp source = refl
trees_of_mount n fs.Rom source = refl
trees_of_mount n fs.Cell source = refl
trees_of_mount n fs.Dev source = refl

-- a mount of a free number
mount_comes : (n : Namespace) (mount : Mount) → IsSized n → length n.mounts ≤ 14 → mount.number ≡ least_free_mount n →
    file_count (content_of n mount.fs mount.source) ≤ free_count n → IsSized (add_mount n mount).next
unfolding add_mount
mount_comes n mount s few number_is rows_are =
    let start : Rows = record { next = begun n mount; changes = [] } in
    let free : is_number n mount.number ≡ false = ap (is_number n) number_is ∙ least_is_free n few in
    let same : tree_of (begun n mount) mount.number ≡ tree_of n mount.number =
    ap (λ (trees : List Tree). slice_index_or trees mount.number []) (trees_of_mount (record n { mounts = n.mounts ++ mount ∷ [] }) mount.fs mount.source) in
    let empty : length (tree_of (begun n mount) mount.number) ≡ 0 = ap (λ (tree : Tree). length tree) (same ∙ s.unused mount.number free) in
    let fits = content_fits n mount.fs mount.source s (omega (arith, rows_are, free_few n s)) in
    entries_come mount start (content_of n mount.fs mount.source) (sized_begun n mount s few) (mount_numbered n mount) (omega (arith, empty, fits))

-- what a mount has passed that nothing refuses
all_passed : (n : Namespace) (path : Path) (asked : FsType) (source : List ℕ) → mount_refusals n path asked source ≡ Ok tt →
    (nat_le MOUNTS (length (all_mounts n)) ≡ false) × (nat_lt (free_count n) (file_count (content_of n asked source)) ≡ false)
unfolding mount_refusals
all_passed n path asked source e =
    let busy = is_point n path || has_mount_below n path || has_folder_within n path in
    let full = nat_le MOUNTS (length (all_mounts n)) in
    let absent = is_without_source n asked source || (same_type asked fs.Cell && n.is_stopped) in
    let r1 = then-rest (refuse_by (walk_refusal n path)) _ tt e in
    let r2 = then-rest (refuse errno.ENOENT when (not (is_there n path))) _ tt r1 in
    let r3 = then-rest (refuse errno.ENOTDIR when (is_file n path)) _ tt r2 in
    let r4 = then-rest (refuse errno.EBUSY when busy) _ tt r3 in
    let r5 = then-rest (refuse errno.ENOTEMPTY when (has_nodes n path)) _ tt r4 in
    let r6 = then-rest (refuse errno.ENOSPC when full) _ tt r5 in
    let r7 = then-rest (refuse errno.ENXIO when absent) _ tt r6 in
    let r8 = then-rest (refuse errno.EBUSY when (is_taken n asked source)) _ tt r7 in (
      refuse-passed errno.ENOSPC full (then-first (refuse errno.ENOSPC when full) _ tt r5),
      refuse-passed errno.ENOSPC (nat_lt (free_count n) (file_count (content_of n asked source))) r8,
    )

-- a mount that may stand has a number
mounts_left : (n : Namespace) (path : Path) (asked : FsType) (source : List ℕ) → mount_refusals n path asked source ≡ Ok tt → length n.mounts ≤ 14
mounts_left n path asked source e =
    let full : nat_le 16 (length (all_mounts n)) ≡ false = (all_passed n path asked source e).0 in
    grind (arith, nat_tests, full)

-- and its files have rows
rows_left : (n : Namespace) (path : Path) (asked : FsType) (source : List ℕ) → mount_refusals n path asked source ≡ Ok tt →
    file_count (content_of n asked source) ≤ free_count n
rows_left n path asked source e =
    let enough : nat_lt (free_count n) (file_count (content_of n asked source)) ≡ false = (all_passed n path asked source e).1 in
    grind (arith, nat_tests, enough)

-- a mount, where nothing refuses it
pub mount-sized : (n : Namespace) (path : Path) (asked : FsType) (source : List ℕ) → IsSized n → Holds Sized (mount_at n path asked source)
unfolding mount_at
mount-sized n path asked source s =
    let mount : Mount = record { number = least_free_mount n; point = path; fs = asked; source = source } in
    then-holds Sized (mount_refusals n path asked source) _ (λ h.
    mount_comes n mount s (mounts_left n path asked source h) refl (rows_left n path asked source h))
