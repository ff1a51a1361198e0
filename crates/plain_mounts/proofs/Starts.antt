-- How a mount begins, and what has passed its checks.
use Rattle.std.proofs.Common.{◌≡◌, ℕ, ◌≤◌, Bool, true, false, List, [], ◌∷◌, ◌++◌, length, refl, ap, sym, ◌∙◌, arith, slice_index_or, slice_set, nat_lt}
use Rattle.std.specs.Prelude.{nat_le, not, ◌&&◌, ◌||◌, Result, Ok, Err}
use Rattle.std.proofs.lemmas.Bool.Decides.{nat_tests}
use Rattle.std.proofs.lemmas.List.{set-set, set-get_or}
use Rattle.vfs_base.specs.Path.{Path}
use Rattle.vfs_base.specs.declared.errno.Errno.{Errno}
use Rattle.vfs_base.specs.declared.errno.Errno.TheVariants as errno
use Rattle.vfs_base.specs.declared.kinds.FsType.{FsType}
use Rattle.vfs_base.specs.declared.kinds.FsType.TheVariants as fs
use Rattle.vfs_base.specs.declared.limits.TheConstants.{MOUNTS}
use Rattle.vfs_model.specs.Chain.{◌>>◌, refuse◌when◌, refuse_by}
use Rattle.vfs_model.specs.Content.{content_of, file_count, same_type}
use Rattle.vfs_model.specs.Lookup.{has_folder_within, has_mount_below, has_nodes, is_file, is_point, is_there, walk_refusal, with_tree}
use Rattle.vfs_model.specs.MountStep.{is_taken, is_without_source, mount_refusals, without_kept}
use Rattle.vfs_model.specs.Namespace.{Tree, all_mounts, tree_of}
use Rattle.vfs_model.specs.declared.namespace.Mount.{Mount}
use Rattle.vfs_model.specs.declared.namespace.Namespace.{Namespace}
use Rattle.plain_mounts.specs.Mounting.{free_count, with_mount}

later_passed : (first : Result (Unit {0}) Errno) (later : Result (Unit {0}) Errno) → (first >> later) ≡ Ok tt → later ≡ Ok tt
later_passed (Ok passed) later e = e
later_passed (Err refused) later e = absurd (cc e)

first_passed : (errno : Errno) (test : Bool) (later : Result (Unit {0}) Errno) → (refuse errno when test >> later) ≡ Ok tt → test ≡ false
first_passed errno true later e = absurd (cc e)
first_passed errno false later e = refl

last_passed : (errno : Errno) (test : Bool) → (refuse errno when test) ≡ Ok tt → test ≡ false
last_passed errno true e = absurd (cc e)
last_passed errno false e = refl

both_passed : (r1 r2 r3 r4 r5 : Result (Unit {0}) Errno) (full : Bool) (r7 r8 : Result (Unit {0}) Errno) (few : Bool) →
    (r1 >> (r2 >> (r3 >> (r4 >> (r5 >> (refuse errno.ENOSPC when full >> (r7 >> (r8 >> refuse errno.ENOSPC when few)))))))) ≡ Ok tt →
    (full ≡ false) × (few ≡ false)
both_passed r1 r2 r3 r4 r5 full r7 r8 few e =
    let sixth : (refuse errno.ENOSPC when full >> (r7 >> (r8 >> refuse errno.ENOSPC when few))) ≡ Ok tt =
    later_passed r5 _ (later_passed r4 _ (later_passed r3 _ (later_passed r2 _ (later_passed r1 _ e)))) in
    let last : (refuse errno.ENOSPC when few) ≡ Ok tt =
    later_passed r8 _ (later_passed r7 _ (later_passed (refuse errno.ENOSPC when full) _ sixth)) in
    (first_passed errno.ENOSPC full (r7 >> (r8 >> refuse errno.ENOSPC when few)) sixth, last_passed errno.ENOSPC few last)

all_passed : (n : Namespace) (path : Path) (asked : FsType) (source : List ℕ) → mount_refusals n path asked source ≡ Ok tt →
    (nat_le MOUNTS (length (all_mounts n)) ≡ false) × (nat_lt (free_count n) (file_count (content_of n asked source)) ≡ false)
unfolding mount_refusals
all_passed n path asked source e =
    both_passed
    (refuse_by (walk_refusal n path))
    (refuse errno.ENOENT when (not (is_there n path)))
    (refuse errno.ENOTDIR when (is_file n path))
    (refuse errno.EBUSY when (is_point n path || has_mount_below n path || has_folder_within n path))
    (refuse errno.ENOTEMPTY when (has_nodes n path))
    (nat_le MOUNTS (length (all_mounts n)))
    (refuse errno.ENXIO when (is_without_source n asked source || (same_type asked fs.Cell && n.is_stopped)))
    (refuse errno.EBUSY when (is_taken n asked source))
    (nat_lt (free_count n) (file_count (content_of n asked source)))
    e

-- a mount that may stand has a number
pub mounts_left : (n : Namespace) (path : Path) (asked : FsType) (source : List ℕ) → mount_refusals n path asked source ≡ Ok tt → length n.mounts ≤ 14
mounts_left n path asked source e =
    let full : nat_le 16 (length (all_mounts n)) ≡ false = (all_passed n path asked source e).0 in
    grind (arith, nat_tests, full)

-- and its files have rows
pub rows_left : (n : Namespace) (path : Path) (asked : FsType) (source : List ℕ) → mount_refusals n path asked source ≡ Ok tt →
    file_count (content_of n asked source) ≤ free_count n
rows_left n path asked source e =
    let enough : nat_lt (free_count n) (file_count (content_of n asked source)) ≡ false = (all_passed n path asked source e).1 in
    grind (arith, nat_tests, enough)

beside_tree : (n : Namespace) (number : ℕ) (tree : Tree) (asked : FsType) (source : List ℕ) →
    without_kept (with_tree n number tree) asked source ≡ with_tree (without_kept n asked source) number tree
beside_tree n number tree fs.Tmp source = refl
beside_tree n number tree fs.Rom source = refl
beside_tree n number tree fs.Cell source = refl
beside_tree n number tree fs.Dev source = refl

-- the mount stands among the others, and its tree is out
pub begun_so : (n m : Namespace) (mount : Mount) → m ≡ without_kept (record (with_tree n mount.number []) { mounts = n.mounts ++ mount ∷ [] }) mount.fs mount.source →
    m ≡ with_tree (with_mount n mount) mount.number []
begun_so n m mount e = e ∙ beside_tree (record n { mounts = n.mounts ++ mount ∷ [] }) mount.number [] mount.fs mount.source

pub trees_of_mount : (n : Namespace) (asked : FsType) (source : List ℕ) → (without_kept n asked source).trees ≡ n.trees
trees_of_mount n fs.Tmp source = refl
trees_of_mount n fs.Rom source = refl
trees_of_mount n fs.Cell source = refl
trees_of_mount n fs.Dev source = refl

pub live_files_at_start : (n m : Namespace) (mount : Mount) → m ≡ with_tree (with_mount n mount) mount.number [] → m.live_files ≡ n.live_files
live_files_at_start n m mount e = ap (λ (k : Namespace). k.live_files) e ∙ same mount.fs
  where
    same : (asked : FsType) → (without_kept (record n { mounts = n.mounts ++ mount ∷ [] }) asked mount.source).live_files ≡ n.live_files
    same fs.Tmp = refl
    same fs.Rom = refl
    same fs.Cell = refl
    same fs.Dev = refl

pub generations_at_start : (n m : Namespace) (mount : Mount) → m ≡ with_tree (with_mount n mount) mount.number [] → m.generations ≡ n.generations
generations_at_start n m mount e = ap (λ (k : Namespace). k.generations) e ∙ same mount.fs
  where
    same : (asked : FsType) → (without_kept (record n { mounts = n.mounts ++ mount ∷ [] }) asked mount.source).generations ≡ n.generations
    same fs.Tmp = refl
    same fs.Rom = refl
    same fs.Cell = refl
    same fs.Dev = refl

-- with its tree back, the mount is as the definition has it
pub start_is : (n m : Namespace) (mount : Mount) (tree : Tree) → m ≡ with_tree (with_mount n mount) mount.number [] → tree ≡ tree_of n mount.number →
    with_tree m mount.number tree ≡ with_mount n mount
start_is n m mount tree m_is tree_is =
    let s : Namespace = with_mount n mount in
    let same : s.trees ≡ n.trees = trees_of_mount (record n { mounts = n.mounts ++ mount ∷ [] }) mount.fs mount.source in
    ap (λ (k : Namespace). with_tree k mount.number tree) m_is
    ∙ ap (λ (trees : List Tree). record s { trees = trees }) (set-set s.trees mount.number [] tree)
    ∙ ap (λ (here : Tree). record s { trees = slice_set s.trees mount.number here }) (tree_is ∙ ap (λ (trees : List Tree). slice_index_or trees mount.number []) (sym same))
    ∙ ap (λ (trees : List Tree). record s { trees = trees }) (set-get_or s.trees mount.number [])
