-- The steps on names keep what holds between steps.
use Rattle.std.proofs.Common.{◌≡◌, ◌≢◌, ℕ, ◌-◌, ◌≤◌, Bool, true, false, not, ◌==◌, Some, None, is_some, List, [], ◌∷◌, ◌++◌, length, ◌⊎◌, inl, inr, Result, Ok, Err, if◌then◌else◌, refl, sym, ap, subst, ◌∙◌, arith}
use Rattle.std.proofs.lemmas.Bool.{ltb-false}
use Rattle.std.proofs.lemmas.List.{append-nil, get_or_past}
use Rattle.std.specs.FinMap.Entries.{find as value_at}
use Rattle.std.specs.List.{list_any}
use Rattle.std.specs.Prelude.{nat_lt}
use Rattle.vfs_base.specs.Path.{Path, path_cmp, printed}
use Rattle.vfs_base.specs.declared.errno.Errno.{Errno}
use Rattle.vfs_base.specs.declared.errno.Errno.TheVariants as errno
use Rattle.vfs_base.specs.declared.ids.FileId.{FileId}
use Rattle.vfs_base.specs.declared.kinds.Kind.{Kind}
use Rattle.vfs_base.specs.declared.kinds.NodeKind.{NodeKind}
use Rattle.vfs_base.specs.declared.kinds.NodeKind.TheVariants as node
use Rattle.vfs_model.proofs.MovedLaws.{below-longer, none-below}
use Rattle.vfs_model.proofs.Trees.{same_path-itself, same_path-other}
use Rattle.vfs_model.specs.Chain.{refuse◌when◌, refuse_by}
use Rattle.vfs_model.specs.Consistency.{FoldersStand}
use Rattle.vfs_model.specs.Lookup.{asked_path, covering_mount, has_nodes, is_dir_node, is_file, is_folder, is_full, is_point, is_read_only, is_there, is_working_directory, node_at, node_in, or_errno, rest_of, walk_refusal, with_node}
use Rattle.vfs_model.specs.NameSteps.{after_loss, chdir_step, done, folder_refusals, home_step, list_step, mkdir_refusals, mkdir_step, rmdir_refusals, rmdir_step, stat_step, unlink_refusals, unlink_step, without_node}
use Rattle.vfs_model.specs.Namespace.{all_mounts, folder_of, same_path, with_folder_of}
use Rattle.vfs_model.specs.NormalPath.{TextFault, is_long_path, is_long_part, is_zero, normal_path, parts_of, place_of}
use Rattle.vfs_model.specs.declared.namespace.Namespace.{Namespace}
use Rattle.world_laws.proofs.parts.Covering.{covering-is, splits}
use Rattle.world_laws.proofs.steps.Keeping.{Kept, absent-none, bind-kept, live-row, lost-kept, names-kept, same-kept, then-kept, there-file, there-folder, wanted-kept}
use Rattle.world_laws.proofs.lists.Lists.{below-or-past, neither, no-place, place-any, true-or-false}
use Rattle.world_laws.proofs.parts.Nodes.{at-rest, folder-comes, number_at, tree_at}
use Rattle.world_laws.proofs.lists.Passing.{refuse-passed, refuse_by-passed, then-first, then-rest}
use Rattle.world_laws.proofs.parts.Referring.{folder-stands}
use Rattle.world_laws.proofs.parts.Removing.{MayGo, file-gone, folder-gone}
use Rattle.world_laws.proofs.parts.Standing.{Nothing, Stands}
use Rattle.world_laws.proofs.parts.TreeParts.{at-node}

pub stat-kept : (n : Namespace) (k : ℕ) (text : List ℕ) → Stands Nothing n → Kept n (stat_step n k text)
stat-kept n k text s =
    bind-kept n (asked_path n k text) _ (λ path e.
    then-kept n (refuse_by (walk_refusal n path)) _ (λ walk.
    wanted-kept n errno.ENOENT (node_at n path) _ (λ there h. same-kept n s)))

pub list-kept : (n : Namespace) (k : ℕ) (text : List ℕ) → Stands Nothing n → Kept n (list_step n k text)
list-kept n k text s = bind-kept n (asked_path n k text) _ (λ path e. then-kept n (folder_refusals n path) _ (λ h. same-kept n s))

abbrev path-or : Path → Result Path TextFault → Path
path-or p (Ok q) = q
path-or p (Err other) = p

-- the last of a row of tests, where the first ones failed
chosen : (a b c d e : Bool) (p path : Path) (t u v w x : TextFault) →
    (if a then Err t else if b then Err u else if c then Err v else if d then Err w else if e then Err x else Ok p) ≡ Ok path → (e ≡ false) × (p ≡ path)
chosen true b c d e p path t u v w x h = absurd (cc)
chosen false true c d e p path t u v w x h = absurd (cc)
chosen false false true d e p path t u v w x h = absurd (cc)
chosen false false false true e p path t u v w x h = absurd (cc)
chosen false false false false true p path t u v w x h = absurd (cc)
chosen false false false false false p path t u v w x h = (refl, ap (path-or p) h)

asked-normal : (found : Result Path TextFault) (path : Path) → or_errno found ≡ Ok path → found ≡ Ok path
asked-normal (Ok p) path h = ap (λ r. Ok (of r)) h
  where
    of : Result Path Errno → Path
    of (Ok q) = q
    of (Err other) = p
asked-normal (Err other) path h = absurd (cc)

-- a path that may be asked for is short
pub asked-short : (n : Namespace) (k : ℕ) (text : List ℕ) (path : Path) → asked_path n k text ≡ Ok path → length (printed path) ≤ 1024
asked-short n k text path h =
    let normal = asked-normal (normal_path (folder_of n k) text) path h in
    let last = chosen (length text == 0) (list_any is_zero text) (nat_lt 1024 (length text)) (list_any is_long_part (parts_of text)) (is_long_path (place_of (folder_of n k) text))
    (place_of (folder_of n k) text) path _ _ _ _ _ normal in
    subst (λ p. length (printed p) ≤ 1024) last.1 (ltb-false 1024 (length (printed (place_of (folder_of n k) text))) last.0)

folder-is : (n : Namespace) (path : Path) → folder_refusals n path ≡ Ok tt → node_at n path ≡ Some node.Dir
unfolding folder_refusals
folder-is n path h =
    let r = then-rest (refuse_by (walk_refusal n path)) _ tt h in
    there-folder (node_at n path) (refuse-passed errno.ENOENT (not (is_there n path)) (then-first (refuse errno.ENOENT when (not (is_there n path))) _ tt r))
    (refuse-passed errno.ENOTDIR (is_file n path) (then-rest (refuse errno.ENOENT when (not (is_there n path))) _ tt r))

pub chdir-kept : (n : Namespace) (k : ℕ) (text : List ℕ) → Stands Nothing n → Kept n (chdir_step n k text)
chdir-kept n k text s =
    bind-kept n (asked_path n k text) _ (λ path e.
    then-kept n (folder_refusals n path) _ (λ h.
    names-kept n (with_folder_of n k path) (folder-stands Nothing n k path (ap is_dir_node (folder-is n path h)) (asked-short n k text path e) s) (refl, refl, refl, refl)))

pub root-folder : (n : Namespace) → FoldersStand n → node_at n [] ≡ Some node.Dir
root-folder n f =
    let empty : rest_of n [] ≡ [] = no-rest (covering_mount n []).point (splits n [] f) in
    at-rest n [] ∙ ap (node_in (tree_at n [])) empty
  where
    no-rest : (point : Path) {rest : Path} → [] ≡ point ++ rest → rest ≡ []
    no-rest [] e = sym e
    no-rest (name ∷ point) e = absurd (cc)

pub home-kept : (n : Namespace) (k : ℕ) → Stands Nothing n → Kept n (home_step n k)
home-kept n k s = names-kept n (with_folder_of n k []) (folder-stands Nothing n k [] (ap is_dir_node (root-folder n s.working_directories)) (omega arith) s) (refl, refl, refl, refl)

pub mkdir-kept : (n : Namespace) (k : ℕ) (text : List ℕ) → Stands Nothing n → Kept n (mkdir_step n k text)
unfolding mkdir_refusals with_node
mkdir-kept n k text s =
    bind-kept n (asked_path n k text) _ (λ path e.
    then-kept n (mkdir_refusals n path) _ (λ h.
    let walk = refuse_by-passed (walk_refusal n path) (then-first (refuse_by (walk_refusal n path)) _ tt h) in
    let r = then-rest (refuse_by (walk_refusal n path)) _ tt h in
    let absent = refuse-passed errno.EEXIST (is_there n path) (then-first (refuse errno.EEXIST when (is_there n path)) _ tt r) in
    let r2 = then-rest (refuse errno.EEXIST when (is_there n path)) _ tt r in
    let room = refuse-passed errno.ENOSPC (is_full n path) (then-rest (refuse errno.EROFS when (is_read_only n path)) _ tt r2) in
    names-kept n (with_node n path node.Dir) (folder-comes n path s walk (absent-none (node_at n path) absent) room) (refl, refl, refl, refl)))

-- a path that is no point lies below its mount's point
pub below-point : (n : Namespace) (p : Path) → FoldersStand n → is_point n p ≡ false → rest_of n p ≢ []
below-point n p f unpointed e =
    let m = covering-is n p f in
    let same : p ≡ (covering_mount n p).point = splits n p f ∙ ap (λ r. (covering_mount n p).point ++ r) e ∙ append-nil (covering_mount n p).point in
    let yes : is_point n p ≡ true =
    place-any (λ mount. same_path mount.point p) (all_mounts n) m.place (covering_mount n p) m.within
    (ap (λ x. same_path x.point p) m.is ∙ ap (λ x. same_path x p) (sym same) ∙ same_path-itself p) in
    absurd (cc)

-- a path that is no session's working directory, where `/` isn't the path
pub no-folder : (n : Namespace) (p : Path) → p ≢ [] → is_working_directory n p ≡ false → (k : ℕ) → folder_of n k ≢ p
no-folder n p h free k e = elim (below-or-past (k - 1) (length n.working_directories)) [
  | inl l ↦
      let none : same_path p (folder_of n k) ≡ false = no-place (same_path p) n.working_directories (k - 1) [] free l in
      let same : same_path p (folder_of n k) ≡ true = ap (same_path p) e ∙ same_path-itself p in
      absurd (cc)
  | inr l ↦ h (sym e ∙ get_or_past n.working_directories (k - 1) [] l)
]

pub not-root : (n : Namespace) (p : Path) → FoldersStand n → is_point n p ≡ false → p ≢ []
not-root n p f unpointed e =
    let yes : is_point n p ≡ true = ap (is_point n) e ∙ place-any (λ mount. same_path mount.point []) (all_mounts n) 0 n.root (omega arith) (ap (λ x. same_path x []) f.root.0) in
    absurd (cc)

-- the node in the mount's tree
pub node-there : (n : Namespace) (p : Path) (found : NodeKind) → rest_of n p ≢ [] → node_at n p ≡ Some found → value_at path_cmp (rest_of n p) (tree_at n p) ≡ Some found
node-there n p found h e = sym (at-node (tree_at n p) (rest_of n p) h) ∙ sym (at-rest n p) ∙ e

pub rmdir-kept : (n : Namespace) (k : ℕ) (text : List ℕ) → Stands Nothing n → Kept n (rmdir_step n k text)
unfolding rmdir_refusals without_node
rmdir-kept n k text s =
    bind-kept n (asked_path n k text) _ (λ path e.
    then-kept n (rmdir_refusals n path) _ (λ h.
    let unpointed = refuse-passed errno.EBUSY (is_point n path) (then-first (refuse errno.EBUSY when (is_point n path)) _ tt h) in
    let r1 = then-rest (refuse errno.EBUSY when (is_point n path)) _ tt h in
    let r2 = then-rest (refuse_by (walk_refusal n path)) _ tt r1 in
    let present = refuse-passed errno.ENOENT (not (is_there n path)) (then-first (refuse errno.ENOENT when (not (is_there n path))) _ tt r2) in
    let r3 = then-rest (refuse errno.ENOENT when (not (is_there n path))) _ tt r2 in
    let folder = refuse-passed errno.ENOTDIR (is_file n path) (then-first (refuse errno.ENOTDIR when (is_file n path)) _ tt r3) in
    let r4 = then-rest (refuse errno.ENOTDIR when (is_file n path)) _ tt r3 in
    let r5 = then-rest (refuse errno.EROFS when (is_read_only n path)) _ tt r4 in
    let bare = refuse-passed errno.ENOTEMPTY (has_nodes n path) (then-first (refuse errno.ENOTEMPTY when (has_nodes n path)) _ tt r5) in
    let free = refuse-passed errno.EBUSY (is_working_directory n path) (then-rest (refuse errno.ENOTEMPTY when (has_nodes n path)) _ tt r5) in
    let below = below-point n path s.working_directories unpointed in
    let may : MayGo n path = record {
      below = below;
      childless = λ name. none-below (rest_of n path) (rest_of n path ++ name ∷ []) (tree_at n path) bare (below-longer (rest_of n path) name []);
      working_directories = no-folder n path (not-root n path s.working_directories unpointed) free;
    } in
    names-kept n (without_node n path) (folder-gone n path s may (node-there n path node.Dir below (there-folder (node_at n path) present folder))) (refl, refl, refl, refl)))

-- a file has no children
pub file-childless : (n : Namespace) (p : Path) (id : FileId) (kind : Kind) → Stands Nothing n → rest_of n p ≢ [] → value_at path_cmp (rest_of n p) (tree_at n p) ≡ Some (node.File id kind) →
    (name : List ℕ) → value_at path_cmp (rest_of n p ++ name ∷ []) (tree_at n p) ≡ None
file-childless n p id kind s h there name = absent-none _ (not-some (true-or-false (is_some (value_at path_cmp (rest_of n p ++ name ∷ []) (tree_at n p)))))
  where
    not-some : (is_some (value_at path_cmp (rest_of n p ++ name ∷ []) (tree_at n p)) ≡ true) ⊎ (is_some (value_at path_cmp (rest_of n p ++ name ∷ []) (tree_at n p)) ≡ false) →
        is_some (value_at path_cmp (rest_of n p ++ name ∷ []) (tree_at n p)) ≡ false
    not-some (inr x) = x
    not-some (inl x) =
        let parent = (s.trees (number_at n p)).parents (rest_of n p) name x in
        let file : is_dir_node (value_at path_cmp (rest_of n p) (tree_at n p)) ≡ false = ap is_dir_node there in
        let root : same_path (rest_of n p) [] ≡ false = same_path-other (rest_of n p) [] h in
        let none = neither (is_dir_node (value_at path_cmp (rest_of n p) (tree_at n p))) (same_path (rest_of n p) []) file root in
        absurd (cc)

-- a file stands below its mount's point
pub file-below : (n : Namespace) (p : Path) (id : FileId) (kind : Kind) → node_at n p ≡ Some (node.File id kind) → rest_of n p ≢ []
file-below n p id kind h e = let dir : node_at n p ≡ Some node.Dir = at-rest n p ∙ ap (node_in (tree_at n p)) e in absurd (cc)

pub unlink-kept : (n : Namespace) (k : ℕ) (text : List ℕ) → Stands Nothing n → Kept n (unlink_step n k text)
unfolding unlink_refusals without_node
unlink-kept n k text s =
    bind-kept n (asked_path n k text) _ (λ path e.
    then-kept n (unlink_refusals n path) _ (λ h.
    let r1 = then-rest (refuse_by (walk_refusal n path)) _ tt h in
    let present = refuse-passed errno.ENOENT (not (is_there n path)) (then-first (refuse errno.ENOENT when (not (is_there n path))) _ tt r1) in
    let r2 = then-rest (refuse errno.ENOENT when (not (is_there n path))) _ tt r1 in
    let file = refuse-passed errno.EPERM (is_folder n path) (then-first (refuse errno.EPERM when (is_folder n path)) _ tt r2) in
    let found = there-file (node_at n path) present file in
    gone path found.0 found.1 found.2))
  where
    gone : (path : Path) (id : FileId) (kind : Kind) → node_at n path ≡ Some (node.File id kind) → Kept n (done (after_loss (without_node n path) (node_at n path)))
    gone path id kind there =
        let below = file-below n path id kind there in
        let at = node-there n path (node.File id kind) below there in
        let may : MayGo n path = record {
          below = below;
          childless = file-childless n path id kind s below at;
          working_directories = λ j same. let folder = s.working_directories.working_directories j in let none : is_folder n (folder_of n j) ≡ false = ap (is_folder n) same ∙ ap is_dir_node there in absurd (cc);
        } in
        let row = live-row n id kind (number_at n path) s.sizes.live_files (s.live.linked (number_at n path) (rest_of n path) id kind at) in
        subst (λ found. Kept n (done (after_loss (without_node n path) found))) (sym there)
        (lost-kept n (without_node n path) id.row row.0 row.1 (file-gone n path s may id kind at) (refl, refl, refl, refl))
