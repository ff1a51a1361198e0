-- Renaming keeps what holds between steps.
use Rattle.std.proofs.Common.{◌≡◌, ◌≢◌, ℕ, ◌-◌, ◌<◌, Bool, true, false, not, ◌||◌, ◌&&◌, ◌==◌, Option, Some, None, is_some, List, [], ◌∷◌, ◌++◌, length, drop, slice_index_or, ◌⊎◌, inl, inr, Ok, if◌then◌else◌, refl, sym, ap, subst, ◌∙◌, arith, append_assoc}
use Rattle.std.proofs.lemmas.List.{append-nil, get_or_past}
use Rattle.std.proofs.lemmas.Bool.{ltb-true}
use Rattle.std.specs.Prelude.{nat_lt}
use Rattle.std.specs.FinMap.Entries.{find as value_at}
use Rattle.std.specs.List.{list_any}
use Rattle.vfs_base.specs.Path.{Path, path_cmp}
use Rattle.vfs_base.specs.declared.errno.Errno.TheVariants as errno
use Rattle.vfs_base.specs.declared.kinds.NodeKind.{NodeKind}
use Rattle.vfs_base.specs.declared.kinds.NodeKind.TheVariants as node
use Rattle.vfs_base.specs.declared.reply.Reply.TheVariants as reply
use Rattle.vfs_model.proofs.MountsApart.{standing-apart}
use Rattle.vfs_model.proofs.RenameLaws.{covering-below, rest-below}
use Rattle.vfs_model.specs.NamespaceOutcome.{answers}
use Rattle.vfs_model.proofs.MovedLaws.{below-longer, none-below}
use Rattle.vfs_model.proofs.Trees.{prefix-splits, same_path-is, same_path-itself}
use Rattle.vfs_model.specs.Chain.{refuse◌when◌, refuse_by}
use Rattle.vfs_model.specs.Consistency.{IsClosedTree}
use Rattle.vfs_model.specs.Laws.{HasNoPoint}
use Rattle.vfs_model.specs.Lookup.{asked_path, covering_mount, has_folder_within, has_mount_below, has_nodes, is_below, is_dir_node, is_file, is_folder, is_point, is_prefix, is_there, is_working_directory, node_at, node_in, rest_of, walk_refusal}
use Rattle.vfs_model.specs.NameSteps.{after_loss, done}
use Rattle.vfs_model.specs.Namespace.{Tree, all_mounts, folder_of, same_path, tree_of}
use Rattle.vfs_model.specs.RenameStep.{move_at, move_refusals, rename_at, rename_refusals, rename_step, with_moved}
use Rattle.vfs_model.specs.declared.namespace.Namespace.{Namespace}
use Rattle.world_laws.proofs.parts.Clear.{below-prefix, clear-of-points}
use Rattle.world_laws.proofs.parts.Covering.{prefix-append-both, prefix-length, same-prefix, splits}
use Rattle.world_laws.proofs.steps.Keeping.{Kept, bind-kept, live-row, lost-kept, names-kept, same-kept, then-kept}
use Rattle.world_laws.proofs.lists.Lists.{AnyKey, AnyPlace, any-key, any-place, below-or-past, no-place, nor-first, nor-second, or-either, same-number, true-or-false}
use Rattle.world_laws.proofs.steps.NameKeeping.{below-point, no-folder, not-root}
use Rattle.world_laws.proofs.parts.Nodes.{at-rest, number_at, parent-dir, prefix-itself, tree_at}
use Rattle.world_laws.proofs.lists.Passing.{and-first, and-second, refuse-passed, refuse_by-passed, then-first, then-rest}
use Rattle.world_laws.proofs.steps.Renaming.{MayRename, moves-stands, replaces-stands}
use Rattle.world_laws.proofs.parts.Standing.{Nothing, Stands}
use Rattle.world_laws.proofs.parts.TreeParts.{at-node, named, not-empty}

-- what stands above something in a closed tree is a folder
one-up : (tree : Tree) → IsClosedTree is_dir_node tree → (front : Path) (name : List ℕ) → front ≢ [] → is_some (value_at path_cmp (front ++ name ∷ []) tree) ≡ true →
    is_dir_node (value_at path_cmp front tree) ≡ true
one-up tree closed front name h there = dir (closed.parents front name there)
  where
    dir : (is_dir_node (value_at path_cmp front tree) || same_path front []) ≡ true → is_dir_node (value_at path_cmp front tree) ≡ true
    dir k = elim (or-either (is_dir_node (value_at path_cmp front tree)) (same_path front []) k) [
      | inl x ↦ x
      | inr x ↦ absurd (h (same_path-is front [] x))
    ]

dir-some : (found : Option NodeKind) → is_dir_node found ≡ true → is_some found ≡ true
dir-some None k = absurd (cc)
dir-some (Some found) k = refl

up-dir : (tree : Tree) → IsClosedTree is_dir_node tree → (names front : Path) (name : List ℕ) → front ≢ [] → is_some (value_at path_cmp (front ++ name ∷ names) tree) ≡ true →
    is_dir_node (value_at path_cmp front tree) ≡ true
up-dir tree closed [] front name h there = one-up tree closed front name h there
up-dir tree closed (next ∷ names) front name h there =
    let later = up-dir tree closed names (front ++ name ∷ []) next (not-empty front name) (ap (λ p. is_some (value_at path_cmp p tree)) (append_assoc front (name ∷ []) (next ∷ names)) ∙ there) in
    one-up tree closed front name h (dir-some (value_at path_cmp (front ++ name ∷ []) tree) later)

-- nothing lies below a path of a tree that is no folder
pub bare-unless-folder : (tree : Tree) (rest : Path) → IsClosedTree is_dir_node tree → rest ≢ [] → is_dir_node (value_at path_cmp rest tree) ≡ false →
    list_any (λ entry. is_below rest entry.0) tree ≡ false
bare-unless-folder tree rest closed h file = elim (true-or-false (list_any (λ entry. is_below rest entry.0) tree)) [
  | inr k ↦ k
  | inl k ↦ absurd (found (any-key (is_below rest) tree closed.sorted k))
]
  where
    behind : (path left : Path) (found : NodeKind) → value_at path_cmp path tree ≡ Some found → path ≡ rest ++ left → length rest < length path → ⊥
    behind path [] found there split l = let same = ap (λ x. length x) (split ∙ append-nil rest) in omega (arith, same, l)
    behind path (name ∷ names) found there split l =
        let dir = up-dir tree closed names rest name h (ap is_some (sym (ap (λ x. value_at path_cmp x tree) split) ∙ there)) in absurd (cc)

    found : AnyKey (is_below rest) tree → ⊥
    found at =
        let prefix = and-first (is_prefix rest at.path) (nat_lt (length rest) (length at.path)) at.holds in
        let longer = ltb-true (length rest) (length at.path) (and-second (is_prefix rest at.path) (nat_lt (length rest) (length at.path)) at.holds) in
        behind at.path (drop (length rest) at.path) at.node at.there (prefix-splits rest at.path prefix) longer

-- a path of which a folder is asked is the path or below it
pub within-or-not : (n : Namespace) (p : Path) (k : ℕ) → p ≢ [] → has_folder_within n p ≡ false → is_prefix p (folder_of n k) ≡ false
within-or-not n p k h free = elim (below-or-past (k - 1) (length n.working_directories)) [
  | inl l ↦ no-place (is_prefix p) n.working_directories (k - 1) [] free l
  | inr l ↦ ap (is_prefix p) (get_or_past n.working_directories (k - 1) [] l) ∙ long p h
]
  where
    long : (p : Path) → p ≢ [] → is_prefix p [] ≡ false
    long [] h = absurd (h refl)
    long (x ∷ p) h = refl

-- what is refused of a rename and of a move, read back
pub record Passed (n : Namespace) (old new : Path) : Type 0 where
  pub unpointed : (is_point n old ≡ false) × (is_point n new ≡ false)
  pub walks : (walk_refusal n old ≡ None) × (walk_refusal n new ≡ None)
  pub there : not (is_there n old) ≡ false
  pub one : number_at n old ≡ number_at n new
  pub differ : same_path old new ≡ false
  pub apart : is_below old new ≡ false
  pub no_folder_on_file : (is_folder n old && is_file n new) ≡ false
  pub no_file_on_folder : (is_file n old && is_folder n new) ≡ false
  pub bare : (is_folder n new && has_nodes n new) ≡ false
  pub free : (is_folder n old && has_folder_within n old) ≡ false
  pub plain : (is_folder n old && has_mount_below n old) ≡ false
  pub unused : is_working_directory n new ≡ false

pub passed : (n : Namespace) (old new : Path) → rename_refusals n old new ≡ Ok tt → same_path old new ≡ false → move_refusals n old new ≡ Ok tt → Passed n old new
unfolding rename_refusals move_refusals
passed n old new h differ k =
    let points = refuse-passed errno.EBUSY (is_point n old || is_point n new) (then-first (refuse errno.EBUSY when (is_point n old || is_point n new)) _ tt h) in
    let r1 = then-rest (refuse errno.EBUSY when (is_point n old || is_point n new)) _ tt h in
    let r2 = then-rest (refuse_by (walk_refusal n old)) _ tt r1 in
    let r3 = then-rest (refuse errno.ENOENT when (not (is_there n old))) _ tt r2 in
    let r4 = then-rest (refuse_by (walk_refusal n new)) _ tt r3 in
    let across = not ((covering_mount n old).number == (covering_mount n new).number) in
    let one = refuse-passed errno.EXDEV across (then-first (refuse errno.EXDEV when across) _ tt r4) in
    let m1 = then-rest (refuse errno.EINVAL when (is_below old new)) _ tt k in
    let m2 = then-rest (refuse errno.ENOTDIR when (is_folder n old && is_file n new)) _ tt m1 in
    let m3 = then-rest (refuse errno.EISDIR when (is_file n old && is_folder n new)) _ tt m2 in
    let m4 = then-rest (refuse errno.ENOTEMPTY when (is_folder n new && has_nodes n new)) _ tt m3 in
    let m5 = then-rest (refuse errno.EBUSY when (is_folder n old && has_folder_within n old)) _ tt m4 in
    record {
      unpointed = (nor-first (is_point n old) (is_point n new) points, nor-second (is_point n old) (is_point n new) points);
      walks = (refuse_by-passed (walk_refusal n old) (then-first (refuse_by (walk_refusal n old)) _ tt r1), refuse_by-passed (walk_refusal n new) (then-first (refuse_by (walk_refusal n new)) _ tt r3));
      there = refuse-passed errno.ENOENT (not (is_there n old)) (then-first (refuse errno.ENOENT when (not (is_there n old))) _ tt r2);
      one = same-number (number_at n old) (number_at n new) (not-false (number_at n old == number_at n new) one);
      differ = differ;
      apart = refuse-passed errno.EINVAL (is_below old new) (then-first (refuse errno.EINVAL when (is_below old new)) _ tt k);
      no_folder_on_file = refuse-passed errno.ENOTDIR (is_folder n old && is_file n new) (then-first (refuse errno.ENOTDIR when (is_folder n old && is_file n new)) _ tt m1);
      no_file_on_folder = refuse-passed errno.EISDIR (is_file n old && is_folder n new) (then-first (refuse errno.EISDIR when (is_file n old && is_folder n new)) _ tt m2);
      bare = refuse-passed errno.ENOTEMPTY (is_folder n new && has_nodes n new) (then-first (refuse errno.ENOTEMPTY when (is_folder n new && has_nodes n new)) _ tt m3);
      free = refuse-passed errno.EBUSY (is_folder n old && has_folder_within n old) (then-first (refuse errno.EBUSY when (is_folder n old && has_folder_within n old)) _ tt m4);
      plain = refuse-passed errno.EBUSY (is_folder n old && has_mount_below n old) (then-first (refuse errno.EBUSY when (is_folder n old && has_mount_below n old)) _ tt m5);
      unused = refuse-passed errno.EBUSY (is_working_directory n new) (then-rest (refuse errno.EBUSY when (is_folder n old && has_mount_below n old)) _ tt m5);
    }
  where
    not-false : (b : Bool) → not b ≡ false → b ≡ true
    not-false true h = refl
    not-false false h = absurd (cc)

second-of : (a b : Bool) → a ≡ true → (a && b) ≡ false → b ≡ false
second-of true b e h = h
second-of false b e h = absurd (cc)

-- a folder of which nothing is mounted below has no point at or below it
pub plain-folder : (n : Namespace) (p : Path) → is_point n p ≡ false → has_mount_below n p ≡ false → HasNoPoint n p
unfolding has_mount_below
plain-folder n p unpointed free = elim (true-or-false (list_any (λ mount. is_prefix p mount.point) (all_mounts n))) [
  | inr h ↦ h
  | inl h ↦ absurd (somewhere (any-place (λ mount. is_prefix p mount.point) (all_mounts n) n.root h))
]
  where
    somewhere : AnyPlace (λ mount. is_prefix p mount.point) (all_mounts n) n.root → ⊥
    somewhere found =
        let point = (slice_index_or (all_mounts n) found.place n.root).point in
        let none : is_below p point ≡ false = no-place (λ mount. is_below p mount.point) (all_mounts n) found.place n.root free found.within in
        let other : same_path point p ≡ false = no-place (λ mount. same_path mount.point p) (all_mounts n) found.place n.root unpointed found.within in
        let longer = prefix-length p point found.holds in
        let differ : length p ≢ length point = λ e.
        let same : same_path point p ≡ true = ap (λ x. same_path x p) (sym (same-prefix p point point found.holds (prefix-itself point) e)) ∙ same_path-itself p in absurd (cc) in
        let below = below-prefix p point found.holds (omega (arith, longer, differ)) in
        absurd (cc)

-- no session's working directory is a path, or lies below it, that has nothing below it
folder-apart : (n : Namespace) (p : Path) (k : ℕ) → Stands Nothing n → HasNoPoint n p → has_nodes n p ≡ false → rest_of n p ≢ [] → folder_of n k ≢ p → is_prefix p (folder_of n k) ≡ false
folder-apart n p k s clear bare some other = elim (true-or-false (is_prefix p (folder_of n k))) [
  | inr h ↦ h
  | inl h ↦ absurd (below (drop (length p) (folder_of n k)) (prefix-splits p (folder_of n k) h))
]
  where
    front-some : (a b : Path) → a ≢ [] → a ++ b ≢ []
    front-some [] b h e = h refl
    front-some (x ∷ a) b h e = absurd (cc)

    below : (left : Path) → folder_of n k ≡ p ++ left → ⊥
    below [] e = other (e ∙ append-nil p)
    below (name ∷ names) e =
        let q = p ++ name ∷ names in
        let folder : is_folder n q ≡ true = sym (ap (is_folder n) e) ∙ s.working_directories.working_directories k in
        let mount : covering_mount n q ≡ covering_mount n p = covering-below n p (name ∷ names) clear in
        let rest : rest_of n q ≡ rest_of n p ++ name ∷ names = rest-below n p (name ∷ names) (standing-apart n s.working_directories) clear in
        let at : node_at n q ≡ node_in (tree_at n p) (rest_of n p ++ name ∷ names) = at-rest n q ∙ ap (λ m. node_in (tree_of n m.number) (rest_of n q)) mount ∙ ap (node_in (tree_at n p)) rest in
        let there : node_in (tree_at n p) (rest_of n p ++ name ∷ names) ≡ value_at path_cmp (rest_of n p ++ name ∷ names) (tree_at n p) = at-node (tree_at n p) (rest_of n p ++ name ∷ names) (front-some (rest_of n p) (name ∷ names) some) in
        let none : value_at path_cmp (rest_of n p ++ name ∷ names) (tree_at n p) ≡ None = none-below (rest_of n p) (rest_of n p ++ name ∷ names) (tree_at n p) bare (below-longer (rest_of n p) name names) in
        let no_folder : is_folder n q ≡ false = ap is_dir_node (at ∙ there ∙ none) in
        absurd (cc)

-- what stands at a path is a folder, or nothing lies below it
folder-or-bare : (n : Namespace) (p : Path) → Stands Nothing n → rest_of n p ≢ [] → (is_folder n p ≡ true) ⊎ ((is_folder n p ≡ false) × (has_nodes n p ≡ false))
folder-or-bare n p s some = elim (true-or-false (is_folder n p)) [
  | inl h ↦ inl h
  | inr h ↦ inr (h, bare-unless-folder (tree_at n p) (rest_of n p) (s.trees (number_at n p)) some (ap is_dir_node (sym (at-node (tree_at n p) (rest_of n p) some) ∙ sym (at-rest n p)) ∙ h))
]

module _ (n : Namespace) (old new : Path) (s : Stands Nothing n) (p : Passed n old new) where
  some-old : rest_of n old ≢ []
  some-old = below-point n old s.working_directories p.unpointed.0

  some-new : rest_of n new ≢ []
  some-new = below-point n new s.working_directories p.unpointed.1

  empty : has_nodes n new ≡ false
  empty = elim (folder-or-bare n new s some-new) [
    | inl h ↦ second-of (is_folder n new) (has_nodes n new) h p.bare
    | inr h ↦ h.1
  ]

  clear : HasNoPoint n new
  clear = clear-of-points n new s.working_directories p.unpointed.1 empty

  plain : HasNoPoint n old
  plain = elim (folder-or-bare n old s some-old) [
    | inl h ↦ plain-folder n old p.unpointed.0 (second-of (is_folder n old) (has_mount_below n old) h p.plain)
    | inr h ↦ clear-of-points n old s.working_directories p.unpointed.0 h.1
  ]

  old-working_directories : (k : ℕ) → is_prefix old (folder_of n k) ≡ false
  old-working_directories k = elim (folder-or-bare n old s some-old) [
    | inl h ↦ within-or-not n old k (not-root n old s.working_directories p.unpointed.0) (second-of (is_folder n old) (has_folder_within n old) h p.free)
    | inr h ↦ folder-apart n old k s plain h.1 some-old (λ e. let folder = s.working_directories.working_directories k in let none = ap (is_folder n) e ∙ h.0 in absurd (cc))
  ]

  not-within : is_prefix old new ≡ true → ⊥
  not-within h =
      let longer = prefix-length old new h in
      let differ : length old ≢ length new = λ e. let same = ap (same_path old) (sym (same-prefix old new new h (prefix-itself new) e)) ∙ same_path-itself old in let no = p.differ in absurd (cc) in
      let below = below-prefix old new h (omega (arith, longer, differ)) in
      let none = p.apart in
      absurd (cc)

  same-point : (covering_mount n old).point ≡ (covering_mount n new).point
  same-point = (standing-apart n s.working_directories).own old new p.one

  rests-apart : is_prefix (rest_of n old) (rest_of n new) ≡ false
  rests-apart = elim (true-or-false (is_prefix (rest_of n old) (rest_of n new))) [
    | inr h ↦ h
    | inl h ↦
        let point = (covering_mount n new).point in
        let both : is_prefix (point ++ rest_of n old) (point ++ rest_of n new) ≡ true = prefix-append-both point (rest_of n old) (rest_of n new) h in
        let one : point ++ rest_of n old ≡ old = ap (λ x. x ++ rest_of n old) (sym same-point) ∙ sym (splits n old s.working_directories) in
        let other : point ++ rest_of n new ≡ new = sym (splits n new s.working_directories) in
        absurd (not-within (subst (λ x. is_prefix x new ≡ true) one (subst (λ x. is_prefix (point ++ rest_of n old) x ≡ true) other both)))
  ]

  same-tree : tree_at n new ≡ tree_at n old
  same-tree = ap (tree_of n) (sym p.one)

  may : MayRename n old new
  may =
      let name = named (rest_of n new) some-new in
      record {
        one = p.one;
        move = record {
          closed = s.trees (number_at n old);
          from = some-old;
          name = name;
          parent = sym (ap (λ t. is_dir_node (node_in t name.front)) same-tree) ∙ parent-dir n new s.working_directories p.walks.1 name;
          clear = sym (ap (λ t. list_any (λ entry. is_below (rest_of n new) entry.0) t) same-tree) ∙ empty;
          apart = rests-apart;
          there = ap is_some (sym (at-node (tree_at n old) (rest_of n old) some-old) ∙ sym (at-rest n old)) ∙ not-false (is_there n old) p.there;
        };
        plain = plain;
        clear = clear;
        empty = empty;
        working_directories = λ k. (old-working_directories k, folder-apart n new k s clear empty some-new (no-folder n new (not-root n new s.working_directories p.unpointed.1) p.unused k));
      }
    where
      not-false : (b : Bool) → not b ≡ false → b ≡ true
      not-false true h = refl
      not-false false h = absurd (cc)

  at-new-path : (found : Option NodeKind) → node_at n new ≡ found → value_at path_cmp (rest_of n new) (tree_at n old) ≡ found
  at-new-path found e = sym (ap (value_at path_cmp (rest_of n new)) same-tree) ∙ sym (at-node (tree_at n new) (rest_of n new) some-new) ∙ sym (at-rest n new) ∙ e

  -- the move, by what stands at new
  moved-kept : (found : Option NodeKind) → node_at n new ≡ found → Kept n (done (after_loss (with_moved n old new) found))
  unfolding with_moved
  moved-kept None e = names-kept n (with_moved n old new) (moves-stands n old new s may (λ id kind h. let none = at-new-path None e in absurd (cc))) (refl, refl, refl, refl)
  moved-kept (Some node.Dir) e = names-kept n (with_moved n old new) (moves-stands n old new s may (λ id kind h. let dir = at-new-path (Some node.Dir) e in absurd (cc))) (refl, refl, refl, refl)
  moved-kept (Some (node.File id kind)) e =
      let there = at-new-path (Some (node.File id kind)) e in
      let row = live-row n id kind (number_at n old) s.sizes.live_files (s.live.linked (number_at n old) (rest_of n new) id kind there) in
      lost-kept n (with_moved n old new) id.row row.0 row.1 (replaces-stands n old new s may id kind there) (refl, refl, refl, refl)

either-kept : (n : Namespace) (old new : Path) (b : Bool) → same_path old new ≡ b → Stands Nothing n → rename_refusals n old new ≡ Ok tt →
    Kept n (if b then answers reply.Done n [] else move_at n old new)
unfolding move_at
either-kept n old new true e s h = same-kept n s
either-kept n old new false e s h = then-kept n (move_refusals n old new) _ (λ k. moved-kept n old new s (passed n old new h e k) (node_at n new) refl)

pub rename-kept : (n : Namespace) (k : ℕ) (old_text new_text : List ℕ) → Stands Nothing n → Kept n (rename_step n k old_text new_text)
unfolding rename_at
rename-kept n k old_text new_text s =
    bind-kept n (asked_path n k old_text) _ (λ old e.
    bind-kept n (asked_path n k new_text) _ (λ new f.
    then-kept n (rename_refusals n old new) _ (λ h. either-kept n old new (same_path old new) refl s h)))
