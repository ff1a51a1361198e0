-- Mounting keeps what holds between steps.
use Rattle.std.proofs.Common.{◌≡◌, ◌≢◌, ℕ, suc, ◌-◌, ◌<◌, ◌≤◌, Bool, true, false, not, ◌||◌, ◌&&◌, ◌==◌, Option, Some, None, is_some, List, [], ◌∷◌, ◌++◌, length, drop, map, fold, find, slice_index_or, slice_set, ◌⊎◌, inl, inr, if◌then◌else◌, Ok, refl, sym, ap, subst, ◌∙◌, arith}
use Rattle.std.proofs.Math.Seq.{drop-append_seam}
use Rattle.std.proofs.lemmas.Bool.{ltb-false, leb-false}
use Rattle.std.proofs.lemmas.List.{set-get_or}
use Rattle.std.proofs.lemmas.List.FromFn.{get_or-range_with_len}
use Rattle.std.proofs.lemmas.List.Sums.{fails_before_first, passes_at_first}
use Rattle.std.proofs.lemmas.Map.Steps.{le-length_from_below}
use Rattle.std.specs.FinMap.Entries.{find as value_at}
use Rattle.std.specs.List.{list_any, range_with_len}
use Rattle.std.specs.Prelude.{nat_le, nat_lt, nat_eq}
use Rattle.vfs_base.specs.Path.{Path, path_cmp}
use Rattle.vfs_base.specs.declared.errno.Errno.TheVariants as errno
use Rattle.vfs_base.specs.declared.kinds.FsType.{FsType}
use Rattle.vfs_base.specs.declared.kinds.FsType.TheVariants as fs
use Rattle.vfs_base.specs.declared.kinds.NodeKind.{NodeKind}
use Rattle.vfs_base.specs.declared.kinds.NodeKind.TheVariants as node
use Rattle.vfs_model.proofs.MountLaws.{mounted-below}
use Rattle.vfs_model.proofs.MovedLaws.{prefix-append}
use Rattle.vfs_model.proofs.NodeLaws.{other_mount}
use Rattle.vfs_model.specs.Chain.{refuse◌when◌, refuse_by}
use Rattle.vfs_model.specs.Consistency.{IsClosedTree, covered_mount}
use Rattle.vfs_model.specs.Content.{Content, content_of, file_count, fs_type_of, same_type}
use Rattle.vfs_model.specs.FileLife.{no_volume, volume_named}
use Rattle.vfs_model.specs.Homes.{cell_capacity, change_row}
use Rattle.vfs_model.specs.Lookup.{asked_path, covering_mount, nearest, node_in, has_folder_within, has_mount_below, has_nodes, is_dir_node, is_file, is_point, is_prefix, is_there, node_at, walk_refusal, with_tree}
use Rattle.vfs_model.specs.Laws.{with_mount}
use Rattle.vfs_model.specs.MountStep.{add_mount, is_taken, is_without_source, least_free_mount, mount_at, mount_refusals, mount_step, without_kept}
use Rattle.vfs_model.specs.Namespace.{all_mounts, folder_of, same_bytes, same_path, tree_of}
use Rattle.vfs_model.specs.declared.namespace.Mount.{Mount}
use Rattle.vfs_model.specs.OpenStep.{kind_of}
use Rattle.vfs_model.specs.declared.namespace.Namespace.{Namespace}
use Rattle.vfs_model.specs.declared.world.WorldState.{WorldState}
use Rattle.world_laws.proofs.steps.Adding.{MayMount, not-prefix, own-tree, placed, with_one}
use Rattle.world_laws.proofs.parts.Agreeing.{Agrees, agrees-beside, agrees-named}
use Rattle.world_laws.proofs.parts.Binding.{rest-stands}
use Rattle.world_laws.proofs.parts.Covering.{IsMount, covering-is, covers-prefix, one-number}
use Rattle.world_laws.proofs.steps.FillAll.{Filled, adds, fill-all}
use Rattle.world_laws.proofs.steps.Filling.{InTree, content_shape, node_shape, shape-none}
use Rattle.world_laws.proofs.parts.FreeRows.{free_count}
use Rattle.world_laws.proofs.parts.Growing.{MayStand, tree-other, tree-own, tree-stands}
use Rattle.world_laws.proofs.steps.Keeping.{Keeps, Kept, bind-kept, then-kept, there-folder, wanted-kept}
use Rattle.world_laws.proofs.lists.Lists.{below-or-past, first-within, found-any, nor-first, nor-second, or-first, or-second, number-itself, same-number, same-some, true-or-false}
use Rattle.world_laws.proofs.steps.MountKeeping.{Begun, begun}
use Rattle.world_laws.proofs.steps.MoveKeeping.{plain-folder, within-or-not}
use Rattle.world_laws.proofs.steps.NameKeeping.{not-root}
use Rattle.world_laws.proofs.lists.Passing.{refuse-passed, then-first, then-rest}
use Rattle.world_laws.proofs.parts.Points.{point-covers}
use Rattle.world_laws.proofs.steps.BoundFiles.{Shown, coming-start}
use Rattle.world_laws.proofs.parts.Standing.{IsUsed, Nothing, Stands}
use Rattle.world_laws.proofs.parts.Taking.{boxes-all}

-- a mount that is found by its number is one of the mounts
found-place : (p : Mount → Bool) (mounts : List Mount) (m : Mount) → find p mounts ≡ Some m → (place : ℕ) × (place < length mounts) × (slice_index_or mounts place m ≡ m)
found-place p [] m e = absurd (cc)
found-place p (x ∷ mounts) m e = at (p x) e (found-place p mounts m)
  where
    at : (b : Bool) → (if b then Some x else find p mounts) ≡ Some m → (find p mounts ≡ Some m → (place : ℕ) × (place < length mounts) × (slice_index_or mounts place m ≡ m)) →
        (place : ℕ) × (place < length (x ∷ mounts)) × (slice_index_or (x ∷ mounts) place m ≡ m)
    at true k later = (0, omega arith, same-some x m k)
    at false k later = let found = later k in (suc found.0, let l = found.1 in omega (arith, l), found.2)

shape-some : (found : Option NodeKind) → is_some found ≡ true → node_shape found ≢ 0
shape-some None h e = absurd (cc)
shape-some (Some node.Dir) h e = absurd (omega (arith, e))
shape-some (Some (node.File id kind)) h e = absurd (omega (arith, e))

shape-dir : (found : Option NodeKind) → node_shape found ≡ 1 → is_dir_node found ≡ true
shape-dir None h = absurd (omega (arith, h))
shape-dir (Some node.Dir) h = refl
shape-dir (Some (node.File id kind)) h = absurd (omega (arith, h))

-- mounts and trees alone tell what stands at a path
same-nodes : (a b : Namespace) (path : Path) → a.root ≡ b.root → a.mounts ≡ b.mounts → a.trees ≡ b.trees → node_at a path ≡ node_at b path
unfolding node_at covering_mount
same-nodes a b path root mounts trees =
    ap (λ first. node_in (slice_index_or a.trees (nearest path first a.mounts).number []) (drop (length (nearest path first a.mounts).point) path)) root
    ∙ ap (λ others. node_in (slice_index_or a.trees (nearest path b.root others).number []) (drop (length (nearest path b.root others).point) path)) mounts
    ∙ ap (λ all. node_in (slice_index_or all (nearest path b.root b.mounts).number []) (drop (length (nearest path b.root b.mounts).point) path)) trees

module _ (n : Namespace) (mount : Mount) (s : Stands Nothing n) (may : MayMount n mount) (taken : is_taken n mount.fs mount.source ≡ false)
    (room : file_count (content_of n mount.fs mount.source) ≤ free_count n) (away : (k : ℕ) → is_prefix mount.point (folder_of n k) ≡ false) where
  abbrev base : Namespace
  base = without_kept (with_one n mount) mount.fs mount.source

  abbrev content : Content
  content = content_of n mount.fs mount.source

  begins : Begun n mount s may taken room mount.fs
  begins = begun n mount s may taken room mount.fs refl

  -- the parts of the namespace that taking the kept names leaves
  base-same : (f : FsType) → ((without_kept (with_one n mount) f mount.source).trees ≡ n.trees) × ((without_kept (with_one n mount) f mount.source).mounts ≡ n.mounts ++ mount ∷ [])
      × ((without_kept (with_one n mount) f mount.source).working_directories ≡ n.working_directories) × ((without_kept (with_one n mount) f mount.source).live_files ≡ n.live_files)
      × ((without_kept (with_one n mount) f mount.source).generations ≡ n.generations)
  base-same fs.Tmp = (refl, refl, refl, refl, refl)
  base-same fs.Rom = (refl, refl, refl, refl, refl)
  base-same fs.Cell = (refl, refl, refl, refl, refl)
  base-same fs.Dev = (refl, refl, refl, refl, refl)

  pub all : Filled mount (without_kept (with_one n mount) mount.fs mount.source) (without_kept (with_one n mount) mount.fs mount.source) [] [] (content_of n mount.fs mount.source) []
  all = fill-all mount (content_of n mount.fs mount.source) (without_kept (with_one n mount) mount.fs mount.source) (without_kept (with_one n mount) mount.fs mount.source) [] [] [] may.small (begins.fill)

  last : Namespace
  last = all.last

  empty-before : tree_of n mount.number ≡ []
  empty-before = own-tree n mount s may

  last-tree : tree_of (all.last) mount.number ≡ []
  last-tree = ap (λ trees. slice_index_or trees mount.number []) (all.fill.trees ∙ (base-same mount.fs).0) ∙ empty-before

  last-stands : Stands (InTree (all.final)) (all.last)
  last-stands = rest-stands (InTree (all.final)) (all.last) (all.fill.rest)
      (boxes-all (all.last) (λ volume cell v c. let before = all.fill.cells volume cell v c in omega (arith, before)) (all.fill.devices) (all.fill.boxes)) (all.fill.live_files)

  own-mount-is : IsMount (all.last) mount
  own-mount-is = let found = found-place (λ x. x.number == mount.number) (all_mounts (all.last)) mount (all.fill.found) in record { place = found.0; within = found.1; is = found.2 }

  final-closed : IsClosedTree is_dir_node (all.final)
  final-closed = record {
    sorted = all.fill.sorted;
    rootless = shape-none mount (value_at path_cmp [] (all.final)) (all.fill.shape [] ∙ begins.tree.rootless);
    parents = λ front name h.
        let some = shape-some (value_at path_cmp (front ++ name ∷ []) (all.final)) h in
        elim (begins.tree.parents front name (λ e. some (all.fill.shape (front ++ name ∷ []) ∙ e))) [
          | inl x ↦ or-first (is_dir_node (value_at path_cmp front (all.final))) (same_path front []) (shape-dir (value_at path_cmp front (all.final)) (all.fill.shape front ∙ x))
          | inr x ↦ or-second (is_dir_node (value_at path_cmp front (all.final))) (same_path front []) (ap (λ p. same_path p []) x)
        ];
    bounded = let small = all.fill.small in let most = begins.tree.bounded in omega (arith, small, most);
  }

  working_directories-away : (k : ℕ) → (covering_mount (all.last) (folder_of (all.last) k)).number ≢ mount.number
  working_directories-away k e =
      let m = covering_mount (all.last) (folder_of (all.last) k) in
      let f = all.fill.rest.working_directories in
      let same : m ≡ mount = one-number (all.last) m mount f (covering-is (all.last) (folder_of (all.last) k) f) own-mount-is e in
      let up : is_prefix mount.point (folder_of (all.last) k) ≡ true = subst (λ x. is_prefix x.point (folder_of (all.last) k) ≡ true) same (covers-prefix (all.last) (folder_of (all.last) k) f) in
      let folder : folder_of (all.last) k ≡ folder_of n k = ap (λ working_directories. slice_index_or working_directories (k - 1) []) (all.fill.working_directories ∙ (base-same mount.fs).2) in
      let none = ap (is_prefix mount.point) folder ∙ away k in
      absurd (cc)

  no-point : (place : ℕ) (d : Mount) → place < length (all.last).mounts → (covered_mount (all.last) (slice_index_or (all.last).mounts place d).point).number ≢ mount.number
  no-point place d l e =
      let f = all.fill.rest.working_directories in
      let q = (slice_index_or (all.last).mounts place d).point in
      let c = point-covers (all.last) place d f l in
      let same : covered_mount (all.last) q ≡ mount = one-number (all.last) (covered_mount (all.last) q) mount f c.mount own-mount-is e in
      let up : is_prefix mount.point q ≡ true = subst (λ x. is_prefix x.point q ≡ true) same c.prefix in
      let other : mount.point ≢ q = λ x. c.other (ap (λ y. y.point) same ∙ x) in
      let mounts : (all.last).mounts ≡ n.mounts ++ mount ∷ [] = all.fill.mounts ∙ (base-same mount.fs).1 in
      let at : slice_index_or (all.last).mounts place d ≡ slice_index_or (n.mounts ++ mount ∷ []) place d = ap (λ ms. slice_index_or ms place d) mounts in
      elim (placed n.mounts mount place d (subst (λ ms. place < length ms) mounts l)).is [
        | inl x ↦ let none = not-prefix n mount s may (suc place) d (let m = x.0 in omega (arith, m)) in let point = ap (λ y. y.point) (at ∙ x.1) in let yes = subst (λ p. is_prefix mount.point p ≡ true) point up in absurd (cc)
        | inr x ↦ other (sym (ap (λ y. y.point) (at ∙ x.1)))
      ]

  final-may : MayStand (all.last) mount.number (all.final)
  final-may = record {
    small = may.small;
    mounted = found-any (λ x. x.number == mount.number) (λ x. x.number == mount.number) (all_mounts (all.last)) mount (all.fill.found) (number-itself mount.number);
    closed = final-closed;
    linked = λ path id kind h. (all.fill.files path id kind h).0;
    within = all.fill.alone;
    across = λ other p q id same kind like e h k r. (all.fill.files p id kind h).1 (record { number = other; path = q; id = same; kind = like; there = k; is = sym r }) tt;
    working_directories = λ k. ap is_dir_node (other_mount (all.last) mount.number (all.final) (folder_of (all.last) k) (working_directories-away k)) ∙ all.fill.rest.working_directories.working_directories k;
    points = λ place d l e. absurd (no-point place d l e);
  }

  named-then : (row : ℕ) → IsUsed (InTree (all.final)) (all.last) row → IsUsed Nothing (with_tree (all.last) mount.number (all.final)) row
  named-then row (inr (inl held)) = inr (inl held)
  named-then row (inr (inr at)) = inl (record {
    number = mount.number;
    path = at.path;
    id = at.id;
    kind = at.kind;
    there = ap (value_at path_cmp at.path) (tree-own (all.last) mount.number (all.final) (all.fill.rest.sizes.trees) may.small) ∙ at.there;
    is = at.is;
  })
  named-then row (inl linked) =
      let other : linked.number ≢ mount.number = λ e.
      let none : value_at path_cmp linked.path (tree_of (all.last) linked.number) ≡ None = ap (λ k. value_at path_cmp linked.path (tree_of (all.last) k)) e ∙ ap (value_at path_cmp linked.path) last-tree in
      let there = linked.there in absurd (cc) in
      inl (record {
        number = linked.number;
        path = linked.path;
        id = linked.id;
        kind = linked.kind;
        there = ap (value_at path_cmp linked.path) (tree-other (all.last) mount.number linked.number (all.final) other) ∙ linked.there;
        is = linked.is;
      })

  final-stands : Stands Nothing (with_tree (all.last) mount.number (all.final))
  final-stands = tree-stands (InTree (all.final)) Nothing (all.last) mount.number (all.final) final-may (λ row l h. named-then row) last-stands

  -- the mount begins with an empty tree at its number
  begins-empty : with_tree (without_kept (with_one n mount) mount.fs mount.source) mount.number [] ≡ without_kept (with_one n mount) mount.fs mount.source
  begins-empty =
      let b = without_kept (with_one n mount) mount.fs mount.source in
      let none : slice_index_or b.trees mount.number [] ≡ [] = ap (λ trees. slice_index_or trees mount.number []) (base-same mount.fs).0 ∙ empty-before in
      ap (λ trees. record b { trees = trees }) (ap (slice_set b.trees mount.number) (sym none) ∙ set-get_or b.trees mount.number [])

  added : add_mount n mount ≡ fold (adds mount) (record { next = with_tree (without_kept (with_one n mount) mount.fs mount.source) mount.number []; changes = [] }) (content_of n mount.fs mount.source)
  unfolding add_mount
  added = ap (λ b. fold (adds mount) (record { next = b; changes = [] }) (content_of n mount.fs mount.source)) (sym begins-empty)

  -- what the mount was filled with has the shape of its content
  pub added-shape : (p : Path) → node_shape (value_at path_cmp p (all.final)) ≡ content_shape (value_at path_cmp p (content_of n mount.fs mount.source))
  added-shape = all.fill.shape

  base-root : (f : FsType) → (without_kept (with_one n mount) f mount.source).root ≡ n.root
  base-root fs.Tmp = refl
  base-root fs.Rom = refl
  base-root fs.Cell = refl
  base-root fs.Dev = refl

  -- below its point the mount shows what it was filled with
  pub added-node : (p : Path) → node_at (add_mount n mount).next (mount.point ++ p) ≡ node_in (all.final) p
  added-node p =
      let filled : (add_mount n mount).next ≡ with_tree (all.last) mount.number (all.final) = ap (λ r. r.next) added ∙ all.is in
      ap (λ m. node_at m (mount.point ++ p)) filled
      ∙ same-nodes (with_tree (all.last) mount.number (all.final)) (with_mount n mount (all.final)) (mount.point ++ p)
      (all.fill.root ∙ base-root mount.fs) (all.fill.mounts ∙ (base-same mount.fs).1)
      (ap (λ trees. slice_set trees mount.number (all.final)) (all.fill.trees ∙ (base-same mount.fs).0))
      ∙ mounted-below n mount (all.final) (mount.point ++ p) s.working_directories.root.0 may.clear
      (subst (λ x. mount.number < x) (sym s.sizes.trees) may.small) (prefix-append mount.point p)
      ∙ ap (node_in (all.final)) (drop-append_seam mount.point p)

  -- nor do the names that a volume kept
  base-agrees : (f : FsType) (v : WorldState) → Agrees v n → Agrees v (without_kept (with_one n mount) f mount.source)
  base-agrees fs.Tmp v a = agrees-beside v n (with_one n mount) (refl, refl, refl, refl) a
  base-agrees fs.Rom v a = agrees-beside v n (with_one n mount) (refl, refl, refl, refl) a
  base-agrees fs.Dev v a = agrees-beside v n (with_one n mount) (refl, refl, refl, refl) a
  base-agrees fs.Cell v a = agrees-named v (with_one n mount) (volume_named n mount.source) [] (agrees-beside v n (with_one n mount) (refl, refl, refl, refl) a)

  -- each file of the mount is what it begins with
  pub added-shown : (v : WorldState) → Agrees v n →
      Shown v (fold change_row v (add_mount n mount).changes) (all.last) (all.final) (kind_of mount.fs) (content_of n mount.fs mount.source)
  added-shown v a =
      subst (λ r. Shown v (fold change_row v r.changes) (all.last) (all.final) (kind_of mount.fs) (content_of n mount.fs mount.source)) (sym added)
      (all.shown v v (base-agrees mount.fs v a) (coming-start v (content_of n mount.fs mount.source)) (λ p begins h. absurd (cc)))

  pub added-kept : Keeps n (add_mount n mount).next (add_mount n mount).changes
  added-kept = record {
    stands = subst (Stands Nothing) (sym (ap (λ r. r.next) added ∙ all.is)) final-stands;
    pages = λ volume cell. ap (λ m. cell_capacity m volume cell) (ap (λ r. r.next) added ∙ all.is) ∙ all.pages volume cell ∙ begins.pages volume cell;
    files = λ v a.
        subst (λ m. Agrees (fold change_row v (add_mount n mount).changes) m) (sym (ap (λ r. r.next) added ∙ all.is))
        (agrees-beside (fold change_row v (add_mount n mount).changes) (all.last) (with_tree (all.last) mount.number (all.final)) (refl, refl, refl, refl)
        (subst (λ r. Agrees (fold change_row v r.changes) (all.last)) (sym added)
        (all.files v (base-agrees mount.fs v a))));
  }

-- the least number that no mount has
numbers-of : (q : ℕ) (mounts : List Mount) → list_any (λ m. m.number == q) mounts ≡ true → list_any (nat_eq q) (map (λ m. m.number) mounts) ≡ true
numbers-of q [] h = h
numbers-of q (m ∷ mounts) h = either (true-or-false (m.number == q)) (numbers-of q mounts)
  where
    either : ((m.number == q) ≡ true) ⊎ ((m.number == q) ≡ false) → (list_any (λ m. m.number == q) mounts ≡ true → list_any (nat_eq q) (map (λ m. m.number) mounts) ≡ true) →
        (nat_eq q m.number || list_any (nat_eq q) (map (λ m. m.number) mounts)) ≡ true
    either (inl k) later = or-first (nat_eq q m.number) _ (ap (nat_eq q) (same-number m.number q k) ∙ number-itself q)
    either (inr k) later = or-second (nat_eq q m.number) _ (later (sym (ap (λ b. b || list_any (λ m. m.number == q) mounts) k) ∙ h))

length-numbers : (mounts : List Mount) → length (map (λ m. m.number) mounts) ≡ length mounts
length-numbers [] = refl
length-numbers (m ∷ mounts) = ap suc (length-numbers mounts)

not-false : (b : Bool) → not b ≡ false → b ≡ true
not-false true h = refl
not-false false h = absurd (cc)

not-true : (b : Bool) → not b ≡ true → b ≡ false
not-true true h = absurd (cc)
not-true false h = refl

length-range-numbers : length (range_with_len 0 16) ≡ 16
length-range-numbers = refl

free-number : (n : Namespace) → length (all_mounts n) < 16 → (least_free_mount n < 16) × (list_any (λ other. other.number == least_free_mount n) (all_mounts n) ≡ false)
free-number n l = elim (below-or-past (least_free_mount n) 16) [
  | inl small ↦
      let passes = passes_at_first (λ number. not (list_any (λ mount. mount.number == number) (all_mounts n))) (range_with_len 0 16) 0 small in
      let at : slice_index_or (range_with_len 0 16) (least_free_mount n) 0 ≡ least_free_mount n = get_or-range_with_len 0 16 (least_free_mount n) 0 small ∙ omega arith in
      (small, not-true _ (sym (ap (λ number. not (list_any (λ mount. mount.number == number) (all_mounts n))) at) ∙ passes))
  | inr past ↦
      let every : (q : ℕ) → q < 16 → list_any (nat_eq q) (map (λ m. m.number) (all_mounts n)) ≡ true = λ q m.
      let fails = fails_before_first (λ number. not (list_any (λ mount. mount.number == number) (all_mounts n))) (range_with_len 0 16) q 0 (omega (arith, m, past)) in
      let at : slice_index_or (range_with_len 0 16) q 0 ≡ q = get_or-range_with_len 0 16 q 0 m ∙ omega arith in
      numbers-of q (all_mounts n) (not-false _ (sym (ap (λ number. not (list_any (λ mount. mount.number == number) (all_mounts n))) at) ∙ fails)) in
      let many = le-length_from_below (map (λ m. m.number) (all_mounts n)) 16 every in
      let same = length-numbers (all_mounts n) in
      absurd (omega (arith, many, same, l))
]

-- what a mount needs to begin, where none of its refusals holds
pub record MayBegin (n : Namespace) (mount : Mount) : Type 0 where
  pub may : MayMount n mount
  pub taken : is_taken n mount.fs mount.source ≡ false
  pub room : file_count (content_of n mount.fs mount.source) ≤ free_count n
  pub away : (k : ℕ) → is_prefix mount.point (folder_of n k) ≡ false

-- the mount that a step adds
abbrev pub new_mount : Namespace → Path → FsType → List ℕ → Mount
new_mount n path asked source = record { number = least_free_mount n; point = path; fs = asked; source = source }

-- a source that a mount of a volume has is the name of one
named-volume : (n : Namespace) (asked : FsType) (source : List ℕ) → is_without_source n asked source ≡ false → same_type asked fs.Cell ≡ true → volume_named n source < length n.volumes
named-volume n fs.Tmp source h cell = absurd (cc)
named-volume n fs.Rom source h cell = absurd (cc)
named-volume n fs.Dev source h cell = absurd (cc)
named-volume n fs.Cell source h cell = first-within (λ volume. same_bytes volume.name source) n.volumes no_volume (not-false _ h)

pub may-begin : (n : Namespace) (path : Path) (asked : FsType) (source : List ℕ) → Stands Nothing n → mount_refusals n path asked source ≡ Ok tt →
    MayBegin n (new_mount n path asked source)
unfolding mount_refusals
may-begin n path asked source s h =
    let r1 = then-rest (refuse_by (walk_refusal n path)) _ tt h in
    let present = refuse-passed errno.ENOENT (not (is_there n path)) (then-first (refuse errno.ENOENT when (not (is_there n path))) _ tt r1) in
    let r2 = then-rest (refuse errno.ENOENT when (not (is_there n path))) _ tt r1 in
    let folder = refuse-passed errno.ENOTDIR (is_file n path) (then-first (refuse errno.ENOTDIR when (is_file n path)) _ tt r2) in
    let r3 = then-rest (refuse errno.ENOTDIR when (is_file n path)) _ tt r2 in
    let busy = is_point n path || has_mount_below n path || has_folder_within n path in
    let free = refuse-passed errno.EBUSY busy (then-first (refuse errno.EBUSY when busy) _ tt r3) in
    let r4 = then-rest (refuse errno.EBUSY when busy) _ tt r3 in
    let bare = refuse-passed errno.ENOTEMPTY (has_nodes n path) (then-first (refuse errno.ENOTEMPTY when (has_nodes n path)) _ tt r4) in
    let r5 = then-rest (refuse errno.ENOTEMPTY when (has_nodes n path)) _ tt r4 in
    let few = refuse-passed errno.ENOSPC (nat_le 16 (length (all_mounts n))) (then-first (refuse errno.ENOSPC when (nat_le 16 (length (all_mounts n)))) _ tt r5) in
    let r6 = then-rest (refuse errno.ENOSPC when (nat_le 16 (length (all_mounts n)))) _ tt r5 in
    let without = is_without_source n asked source || (same_type asked fs.Cell && n.is_stopped) in
    let r7 = then-rest (refuse errno.ENXIO when without) _ tt r6 in
    let taken = refuse-passed errno.EBUSY (is_taken n asked source) (then-first (refuse errno.EBUSY when (is_taken n asked source)) _ tt r7) in
    let short = nat_lt (free_count n) (file_count (content_of n asked source)) in
    let room = refuse-passed errno.ENOSPC short (then-rest (refuse errno.EBUSY when (is_taken n asked source)) _ tt r7) in
    let unpointed = nor-first (is_point n path) (has_mount_below n path) (nor-first (is_point n path || has_mount_below n path) (has_folder_within n path) free) in
    let unmounted = nor-second (is_point n path) (has_mount_below n path) (nor-first (is_point n path || has_mount_below n path) (has_folder_within n path) free) in
    let away = nor-second (is_point n path || has_mount_below n path) (has_folder_within n path) free in
    let fewer : length (all_mounts n) < 16 = leb-false 16 (length (all_mounts n)) few in
    let number = free-number n fewer in
    record {
      may = record {
        folder = there-folder (node_at n path) present folder;
        bare = bare;
        clear = plain-folder n path unpointed unmounted;
        own = number.1;
        small = number.0;
        room = omega (arith, fewer);
        sourced = named-volume n asked source (nor-first (is_without_source n asked source) _ (refuse-passed errno.ENXIO without (then-first (refuse errno.ENXIO when without) _ tt r6)));
      };
      taken = taken;
      room = ltb-false (free_count n) (file_count (content_of n asked source)) room;
      away = λ j. within-or-not n path j (not-root n path s.working_directories unpointed) away;
    }

pub mount-kept : (n : Namespace) (k : ℕ) (source point_text type_text : List ℕ) → Stands Nothing n → Kept n (mount_step n k source point_text type_text)
unfolding mount_at
mount-kept n k source point_text type_text s =
    bind-kept n (asked_path n k point_text) _ (λ path e.
    wanted-kept n errno.ENODEV (fs_type_of type_text) _ (λ asked known.
    then-kept n (mount_refusals n path asked source) _ (λ h.
    let begin = may-begin n path asked source s h in
    added-kept n (new_mount n path asked source) s begin.may begin.taken begin.room begin.away)))
