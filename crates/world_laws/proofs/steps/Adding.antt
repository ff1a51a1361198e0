-- A mount more, without nodes, on a folder without nodes.
use Rattle.std.proofs.Common.{◌≡◌, ◌≢◌, ℕ, suc, ◌+◌, ◌<◌, true, false, not, ◌&&◌, ◌==◌, Option, Some, None, IsSomeAnd, List, [], ◌∷◌, ◌++◌, length, drop, filter, find, slice_index_or, slice_set, ◌⊎◌, inl, inr, if◌then◌else◌, refl, sym, ap, subst, ◌∙◌, arith, length-append}
use Rattle.std.proofs.lemmas.List.{append-nil, get_or_append_left, set-get_or}
use Rattle.std.proofs.lemmas.List.Elements.{filter-append}
use Rattle.std.proofs.lemmas.List.Folds.{find-append, list_any-append}
use Rattle.std.specs.Option.{option_or}
use Rattle.std.specs.Prelude.{nat_lt}
use Rattle.std.proofs.Math.Seq.{get_or-append_seam}
use Rattle.std.specs.List.{list_any}
use Rattle.vfs_base.specs.Path.{Path}
use Rattle.vfs_base.specs.declared.kinds.NodeKind.TheVariants as node
use Rattle.vfs_model.proofs.EmptyMounts.{empty-changes-nothing}
use Rattle.vfs_model.proofs.MountLaws.{nearer-old, nearest-append}
use Rattle.vfs_model.proofs.MountsApart.{standing-apart}
use Rattle.vfs_model.proofs.Trees.{same_path-itself, same_path-other}
use Rattle.vfs_model.specs.Boxes.{is_cell_mount}
use Rattle.vfs_model.specs.Consistency.{FoldersStand, LivesFit, ReferencesLive, covered_mount, fits_mount, is_number, mount_numbered, stands_on_folder}
use Rattle.vfs_model.specs.FileLife.{volume_named}
use Rattle.vfs_model.specs.Laws.{HasNoPoint, with_mount}
use Rattle.vfs_model.specs.Lookup.{covering_mount, has_nodes, is_below, is_dir_node, is_prefix, nearest, node_at, node_in}
use Rattle.vfs_model.specs.Namespace.{all_mounts, folder_of, same_path, tree_of}
use Rattle.vfs_model.specs.declared.namespace.Mount.{Mount}
use Rattle.vfs_model.specs.declared.namespace.Namespace.{Namespace}
use Rattle.world_laws.proofs.parts.Beside.{alive-beside}
use Rattle.world_laws.proofs.parts.Binding.{Rest}
use Rattle.world_laws.proofs.lists.Lists.{below-or-past, no-place, number-itself, or-first, true-or-false}
use Rattle.world_laws.proofs.parts.Nodes.{at-rest, prefix-itself}
use Rattle.world_laws.proofs.parts.Standing.{Nothing, Stands}
use Rattle.world_laws.proofs.parts.Taking.{SourcesNamed}

-- a mount that may come: on a folder without nodes, with no point at or below its own, with a number of its own, and of a volume that there is
pub record MayMount (n : Namespace) (mount : Mount) : Type 0 where
  pub folder : node_at n mount.point ≡ Some node.Dir
  pub bare : has_nodes n mount.point ≡ false
  pub clear : HasNoPoint n mount.point
  pub own : list_any (λ other. other.number == mount.number) (all_mounts n) ≡ false
  pub small : mount.number < 16
  pub room : length n.mounts < 15
  pub sourced : is_cell_mount mount ≡ true → volume_named n mount.source < length n.volumes

abbrev pub with_one : Namespace → Mount → Namespace
with_one n mount = record n { mounts = n.mounts ++ mount ∷ [] }

-- a place of a list with one more item at its end
pub record Placed (mounts : List Mount) (mount : Mount) (place : ℕ) (d : Mount) : Type 0 where
  pub is : ((place < length mounts) × (slice_index_or (mounts ++ mount ∷ []) place d ≡ slice_index_or mounts place d))
      ⊎ ((place ≡ length mounts) × (slice_index_or (mounts ++ mount ∷ []) place d ≡ mount))

pub placed : (mounts : List Mount) (mount : Mount) (place : ℕ) (d : Mount) → place < length (mounts ++ mount ∷ []) → Placed mounts mount place d
placed mounts mount place d l = elim (below-or-past place (length mounts)) [
  | inl m ↦ record { is = inl (m, get_or_append_left mounts (mount ∷ []) d place m) }
  | inr m ↦
      let all : length (mounts ++ mount ∷ []) ≡ length mounts + 1 = length-append mounts (mount ∷ []) in
      let last : place ≡ length mounts = omega (arith, all, l, m) in
      record { is = inr (last, ap (λ k. slice_index_or (mounts ++ mount ∷ []) k d) last ∙ get_or-append_seam mounts mount [] d) }
]

module _ (n : Namespace) (mount : Mount) (s : Stands Nothing n) (may : MayMount n mount) where
  pub own-tree : tree_of n mount.number ≡ []
  own-tree = s.working_directories.unused mount.number may.own

  -- the tree of the new number is empty already
  as-mounted : with_mount n mount [] ≡ with_one n mount
  as-mounted = ap (λ trees. record (with_one n mount) { trees = trees }) (ap (slice_set n.trees mount.number) (sym own-tree) ∙ set-get_or n.trees mount.number [])

  one-node : (path : Path) → node_at (with_one n mount) path ≡ node_at n path
  one-node path =
      ap (λ m. node_at m path) (sym as-mounted)
      ∙ empty-changes-nothing n mount path (standing-apart n s.working_directories) may.clear may.own (subst (λ x. mount.number < x) (sym s.sizes.trees) may.small) may.folder may.bare

  all-placed : (place : ℕ) (d : Mount) → place < length (all_mounts (with_one n mount)) → Placed (all_mounts n) mount place d
  all-placed place d l = placed (all_mounts n) mount place d l

  pub not-prefix : (place : ℕ) (d : Mount) → place < length (all_mounts n) → is_prefix mount.point (slice_index_or (all_mounts n) place d).point ≡ false
  not-prefix place d l = no-place (λ other. is_prefix mount.point other.point) (all_mounts n) place d may.clear l

  point-new : (place : ℕ) (d : Mount) → place < length (all_mounts n) → (slice_index_or (all_mounts n) place d).point ≢ mount.point
  point-new place d l e =
      let yes : is_prefix mount.point (slice_index_or (all_mounts n) place d).point ≡ true = subst (λ x. is_prefix mount.point x ≡ true) (sym e) (prefix-itself mount.point) in
      let none = not-prefix place d l in
      absurd (cc)

  number-new : (place : ℕ) (d : Mount) → place < length (all_mounts n) → (slice_index_or (all_mounts n) place d).number ≢ mount.number
  number-new place d l e =
      let none : ((slice_index_or (all_mounts n) place d).number == mount.number) ≡ false = no-place (λ other. other.number == mount.number) (all_mounts n) place d may.own l in
      let yes : ((slice_index_or (all_mounts n) place d).number == mount.number) ≡ true = ap (λ x. x == mount.number) e ∙ number-itself mount.number in
      absurd (cc)

  -- the mount that an old point covers is the same
  old-covered : (q : Path) → is_prefix mount.point q ≡ false → q ≢ mount.point → covered_mount (with_one n mount) q ≡ covered_mount n q
  old-covered q h other =
      let kept : filter (λ m. not (same_path m.point q)) (n.mounts ++ mount ∷ []) ≡ filter (λ m. not (same_path m.point q)) n.mounts ++ mount ∷ [] =
      filter-append (λ m. not (same_path m.point q)) n.mounts (mount ∷ []) ∙ ap (λ b. filter (λ m. not (same_path m.point q)) n.mounts ++ (if not b then mount ∷ [] else []))
      (same_path-other mount.point q (λ e. other (sym e))) in
      ap (nearest q n.root) kept ∙ nearest-append q n.root (filter (λ m. not (same_path m.point q)) n.mounts) mount
      ∙ nearer-old q (nearest q n.root (filter (λ m. not (same_path m.point q)) n.mounts)) mount h

  -- the mount that the new point covers is the one that covered its path
  keep-all : (mounts : List Mount) → ((place : ℕ) → place < length mounts → (slice_index_or mounts place mount).point ≢ mount.point) →
      filter (λ m. not (same_path m.point mount.point)) mounts ≡ mounts
  keep-all [] h = refl
  keep-all (m ∷ mounts) h =
      ap (λ b. if not b then m ∷ filter (λ m. not (same_path m.point mount.point)) mounts else filter (λ m. not (same_path m.point mount.point)) mounts)
      (same_path-other m.point mount.point (h 0 (omega arith)))
      ∙ ap (λ ms. m ∷ ms) (keep-all mounts (λ place l. h (suc place) (omega (arith, l))))

  new-covered : covered_mount (with_one n mount) mount.point ≡ covering_mount n mount.point
  unfolding covering_mount
  new-covered =
      ap (nearest mount.point n.root)
      (filter-append (λ m. not (same_path m.point mount.point)) n.mounts (mount ∷ [])
      ∙ ap (λ b. filter (λ m. not (same_path m.point mount.point)) n.mounts ++ (if not b then mount ∷ [] else [])) (same_path-itself mount.point)
      ∙ append-nil (filter (λ m. not (same_path m.point mount.point)) n.mounts)
      ∙ keep-all n.mounts (λ place l. point-new (suc place) mount (omega (arith, l))))

  one-points : (place : ℕ) (d : Mount) → place < length (n.mounts ++ mount ∷ []) → stands_on_folder (with_one n mount) (slice_index_or (n.mounts ++ mount ∷ []) place d).point
  one-points place d l = at (placed n.mounts mount place d l).is
    where
      at : ((place < length n.mounts) × (slice_index_or (n.mounts ++ mount ∷ []) place d ≡ slice_index_or n.mounts place d)) ⊎ ((place ≡ length n.mounts) × (slice_index_or (n.mounts ++ mount ∷ []) place d ≡ mount)) →
          stands_on_folder (with_one n mount) (slice_index_or (n.mounts ++ mount ∷ []) place d).point
      at (inl x) =
          let q = (slice_index_or n.mounts place d).point in
          subst (λ m. stands_on_folder (with_one n mount) m.point) (sym x.1)
          (subst (λ cm. (node_in (tree_of n cm.number) (drop (length cm.point) q) ≡ Some node.Dir) × (list_any (λ entry. is_below (drop (length cm.point) q) entry.0) (tree_of n cm.number) ≡ false))
          (sym (old-covered q (not-prefix (suc place) d (omega (arith, x.0))) (point-new (suc place) d (omega (arith, x.0))))) (s.working_directories.points place d x.0))
      at (inr x) =
          subst (λ m. stands_on_folder (with_one n mount) m.point) (sym x.1)
          (subst (λ cm. (node_in (tree_of n cm.number) (drop (length cm.point) mount.point) ≡ Some node.Dir) × (list_any (λ entry. is_below (drop (length cm.point) mount.point) entry.0) (tree_of n cm.number) ≡ false))
          (sym new-covered) (sym (at-rest n mount.point) ∙ may.folder, may.bare))

  -- what tells two mounts apart goes on doing so
  differ-by : {X : Type 0} (tell : Mount → X) → ((place other : ℕ) (d : Mount) → place < length (all_mounts n) → other < length (all_mounts n) →
      tell (slice_index_or (all_mounts n) place d) ≡ tell (slice_index_or (all_mounts n) other d) → place ≡ other) →
      ((place : ℕ) (d : Mount) → place < length (all_mounts n) → tell (slice_index_or (all_mounts n) place d) ≢ tell mount) →
      (place other : ℕ) (d : Mount) → place < length (all_mounts (with_one n mount)) → other < length (all_mounts (with_one n mount)) →
      tell (slice_index_or (all_mounts (with_one n mount)) place d) ≡ tell (slice_index_or (all_mounts (with_one n mount)) other d) → place ≡ other
  differ-by tell old new place other d l m e = elim (all-placed place d l).is [
    | inl x ↦ elim (all-placed other d m).is [
      | inl y ↦ old place other d x.0 y.0 (sym (ap tell x.1) ∙ e ∙ ap tell y.1)
      | inr y ↦ absurd (new place d x.0 (sym (ap tell x.1) ∙ e ∙ ap tell y.1))
    ]
    | inr x ↦ elim (all-placed other d m).is [
      | inl y ↦ absurd (new other d y.0 (sym (ap tell y.1) ∙ sym e ∙ ap tell x.1))
      | inr y ↦ x.0 ∙ sym y.0
    ]
  ]

  one-numbers : (place : ℕ) (d : Mount) → place < length (all_mounts (with_one n mount)) → (slice_index_or (all_mounts (with_one n mount)) place d).number < 16
  one-numbers place d l = elim (all-placed place d l).is [
    | inl x ↦ subst (λ m. m.number < 16) (sym x.1) (s.working_directories.numbers place d x.0)
    | inr x ↦ subst (λ m. m.number < 16) (sym x.1) may.small
  ]

  one-nested : (place other : ℕ) (d : Mount) → place < other → other < length (all_mounts (with_one n mount)) →
      is_below (slice_index_or (all_mounts (with_one n mount)) other d).point (slice_index_or (all_mounts (with_one n mount)) place d).point ≡ false
  one-nested place other d l m = elim (all-placed other d m).is [
    | inl y ↦
        let before : slice_index_or (all_mounts (with_one n mount)) place d ≡ slice_index_or (all_mounts n) place d = get_or_append_left (all_mounts n) (mount ∷ []) d place (omega (arith, l, y.0)) in
        ap (λ x. is_below x.point (slice_index_or (all_mounts (with_one n mount)) place d).point) y.1 ∙ ap (λ x. is_below (slice_index_or (all_mounts n) other d).point x.point) before
        ∙ s.working_directories.nested place other d l y.0
    | inr y ↦
        let within : place < length (all_mounts n) = omega (arith, l, y.0) in
        let before : slice_index_or (all_mounts (with_one n mount)) place d ≡ slice_index_or (all_mounts n) place d = get_or_append_left (all_mounts n) (mount ∷ []) d place within in
        ap (λ x. is_below x.point (slice_index_or (all_mounts (with_one n mount)) place d).point) y.1 ∙ ap (λ x. is_below mount.point x.point) before
        ∙ ap (λ b. b && nat_lt (length mount.point) (length (slice_index_or (all_mounts n) place d).point)) (not-prefix place d within)
  ]

  still-number : (number : ℕ) → is_number n number ≡ true → is_number (with_one n mount) number ≡ true
  still-number number h = list_any-append (λ m. m.number == number) (all_mounts n) (mount ∷ []) ∙ or-first (is_number n number) _ h

  not-before : (number : ℕ) → is_number (with_one n mount) number ≡ false → is_number n number ≡ false
  not-before number h = elim (true-or-false (is_number n number)) [
    | inl k ↦ let yes = still-number number k in absurd (cc)
    | inr k ↦ k
  ]

  one-working_directories : FoldersStand (with_one n mount)
  one-working_directories = record {
    working_directories = λ k. ap is_dir_node (one-node (folder_of n k)) ∙ s.working_directories.working_directories k;
    short = s.working_directories.short;
    root = s.working_directories.root;
    points = one-points;
    points_differ = differ-by (λ m. m.point) s.working_directories.points_differ point-new;
    numbers_differ = differ-by (λ m. m.number) s.working_directories.numbers_differ number-new;
    numbers = one-numbers;
    nested = one-nested;
    unused = λ number h. s.working_directories.unused number (not-before number h);
  }

  one-live : ReferencesLive (with_one n mount)
  one-live = record {
    linked = λ number path id kind h. alive-beside n (with_one n mount) id kind number (s.live.linked number path id kind h);
    held = λ place reference h. (
      alive-beside n (with_one n mount) reference.file reference.kind reference.mount (s.live.held place reference h).0,
      still-number reference.mount (s.live.held place reference h).1,
    );
  }

  pub one-rest : Rest Nothing (with_one n mount)
  one-rest = record {
    live = one-live;
    used = s.used;
    alone = s.alone;
    working_directories = one-working_directories;
    trees = s.trees;
    roms = s.roms;
    sizes = record {
      live_files = s.sizes.live_files;
      generations = s.sizes.generations;
      trees = s.sizes.trees;
      working_directories = s.sizes.working_directories;
      mounts = let all : length (n.mounts ++ mount ∷ []) ≡ length n.mounts + 1 = length-append n.mounts (mount ∷ []) in let l = may.room in omega (arith, all, l);
      references = s.sizes.references;
    };
  }

  still-found : (number : ℕ) (found : Option Mount) → mount_numbered n number ≡ found → (P : Mount → Type 0) → IsSomeAnd found P → mount_numbered (with_one n mount) number ≡ found
  still-found number None e P h = absurd h
  still-found number (Some m) e P h = find-append (λ x. x.number == number) (all_mounts n) (mount ∷ []) ∙ ap (λ x. option_or x (find (λ x. x.number == number) (mount ∷ []))) e

  pub one-live_files : LivesFit (with_one n mount)
  one-live_files row life h =
      let before = s.live_files row life h in
      subst (λ found. IsSomeAnd found (λ m. fits_mount n life m ≡ true)) (sym (still-found life.mount (mount_numbered n life.mount) refl (λ m. fits_mount n life m ≡ true) before)) before

  -- each mount's source is the name of a volume, the new one's too
  pub named-sources : SourcesNamed (with_one n mount)
  named-sources place d l k = elim (placed (all_mounts n) mount place d l).is [
    | inl x ↦ subst (λ m. volume_named n m.source < length n.volumes) (sym x.1) (s.boxes.sources place d x.0 (sym (ap is_cell_mount x.1) ∙ k))
    | inr x ↦ subst (λ m. volume_named n m.source < length n.volumes) (sym x.1) (may.sourced (sym (ap is_cell_mount x.1) ∙ k))
  ]
