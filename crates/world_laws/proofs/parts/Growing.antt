-- The tree of a mount changes.
use Rattle.std.proofs.Common.{◌≡◌, ◌≢◌, ℕ, ◌-◌, ◌<◌, true, false, Some, None, is_some, [], length, drop, slice_index_or, slice_set, ◌⊎◌, inl, inr, sym, ap, subst, ◌∙◌}
use Rattle.std.proofs.lemmas.List.{length-set}
use Rattle.std.specs.FinMap.Entries.{find as value_at}
use Rattle.std.specs.List.{list_any}
use Rattle.vfs_base.specs.Path.{Path, path_cmp}
use Rattle.vfs_base.specs.declared.ids.FileId.{FileId}
use Rattle.vfs_base.specs.declared.kinds.Kind.{Kind}
use Rattle.vfs_base.specs.declared.kinds.NodeKind.TheVariants as node
use Rattle.vfs_model.specs.Consistency.{FoldersStand, IsClosedTree, IsLive, ReferencesLive, covered_mount, is_number}
use Rattle.vfs_model.specs.Lookup.{is_below, is_dir_node, is_folder, node_in, with_tree}
use Rattle.vfs_model.specs.Namespace.{Tree, folder_of, tree_of}
use Rattle.vfs_model.specs.declared.namespace.Mount.{Mount}
use Rattle.vfs_model.specs.declared.namespace.Namespace.{Namespace}
use Rattle.world_laws.proofs.parts.Beside.{alive-beside, boxes-beside}
use Rattle.world_laws.proofs.lists.Lists.{same-or-other, set-here, set-there}
use Rattle.world_laws.proofs.parts.Standing.{IsUsed, Stands}
use Rattle.world_laws.proofs.parts.Taking.{set-at}

-- a tree as what a mount's number may have, in place of the one there is
pub record MayStand (n : Namespace) (number : ℕ) (tree : Tree) : Type 0 where
  pub small : number < 16
  pub mounted : is_number n number ≡ true
  pub closed : IsClosedTree is_dir_node tree
  pub linked : (path : Path) (id : FileId) (kind : Kind) → value_at path_cmp path tree ≡ Some (node.File id kind) → IsLive n id kind number
  pub within : (p q : Path) (id same : FileId) (kind like : Kind) → value_at path_cmp p tree ≡ Some (node.File id kind) →
      value_at path_cmp q tree ≡ Some (node.File same like) → id.row ≡ same.row → p ≡ q
  pub across : (other : ℕ) (p q : Path) (id same : FileId) (kind like : Kind) → other ≢ number → value_at path_cmp p tree ≡ Some (node.File id kind) →
      value_at path_cmp q (tree_of n other) ≡ Some (node.File same like) → id.row ≢ same.row
  pub working_directories : (k : ℕ) → is_folder (with_tree n number tree) (folder_of n k) ≡ true
  pub points : (place : ℕ) (d : Mount) → place < length n.mounts →
      let point = (slice_index_or n.mounts place d).point in
      let rest : Path = drop (length (covered_mount n point).point) point in
      (covered_mount n point).number ≡ number → (node_in tree rest ≡ Some node.Dir) × (list_any (λ entry. is_below rest entry.0) tree ≡ false)

tree-set : (n : Namespace) (number other : ℕ) (tree : Tree) (P : Tree → Type 0) → (other ≡ number → P tree) → P (tree_of n other) → P (tree_of (with_tree n number tree) other)
tree-set n number other tree P new old = set-at P n.trees number other tree [] new old

pub tree-own : (n : Namespace) (number : ℕ) (tree : Tree) → length n.trees ≡ 16 → number < 16 → tree_of (with_tree n number tree) number ≡ tree
tree-own n number tree e l = set-here n.trees number tree [] (subst (λ x. number < x) (sym e) l)

pub tree-other : (n : Namespace) (number other : ℕ) (tree : Tree) → other ≢ number → tree_of (with_tree n number tree) other ≡ tree_of n other
tree-other n number other tree h = set-there n.trees number other tree [] h

-- where a path is looked up after the change
own-or-other : (n : Namespace) (number other : ℕ) (tree : Tree) → length n.trees ≡ 16 → number < 16 →
    ((other ≡ number) × (tree_of (with_tree n number tree) other ≡ tree)) ⊎ ((other ≢ number) × (tree_of (with_tree n number tree) other ≡ tree_of n other))
own-or-other n number other tree e l = elim (same-or-other other number) [
  | inl h ↦ inl (h, ap (tree_of (with_tree n number tree)) h ∙ tree-own n number tree e l)
  | inr h ↦ inr (h, tree-other n number other tree h)
]

alone-changed : (n : Namespace) (number : ℕ) (tree : Tree) → MayStand n number tree → length n.trees ≡ 16 →
    ((number other : ℕ) (p q : Path) (id same : FileId) (kind like : Kind) →
    value_at path_cmp p (tree_of n number) ≡ Some (node.File id kind) →
    value_at path_cmp q (tree_of n other) ≡ Some (node.File same like) →
    id.row ≡ same.row → (number ≡ other) × (p ≡ q)) →
    (a b : ℕ) (p q : Path) (id same : FileId) (kind like : Kind) →
    value_at path_cmp p (tree_of (with_tree n number tree) a) ≡ Some (node.File id kind) →
    value_at path_cmp q (tree_of (with_tree n number tree) b) ≡ Some (node.File same like) →
    id.row ≡ same.row → (a ≡ b) × (p ≡ q)
alone-changed n number tree may e alone a b p q id same kind like h k r =
    elim (own-or-other n number a tree e may.small) [
      | inl x ↦ elim (own-or-other n number b tree e may.small) [
        | inl y ↦ (x.0 ∙ sym y.0, may.within p q id same kind like (sym (ap (value_at path_cmp p) x.1) ∙ h) (sym (ap (value_at path_cmp q) y.1) ∙ k) r)
        | inr y ↦ absurd (may.across b p q id same kind like y.0 (sym (ap (value_at path_cmp p) x.1) ∙ h) (sym (ap (value_at path_cmp q) y.1) ∙ k) r)
      ]
      | inr x ↦ elim (own-or-other n number b tree e may.small) [
        | inl y ↦ absurd (may.across a q p same id like kind x.0 (sym (ap (value_at path_cmp q) y.1) ∙ k) (sym (ap (value_at path_cmp p) x.1) ∙ h) (sym r))
        | inr y ↦ alone a b p q id same kind like (sym (ap (value_at path_cmp p) x.1) ∙ h) (sym (ap (value_at path_cmp q) y.1) ∙ k) r
      ]
    ]

live-changed : (n : Namespace) (number : ℕ) (tree : Tree) → MayStand n number tree → ReferencesLive n → ReferencesLive (with_tree n number tree)
live-changed n number tree may live = record {
  linked = λ other path id kind h. alive-beside n (with_tree n number tree) id kind other
      (tree-set n number other tree (λ t. value_at path_cmp path t ≡ Some (node.File id kind) → IsLive n id kind other)
      (λ e k. subst (IsLive n id kind) (sym e) (may.linked path id kind k)) (live.linked other path id kind) h);
  held = λ place reference h. (alive-beside n (with_tree n number tree) reference.file reference.kind reference.mount (live.held place reference h).0, (live.held place reference h).1);
}

working_directories-changed : (n : Namespace) (number : ℕ) (tree : Tree) → MayStand n number tree → FoldersStand n → FoldersStand (with_tree n number tree)
working_directories-changed n number tree may f = record {
  working_directories = may.working_directories;
  short = f.short;
  root = f.root;
  points = λ place d l.
      let point = (slice_index_or n.mounts place d).point in
      let rest : Path = drop (length (covered_mount n point).point) point in
      tree-set n number (covered_mount n point).number tree
      (λ t. (node_in t rest ≡ Some node.Dir) × (list_any (λ entry. is_below rest entry.0) t ≡ false))
      (may.points place d l) (f.points place d l);
  points_differ = f.points_differ;
  numbers_differ = f.numbers_differ;
  numbers = f.numbers;
  nested = f.nested;
  unused = λ other h. tree-set n number other tree (λ t. t ≡ [])
      (λ e. let yes = may.mounted in let no = sym (ap (is_number n) e) ∙ h in absurd (cc)) (f.unused other h);
}

-- another tree stands at a number
pub tree-stands : (Before After : ℕ → Type 0) (n : Namespace) (number : ℕ) (tree : Tree) → MayStand n number tree →
    ((row : ℕ) → 0 < row → is_some (slice_index_or n.live_files (row - 1) None) ≡ true → IsUsed Before n row → IsUsed After (with_tree n number tree) row) →
    Stands Before n → Stands After (with_tree n number tree)
tree-stands Before After n number tree may used s = record {
  live = live-changed n number tree may s.live;
  used = λ row l h. used row l h (s.used row l h);
  alone = alone-changed n number tree may s.sizes.trees s.alone;
  working_directories = working_directories-changed n number tree may s.working_directories;
  trees = λ other. tree-set n number other tree (IsClosedTree is_dir_node) (λ e. may.closed) (s.trees other);
  boxes = boxes-beside n (slice_set n.trees number tree) n.working_directories n.references n.generations s.boxes;
  live_files = s.live_files;
  roms = s.roms;
  sizes = record {
    live_files = s.sizes.live_files;
    generations = s.sizes.generations;
    trees = length-set n.trees number tree ∙ s.sizes.trees;
    working_directories = s.sizes.working_directories;
    mounts = s.sizes.mounts;
    references = s.sizes.references;
  };
}
