-- A node without children is taken away from a path.
use Rattle.std.proofs.Common.{◌≡◌, ◌≢◌, ℕ, ◌<◌, true, false, not, Option, Some, None, List, [], ◌∷◌, ◌++◌, length, drop, slice_index_or, ◌⊎◌, inl, inr, refl, sym, ap, subst, ◌∙◌}
use Rattle.std.specs.FinMap.Entries.{find as value_at}
use Rattle.std.specs.List.{list_any}
use Rattle.vfs_base.specs.Path.{Path, path_cmp}
use Rattle.vfs_base.specs.declared.ids.FileId.{FileId}
use Rattle.vfs_base.specs.declared.kinds.Kind.{Kind}
use Rattle.vfs_base.specs.declared.kinds.NodeKind.{NodeKind}
use Rattle.vfs_base.specs.declared.kinds.NodeKind.TheVariants as node
use Rattle.vfs_model.proofs.MountsApart.{standing-apart}
use Rattle.vfs_model.proofs.NodeLaws.{taken-other}
use Rattle.vfs_model.proofs.Trees.{at-without-here, at-without-other}
use Rattle.vfs_model.specs.Consistency.{covered_mount}
use Rattle.vfs_model.specs.Lookup.{is_below, is_dir_node, is_prefix, node_in, rest_of, with_tree}
use Rattle.vfs_model.specs.NameSteps.{without_node}
use Rattle.vfs_model.specs.Namespace.{folder_of, same_path, tree_of}
use Rattle.vfs_model.specs.declared.namespace.Mount.{Mount}
use Rattle.vfs_model.specs.declared.namespace.Namespace.{Namespace}
use Rattle.world_laws.proofs.parts.Growing.{MayStand, tree-other, tree-own, tree-stands}
use Rattle.world_laws.proofs.lists.Lists.{same-or-other}
use Rattle.world_laws.proofs.parts.Nodes.{covering-number, number_at, prefix-itself, tree_at}
use Rattle.world_laws.proofs.parts.Points.{point-apart}
use Rattle.world_laws.proofs.parts.Standing.{IsUsed, Linked, Nothing, Only, Stands}
use Rattle.world_laws.proofs.parts.TreeParts.{filter-none, same-or-other-path, without, without-closed}

-- a node below its mount's point, without children, and no session's working directory
pub record MayGo (n : Namespace) (p : Path) : Type 0 where
  pub below : rest_of n p ≢ []
  pub childless : (name : List ℕ) → value_at path_cmp (rest_of n p ++ name ∷ []) (tree_at n p) ≡ None
  pub working_directories : (k : ℕ) → folder_of n k ≢ p

module _ (n : Namespace) (p : Path) (s : Stands Nothing n) (may : MayGo n p) where
  -- a file that is left stood where it stands
  left-file : (q : Path) (id : FileId) (kind : Kind) → value_at path_cmp q (without (rest_of n p) (tree_at n p)) ≡ Some (node.File id kind) →
      (q ≢ rest_of n p) × (value_at path_cmp q (tree_at n p) ≡ Some (node.File id kind))
  left-file q id kind h = elim (same-or-other-path q (rest_of n p)) [
    | inl e ↦
        let none : value_at path_cmp q (without (rest_of n p) (tree_at n p)) ≡ None = ap (λ r. value_at path_cmp r (without (rest_of n p) (tree_at n p))) e ∙ at-without-here (rest_of n p) (tree_at n p) in
        absurd (cc)
    | inr e ↦ (e, sym (at-without-other (rest_of n p) q (tree_at n p) e) ∙ h)
  ]

  left-point : (place : ℕ) (d : Mount) → place < length n.mounts →
      let point = (slice_index_or n.mounts place d).point in
      let rest : Path = drop (length (covered_mount n point).point) point in
      (covered_mount n point).number ≡ number_at n p →
      (node_in (without (rest_of n p) (tree_at n p)) rest ≡ Some node.Dir) × (list_any (λ entry. is_below rest entry.0) (without (rest_of n p) (tree_at n p)) ≡ false)
  left-point place d l e =
      let point = (slice_index_or n.mounts place d).point in
      let rest : Path = drop (length (covered_mount n point).point) point in
      let before = s.working_directories.points place d l in
      let apart : is_prefix rest (rest_of n p) ≡ false = point-apart n place d p s.working_directories l (sym e) in
      let old : node_in (tree_at n p) rest ≡ Some node.Dir = sym (ap (λ k. node_in (tree_of n k) rest) e) ∙ before.0 in
      let none : list_any (λ entry. is_below rest entry.0) (tree_at n p) ≡ false = sym (ap (λ k. list_any (λ entry. is_below rest entry.0) (tree_of n k)) e) ∙ before.1 in
      let other : rest ≢ rest_of n p = λ x. let yes : is_prefix rest (rest_of n p) ≡ true = ap (is_prefix rest) (sym x) ∙ prefix-itself rest in absurd (cc) in
      (node-other rest other ∙ old, filter-none (λ entry. not (same_path entry.0 (rest_of n p))) (is_below rest) (tree_at n p) none)
    where
      node-other : (rest : Path) → rest ≢ rest_of n p → node_in (without (rest_of n p) (tree_at n p)) rest ≡ node_in (tree_at n p) rest
      node-other [] h = refl
      node-other (name ∷ names) h = at-without-other (rest_of n p) (name ∷ names) (tree_at n p) h

  left-may : MayStand n (number_at n p) (without (rest_of n p) (tree_at n p))
  unfolding without_node
  left-may =
      let covering = covering-number n p s.working_directories in
      record {
        small = covering.0;
        mounted = covering.1;
        closed = without-closed (tree_at n p) (rest_of n p) may.below (s.trees (number_at n p)) may.childless;
        linked = λ q id kind h. s.live.linked (number_at n p) q id kind (left-file q id kind h).1;
        within = λ a b id same kind like h k r. (s.alone (number_at n p) (number_at n p) a b id same kind like (left-file a id kind h).1 (left-file b same like k).1 r).1;
        across = λ other a b id same kind like e h k r. e (sym (s.alone (number_at n p) other a b id same kind like (left-file a id kind h).1 k r).0);
        working_directories = λ k. ap is_dir_node (taken-other n p (standing-apart n s.working_directories) (subst (λ x. number_at n p < x) (sym s.sizes.trees) covering.0) (folder_of n k) (may.working_directories k)) ∙ s.working_directories.working_directories k;
        points = left-point;
      }

  -- what was linked elsewhere stays linked
  left-linked : (row : ℕ) → (linked : Linked n row) → (linked.number ≡ number_at n p → linked.path ≢ rest_of n p) → Linked (without_node n p) row
  unfolding without_node
  left-linked row linked other = record { number = linked.number; path = linked.path; id = linked.id; kind = linked.kind; there = found (same-or-other linked.number (number_at n p)); is = linked.is }
    where
      found : (linked.number ≡ number_at n p) ⊎ (linked.number ≢ number_at n p) →
          value_at path_cmp linked.path (tree_of (with_tree n (number_at n p) (without (rest_of n p) (tree_at n p))) linked.number) ≡ Some (node.File linked.id linked.kind)
      found (inr e) = ap (value_at path_cmp linked.path) (tree-other n (number_at n p) linked.number _ e) ∙ linked.there
      found (inl e) =
          let here : value_at path_cmp linked.path (tree_at n p) ≡ Some (node.File linked.id linked.kind) = sym (ap (λ k. value_at path_cmp linked.path (tree_of n k)) e) ∙ linked.there in
          ap (λ k. value_at path_cmp linked.path (tree_of (with_tree n (number_at n p) (without (rest_of n p) (tree_at n p))) k)) e
          ∙ ap (value_at path_cmp linked.path) (tree-own n (number_at n p) _ s.sizes.trees (covering-number n p s.working_directories).0)
          ∙ at-without-other (rest_of n p) linked.path (tree_at n p) (other e) ∙ here

  same-file : (id same : FileId) (kind like : Kind) → Some (node.File id kind) ≡ Some (node.File same like) → id ≡ same
  same-file id same kind like e = ap file e
    where
      file : Option NodeKind → FileId
      file None = id
      file (Some node.Dir) = id
      file (Some (node.File id kind)) = id

  -- a folder goes: all files stay where they are
  folder-used : value_at path_cmp (rest_of n p) (tree_at n p) ≡ Some node.Dir → (row : ℕ) → IsUsed Nothing n row → IsUsed Nothing (without_node n p) row
  unfolding without_node
  folder-used dir row (inl linked) = inl (left-linked row linked (λ e x.
      let there = sym (ap (λ k. value_at path_cmp linked.path (tree_of n k)) e) ∙ linked.there in
      let here = ap (λ r. value_at path_cmp r (tree_at n p)) x ∙ dir in
      absurd (cc)))
  folder-used dir row (inr (inl held)) = inr (inl held)
  folder-used dir row (inr (inr none)) = absurd none

  -- a file goes: its row may have lost its only name
  file-used : (id : FileId) (kind : Kind) → value_at path_cmp (rest_of n p) (tree_at n p) ≡ Some (node.File id kind) → (row : ℕ) → IsUsed Nothing n row → IsUsed (Only id.row) (without_node n p) row
  unfolding without_node
  file-used id kind there row (inr (inl held)) = inr (inl held)
  file-used id kind there row (inr (inr none)) = absurd none
  file-used id kind there row (inl linked) = by_place (same-or-other linked.number (number_at n p))
    where
      by_path : linked.number ≡ number_at n p → (linked.path ≡ rest_of n p) ⊎ (linked.path ≢ rest_of n p) → IsUsed (Only id.row) (without_node n p) row
      by_path e (inr x) = inl (left-linked row linked (λ _. x))
      by_path e (inl x) =
          let same : linked.id ≡ id = same-file linked.id id linked.kind kind
          (sym linked.there ∙ ap (λ k. value_at path_cmp linked.path (tree_of n k)) e ∙ ap (λ r. value_at path_cmp r (tree_at n p)) x ∙ there) in
          inr (inr (sym linked.is ∙ ap (λ file. file.row) same))

      by_place : (linked.number ≡ number_at n p) ⊎ (linked.number ≢ number_at n p) → IsUsed (Only id.row) (without_node n p) row
      by_place (inl e) = by_path e (same-or-other-path linked.path (rest_of n p))
      by_place (inr e) = inl (left-linked row linked (λ x. absurd (e x)))

  pub folder-gone : value_at path_cmp (rest_of n p) (tree_at n p) ≡ Some node.Dir → Stands Nothing (without_node n p)
  unfolding without_node
  folder-gone dir = tree-stands Nothing Nothing n (number_at n p) (without (rest_of n p) (tree_at n p)) left-may (λ row l h. folder-used dir row) s

  pub file-gone : (id : FileId) (kind : Kind) → value_at path_cmp (rest_of n p) (tree_at n p) ≡ Some (node.File id kind) → Stands (Only id.row) (without_node n p)
  unfolding without_node
  file-gone id kind there = tree-stands Nothing (Only id.row) n (number_at n p) (without (rest_of n p) (tree_at n p)) left-may (λ row l h. file-used id kind there row) s
