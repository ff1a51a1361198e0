-- A file, or a folder with all below it, moves within its mount.
use Rattle.std.proofs.Common.{◌≡◌, ◌≢◌, ℕ, suc, ◌<◌, true, false, Option, Some, None, [], ◌∷◌, ◌++◌, length, drop, slice_index_or, ◌⊎◌, inl, inr, refl, sym, ap, subst, ◌∙◌, arith}
use Rattle.std.specs.FinMap.Entries.{find as value_at}
use Rattle.std.specs.List.{list_any}
use Rattle.vfs_base.specs.Path.{Path, path_cmp}
use Rattle.vfs_base.specs.declared.ids.FileId.{FileId}
use Rattle.vfs_base.specs.declared.kinds.Kind.{Kind}
use Rattle.vfs_base.specs.declared.kinds.NodeKind.{NodeKind}
use Rattle.vfs_base.specs.declared.kinds.NodeKind.TheVariants as node
use Rattle.vfs_model.proofs.MountsApart.{standing-apart}
use Rattle.vfs_model.proofs.MovedLaws.{moved-beside, none-below, prefix-append}
use Rattle.vfs_model.proofs.RenameLaws.{renamed-beside}
use Rattle.vfs_model.proofs.Trees.{prefix-splits}
use Rattle.vfs_model.specs.Consistency.{covered_mount}
use Rattle.vfs_model.specs.Laws.{HasNoPoint}
use Rattle.vfs_model.specs.Lookup.{covering_mount, has_nodes, is_below, is_dir_node, is_folder, is_prefix, node_in, rest_of, with_tree}
use Rattle.vfs_model.specs.Namespace.{Tree, all_mounts, folder_of, tree_of}
use Rattle.vfs_model.specs.RenameStep.{moved, with_moved}
use Rattle.vfs_model.specs.declared.namespace.Mount.{Mount}
use Rattle.vfs_model.specs.declared.namespace.Namespace.{Namespace}
use Rattle.world_laws.proofs.parts.Covering.{covering-is, one-number, prefix-append-both, prefix-length, same-prefix, splits}
use Rattle.world_laws.proofs.parts.Growing.{MayStand, tree-other, tree-own, tree-stands}
use Rattle.world_laws.proofs.lists.Lists.{AnyKey, any-key, below-or-past, no-place, same-or-other, true-or-false}
use Rattle.world_laws.proofs.parts.Clear.{below-prefix}
use Rattle.world_laws.proofs.lists.Passing.{and-first}
use Rattle.vfs_model.proofs.MountLaws.{prefixes-nest}
use Rattle.world_laws.proofs.parts.Nodes.{covering-number, number_at, prefix-itself, tree_at}
use Rattle.world_laws.proofs.parts.Points.{point-apart, point-covers}
use Rattle.world_laws.proofs.parts.Standing.{IsUsed, Linked, Nothing, Only, Stands}
use Rattle.world_laws.proofs.parts.TreeMoves.{MayMove, Source, t-true, at-new, moved-closed, one-source, source}
use Rattle.world_laws.proofs.parts.TreeParts.{same-or-other-path}

-- a move that nothing refuses, in the mount of both paths
pub record MayRename (n : Namespace) (old new : Path) : Type 0 where
  pub one : number_at n old ≡ number_at n new
  pub move : MayMove (rest_of n old) (rest_of n new) (tree_at n old)
  pub plain : HasNoPoint n old
  pub clear : HasNoPoint n new
  pub empty : has_nodes n new ≡ false
  -- no session's working directory is old or new, or lies below one of them
  pub working_directories : (k : ℕ) → (is_prefix old (folder_of n k) ≡ false) × (is_prefix new (folder_of n k) ≡ false)

module _ (n : Namespace) (old new : Path) (s : Stands Nothing n) (may : MayRename n old new) where
  ro : Path
  ro = rest_of n old

  rn : Path
  rn = rest_of n new

  tree : Tree
  tree = tree_at n old

  file-source : (q : Path) (id : FileId) (kind : Kind) → value_at path_cmp q (moved (rest_of n old) (rest_of n new) (tree_at n old)) ≡ Some (node.File id kind) →
      Source (rest_of n old) (rest_of n new) (tree_at n old) may.move q (node.File id kind)
  file-source q id kind h = source (rest_of n old) (rest_of n new) (tree_at n old) may.move q (node.File id kind) h

  -- what stands in the moved tree at a path of which the rest of a point is a prefix, or the rest itself
  point-node : (rest : Path) → is_prefix (rest_of n new) rest ≡ false → is_prefix (rest_of n old) rest ≡ false →
      node_in (moved (rest_of n old) (rest_of n new) (tree_at n old)) rest ≡ node_in (tree_at n old) rest
  point-node [] h k = refl
  point-node (name ∷ names) h k = moved-beside (rest_of n old) (rest_of n new) (tree_at n old) (name ∷ names) h k

  -- in the mount of both paths a path that has none of them as a prefix has none of their rests as one
  rest-apart : (front : Path) (m : Mount) (r : Path) → covering_mount n front ≡ m → is_prefix front (m.point ++ r) ≡ false → is_prefix (rest_of n front) r ≡ false
  rest-apart front m r e h = elim (true-or-false (is_prefix (rest_of n front) r)) [
    | inr k ↦ k
    | inl k ↦
        let whole : front ≡ m.point ++ rest_of n front = splits n front s.working_directories ∙ ap (λ x. x.point ++ rest_of n front) e in
        let yes : is_prefix front (m.point ++ r) ≡ true = subst (λ x. is_prefix x (m.point ++ r) ≡ true) (sym whole) (prefix-append-both m.point (rest_of n front) r k) in
        absurd (cc)
  ]

  -- no node of the moved tree lies below a path at which none moved, where none lay before
  none-moved : (rest : Path) → is_prefix rest (rest_of n new) ≡ false → is_prefix (rest_of n new) rest ≡ false →
      list_any (λ entry. is_below rest entry.0) (tree_at n old) ≡ false → list_any (λ entry. is_below rest entry.0) (moved (rest_of n old) (rest_of n new) (tree_at n old)) ≡ false
  none-moved rest h k none = elim (true-or-false (list_any (λ entry. is_below rest entry.0) (moved (rest_of n old) (rest_of n new) (tree_at n old)))) [
    | inr m ↦ m
    | inl m ↦ absurd (found (any-key (is_below rest) (moved (rest_of n old) (rest_of n new) (tree_at n old)) (moved-closed (rest_of n old) (rest_of n new) (tree_at n old) may.move).sorted m))
  ]
    where
      found : AnyKey (is_below rest) (moved (rest_of n old) (rest_of n new) (tree_at n old)) → ⊥
      found at = elim (source (rest_of n old) (rest_of n new) (tree_at n old) may.move at.path at.node at.there).is [
        | inl x ↦
            let below : is_prefix rest (rest_of n new ++ x.0) ≡ true = subst (λ y. is_prefix rest y ≡ true) x.1 (and-first (is_prefix rest at.path) _ at.holds) in
            elim (below-or-past (length (rest_of n new)) (length rest)) [
              | inl l ↦ let yes = prefixes-nest (rest_of n new) rest (rest_of n new ++ x.0) (prefix-append (rest_of n new) x.0) below (omega (arith, l)) in absurd (cc)
              | inr l ↦ let yes = prefixes-nest rest (rest_of n new) (rest_of n new ++ x.0) below (prefix-append (rest_of n new) x.0) l in absurd (cc)
            ]
        | inr x ↦
            let there = (source (rest_of n old) (rest_of n new) (tree_at n old) may.move at.path at.node at.there).there in
            let gone : value_at path_cmp at.path (tree_at n old) ≡ None = none-below rest at.path (tree_at n old) none at.holds in
            let same = ap (λ y. value_at path_cmp y (tree_at n old)) x.2 in
            absurd (cc)
      ]

  moved-point : (place : ℕ) (d : Mount) → place < length n.mounts →
      let point = (slice_index_or n.mounts place d).point in
      let rest : Path = drop (length (covered_mount n point).point) point in
      (covered_mount n point).number ≡ number_at n old →
      (node_in (moved (rest_of n old) (rest_of n new) (tree_at n old)) rest ≡ Some node.Dir)
      × (list_any (λ entry. is_below rest entry.0) (moved (rest_of n old) (rest_of n new) (tree_at n old)) ≡ false)
  moved-point place d l e =
      let point = (slice_index_or n.mounts place d).point in
      let cm = covered_mount n point in
      let rest : Path = drop (length cm.point) point in
      let before = s.working_directories.points place d l in
      let c = point-covers n place d s.working_directories l in
      let under : is_prefix rest (rest_of n new) ≡ false = point-apart n place d new s.working_directories l (sym may.one ∙ sym e) in
      let own : covering_mount n old ≡ cm = one-number n (covering_mount n old) cm s.working_directories (covering-is n old s.working_directories) c.mount (sym e) in
      let also : covering_mount n new ≡ cm = one-number n (covering_mount n new) cm s.working_directories (covering-is n new s.working_directories) c.mount (sym may.one ∙ sym e) in
      let split : point ≡ cm.point ++ rest = prefix-splits cm.point point c.prefix in
      let no-old : is_prefix old (cm.point ++ rest) ≡ false = subst (λ x. is_prefix old x ≡ false) split (no-place (λ mount. is_prefix old mount.point) (all_mounts n) (suc place) d may.plain (omega (arith, l))) in
      let no-new : is_prefix new (cm.point ++ rest) ≡ false = subst (λ x. is_prefix new x ≡ false) split (no-place (λ mount. is_prefix new mount.point) (all_mounts n) (suc place) d may.clear (omega (arith, l))) in
      let apart-old = rest-apart old cm rest own no-old in
      let apart-new = rest-apart new cm rest also no-new in
      let old-node : node_in (tree_at n old) rest ≡ Some node.Dir = sym (ap (λ k. node_in (tree_of n k) rest) e) ∙ before.0 in
      let none : list_any (λ entry. is_below rest entry.0) (tree_at n old) ≡ false = sym (ap (λ k. list_any (λ entry. is_below rest entry.0) (tree_of n k)) e) ∙ before.1 in
      (point-node rest apart-new apart-old ∙ old-node, none-moved rest under apart-new none)

  moved-folder : (k : ℕ) → is_folder (with_moved n old new) (folder_of n k) ≡ true
  moved-folder k =
      let fits : number_at n old < length n.trees = subst (λ x. number_at n old < x) (sym s.sizes.trees) (covering-number n old s.working_directories).0 in
      ap is_dir_node (renamed-beside n old new (standing-apart n s.working_directories) may.one fits (t-true _ (s.trees (number_at n old)).sorted) may.plain may.clear may.empty
      (folder_of n k) (may.working_directories k).1 (may.working_directories k).0) ∙ s.working_directories.working_directories k

  moved-may : MayStand n (number_at n old) (moved (rest_of n old) (rest_of n new) (tree_at n old))
  unfolding with_moved
  moved-may =
      let covering = covering-number n old s.working_directories in
      record {
        small = covering.0;
        mounted = covering.1;
        closed = moved-closed (rest_of n old) (rest_of n new) (tree_at n old) may.move;
        linked = λ q id kind h. s.live.linked (number_at n old) (file-source q id kind h).path id kind (file-source q id kind h).there;
        within = λ a b id same kind like h k r.
            one-source (rest_of n old) (rest_of n new) (tree_at n old) may.move a b (node.File id kind) (node.File same like) (file-source a id kind h) (file-source b same like k)
            (s.alone (number_at n old) (number_at n old) (file-source a id kind h).path (file-source b same like k).path id same kind like (file-source a id kind h).there (file-source b same like k).there r).1;
        across = λ other a b id same kind like e h k r.
            e (sym (s.alone (number_at n old) other (file-source a id kind h).path b id same kind like (file-source a id kind h).there k r).0);
        working_directories = moved-folder;
        points = moved-point;
      }

  -- a file that stands at another path than new is named after the move
  moved-linked : (row : ℕ) → (linked : Linked n row) → (linked.number ≡ number_at n old → linked.path ≢ rest_of n new) → Linked (with_moved n old new) row
  unfolding with_moved
  moved-linked row linked other = at (same-or-other linked.number (number_at n old))
    where
      own : (p : Path) (found : NodeKind) → value_at path_cmp p (moved (rest_of n old) (rest_of n new) (tree_at n old)) ≡ Some found →
          value_at path_cmp p (tree_of (with_tree n (number_at n old) (moved (rest_of n old) (rest_of n new) (tree_at n old))) (number_at n old)) ≡ Some found
      own p found h = ap (value_at path_cmp p) (tree-own n (number_at n old) (moved (rest_of n old) (rest_of n new) (tree_at n old)) s.sizes.trees (covering-number n old s.working_directories).0) ∙ h

      stays : (p : Path) → value_at path_cmp p (moved (rest_of n old) (rest_of n new) (tree_at n old)) ≡ Some (node.File linked.id linked.kind) → Linked (with_moved n old new) row
      stays p h = record { number = number_at n old; path = p; id = linked.id; kind = linked.kind; there = own p (node.File linked.id linked.kind) h; is = linked.is }

      inside : value_at path_cmp linked.path (tree_at n old) ≡ Some (node.File linked.id linked.kind) → linked.path ≢ rest_of n new → Linked (with_moved n old new) row
      inside h apart = elim (true-or-false (is_prefix (rest_of n old) linked.path)) [
        | inl x ↦ stays (rest_of n new ++ drop (length (rest_of n old)) linked.path)
            (at-new (rest_of n old) (rest_of n new) (tree_at n old) may.move (drop (length (rest_of n old)) linked.path)
            ∙ sym (ap (λ y. value_at path_cmp y (tree_at n old)) (prefix-splits (rest_of n old) linked.path x)) ∙ h)
        | inr x ↦ elim (true-or-false (is_prefix (rest_of n new) linked.path)) [
          | inr y ↦ stays linked.path (moved-beside (rest_of n old) (rest_of n new) (tree_at n old) linked.path y x ∙ h)
          | inl y ↦
              let longer = prefix-length (rest_of n new) linked.path y in
              let differ : length (rest_of n new) ≢ length linked.path = λ e. apart (sym (same-prefix (rest_of n new) linked.path linked.path y (prefix-itself linked.path) e)) in
              let below : is_below (rest_of n new) linked.path ≡ true = below-prefix (rest_of n new) linked.path y (omega (arith, longer, differ)) in
              let none : value_at path_cmp linked.path (tree_at n old) ≡ None = none-below (rest_of n new) linked.path (tree_at n old) may.move.clear below in
              absurd (cc)
        ]
      ]

      at : (linked.number ≡ number_at n old) ⊎ (linked.number ≢ number_at n old) → Linked (with_moved n old new) row
      at (inl e) = inside (sym (ap (λ k. value_at path_cmp linked.path (tree_of n k)) e) ∙ linked.there) (other e)
      at (inr e) = record {
        number = linked.number;
        path = linked.path;
        id = linked.id;
        kind = linked.kind;
        is = linked.is;
        there = ap (value_at path_cmp linked.path) (tree-other n (number_at n old) linked.number (moved (rest_of n old) (rest_of n new) (tree_at n old)) e) ∙ linked.there;
      }

  plain-used : (row : ℕ) → ((id : FileId) (kind : Kind) → value_at path_cmp (rest_of n new) (tree_at n old) ≢ Some (node.File id kind)) → IsUsed Nothing n row → IsUsed Nothing (with_moved n old new) row
  unfolding with_moved
  plain-used row unfiled (inl linked) = inl (moved-linked row linked (λ e x.
      unfiled linked.id linked.kind (sym (ap (λ y. value_at path_cmp y (tree_at n old)) x) ∙ sym (ap (λ k. value_at path_cmp linked.path (tree_of n k)) e) ∙ linked.there)))
  plain-used row unfiled (inr (inl held)) = inr (inl held)
  plain-used row unfiled (inr (inr none)) = absurd none

  found-file : (id same : FileId) (kind like : Kind) → Some (node.File id kind) ≡ Some (node.File same like) → id ≡ same
  found-file id same kind like e = ap file e
    where
      file : Option NodeKind → FileId
      file None = id
      file (Some node.Dir) = id
      file (Some (node.File id kind)) = id

  replaced-used : (row : ℕ) (id : FileId) (kind : Kind) → value_at path_cmp (rest_of n new) (tree_at n old) ≡ Some (node.File id kind) → IsUsed Nothing n row → IsUsed (Only id.row) (with_moved n old new) row
  unfolding with_moved
  replaced-used row id kind there (inr (inl held)) = inr (inl held)
  replaced-used row id kind there (inr (inr none)) = absurd none
  replaced-used row id kind there (inl linked) = by_place (same-or-other linked.number (number_at n old)) (same-or-other-path linked.path (rest_of n new))
    where
      by_place : (linked.number ≡ number_at n old) ⊎ (linked.number ≢ number_at n old) → (linked.path ≡ rest_of n new) ⊎ (linked.path ≢ rest_of n new) → IsUsed (Only id.row) (with_moved n old new) row
      by_place (inr e) x = inl (moved-linked row linked (λ f. absurd (e f)))
      by_place (inl e) (inr x) = inl (moved-linked row linked (λ _. x))
      by_place (inl e) (inl x) =
          let same : linked.id ≡ id = found-file linked.id id linked.kind kind
          (sym linked.there ∙ ap (λ k. value_at path_cmp linked.path (tree_of n k)) e ∙ ap (λ r. value_at path_cmp r (tree_at n old)) x ∙ there) in
          inr (inr (sym linked.is ∙ ap (λ file. file.row) same))

  -- where no file stood at new
  pub moves-stands : ((id : FileId) (kind : Kind) → value_at path_cmp (rest_of n new) (tree_at n old) ≢ Some (node.File id kind)) → Stands Nothing (with_moved n old new)
  unfolding with_moved
  moves-stands unfiled = tree-stands Nothing Nothing n (number_at n old) (moved (rest_of n old) (rest_of n new) (tree_at n old)) moved-may (λ row l h. plain-used row unfiled) s

  -- where a file is replaced
  pub replaces-stands : (id : FileId) (kind : Kind) → value_at path_cmp (rest_of n new) (tree_at n old) ≡ Some (node.File id kind) → Stands (Only id.row) (with_moved n old new)
  unfolding with_moved
  replaces-stands id kind there = tree-stands Nothing (Only id.row) n (number_at n old) (moved (rest_of n old) (rest_of n new) (tree_at n old)) moved-may (λ row l h. replaced-used row id kind there) s
