-- A node is put at a path, and one is taken away.
use Rattle.std.proofs.Common.{◌≡◌, ◌≢◌, ℕ, ◌<◌, true, false, Option, Some, None, [], ◌∷◌, ◌++◌, length, drop, slice_index_or, ◌⊎◌, inl, inr, refl, sym, ap, subst, ◌∙◌, append_assoc, unwrap_or, ◌&&◌, ◌==◌}
use Rattle.std.proofs.lemmas.List.{append-nil}
use Rattle.std.specs.Prelude.{nat_lt}
use Rattle.std.proofs.lemmas.Bool.{leb-false}
use Rattle.std.specs.FinMap.Entries.{find as value_at, put}
use Rattle.std.specs.List.{list_any}
use Rattle.vfs_base.specs.Path.{Path, path_cmp}
use Rattle.vfs_base.specs.declared.ids.FileId.{FileId}
use Rattle.vfs_base.specs.declared.kinds.Kind.{Kind}
use Rattle.vfs_base.specs.declared.kinds.NodeKind.{NodeKind}
use Rattle.vfs_base.specs.declared.kinds.NodeKind.TheVariants as node
use Rattle.vfs_model.proofs.MovedLaws.{prefix-append}
use Rattle.vfs_model.proofs.MountsApart.{standing-apart}
use Rattle.vfs_model.proofs.NodeLaws.{put-other}
use Rattle.vfs_model.proofs.Trees.{at-put-here, at-put-other}
use Rattle.vfs_model.specs.Consistency.{FoldersStand, IsLive, covered_mount, is_number}
use Rattle.vfs_model.specs.Lookup.{covering_mount, is_below, is_dir_node, is_folder, is_full, is_prefix, node_at, node_in, rest_of, walk_refusal, with_node, with_tree}
use Rattle.vfs_model.specs.Namespace.{Tree, all_mounts, folder_of, tree_of}
use Rattle.vfs_model.specs.declared.namespace.Mount.{Mount}
use Rattle.vfs_model.specs.declared.namespace.Namespace.{Namespace}
use Rattle.world_laws.proofs.parts.Covering.{covering-is, covers-front, splits, walked}
use Rattle.world_laws.proofs.parts.Growing.{MayStand, tree-other, tree-own, tree-stands}
use Rattle.world_laws.proofs.lists.Lists.{same-or-other, place-any, number-itself}
use Rattle.world_laws.proofs.parts.Points.{point-apart}
use Rattle.world_laws.proofs.parts.Standing.{IsUsed, Linked, Nothing, Only, Stands}
use Rattle.world_laws.proofs.parts.TreeParts.{LastName, at-node, named, not-empty, put-closed, put-none, same-or-other-path}

-- the number and the tree of the mount that covers a path
abbrev pub number_at : Namespace → Path → ℕ
number_at n p = (covering_mount n p).number

abbrev pub tree_at : Namespace → Path → Tree
tree_at n p = tree_of n (number_at n p)

pub covering-number : (n : Namespace) (p : Path) → FoldersStand n → (number_at n p < 16) × (is_number n (number_at n p) ≡ true)
covering-number n p f =
    let m = covering-is n p f in
    let same : slice_index_or (all_mounts n) m.place (covering_mount n p) ≡ covering_mount n p = m.is in (
      subst (λ x. x.number < 16) same (f.numbers m.place (covering_mount n p) m.within),
      place-any (λ mount. mount.number == number_at n p) (all_mounts n) m.place (covering_mount n p) m.within
          (ap (λ x. x.number == number_at n p) same ∙ number-itself (number_at n p)),
    )

-- an absent path is below its mount's point, and its parent is a folder of the mount
pub record Absent (n : Namespace) (p : Path) : Type 0 where
  pub name : LastName (rest_of n p)
  pub none : value_at path_cmp (rest_of n p) (tree_at n p) ≡ None
  pub parent : is_dir_node (node_in (tree_at n p) name.front) ≡ true

in-none : (tree : Tree) (rest : Path) → node_in tree rest ≡ None → rest ≢ []
in-none tree rest h e = let there : node_in tree rest ≡ Some node.Dir = ap (node_in tree) e in absurd (cc)

-- what stands in the mount of a path at a front of its rest
pub at-front : (n : Namespace) (p front rest : Path) → FoldersStand n → rest_of n p ≡ front ++ rest → node_at n ((covering_mount n p).point ++ front) ≡ node_in (tree_at n p) front
unfolding node_at
at-front n p front rest f e =
    let c = covers-front n p front rest f e in
    ap (λ m. node_in (tree_of n m.number) (rest_of n ((covering_mount n p).point ++ front))) c.0 ∙ ap (node_in (tree_at n p)) c.1

pub at-rest : (n : Namespace) (p : Path) → node_at n p ≡ node_in (tree_at n p) (rest_of n p)
unfolding node_at
at-rest n p = refl

-- the parent of a path that is walked to is a folder of its mount
pub parent-dir : (n : Namespace) (p : Path) → FoldersStand n → walk_refusal n p ≡ None → (name : LastName (rest_of n p)) → is_dir_node (node_in (tree_at n p) name.front) ≡ true
parent-dir n p f walk name =
    let point = (covering_mount n p).point in
    let whole : p ≡ point ++ name.front ++ name.name ∷ [] = splits n p f ∙ ap (λ r. point ++ r) name.is ∙ sym (append_assoc point name.front (name.name ∷ [])) in
    let folder : is_folder n (point ++ name.front) ≡ true = walked n (point ++ name.front) name.name [] (sym (ap (walk_refusal n) whole) ∙ walk) in
    sym (ap is_dir_node (at-front n p name.front (name.name ∷ []) f name.is)) ∙ folder

pub absent-of : (n : Namespace) (p : Path) → FoldersStand n → walk_refusal n p ≡ None → node_at n p ≡ None → Absent n p
absent-of n p f walk h =
    let none : node_in (tree_at n p) (rest_of n p) ≡ None = sym (at-rest n p) ∙ h in
    let some = in-none (tree_at n p) (rest_of n p) none in
    let name = named (rest_of n p) some in
    record { name = name; none = sym (at-node (tree_at n p) (rest_of n p) some) ∙ none; parent = parent-dir n p f walk name }

-- a path with a name is not `/` of its mount
pub name-some : (p : Path) → (name : LastName p) → p ≢ []
name-some p name e = not-empty name.front name.name (sym name.is ∙ e)

pub prefix-itself : (q : Path) → is_prefix q q ≡ true
prefix-itself q = subst (λ x. is_prefix q x ≡ true) (append-nil q) (prefix-append q [])

-- what may come to a path: a folder, or a live file of the mount that no path names
abbrev pub IsFresh : Namespace → ℕ → NodeKind → Type 0
IsFresh n number new = (id : FileId) (kind : Kind) → new ≡ node.File id kind → IsLive n id kind number × (Linked n id.row → Unit {0} → ⊥)

file-same : (id same : FileId) (kind like : Kind) → Some (node.File id kind) ≡ Some (node.File same like) → id ≡ same
file-same id same kind like e = ap (λ found. file found) e
  where
    file : Option NodeKind → FileId
    file None = id
    file (Some node.Dir) = id
    file (Some (node.File id kind)) = id

module _ (Excused : ℕ → Type 0) (n : Namespace) (p : Path) (new : NodeKind) (s : Stands Excused n) (absent : Absent n p) (fresh : IsFresh n (number_at n p) new) where
  number : ℕ
  number = number_at n p

  -- where a file of the new tree stood
  put-file : (q : Path) (id : FileId) (kind : Kind) → value_at path_cmp q (put path_cmp (rest_of n p) new (tree_at n p)) ≡ Some (node.File id kind) →
      ((q ≡ rest_of n p) × (new ≡ node.File id kind)) ⊎ ((q ≢ rest_of n p) × (value_at path_cmp q (tree_at n p) ≡ Some (node.File id kind)))
  put-file q id kind h = elim (same-or-other-path q (rest_of n p)) [
    | inl e ↦
        let there : Some new ≡ Some (node.File id kind) = sym (at-put-here (rest_of n p) new (tree_at n p)) ∙ ap (λ r. value_at path_cmp r (put path_cmp (rest_of n p) new (tree_at n p))) (sym e) ∙ h in
        inl (e, ap (λ found. unwrap_or found new) there)
    | inr e ↦ inr (e, sym (at-put-other (rest_of n p) q new (tree_at n p) e) ∙ h)
  ]

  put-linked : (q : Path) (id : FileId) (kind : Kind) → value_at path_cmp q (put path_cmp (rest_of n p) new (tree_at n p)) ≡ Some (node.File id kind) → IsLive n id kind (number_at n p)
  put-linked q id kind h = elim (put-file q id kind h) [
    | inl x ↦ (fresh id kind x.1).0
    | inr x ↦ s.live.linked (number_at n p) q id kind x.1
  ]

  not-linked : (other : ℕ) (q : Path) (id same : FileId) (kind like : Kind) → new ≡ node.File id kind → value_at path_cmp q (tree_of n other) ≡ Some (node.File same like) → id.row ≢ same.row
  not-linked other q id same kind like e h r = (fresh id kind e).1 (record { number = other; path = q; id = same; kind = like; there = h; is = sym r }) tt

  put-within : (a b : Path) (id same : FileId) (kind like : Kind) → value_at path_cmp a (put path_cmp (rest_of n p) new (tree_at n p)) ≡ Some (node.File id kind) →
      value_at path_cmp b (put path_cmp (rest_of n p) new (tree_at n p)) ≡ Some (node.File same like) → id.row ≡ same.row → a ≡ b
  put-within a b id same kind like h k r = elim (put-file a id kind h) [
    | inl x ↦ elim (put-file b same like k) [
      | inl y ↦ x.0 ∙ sym y.0
      | inr y ↦ absurd (not-linked (number_at n p) b id same kind like x.1 y.1 r)
    ]
    | inr x ↦ elim (put-file b same like k) [
      | inl y ↦ absurd (not-linked (number_at n p) a same id like kind y.1 x.1 (sym r))
      | inr y ↦ (s.alone (number_at n p) (number_at n p) a b id same kind like x.1 y.1 r).1
    ]
  ]

  put-across : (other : ℕ) (a b : Path) (id same : FileId) (kind like : Kind) → other ≢ number_at n p → value_at path_cmp a (put path_cmp (rest_of n p) new (tree_at n p)) ≡ Some (node.File id kind) →
      value_at path_cmp b (tree_of n other) ≡ Some (node.File same like) → id.row ≢ same.row
  put-across other a b id same kind like e h k r = elim (put-file a id kind h) [
    | inl x ↦ not-linked other b id same kind like x.1 k r
    | inr x ↦ e (sym (s.alone (number_at n p) other a b id same kind like x.1 k r).0)
  ]

  put-point : (place : ℕ) (d : Mount) → place < length n.mounts →
      let point = (slice_index_or n.mounts place d).point in
      let rest : Path = drop (length (covered_mount n point).point) point in
      (covered_mount n point).number ≡ number_at n p →
      (node_in (put path_cmp (rest_of n p) new (tree_at n p)) rest ≡ Some node.Dir) × (list_any (λ entry. is_below rest entry.0) (put path_cmp (rest_of n p) new (tree_at n p)) ≡ false)
  put-point place d l e =
      let point = (slice_index_or n.mounts place d).point in
      let rest : Path = drop (length (covered_mount n point).point) point in
      let before = s.working_directories.points place d l in
      let apart : is_prefix rest (rest_of n p) ≡ false = point-apart n place d p s.working_directories l (sym e) in
      let old : node_in (tree_at n p) rest ≡ Some node.Dir = sym (ap (λ k. node_in (tree_of n k) rest) e) ∙ before.0 in
      let none : list_any (λ entry. is_below rest entry.0) (tree_at n p) ≡ false = sym (ap (λ k. list_any (λ entry. is_below rest entry.0) (tree_of n k)) e) ∙ before.1 in
      let other : rest ≢ rest_of n p = λ x. let yes : is_prefix rest (rest_of n p) ≡ true = ap (is_prefix rest) (sym x) ∙ prefix-itself rest in absurd (cc) in
      (node-other rest other ∙ old, put-none (is_below rest) (rest_of n p) new (tree_at n p) (not-below rest apart) none)
    where
      not-below : (rest : Path) → is_prefix rest (rest_of n p) ≡ false → is_below rest (rest_of n p) ≡ false
      not-below rest h = ap (λ b. b && nat_lt (length rest) (length (rest_of n p))) h

      node-other : (rest : Path) → rest ≢ rest_of n p → node_in (put path_cmp (rest_of n p) new (tree_at n p)) rest ≡ node_in (tree_at n p) rest
      node-other [] h = refl
      node-other (name ∷ names) h = at-put-other (rest_of n p) (name ∷ names) new (tree_at n p) h

  put-may : node_at n p ≡ None → is_full n p ≡ false → MayStand n (number_at n p) (put path_cmp (rest_of n p) new (tree_at n p))
  unfolding with_node
  put-may h room =
      let covering = covering-number n p s.working_directories in
      record {
        small = covering.0;
        mounted = covering.1;
        closed = put-closed (tree_at n p) (rest_of n p) absent.name.front absent.name.name new (s.trees (number_at n p)) absent.none absent.name.is absent.parent
            (leb-false 4096 (length (tree_at n p)) room);
        linked = put-linked;
        within = put-within;
        across = put-across;
        working_directories = λ k.
            let q = folder_of n k in
            let folder = s.working_directories.working_directories k in
            let other : q ≢ p = λ e. let none : is_folder n q ≡ false = ap (is_folder n) e ∙ ap is_dir_node h in absurd (cc) in
            ap is_dir_node (put-other n p new (standing-apart n s.working_directories) (subst (λ x. number_at n p < x) (sym s.sizes.trees) covering.0) q other) ∙ folder;
        points = put-point;
      }

  -- what was linked stays linked
  put-keeps : (row : ℕ) → Linked n row → Linked (with_node n p new) row
  unfolding with_node
  put-keeps row linked = record { number = linked.number; path = linked.path; id = linked.id; kind = linked.kind; there = found (same-or-other linked.number (number_at n p)); is = linked.is }
    where
      found : (linked.number ≡ number_at n p) ⊎ (linked.number ≢ number_at n p) →
          value_at path_cmp linked.path (tree_of (with_tree n (number_at n p) (put path_cmp (rest_of n p) new (tree_at n p))) linked.number) ≡ Some (node.File linked.id linked.kind)
      found (inr e) = ap (value_at path_cmp linked.path) (tree-other n (number_at n p) linked.number _ e) ∙ linked.there
      found (inl e) =
          let here : value_at path_cmp linked.path (tree_at n p) ≡ Some (node.File linked.id linked.kind) = sym (ap (λ k. value_at path_cmp linked.path (tree_of n k)) e) ∙ linked.there in
          let other : linked.path ≢ rest_of n p = λ x. let none = ap (λ r. value_at path_cmp r (tree_at n p)) x ∙ absent.none in absurd (cc) in
          ap (λ k. value_at path_cmp linked.path (tree_of (with_tree n (number_at n p) (put path_cmp (rest_of n p) new (tree_at n p))) k)) e
          ∙ ap (value_at path_cmp linked.path) (tree-own n (number_at n p) _ s.sizes.trees (covering-number n p s.working_directories).0)
          ∙ at-put-other (rest_of n p) linked.path new (tree_at n p) other ∙ here

  -- and the new file is linked
  put-new : (id : FileId) (kind : Kind) → new ≡ node.File id kind → Linked (with_node n p new) id.row
  unfolding with_node
  put-new id kind e = record {
    number = number_at n p;
    path = rest_of n p;
    id = id;
    kind = kind;
    there = ap (value_at path_cmp (rest_of n p)) (tree-own n (number_at n p) _ s.sizes.trees (covering-number n p s.working_directories).0)
        ∙ at-put-here (rest_of n p) new (tree_at n p) ∙ ap Some e;
    is = refl;
  }

  -- the row of the new file is named now, and the others as before
  put-used : (After : ℕ → Type 0) → ((row : ℕ) → Excused row → IsUsed After (with_node n p new) row) → (row : ℕ) → IsUsed Excused n row → IsUsed After (with_node n p new) row
  unfolding with_node
  put-used After excuse row (inl linked) = inl (put-keeps row linked)
  put-used After excuse row (inr (inl held)) = inr (inl held)
  put-used After excuse row (inr (inr excused)) = excuse row excused

  pub put-stands : (After : ℕ → Type 0) → node_at n p ≡ None → is_full n p ≡ false → ((row : ℕ) → Excused row → IsUsed After (with_node n p new) row) → Stands After (with_node n p new)
  unfolding with_node
  put-stands After h room excuse = tree-stands Excused After n (number_at n p) (put path_cmp (rest_of n p) new (tree_at n p)) (put-may h room) (λ row l k. put-used After excuse row) s

-- a folder comes to an absent path
pub folder-comes : (n : Namespace) (p : Path) → Stands Nothing n → walk_refusal n p ≡ None → node_at n p ≡ None → is_full n p ≡ false → Stands Nothing (with_node n p node.Dir)
folder-comes n p s walk h room =
    put-stands Nothing n p node.Dir s (absent-of n p s.working_directories walk h) (λ id kind e. absurd (not-file id kind e)) Nothing h room (λ row none. absurd none)
  where
    not-file : (id : FileId) (kind : Kind) → node.Dir ≢ node.File id kind
    not-file id kind e = absurd (cc)

kind-same : (id other : FileId) (kind like : Kind) → node.File id kind ≡ node.File other like → kind ≡ like
kind-same id other kind like e = ap of e
  where
    of : NodeKind → Kind
    of node.Dir = kind
    of (node.File id kind) = kind

-- a live file that nothing names comes to an absent path of its mount
pub file-comes : (n : Namespace) (p : Path) (id : FileId) (kind : Kind) → Stands (Only id.row) n → walk_refusal n p ≡ None → node_at n p ≡ None → is_full n p ≡ false →
    IsLive n id kind (number_at n p) → (Linked n id.row → Unit {0} → ⊥) → Stands Nothing (with_node n p (node.File id kind))
file-comes n p id kind s walk h room live unlinked =
    let absent = absent-of n p s.working_directories walk h in
    put-stands (Only id.row) n p (node.File id kind) s absent fresh Nothing h room
    (λ row e. subst (IsUsed Nothing (with_node n p (node.File id kind))) (sym e) (inl (put-new (Only id.row) n p (node.File id kind) s absent fresh id kind refl)))
  where
    fresh : IsFresh n (number_at n p) (node.File id kind)
    fresh other like e =
        let same = file-same id other kind like (ap Some e) in (
          subst (λ x. IsLive n x like (number_at n p)) same (subst (λ x. IsLive n id x (number_at n p)) (kind-same id other kind like e) live),
          λ linked. unlinked (subst (λ x. Linked n x.row) (sym same) linked),
        )
