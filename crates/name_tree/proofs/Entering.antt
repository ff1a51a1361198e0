-- A walk along a path on which nodes come where none stood.
use Rattle.std.proofs.Common.{◌≡◌, ◌≢◌, ℕ, suc, ◌+◌, Option, Some, None, IsSome, is_some, List, [], ◌∷◌, ◌++◌, take, OnErr, Result, Ok, Err, refl, sym, ap, subst, ◌∙◌}
use Rattle.std.specs.FinMap.Entries.{find as value_at, put}
use Rattle.vfs_base.specs.Path.{Path, path_cmp}
use Rattle.node_maps.specs.NodeMap.{NodeMap}
use Rattle.name_tree.proofs.Calls.{absent-last}
use Rattle.name_tree.proofs.NodeChanges.{sound-inserted, there-walk, tree_of-inserted, walk-name}
use Rattle.name_tree.proofs.Walks.{not-below-itself, walk-beside}
use Rattle.name_tree.specs.Changes.{Inserts}
use Rattle.name_tree.specs.Entered.{entered, put_unless, with_node}
use Rattle.name_tree.specs.Layout.{IsSound, child_in, tree_of, walk}
use Rattle.name_tree.specs.declared.node.Node.{Node}

with_node-there : {N : Type 0} (path : Path) (value : N) (tree : NodeMap N) → value_at path_cmp path tree ≢ None → with_node path value tree ≡ tree
with_node-there path value tree h = elim (value_at path_cmp path tree) as (λ o. value_at path_cmp path tree ≡ o → put_unless o path value tree ≡ tree) [
  | None ↦ λ e. absurd (h e)
  | Some found ↦ λ e. refl
] refl

with_node-absent : {N : Type 0} (path : Path) (value : N) (tree : NodeMap N) → value_at path_cmp path tree ≡ None → with_node path value tree ≡ put path_cmp path value tree
with_node-absent path value tree h = ap (λ o. put_unless o path value tree) h

-- so many names of the path lead to a slot, and a node stands behind each of them
pub record IsEntered {N : Type 0} (old new : List (Option (Node N))) (count : ℕ) (path : Path) (value : N) (done slot : ℕ) : Type 0 where
  pub sound : IsSound new count
  pub leads : walk (child_in new) 0 (take done path) ≡ Some slot
  pub tree : tree_of new ≡ entered done path value (tree_of old)

module _ {N : Type 0} {old new next : List (Option (Node N))} {count more done slot to : ℕ} {path : Path} {value : N} (name : List ℕ)
    (e : IsEntered old new count path value done slot) (front : take (suc done) path ≡ take done path ++ name ∷ []) (leads : child_in next slot name ≡ Some to) where
  -- the node of the next name was there
  stepped-there : (there : ℕ) → child_in new slot name ≡ Some there → next ≡ new → more ≡ count → IsEntered old next more path value (suc done) to
  stepped-there there f same len = record {
    sound = subst (λ n. IsSound next n) (sym len) (subst (λ nodes. IsSound nodes count) (sym same) e.sound);
    leads = ap (λ nodes. walk (child_in nodes) 0 (take (suc done) path)) same ∙ ap (walk (child_in new) 0) front ∙ walk-name e.sound (take done path) name e.leads to (sym (ap (λ nodes. child_in nodes slot name) same) ∙ leads);
    tree =
        ap tree_of same ∙ e.tree
        ∙ sym (with_node-there (take (suc done) path) value (entered done path value (tree_of old)) (λ none.
        e.sound.tree.live slot name there f
        (sym (there-walk e.sound (take done path ++ name ∷ []) there (walk-name e.sound (take done path) name e.leads there f))
        ∙ ap (λ p. value_at path_cmp p (tree_of new)) (sym front) ∙ ap (value_at path_cmp (take (suc done) path)) e.tree ∙ none)));
  }

  -- it came
  stepped-new : child_in new slot name ≡ None → Inserts new next slot name value → more ≡ count + 1 → IsEntered old next more path value (suc done) to
  stepped-new f i len =
      let absent : value_at path_cmp (take done path ++ name ∷ []) (tree_of new) ≡ None = absent-last e.sound refl (take done path) name refl e.leads f in
      let sound : IsSound next (count + 1) = sound-inserted e.sound (take done path) name e.leads absent i in
      let up : walk (child_in next) 0 (take done path) ≡ Some slot =
      walk-beside e.sound.tree (take done path) e.leads i.entry (take done path) (not-below-itself (take done path) name) ∙ e.leads in
      record {
        sound = subst (λ n. IsSound next n) (sym len) sound;
        leads = ap (walk (child_in next) 0) front ∙ walk-name sound (take done path) name up to leads;
        tree =
            tree_of-inserted e.sound (take done path) name e.leads absent i
            ∙ ap (λ p. put path_cmp p value (tree_of new)) (sym front) ∙ ap (put path_cmp (take (suc done) path) value) e.tree
            ∙ sym (with_node-absent (take (suc done) path) value (entered done path value (tree_of old))
            (sym (ap (value_at path_cmp (take (suc done) path)) e.tree) ∙ ap (λ p. value_at path_cmp p (tree_of new)) front ∙ absent));
      }

  pub stepped-down : (IsSome (child_in new slot name) → next ≡ new) → (IsSome (child_in new slot name) → more ≡ count) →
      (child_in new slot name ≡ None → Inserts new next slot name value) → (child_in new slot name ≡ None → more ≡ count + 1) →
      IsEntered old next more path value (suc done) to
  stepped-down same kept comes longer = elim (child_in new slot name) as (λ o. child_in new slot name ≡ o → IsEntered old next more path value (suc done) to) [
    | None ↦ λ f. stepped-new f (comes f) (longer f)
    | Some there ↦ λ f. stepped-there there f (same (ap is_some f)) (kept (ap is_some f))
  ] refl

-- a fact that holds anyway
pub held-anyway : {X E : Type 0} {P : Type 0} (r : Result X E) → P → OnErr r P
held-anyway (Ok x) p = tt
held-anyway (Err e) p = p
