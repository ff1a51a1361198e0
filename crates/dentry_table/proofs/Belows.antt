-- What stands below a path, where the nodes change.
use Rattle.std.proofs.Common.{◌≡◌, ◌≢◌, ℕ, suc, ◌+◌, ◌-◌, ◌<◌, true, false, ◌||◌, Some, None, List, [], ◌∷◌, ◌++◌, inl, inr, length, take, drop, refl, sym, ap, ◌∙◌, arith, append_assoc, length-append, length-take}
use Rattle.std.proofs.Math.Seq.{take-append_seam}
use Rattle.std.proofs.lemmas.List.{append-nil}
use Rattle.std.specs.FinMap.Entries.{find as value_at}
use Rattle.vfs_base.specs.Path.{Path, path_cmp}
use Rattle.vfs_model.proofs.MovedLaws.{prefix-append}
use Rattle.vfs_model.proofs.Trees.{prefix-splits}
use Rattle.vfs_model.specs.Lookup.{is_below, is_prefix}
use Rattle.vfs_model.specs.NormalPath.{parent_of}
use Rattle.node_maps.proofs.MovedNodes.{at-entry, at-later, none-under, same_or_other}
use Rattle.node_maps.specs.NodeMap.{NodeMap}
use Rattle.name_tree.proofs.Belows.{below-splits, none-below, some-below}
use Rattle.name_tree.proofs.Walks.{last_split}
use Rattle.name_tree.specs.Listed.{has_below}

-- no name stands before the root
pub prefix-of-root : (q : Path) → is_prefix q [] ≡ true → q ≡ []
prefix-of-root [] h = refl
prefix-of-root (name ∷ q) h = let split : [] ≡ (name ∷ q) ++ drop (length (name ∷ q)) [] = prefix-splits (name ∷ q) [] h in absurd (cc)

pub prefix-chain : (a b c : Path) → is_prefix a b ≡ true → is_prefix b c ≡ true → is_prefix a c ≡ true
prefix-chain a b c h k =
    let first = prefix-splits a b h in
    let second = prefix-splits b c k in
    ap (is_prefix a) (second ∙ ap (λ p. p ++ drop (length b) c) first ∙ append_assoc a (drop (length a) b) (drop (length b) c))
    ∙ prefix-append a (drop (length a) b ++ drop (length b) c)

parent-of : (front : Path) (name : List ℕ) → parent_of (front ++ name ∷ []) ≡ front
parent-of front name =
    let l : length (front ++ name ∷ []) - 1 ≡ length front = omega (arith, length-append front (name ∷ [])) in
    ap (λ n. take n (front ++ name ∷ [])) l ∙ take-append_seam front (name ∷ [])

-- a path that is not in front of another is no root
pub parent-shorter : (path room : Path) → is_prefix path room ≡ false → length (parent_of path) < length path
parent-shorter [] room h = let yes : is_prefix [] room ≡ true = prefix-append [] room in absurd (cc)
parent-shorter (name ∷ path) room h = grind (arith, length-take)

-- a path in front of another is in front of its parent
pub prefix-parent : (q path : Path) → is_prefix q path ≡ true → q ≢ path → is_prefix q (parent_of path) ≡ true
prefix-parent q path h other = elim (last_split (drop (length q) path)) [
  | inl e ↦ absurd (other (sym (prefix-splits q path h ∙ ap (λ r. q ++ r) e ∙ append-nil q)))
  | inr s ↦
      let split : path ≡ (q ++ s.0) ++ s.1 ∷ [] = prefix-splits q path h ∙ ap (λ r. q ++ r) s.2 ∙ sym (append_assoc q s.0 (s.1 ∷ [])) in
      ap (λ p. is_prefix q (parent_of p)) split ∙ ap (is_prefix q) (parent-of (q ++ s.0) s.1) ∙ prefix-append q s.0
]

module _ {N : Type 0} where
  -- a node below the path
  pub below-witness : (path : Path) (tree : NodeMap N) → has_below path tree ≡ true → (next : List ℕ) × (more : Path) × (value_at path_cmp (path ++ next ∷ more) tree ≢ None)
  below-witness path [] h = absurd (cc)
  below-witness path (entry ∷ tree) h =
      elim (is_below path entry.0) as (λ b. is_below path entry.0 ≡ b → (b || has_below path tree) ≡ true →
      (next : List ℕ) × (more : Path) × (value_at path_cmp (path ++ next ∷ more) (entry ∷ tree) ≢ None)) [
        | true ↦ λ e _.
            let s = below-splits path entry.0 e in
            (s.0, s.1, λ none. let some : value_at path_cmp (path ++ s.0 ∷ s.1) (entry ∷ tree) ≡ Some entry.1 = at-entry (path ++ s.0 ∷ s.1) entry tree (sym s.2) in absurd (cc))
        | false ↦ λ e k. let w = below-witness path tree k in (w.0, w.1, later (path ++ w.0 ∷ w.1) w.2)
      ] refl h
    where
      later : (q : Path) → value_at path_cmp q tree ≢ None → value_at path_cmp q (entry ∷ tree) ≢ None
      later q there none = elim (same_or_other q entry.0) [
        | inl f ↦ let some : value_at path_cmp q (entry ∷ tree) ≡ Some entry.1 = at-entry q entry tree f in absurd (cc)
        | inr g ↦ there (sym (at-later q entry tree g) ∙ none)
      ]

  -- where no node goes, nothing below a path goes
  pub below-kept : (path : Path) (old new : NodeMap N) → ((q : Path) → value_at path_cmp q new ≡ None → value_at path_cmp q old ≡ None) → has_below path new ≡ false → has_below path old ≡ false
  below-kept path old new kept h = none-below path old (λ next more. kept (path ++ next ∷ more) (none-under path new h next more))

  -- a node stands below each path in front of its own
  pub below-front : (q path : Path) (tree : NodeMap N) → is_prefix q path ≡ true → q ≢ path → value_at path_cmp path tree ≢ None → has_below q tree ≡ true
  below-front q path tree h other there = by_rest (drop (length q) path) (prefix-splits q path h)
    where
      by_rest : (rest : Path) → path ≡ q ++ rest → has_below q tree ≡ true
      by_rest [] e = absurd (other (sym (e ∙ append-nil q)))
      by_rest (next ∷ more) e = some-below q tree next more (λ none. there (ap (λ p. value_at path_cmp p tree) e ∙ none))

  -- what stands below a path stands below each one in front of it
  pub below-over : (q path : Path) (tree : NodeMap N) → is_prefix q path ≡ true → has_below path tree ≡ true → has_below q tree ≡ true
  below-over q path tree h b =
      let w = below-witness path tree b in
      let rest = drop (length q) path ++ w.0 ∷ w.1 in
      let split : path ++ w.0 ∷ w.1 ≡ q ++ rest = ap (λ p. p ++ w.0 ∷ w.1) (prefix-splits q path h) ∙ append_assoc q (drop (length q) path) (w.0 ∷ w.1) in
      let more : length rest ≡ length (drop (length q) path) + suc (length w.1) = length-append (drop (length q) path) (w.0 ∷ w.1) in
      below-front q (path ++ w.0 ∷ w.1) tree (ap (is_prefix q) split ∙ prefix-append q rest)
      (λ e. let l : length q ≡ length q + length rest = ap length (e ∙ split) ∙ length-append q rest in absurd (omega arith)) w.2
