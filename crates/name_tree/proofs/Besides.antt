-- Whether anything stands below a path, but not at a name there, is whether its node has an entry of another name.
use Rattle.std.proofs.Common.{◌≡◌, ◌≢◌, ℕ, Bool, true, false, cond, not, ◌&&◌, ◌||◌, Option, Some, None, List, [], ◌∷◌, ◌++◌, inl, inr, length, drop, option_and_then, refl, sym, ap, ◌∙◌, append_assoc}
use Rattle.std.proofs.lemmas.List.{append_cancel_left}
use Rattle.std.specs.BTreeMap.{is_at}
use Rattle.std.specs.Cmp.Lexicographic.{bytes_decides, pointwise}
use Rattle.std.specs.FinMap.Entries.{find as value_at}
use Rattle.std.specs.Map.{lookup}
use Rattle.std.specs.Prelude.{nat_eq, slice_index_or}
use Rattle.vfs_base.specs.Path.{Path, path_cmp}
use Rattle.vfs_model.proofs.MovedLaws.{below-longer, neither, prefix-append}
use Rattle.vfs_model.proofs.Trees.{prefix-splits}
use Rattle.vfs_model.specs.Lookup.{is_below, is_prefix}
use Rattle.node_maps.proofs.MovedNodes.{at-entry, at-later, same_or_other}
use Rattle.node_maps.specs.NodeMap.{NodeMap}
use Rattle.name_tree.proofs.Belows.{after, and_parts, below-splits}
use Rattle.name_tree.proofs.NodeSlots.{level-itself}
use Rattle.name_tree.proofs.Views.{child-leads, name-is}
use Rattle.name_tree.specs.Layout.{IsSound, child_in, entries_in, has_other, name_cmp, tree_of, value_in, walk}
use Rattle.name_tree.specs.Listed.{has_beside}
use Rattle.name_tree.specs.declared.node.Node.{Node}

not-true : (b : Bool) → (b ≡ true → ⊥) → b ≡ false
not-true true h = absurd (h refl)
not-true false h = refl

-- what goes on by another name is beside the name
pub beside-other : (path more : Path) (name next : List ℕ) → next ≢ name → is_prefix (path ++ name ∷ []) (path ++ next ∷ more) ≡ false
beside-other path more name next other = not-true (is_prefix (path ++ name ∷ []) (path ++ next ∷ more)) (λ e.
    let split = prefix-splits (path ++ name ∷ []) (path ++ next ∷ more) e in
    let rest : next ∷ more ≡ name ∷ drop (length (path ++ name ∷ [])) (path ++ next ∷ more) =
    append_cancel_left path (next ∷ more) (name ∷ drop (length (path ++ name ∷ [])) (path ++ next ∷ more)) (split ∙ append_assoc path (name ∷ []) (drop (length (path ++ name ∷ [])) (path ++ next ∷ more))) in
    absurd (other (first rest)))
  where
    first : {a b : List ℕ} {p q : Path} → a ∷ p ≡ b ∷ q → a ≡ b
    first e = ap (λ l. slice_index_or l 0 []) e

same_name : (a b : List ℕ) → pointwise nat_eq a b ≡ true → a ≡ b
same_name a b = (bytes_decides a b).0

name-itself : (a : List ℕ) → pointwise nat_eq a a ≡ true
name-itself a = (bytes_decides a a).1 refl

other-at : (name other : List ℕ) → name ≢ other → is_at (name_cmp name) other ≡ false
other-at name other h = not-true (is_at (name_cmp name) other) (λ e. h (name-is name other e))

-- no entry has another name
other-absent : (name next : List ℕ) (entries : List (List ℕ × ℕ)) → next ≢ name → has_other name entries ≡ false → lookup (is_at (name_cmp next)) entries ≡ None
other-absent name next [] other h = refl
other-absent name next (entry ∷ entries) other h =
    let parts = neither (not (pointwise nat_eq entry.0 name)) (has_other name entries) h in
    let is : entry.0 ≡ name = same_name entry.0 name (double (pointwise nat_eq entry.0 name) parts.0) in
    ap (λ b. cond b (Some entry.1) (lookup (is_at (name_cmp next)) entries)) (other-at next entry.0 (λ e. other (e ∙ is)))
    ∙ other-absent name next entries other parts.1
  where
    double : (b : Bool) → not b ≡ false → b ≡ true
    double true h = refl
    double false h = absurd (cc)

-- an entry has another name
other-found : (name : List ℕ) (entries : List (List ℕ × ℕ)) → has_other name entries ≡ true → (next : List ℕ) × (next ≢ name) × (lookup (is_at (name_cmp next)) entries ≢ None)
other-found name [] h = absurd (cc)
other-found name (entry ∷ entries) h = elim (pointwise nat_eq entry.0 name) as (λ b. pointwise nat_eq entry.0 name ≡ b → (not b || has_other name entries) ≡ true →
    (next : List ℕ) × (next ≢ name) × (lookup (is_at (name_cmp next)) (entry ∷ entries) ≢ None)) [
      | false ↦ λ e _. (
        entry.0,
        λ same. let yes : pointwise nat_eq entry.0 name ≡ true = ap (pointwise nat_eq entry.0) (sym same) ∙ name-itself entry.0 in absurd (cc),
        λ none. let some : lookup (is_at (name_cmp entry.0)) (entry ∷ entries) ≡ Some entry.1 = ap (λ b. cond b (Some entry.1) (lookup (is_at (name_cmp entry.0)) entries)) (level-itself entry.0) in absurd (cc),
      )
      | true ↦ λ e k. let w = other-found name entries k in (w.0, w.1, later w.0 (is_at (name_cmp w.0) entry.0) w.2)
    ] refl h
  where
    later : (next : List ℕ) (b : Bool) → lookup (is_at (name_cmp next)) entries ≢ None → cond b (Some entry.1) (lookup (is_at (name_cmp next)) entries) ≢ None
    later next true there none = absurd (cc)
    later next false there none = there none

module _ {N : Type 0} where
  abbrev test : Path → List ℕ → (Path × N) → Bool
  test path name entry = is_below path entry.0 && not (is_prefix (path ++ name ∷ []) entry.0)

  pub some-beside : (path : Path) (name : List ℕ) (tree : NodeMap N) (next : List ℕ) (more : Path) → next ≢ name → value_at path_cmp (path ++ next ∷ more) tree ≢ None → has_beside path name tree ≡ true
  some-beside path name [] next more other there = absurd (there refl)
  some-beside path name (entry ∷ tree) next more other there = elim (same_or_other (path ++ next ∷ more) entry.0) [
    | inl e ↦
        let below : is_below path entry.0 ≡ true = ap (is_below path) (sym e) ∙ below-longer path next more in
        let aside : is_prefix (path ++ name ∷ []) entry.0 ≡ false = ap (is_prefix (path ++ name ∷ [])) (sym e) ∙ beside-other path more name next other in
        ap (λ b. (b && not (is_prefix (path ++ name ∷ []) entry.0)) || has_beside path name tree) below ∙ ap (λ b. not b || has_beside path name tree) aside
    | inr f ↦ or-right (test path name entry) (has_beside path name tree) (some-beside path name tree next more other (λ none. there (at-later (path ++ next ∷ more) entry tree f ∙ none)))
  ]
    where
      or-right : (a b : Bool) → b ≡ true → (a || b) ≡ true
      or-right true b h = refl
      or-right false b h = h

  -- a node below the path, by another name
  pub beside-witness : (path : Path) (name : List ℕ) (tree : NodeMap N) → has_beside path name tree ≡ true → (next : List ℕ) × (more : Path) × (next ≢ name) × (value_at path_cmp (path ++ next ∷ more) tree ≢ None)
  beside-witness path name [] h = absurd (cc)
  beside-witness path name (entry ∷ tree) h =
      elim (test path name entry) as (λ b. test path name entry ≡ b → (b || has_beside path name tree) ≡ true →
      (next : List ℕ) × (more : Path) × (next ≢ name) × (value_at path_cmp (path ++ next ∷ more) (entry ∷ tree) ≢ None)) [
        | true ↦ λ e _.
            let parts = and_parts (is_below path entry.0) (not (is_prefix (path ++ name ∷ []) entry.0)) e in
            let s = below-splits path entry.0 parts.0 in (
              s.0,
              s.1,
              λ same. (
                  let split : entry.0 ≡ (path ++ name ∷ []) ++ s.1 = s.2 ∙ ap (λ n. path ++ n ∷ s.1) same ∙ sym (append_assoc path (name ∷ []) s.1) in
                  let yes : is_prefix (path ++ name ∷ []) entry.0 ≡ true = ap (is_prefix (path ++ name ∷ [])) split ∙ prefix-append (path ++ name ∷ []) s.1 in
                  let no : not (is_prefix (path ++ name ∷ []) entry.0) ≡ true = parts.1 in
                  absurd (cc)),
              λ none. let some : value_at path_cmp (path ++ s.0 ∷ s.1) (entry ∷ tree) ≡ Some entry.1 = at-entry (path ++ s.0 ∷ s.1) entry tree (sym s.2) in absurd (cc),
            )
        | false ↦ λ e k. let w = beside-witness path name tree k in (w.0, w.1, w.2, later (path ++ w.0 ∷ w.1) w.3)
      ] refl h
    where
      later : (q : Path) → value_at path_cmp q tree ≢ None → value_at path_cmp q (entry ∷ tree) ≢ None
      later q there none = elim (same_or_other q entry.0) [
        | inl f ↦ let some : value_at path_cmp q (entry ∷ tree) ≡ Some entry.1 = at-entry q entry tree f in absurd (cc)
        | inr g ↦ there (sym (at-later q entry tree g) ∙ none)
      ]

  none-beside : (path : Path) (name : List ℕ) (tree : NodeMap N) → ((next : List ℕ) (more : Path) → next ≢ name → value_at path_cmp (path ++ next ∷ more) tree ≡ None) → has_beside path name tree ≡ false
  none-beside path name tree h = not-true (has_beside path name tree) (λ e. let w = beside-witness path name tree e in w.3 (h w.0 w.1 w.2))

  module _ {nodes : List (Option (Node N))} {count : ℕ} {tree : NodeMap N} (s : IsSound nodes count) (view : tree_of nodes ≡ tree) (path : Path) (name : List ℕ) where
    pub beside-nothing : walk (child_in nodes) 0 path ≡ None → has_beside path name tree ≡ false
    beside-nothing w = none-beside path name tree (λ next more _. after s view path next more None w)

    pub beside-entries : (slot : ℕ) → walk (child_in nodes) 0 path ≡ Some slot → has_beside path name tree ≡ has_other name (entries_in nodes slot)
    beside-entries slot w = elim (has_other name (entries_in nodes slot)) as (λ b. has_other name (entries_in nodes slot) ≡ b → has_beside path name tree ≡ b) [
      | true ↦ λ e.
          let o = other-found name (entries_in nodes slot) e in
          some-beside path name tree o.0 [] o.1 (leads o.0 (child_in nodes slot o.0) refl (λ none. o.2 (sym (child-leads nodes slot o.0) ∙ none)))
      | false ↦ λ e. none-beside path name tree (λ next more other. found next more None (child-leads nodes slot next ∙ other-absent name next (entries_in nodes slot) other e))
    ] refl
      where
        found : (next : List ℕ) (more : Path) (o : Option ℕ) → child_in nodes slot next ≡ o → value_at path_cmp (path ++ next ∷ more) tree ≡ option_and_then (value_in nodes) (option_and_then (λ b. walk (child_in nodes) b more) o)
        found next more o e = after s view path next more (Some slot) w ∙ ap (λ x. option_and_then (value_in nodes) (option_and_then (λ b. walk (child_in nodes) b more) x)) e

        leads : (next : List ℕ) (o : Option ℕ) → child_in nodes slot next ≡ o → o ≢ None → value_at path_cmp (path ++ next ∷ []) tree ≢ None
        leads next None e there none = there refl
        leads next (Some below) e there none = s.tree.live slot next below e (sym (found next [] (Some below) e) ∙ none)
