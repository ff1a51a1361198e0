-- The entries of a node, by name, are what stands directly below its path.
use Rattle.std.proofs.Common.{◌≡◌, ◌≢◌, ℕ, ◌+◌, ◌-◌, Bool, true, false, cond, ◌&&◌, ◌==◌, T, nat_lt, Option, Some, None, List, [], ◌∷◌, ◌++◌, length, map, filter, drop, option_and_then, refl, sym, ap, subst, ◌∙◌, arith, length-append}
use Rattle.std.proofs.lemmas.Bool.Decides.{nat_tests}
use Rattle.std.specs.BTreeMap.{is_at}
use Rattle.std.specs.FinMap.Entries.{below_all, find as value_at, is_sorted, is_sorted-where_key, same_entries}
use Rattle.std.specs.List.{AllByRecursion}
use Rattle.std.specs.List.Sorted.{IsStrictlySortedBy}
use Rattle.std.specs.Map.{keys_of, lookup}
use Rattle.std.specs.Ordering.{is_lt}
use Rattle.std.specs.Prelude.{slice_index_or}
use Rattle.std.specs.declared.cmp.Ordering.{Ordering}
use Rattle.std.specs.declared.cmp.Ordering.TheVariants.{Less}
use Rattle.vfs_base.proofs.PathOrder.{beside}
use Rattle.vfs_base.specs.Path.{Path, path_cmp}
use Rattle.vfs_base.specs.PathLaws.{path_cmp_exact, path_cmp_total}
use Rattle.vfs_model.proofs.MovedLaws.{below-longer}
use Rattle.vfs_model.proofs.Trees.{at-filter, prefix-splits}
use Rattle.vfs_model.specs.Lookup.{is_below, is_prefix}
use Rattle.vfs_model.specs.NameSteps.{is_entry_of, last_name}
use Rattle.node_maps.proofs.MovedNodes.{at-entry, at-later, below-absent}
use Rattle.node_maps.specs.NodeMap.{NodeMap}
use Rattle.name_tree.proofs.NodeSlots.{level-itself}
use Rattle.name_tree.proofs.Views.{child-leads, name-is, tree-at, tree-sorted}
use Rattle.name_tree.proofs.Walks.{walk-append}
use Rattle.name_tree.specs.Changes.{named_values, with_name}
use Rattle.name_tree.specs.Layout.{IsSound, child_in, entries_in, found_in, name_cmp, tree_of, value_in, walk}
use Rattle.name_tree.specs.Listed.{listed}
use Rattle.name_tree.specs.declared.node.Node.{Node}

is_lt-Less : (o : Ordering) → o ≡ Less → T (is_lt o)
is_lt-Less o e = subst (λ x. T (is_lt x)) (sym e) tt

and_true : (a b : Bool) → T a → T b → T (a && b)
and_true true b h k = k
and_true false b h k = h

and_split : (a b : Bool) → (a && b) ≡ true → (a ≡ true) × (b ≡ true)
and_split true b h = (refl, h)
and_split false b h = absurd (cc)

-- a path with one name more is that of an entry
entry-of : (path : Path) (name : List ℕ) → is_entry_of path (path ++ name ∷ []) ≡ true
entry-of path name =
    let l : (length (path ++ name ∷ []) == length path + 1) ≡ true = rw (length-append path (name ∷ [])) (grind (arith, nat_tests)) in
    ap (λ b. b && (length (path ++ name ∷ []) == length path + 1)) (below-longer path name []) ∙ l

one_name : (rest : Path) (n : ℕ) → length rest ≡ 1 → (name : List ℕ) × (rest ≡ name ∷ [])
one_name [] n h = absurd (omega arith)
one_name (name ∷ []) n h = (name, refl)
one_name (name ∷ other ∷ rest) n h = absurd (omega arith)

-- the path of an entry has one name more
entry-splits : (path q : Path) → is_entry_of path q ≡ true → (name : List ℕ) × (q ≡ path ++ name ∷ [])
entry-splits path q h =
    let parts = and_split (is_below path q) (length q == length path + 1) h in
    let front = and_split (is_prefix path q) (nat_lt (length path) (length q)) parts.0 in
    let split = prefix-splits path q front.0 in
    let long : length q ≡ length path + 1 = grind (arith, nat_tests) in
    let rest : length path + length (drop (length path) q) ≡ length q = sym (length-append path (drop (length path) q)) ∙ sym (ap length split) in
    let one = one_name (drop (length path) q) 0 (omega arith) in
    (one.0, split ∙ ap (λ r. path ++ r) one.1)

last-of : (path : Path) (name : List ℕ) → slice_index_or (path ++ name ∷ []) (length path) [] ≡ name
last-of [] name = refl
last-of (x ∷ path) name = last-of path name

last_name-of : (path : Path) (name : List ℕ) → last_name (path ++ name ∷ []) ≡ name
last_name-of path name =
    let l : length (path ++ name ∷ []) - 1 ≡ length path = omega (arith, length-append path (name ∷ [])) in
    ap (λ n. slice_index_or (path ++ name ∷ []) n []) l ∙ last-of path name

module _ {T' : Type 0} where
  -- values by name as they stand below a path
  abbrev placed : Path → List (List ℕ × T') → NodeMap T'
  placed path named = map (λ e. (path ++ e.0 ∷ [], e.1)) named

  names-of-placed : (path : Path) (named : List (List ℕ × T')) → map (λ entry. (last_name entry.0, entry.1)) (placed path named) ≡ named
  names-of-placed path [] = refl
  names-of-placed path (e ∷ named) = ap (λ n. (n, e.1) ∷ map (λ entry. (last_name entry.0, entry.1)) (placed path named)) (last_name-of path e.0) ∙ ap (λ rest. e ∷ rest) (names-of-placed path named)

  -- no other path is among them
  placed-other : (path q : Path) (named : List (List ℕ × T')) → is_entry_of path q ≡ false → value_at path_cmp q (placed path named) ≡ None
  placed-other path q [] h = refl
  placed-other path q (e ∷ named) h =
      at-later q (path ++ e.0 ∷ [], e.1) (placed path named) (λ f. let yes : is_entry_of path q ≡ true = ap (is_entry_of path) f ∙ entry-of path e.0 in absurd (cc))
      ∙ placed-other path q named h

  module _ (nodes : List (Option (Node T'))) where
    named-below : (path : Path) (name : List ℕ) (entries : List (List ℕ × ℕ)) → AllByRecursion (λ y. name_cmp name y ≡ Less) (keys_of entries) →
        T (below_all path_cmp (path ++ name ∷ []) (placed path (named_values nodes entries)))
    named-below path name [] h = tt
    named-below path name (entry ∷ entries) h = elim (value_in nodes entry.1) as (λ o. T (below_all path_cmp (path ++ name ∷ []) (placed path (with_name entry.0 o (named_values nodes entries))))) [
      | None ↦ named-below path name entries h.1
      | Some value ↦ and_true _ _ (is_lt-Less (path_cmp (path ++ name ∷ []) (path ++ entry.0 ∷ [])) (beside path name entry.0 ∙ h.0)) (named-below path name entries h.1)
    ]

    -- in the order of names
    named-sorted : (path : Path) (entries : List (List ℕ × ℕ)) → IsStrictlySortedBy name_cmp (keys_of entries) → T (is_sorted path_cmp (placed path (named_values nodes entries)))
    unfolding IsStrictlySortedBy
    named-sorted path [] s = tt
    named-sorted path (entry ∷ entries) s = elim (value_in nodes entry.1) as (λ o. T (is_sorted path_cmp (placed path (with_name entry.0 o (named_values nodes entries))))) [
      | None ↦ named-sorted path entries s.1
      | Some value ↦ and_true _ _ (named-below path entry.0 entries s.0) (named-sorted path entries s.1)
    ]

    -- at each name stands the value to which its entry leads
    named-at : (path : Path) (name : List ℕ) (entries : List (List ℕ × ℕ)) → IsStrictlySortedBy name_cmp (keys_of entries) →
        value_at path_cmp (path ++ name ∷ []) (placed path (named_values nodes entries)) ≡ option_and_then (value_in nodes) (lookup (is_at (name_cmp name)) entries)
    unfolding IsStrictlySortedBy
    named-at path name [] s = refl
    named-at path name (entry ∷ entries) s = elim (is_at (name_cmp name) entry.0) as (λ b. is_at (name_cmp name) entry.0 ≡ b →
        value_at path_cmp (path ++ name ∷ []) (placed path (named_values nodes (entry ∷ entries)))
        ≡ option_and_then (value_in nodes) (cond b (Some entry.1) (lookup (is_at (name_cmp name)) entries))) [
          | true ↦ λ is.
              let same : name ≡ entry.0 = name-is name entry.0 is in
              elim (value_in nodes entry.1) as (λ o. value_at path_cmp (path ++ name ∷ []) (placed path (with_name entry.0 o (named_values nodes entries))) ≡ o) [
                | None ↦
                    ap (λ n. value_at path_cmp (path ++ n ∷ []) (placed path (named_values nodes entries))) same
                    ∙ below-absent (path ++ entry.0 ∷ []) (placed path (named_values nodes entries)) (named-below path entry.0 entries s.0)
                | Some value ↦ at-entry (path ++ name ∷ []) (path ++ entry.0 ∷ [], value) (placed path (named_values nodes entries)) (ap (λ n. path ++ n ∷ []) same)
              ]
          | false ↦ λ is. elim (value_in nodes entry.1) as (λ o. value_at path_cmp (path ++ name ∷ []) (placed path (with_name entry.0 o (named_values nodes entries)))
              ≡ option_and_then (value_in nodes) (lookup (is_at (name_cmp name)) entries)) [
                | None ↦ named-at path name entries s.1
                | Some value ↦
                    at-later (path ++ name ∷ []) (path ++ entry.0 ∷ [], value) (placed path (named_values nodes entries)) (other-path path name entry.0 is)
                    ∙ named-at path name entries s.1
              ]
        ] refl
      where
        other-path : (path : Path) (name other : List ℕ) → is_at (name_cmp name) other ≡ false → (path ++ name ∷ []) ≢ (path ++ other ∷ [])
        other-path path name other is e =
            let names : name ≡ other = sym (last_name-of path name) ∙ ap last_name e ∙ last_name-of path other in
            let yes : is_at (name_cmp name) other ≡ true = ap (is_at (name_cmp name)) (sym names) ∙ level-itself name in
            absurd (cc)

    -- what is directly below a path is what its slot's entries lead to
    pub listed-named : {count : ℕ} → IsSound nodes count → (path : Path) (slot : ℕ) → walk (child_in nodes) 0 path ≡ Some slot →
        IsStrictlySortedBy name_cmp (keys_of (entries_in nodes slot)) → listed path (tree_of nodes) ≡ named_values nodes (entries_in nodes slot)
    listed-named s path slot w sorted =
        let entries = entries_in nodes slot in
        let same : filter (λ entry. is_entry_of path entry.0) (tree_of nodes) ≡ placed path (named_values nodes entries) =
        same_entries path_cmp path_cmp_total path_cmp_exact (filter (λ entry. is_entry_of path entry.0) (tree_of nodes)) (placed path (named_values nodes entries))
        (is_sorted-where_key path_cmp (is_entry_of path) (tree_of nodes) (tree-sorted nodes)) (named-sorted path entries sorted) (λ q. at q) in
        ap (map (λ entry. (last_name entry.0, entry.1))) same ∙ names-of-placed path (named_values nodes entries)
      where
        found-entry : (name : List ℕ) → found_in nodes (path ++ name ∷ []) ≡ option_and_then (value_in nodes) (child_in nodes slot name)
        found-entry name =
            ap (option_and_then (value_in nodes)) (walk-append (child_in nodes) 0 path (name ∷ []) ∙ ap (option_and_then (λ b. walk (child_in nodes) b (name ∷ []))) w)
            ∙ one (child_in nodes slot name)
          where
            one : (o : Option ℕ) → option_and_then (value_in nodes) (option_and_then (λ (b : ℕ). Some b) o) ≡ option_and_then (value_in nodes) o
            one None = refl
            one (Some b) = refl

        at : (q : Path) → value_at path_cmp q (filter (λ entry. is_entry_of path entry.0) (tree_of nodes)) ≡ value_at path_cmp q (placed path (named_values nodes (entries_in nodes slot)))
        at q =
            let entries = entries_in nodes slot in
            at-filter (is_entry_of path) q (tree_of nodes)
            ∙ elim (is_entry_of path q) as (λ b. is_entry_of path q ≡ b → cond b (value_at path_cmp q (tree_of nodes)) None ≡ value_at path_cmp q (placed path (named_values nodes entries))) [
              | true ↦ λ e.
                  let split = entry-splits path q e in
                  tree-at nodes s.tree q ∙ ap (found_in nodes) split.1 ∙ found-entry split.0 ∙ ap (option_and_then (value_in nodes)) (child-leads nodes slot split.0)
                  ∙ sym (ap (λ p. value_at path_cmp p (placed path (named_values nodes entries))) split.1 ∙ named-at path split.0 entries sorted)
              | false ↦ λ e. sym (placed-other path q (named_values nodes entries) e)
            ] refl

module _ {N : Type 0} where
  -- one value more in front of the others
  pub with_name-append : (name : List ℕ) (value : Option N) (others : List (List ℕ × N)) → with_name name value [] ++ others ≡ with_name name value others
  with_name-append name None others = refl
  with_name-append name (Some value) others = refl
