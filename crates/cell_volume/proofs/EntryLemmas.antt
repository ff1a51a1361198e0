-- The entries of a map by path: what is found, taken away and written.
use Rattle.std.proofs.Common.{◌≡◌, Bool, true, false, cond, not, ◌&&◌, T, Some, [], ◌∷◌, inl, inr, refl, sym, ap, subst, ◌∙◌}
use Rattle.std.specs.BTreeMap.{is_at}
use Rattle.std.specs.FinMap.Entries.{below_all, by_order, find as value_at, is_sorted, put}
use Rattle.std.specs.Map.{lookup, remove_entry, set_value}
use Rattle.std.specs.Ordering.{is_eq, is_lt, ordering_reverse}
use Rattle.std.specs.declared.cmp.Ordering.{Ordering}
use Rattle.std.specs.declared.cmp.Ordering.TheVariants.{Less, Equal, Greater}
use Rattle.vfs_base.specs.Path.{Path, path_cmp}
use Rattle.vfs_base.specs.PathLaws.{path_cmp_total, path_ties}
use Rattle.vfs_model.proofs.Trees.{same_path-itself, same_path-other}
use Rattle.vfs_model.specs.Namespace.{same_path}
use Rattle.node_maps.specs.NodeMap.{NodeMap, without}
use Rattle.node_maps.proofs.MovedNodes.{at-later}
use Rattle.cell_volume.proofs.PathFronts.{same-or-other-path}

t-first : (a b : Bool) → T (a && b) → T a
t-first true b h = tt
t-first false b h = absurd h

t-second : (a b : Bool) → T (a && b) → T b
t-second true b h = h
t-second false b h = absurd h

t-both : (a b : Bool) → T a → T b → T (a && b)
t-both true b h k = k
t-both false b h k = h

is-less : (o : Ordering) → T (is_lt o) → o ≡ Less
is-less Less h = refl
is-less Equal h = absurd h
is-less Greater h = absurd h

module _ {N : Type 0} where
  -- what a look-up finds
  pub lookup-value_at : (path : Path) (tree : NodeMap N) → lookup (is_at (path_cmp path)) tree ≡ value_at path_cmp path tree
  lookup-value_at path [] = refl
  lookup-value_at path (entry ∷ tree) = ap (cond (is_eq (path_cmp path entry.0)) (Some entry.1)) (lookup-value_at path tree)

  keeps : (path : Path) (tree : NodeMap N) → T (below_all path_cmp path tree) → without path tree ≡ tree
  keeps path [] h = refl
  keeps path (entry ∷ tree) h =
      ap (λ b. cond (not b) (entry ∷ without path tree) (without path tree)) (apart (path_cmp path entry.0) refl (is-less (path_cmp path entry.0) (t-first (is_lt (path_cmp path entry.0)) (below_all path_cmp path tree) h)))
      ∙ ap (λ rest. entry ∷ rest) (keeps path tree (t-second (is_lt (path_cmp path entry.0)) (below_all path_cmp path tree) h))
    where
      apart : (o : Ordering) → path_cmp path entry.0 ≡ o → o ≡ Less → same_path entry.0 path ≡ false
      apart o e l = elim (same-or-other-path entry.0 path) [
        | inl same ↦
            let tied : same_path path entry.0 ≡ true = ap (same_path path) same ∙ same_path-itself path in
            let no : is_eq (path_cmp path entry.0) ≡ false = ap is_eq (e ∙ l) in
            let yes : is_eq (path_cmp path entry.0) ≡ true = sym (path_ties path entry.0) ∙ tied in
            absurd (cc)
        | inr other ↦ same_path-other entry.0 path other
      ]

  -- what a removal leaves of entries in order
  pub remove-without : (path : Path) (tree : NodeMap N) → T (is_sorted path_cmp tree) → remove_entry (is_at (path_cmp path)) tree ≡ without path tree
  remove-without path [] h = refl
  remove-without path (entry ∷ tree) h = elim (same-or-other-path entry.0 path) [
    | inl same ↦
        ap (λ b. cond b tree (entry ∷ remove_entry (is_at (path_cmp path)) tree)) (sym (path_ties path entry.0) ∙ ap (same_path path) same ∙ same_path-itself path)
        ∙ sym (keeps path tree (subst (λ p. T (below_all path_cmp p tree)) same (t-first (below_all path_cmp entry.0 tree) (is_sorted path_cmp tree) h)))
        ∙ sym (ap (λ b. cond (not b) (entry ∷ without path tree) (without path tree)) (ap (λ p. same_path p path) same ∙ same_path-itself path))
    | inr other ↦
        ap (λ b. cond b tree (entry ∷ remove_entry (is_at (path_cmp path)) tree)) (sym (path_ties path entry.0) ∙ same_path-other path entry.0 (λ e. other (sym e)))
        ∙ ap (λ rest. entry ∷ rest) (remove-without path tree (t-second (below_all path_cmp entry.0 tree) (is_sorted path_cmp tree) h))
        ∙ sym (ap (λ b. cond (not b) (entry ∷ without path tree) (without path tree)) (same_path-other entry.0 path other))
  ]

  -- what is found lies behind what is below all
  found-behind : (path q : Path) (node : N) (tree : NodeMap N) → T (below_all path_cmp q tree) → value_at path_cmp path tree ≡ Some node → path_cmp q path ≡ Less
  found-behind path q node [] h there = absurd (cc)
  found-behind path q node (entry ∷ tree) h there = elim (same-or-other-path path entry.0) [
    | inl same ↦ ap (path_cmp q) same ∙ is-less (path_cmp q entry.0) (t-first (is_lt (path_cmp q entry.0)) (below_all path_cmp q tree) h)
    | inr other ↦ found-behind path q node tree (t-second (is_lt (path_cmp q entry.0)) (below_all path_cmp q tree) h) (sym (at-later path entry tree other) ∙ there)
  ]

  -- a value written at a path that is there
  pub written-put : (path : Path) (node old : N) (tree : NodeMap N) → T (is_sorted path_cmp tree) → value_at path_cmp path tree ≡ Some old →
      set_value (is_at (path_cmp path)) tree node ≡ put path_cmp path node tree
  written-put path node old [] h there = absurd (cc)
  written-put path node old (entry ∷ tree) h there =
      by (path_cmp path entry.0) refl (λ e. written-put path node old tree (t-second (below_all path_cmp entry.0 tree) (is_sorted path_cmp tree) h) e)
    where
      either : (o : Ordering) → path_cmp path entry.0 ≡ o → (value_at path_cmp path tree ≡ Some old → set_value (is_at (path_cmp path)) tree node ≡ put path_cmp path node tree) → cond (is_eq o) ((entry.0, node) ∷ tree) (entry ∷ set_value (is_at (path_cmp path)) tree node)
          ≡ by_order o ((path, node) ∷ entry ∷ tree) ((entry.0, node) ∷ tree) (entry ∷ put path_cmp path node tree)
      either Less e rest =
          let later : value_at path_cmp path tree ≡ Some old = sym (ap (λ o. cond (is_eq o) (Some entry.1) (value_at path_cmp path tree)) e) ∙ there in
          let behind = found-behind path entry.0 old tree (t-first _ (is_sorted path_cmp tree) h) later in
          let reversed : path_cmp path entry.0 ≡ Greater = path_cmp_total.antisymm path entry.0 ∙ ap ordering_reverse behind in
          absurd (cc)
      either Equal e rest = refl
      either Greater e rest =
          ap (λ later. entry ∷ later) (rest (sym (ap (λ o. cond (is_eq o) (Some entry.1) (value_at path_cmp path tree)) e) ∙ there))

      by : (o : Ordering) → path_cmp path entry.0 ≡ o → (value_at path_cmp path tree ≡ Some old → set_value (is_at (path_cmp path)) tree node ≡ put path_cmp path node tree) →
          set_value (is_at (path_cmp path)) (entry ∷ tree) node ≡ put path_cmp path node (entry ∷ tree)
      by o e rest =
          ap (λ o. cond (is_eq o) ((entry.0, node) ∷ tree) (entry ∷ set_value (is_at (path_cmp path)) tree node)) e
          ∙ either o e rest
          ∙ sym (ap (λ o. by_order o ((path, node) ∷ entry ∷ tree) ((entry.0, node) ∷ tree) (entry ∷ put path_cmp path node tree)) e)
