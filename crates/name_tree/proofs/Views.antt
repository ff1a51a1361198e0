-- The values by path are in order, and at each path is what is found there.
use Rattle.std.proofs.Common.{◌≡◌, ◌≢◌, ℕ, zero, suc, ◌<◌, ◌≤◌, Bool, true, false, cond, ◌||◌, T, Option, Some, None, List, [], ◌∷◌, inl, inr, length, map, fold, flat_map, option_and_then, refl, sym, ap, ◌∙◌, arith}
use Rattle.std.proofs.lemmas.Bool.{cases_lt}
use Rattle.std.proofs.lemmas.List.{get_or_past}
use Rattle.std.proofs.lemmas.List.Folds.{list_any-append}
use Rattle.std.specs.BTreeMap.{is_at}
use Rattle.std.specs.FinMap.{nat_cmp-IsAntisymmetric, slice_cmp-IsAntisymmetric}
use Rattle.std.specs.FinMap.Entries.{find as value_at, is_sorted, is_sorted-put, same_entries}
use Rattle.std.specs.List.{list_any}
use Rattle.std.specs.Map.{lookup}
use Rattle.std.specs.Ordering.{is_eq}
use Rattle.std.specs.Prelude.{slice_index_or}
use Rattle.std.specs.declared.cmp.Ordering.{Ordering}
use Rattle.std.specs.declared.cmp.Ordering.TheVariants.{Less, Equal, Greater}
use Rattle.vfs_base.specs.Path.{Path, path_cmp}
use Rattle.vfs_base.specs.PathLaws.{path_cmp_exact, path_cmp_total}
use Rattle.vfs_model.proofs.Trees.{at-put-here, at-put-other, same_path-is, same_path-itself}
use Rattle.vfs_model.specs.Namespace.{same_path}
use Rattle.node_maps.proofs.MovedNodes.{same_or_other}
use Rattle.node_maps.specs.NodeMap.{NodeMap}
use Rattle.name_tree.proofs.Depths.{depth-below}
use Rattle.name_tree.specs.Layout.{Child, IsTree, child_in, entries_in, entries_of, entry_of, found_among, found_at, found_in, name_cmp, paths_within, tree_of, value_in, value_of, walk, with_found}
use Rattle.name_tree.specs.declared.node.Node.{Node}

equal : (o : Ordering) → is_eq o ≡ true → o ≡ Equal
equal Less e = absurd (cc)
equal Equal e = refl
equal Greater e = absurd (cc)

-- a name that is level with another is that name
pub name-is : (name other : List ℕ) → is_at (name_cmp name) other ≡ true → name ≡ other
name-is name other e = slice_cmp-IsAntisymmetric nat_cmp-IsAntisymmetric name other (equal (name_cmp name other) e)

or_later : (a b : Bool) → b ≡ true → (a || b) ≡ true
or_later true b h = refl
or_later false b h = h

or_first : (a b : Bool) → a ≡ true → (a || b) ≡ true
or_first true b h = refl
or_first false b h = absurd (cc)

-- a path behind its first name is among the paths behind that name where it is among the paths
behind : (name : List ℕ) (path : Path) (paths : List Path) → list_any (same_path path) paths ≡ true → list_any (same_path (name ∷ path)) (map (λ p. name ∷ p) paths) ≡ true
behind name path [] e = e
behind name path (p ∷ paths) e = elim (same_path path p) as (λ b. same_path path p ≡ b → (b || list_any (same_path path) paths) ≡ true →
    (same_path (name ∷ path) (name ∷ p) || list_any (same_path (name ∷ path)) (map (λ p. name ∷ p) paths)) ≡ true) [
      | true ↦ λ is h. or_first _ _ (ap (λ q. same_path (name ∷ path) (name ∷ q)) (sym (same_path-is path p is)) ∙ same_path-itself (name ∷ path))
      | false ↦ λ is h. or_later _ _ (behind name path paths h)
    ] refl e

module _ (E : ℕ → List (List ℕ × ℕ)) (C : Child) (leads : (slot : ℕ) (name : List ℕ) → C slot name ≡ lookup (is_at (name_cmp name)) (E slot)) where
  -- the paths on from the entries of a slot
  abbrev paths_on : ℕ → List (List ℕ × ℕ) → List Path
  paths_on count entries = flat_map (λ entry. map (λ path. entry.0 ∷ path) (paths_within E count entry.1)) entries

  mutual-step : (count : ℕ) (name : List ℕ) (path : Path) (below : ℕ) (entries : List (List ℕ × ℕ)) → lookup (is_at (name_cmp name)) entries ≡ Some below →
      list_any (same_path path) (paths_within E count below) ≡ true → list_any (same_path (name ∷ path)) (paths_on count entries) ≡ true
  mutual-step count name path below [] e h = absurd (cc)
  mutual-step count name path below (entry ∷ entries) e h =
      list_any-append (same_path (name ∷ path)) (map (λ p. entry.0 ∷ p) (paths_within E count entry.1)) (paths_on count entries)
      ∙ elim (is_at (name_cmp name) entry.0) as (λ b. is_at (name_cmp name) entry.0 ≡ b → cond b (Some entry.1) (lookup (is_at (name_cmp name)) entries) ≡ Some below →
      (list_any (same_path (name ∷ path)) (map (λ p. entry.0 ∷ p) (paths_within E count entry.1)) || list_any (same_path (name ∷ path)) (paths_on count entries)) ≡ true) [
        | true ↦ λ is found.
            let same : name ≡ entry.0 = name-is name entry.0 is in
            let to : entry.1 ≡ below = cc in
            let here : list_any (same_path path) (paths_within E count entry.1) ≡ true = ap (λ s. list_any (same_path path) (paths_within E count s)) to ∙ h in
            or_first _ _ (ap (λ n. list_any (same_path (n ∷ path)) (map (λ p. entry.0 ∷ p) (paths_within E count entry.1))) same ∙ behind entry.0 path (paths_within E count entry.1) here)
        | false ↦ λ is found. or_later _ _ (mutual-step count name path below entries found h)
      ] refl e

  -- each path that leads somewhere and is not too long is among the paths
  pub among : (count : ℕ) (slot : ℕ) (path : Path) (to : ℕ) → walk C slot path ≡ Some to → length path ≤ count → list_any (same_path path) (paths_within E count slot) ≡ true
  among zero slot [] to w h = refl
  among zero slot (name ∷ path) to w h = absurd (omega arith)
  among (suc count) slot [] to w h = refl
  among (suc count) slot (name ∷ path) to w h = elim (C slot name) as (λ o. C slot name ≡ o → option_and_then (λ b. walk C b path) o ≡ Some to → list_any (same_path (name ∷ path)) (paths_within E (suc count) slot) ≡ true) [
    | None ↦ λ e v. absurd (cc)
    | Some below ↦ λ e v. mutual-step count name path below (E slot) (sym (leads slot name) ∙ e) (among count below path to v (omega arith))
  ] refl w

module _ {N : Type 0} (found : Path → Option N) where
  abbrev all_found : List Path → NodeMap N → NodeMap N
  all_found paths tree = fold (λ tree path. with_found (found path) path tree) tree paths

  with_found-sorted : (o : Option N) (path : Path) (tree : NodeMap N) → T (is_sorted path_cmp tree) → T (is_sorted path_cmp (with_found o path tree))
  with_found-sorted None path tree s = s
  with_found-sorted (Some value) path tree s = is_sorted-put path_cmp path_cmp_total path value tree s

  all_found-sorted : (paths : List Path) (tree : NodeMap N) → T (is_sorted path_cmp tree) → T (is_sorted path_cmp (all_found paths tree))
  all_found-sorted [] tree s = s
  all_found-sorted (path ∷ paths) tree s = all_found-sorted paths (with_found (found path) path tree) (with_found-sorted (found path) path tree s)

  with_found-here : (o : Option N) (value : N) (path : Path) (tree : NodeMap N) → o ≡ Some value → value_at path_cmp path (with_found o path tree) ≡ Some value
  with_found-here o value path tree e = ap (λ x. value_at path_cmp path (with_found x path tree)) e ∙ at-put-here path value tree

  with_found-other : (o : Option N) (path q : Path) (tree : NodeMap N) → q ≢ path → value_at path_cmp q (with_found o path tree) ≡ value_at path_cmp q tree
  with_found-other None path q tree h = refl
  with_found-other (Some value) path q tree h = at-put-other path q value tree h

  -- where nothing is found nothing comes
  all_found-none : (q : Path) → found q ≡ None → (paths : List Path) (tree : NodeMap N) → value_at path_cmp q (all_found paths tree) ≡ value_at path_cmp q tree
  all_found-none q none [] tree = refl
  all_found-none q none (path ∷ paths) tree =
      all_found-none q none paths (with_found (found path) path tree)
      ∙ elim (same_or_other q path) [
        | inl e ↦ ap (λ o. value_at path_cmp q (with_found o path tree)) (ap found (sym e) ∙ none)
        | inr h ↦ with_found-other (found path) path q tree h
      ]

  -- what has come stays
  all_found-kept : (q : Path) (value : N) → found q ≡ Some value → (paths : List Path) (tree : NodeMap N) → value_at path_cmp q tree ≡ Some value →
      value_at path_cmp q (all_found paths tree) ≡ Some value
  all_found-kept q value some [] tree h = h
  all_found-kept q value some (path ∷ paths) tree h =
      all_found-kept q value some paths (with_found (found path) path tree) (elim (same_or_other q path) [
        | inl e ↦
            ap (λ p. value_at path_cmp p (with_found (found path) path tree)) e ∙ with_found-here (found path) value path tree (ap found (sym e) ∙ some)
        | inr other ↦ with_found-other (found path) path q tree other ∙ h
      ])

  -- what is found at one of the paths comes
  all_found-some : (q : Path) (value : N) → found q ≡ Some value → (paths : List Path) (tree : NodeMap N) → list_any (same_path q) paths ≡ true →
      value_at path_cmp q (all_found paths tree) ≡ Some value
  all_found-some q value some [] tree h = absurd (cc)
  all_found-some q value some (path ∷ paths) tree h = elim (same_path q path) as (λ b. same_path q path ≡ b → (b || list_any (same_path q) paths) ≡ true → value_at path_cmp q (all_found (path ∷ paths) tree) ≡ Some value) [
    | true ↦ λ is _.
        let same : q ≡ path = same_path-is q path is in
        all_found-kept q value some paths (with_found (found path) path tree)
        (ap (λ p. value_at path_cmp p (with_found (found path) path tree)) same ∙ with_found-here (found path) value path tree (ap found (sym same) ∙ some))
    | false ↦ λ is more. all_found-some q value some paths (with_found (found path) path tree) more
  ] refl h

module _ {N : Type 0} where
  pub child-leads : (nodes : List (Option (Node N))) (slot : ℕ) (name : List ℕ) → child_in nodes slot name ≡ lookup (is_at (name_cmp name)) (entries_in nodes slot)
  child-leads nodes slot name = elim (slice_index_or nodes slot None) as (λ o. entry_of o name ≡ lookup (is_at (name_cmp name)) (entries_of o)) [ None ↦ refl | Some node ↦ refl ]

  pub value-within : (nodes : List (Option (Node N))) (slot : ℕ) → value_in nodes slot ≢ None → slot < length nodes
  value-within nodes slot h = elim (cases_lt slot (length nodes)) [
    | inl l ↦ l
    | inr past ↦ absurd (h (ap value_of (get_or_past nodes slot None past)))
  ]

  -- a walk ends where a value is found
  found-walk : (V : ℕ → Option N) (C : Child) (path : Path) (value : N) → found_at V C path ≡ Some value → (to : ℕ) × (walk C 0 path ≡ Some to)
  found-walk V C path value h = elim (walk C 0 path) as (λ o. walk C 0 path ≡ o → option_and_then V o ≡ Some value → (to : ℕ) × (walk C 0 path ≡ Some to)) [
    | None ↦ λ e k. absurd (cc)
    | Some to ↦ λ e k. (to, e)
  ] refl h

  pub tree-sorted : (nodes : List (Option (Node N))) → T (is_sorted path_cmp (tree_of nodes))
  unfolding tree_of
  tree-sorted nodes = all_found-sorted (found_in nodes) (paths_within (entries_in nodes) (length nodes) 0) [] tt

  -- at each path stands what is found there
  pub tree-at : (nodes : List (Option (Node N))) → IsTree (value_in nodes) (child_in nodes) → (path : Path) → value_at path_cmp path (tree_of nodes) ≡ found_in nodes path
  unfolding tree_of
  tree-at nodes t path = elim (found_in nodes path) as (λ o. found_in nodes path ≡ o → value_at path_cmp path (found_among (found_in nodes) (paths_within (entries_in nodes) (length nodes) 0)) ≡ o) [
    | None ↦ λ e. all_found-none (found_in nodes) path e (paths_within (entries_in nodes) (length nodes) 0) []
    | Some value ↦ λ e.
        let walked = found-walk (value_in nodes) (child_in nodes) path value e in
        let short : length path < length nodes = depth-below t (length nodes) (value-within nodes) path walked.0 walked.1 in
        all_found-some (found_in nodes) path value e (paths_within (entries_in nodes) (length nodes) 0) []
        (among (entries_in nodes) (child_in nodes) (child-leads nodes) (length nodes) 0 path walked.0 walked.1 (omega arith))
  ] refl

  -- values in order that are found at their paths are all that there are
  pub tree-is : (nodes : List (Option (Node N))) (tree : NodeMap N) → IsTree (value_in nodes) (child_in nodes) → T (is_sorted path_cmp tree) →
      ((path : Path) → value_at path_cmp path tree ≡ found_in nodes path) → tree_of nodes ≡ tree
  tree-is nodes tree t s same =
      same_entries path_cmp path_cmp_total path_cmp_exact (tree_of nodes) tree (tree-sorted nodes) s (λ path. tree-at nodes t path ∙ sym (same path))
