-- What the values by path become where nodes come, go, change and move.
use Rattle.std.proofs.Common.{◌≡◌, ◌≢◌, ℕ, suc, ◌+◌, Bool, true, false, cond, not, T, Option, Some, None, is_some, List, [], ◌∷◌, ◌++◌, inl, inr, length, drop, filter, option_and_then, refl, sym, ap, ◌∙◌, arith, append_assoc}
use Rattle.std.specs.FinMap.Entries.{find as value_at, is_sorted, is_sorted-put, is_sorted-where_key, length-put, length_without, put}
use Rattle.std.specs.Ordering.{eq_by_cmp}
use Rattle.vfs_base.specs.Path.{Path, path_cmp}
use Rattle.vfs_base.specs.PathLaws.{path_cmp_total, path_ties}
use Rattle.vfs_model.proofs.Trees.{at-put-here, at-put-other, at-without-here, at-without-other, prefix-splits, same_path-other}
use Rattle.vfs_model.specs.Lookup.{is_prefix}
use Rattle.vfs_model.specs.Namespace.{same_path}
use Rattle.node_maps.proofs.MovedNodes.{at-later, moved-at, moved-away, moved-beside, moved-length, moved-sorted, one_if_there, same_or_other}
use Rattle.node_maps.specs.NodeMap.{NodeMap, moved, without}
use Rattle.name_tree.proofs.FoundChanges.{inserted-here, inserted-other, inserted-tree, moved-found, moved-gone, moved-other, moved-tree, removed-here, removed-other, removed-tree, valued-here, valued-other}
use Rattle.name_tree.proofs.TreeChanges.{tree-valued}
use Rattle.name_tree.proofs.Views.{tree-at, tree-is, tree-sorted}
use Rattle.name_tree.proofs.Walks.{live-walk, same_walk, walk-append}
use Rattle.name_tree.specs.Changes.{Inserts, Relinks, Removes, Revalues, SameNodes}
use Rattle.name_tree.specs.Layout.{Child, IsSound, IsTree, child_in, found_at, found_in, tree_of, value_in, walk}
use Rattle.name_tree.specs.declared.node.Node.{Node}

filter-alike : {X : Type 0} (p q : X → Bool) → ((x : X) → p x ≡ q x) → (xs : List X) → filter p xs ≡ filter q xs
filter-alike p q same [] = refl
filter-alike p q same (x ∷ xs) =
    ap (λ b. cond b (x ∷ filter p xs) (filter p xs)) (same x) ∙ ap (λ rest. cond (q x) (x ∷ rest) rest) (filter-alike p q same xs)

same_path-turned : (p q : Path) → same_path p q ≡ same_path q p
same_path-turned p q = elim (same_or_other p q) [
  | inl e ↦ ap (λ x. same_path x q) e ∙ ap (same_path q) (sym e)
  | inr h ↦ same_path-other p q h ∙ sym (same_path-other q p (λ e. h (sym e)))
]

-- without the node at a path there is one less
length-without : {N : Type 0} (path : Path) (tree : NodeMap N) → T (is_sorted path_cmp tree) → value_at path_cmp path tree ≢ None → length (without path tree) + 1 ≡ length tree
length-without path tree s h =
    let all = length_without path_cmp path_cmp_total path tree s in
    let same = filter-alike (λ entry. not (same_path entry.0 path)) (λ entry. not (eq_by_cmp path_cmp path entry.0)) (λ entry. ap not (same_path-turned entry.0 path ∙ path_ties path entry.0)) tree in
    let lengths = ap length same in
    let one = there-one (value_at path_cmp path tree) h in
    omega arith
  where
    there-one : {N : Type 0} (o : Option N) → o ≢ None → one_if_there o ≡ 1
    there-one None h = absurd (h refl)
    there-one (Some x) h = refl

walk-same : (C D : Child) → ((slot : ℕ) (name : List ℕ) → D slot name ≡ C slot name) → (path : Path) → walk D 0 path ≡ walk C 0 path
walk-same C D same path = same_walk C D 0 path (λ front name rest at split w. same at name)

module _ {N : Type 0} where
  found-alike : (V W : ℕ → Option N) (C D : Child) → ((slot : ℕ) → W slot ≡ V slot) → ((slot : ℕ) (name : List ℕ) → D slot name ≡ C slot name) →
      (path : Path) → found_at W D path ≡ found_at V C path
  found-alike V W C D values entries path =
      ap (option_and_then W) (walk-same C D entries path)
      ∙ elim (walk C 0 path) as (λ o. option_and_then W o ≡ option_and_then V o) [ None ↦ refl | Some to ↦ values to ]

  tree-alike : {V W : ℕ → Option N} {C D : Child} → IsTree V C → ((slot : ℕ) → W slot ≡ V slot) → ((slot : ℕ) (name : List ℕ) → D slot name ≡ C slot name) → IsTree W D
  tree-alike t values entries = record {
    root = λ none. t.root (sym (values 0) ∙ none);
    root_free = λ slot name e. t.root_free slot name (sym (entries slot name) ∙ e);
    live = λ slot name below e none. t.live slot name below (sym (entries slot name) ∙ e) (sym (values below) ∙ none);
    once = λ a b n m below e f. t.once a b n m below (sym (entries a n) ∙ e) (sym (entries b m) ∙ f);
  }

  module _ {old : List (Option (Node N))} {count : ℕ} (s : IsSound old count) where
    -- nodes that are alike are seen alike
    pub tree_of-same : {new : List (Option (Node N))} → SameNodes old new → tree_of new ≡ tree_of old
    tree_of-same {new} same =
        tree-is new (tree_of old) (tree-alike s.tree same.values same.entries) (tree-sorted old)
        (λ path. tree-at old s.tree path ∙ sym (found-alike (value_in old) (value_in new) (child_in old) (child_in new) same.values same.entries path))

    pub sound-same : {new : List (Option (Node N))} → SameNodes old new → IsSound new count
    sound-same same = record { tree = tree-alike s.tree same.values same.entries; counted = s.counted ∙ ap length (sym (tree_of-same same)) }

    -- the slot to which a path leads that stands in the tree
    pub walk-there : (path : Path) → value_at path_cmp path (tree_of old) ≢ None → (to : ℕ) × (walk (child_in old) 0 path ≡ Some to)
    walk-there path h = elim (walk (child_in old) 0 path) as (λ o. walk (child_in old) 0 path ≡ o → (to : ℕ) × (o ≡ Some to)) [
      | None ↦ λ e. absurd (h (tree-at old s.tree path ∙ ap (option_and_then (value_in old)) e))
      | Some to ↦ λ e. (to, refl)
    ] refl

    -- where a path leads stands in the tree
    pub there-walk : (path : Path) (to : ℕ) → walk (child_in old) 0 path ≡ Some to → value_at path_cmp path (tree_of old) ≡ value_in old to
    there-walk path to w = tree-at old s.tree path ∙ ap (option_and_then (value_in old)) w

    module _ (front : Path) {at : ℕ} (name : List ℕ) (w : walk (child_in old) 0 front ≡ Some at) where
      pub walk-name : (to : ℕ) → child_in old at name ≡ Some to → walk (child_in old) 0 (front ++ name ∷ []) ≡ Some to
      walk-name to e =
          walk-append (child_in old) 0 front (name ∷ []) ∙ ap (option_and_then (λ b. walk (child_in old) b (name ∷ []))) w ∙ ap (option_and_then (λ b. walk (child_in old) b [])) e

      absent-entry : value_at path_cmp (front ++ name ∷ []) (tree_of old) ≡ None → child_in old at name ≡ None
      absent-entry h = elim (child_in old at name) as (λ o. child_in old at name ≡ o → o ≡ None) [
        | None ↦ λ e. refl
        | Some to ↦ λ e. absurd (s.tree.live at name to e (sym (there-walk (front ++ name ∷ []) to (walk-name to e)) ∙ h))
      ] refl

      pub tree_of-inserted : {new : List (Option (Node N))} {value : N} → value_at path_cmp (front ++ name ∷ []) (tree_of old) ≡ None → Inserts old new at name value →
          tree_of new ≡ put path_cmp (front ++ name ∷ []) value (tree_of old)
      tree_of-inserted {new} {value} h i =
          let none = absent-entry h in
          tree-is new (put path_cmp (front ++ name ∷ []) value (tree_of old)) (inserted-tree s.tree front w i.free i.bare none i.entry i.valued)
          (is_sorted-put path_cmp path_cmp_total (front ++ name ∷ []) value (tree_of old) (tree-sorted old))
          (λ path. elim (same_or_other path (front ++ name ∷ [])) [
            | inl e ↦
                ap (λ p. value_at path_cmp p (put path_cmp (front ++ name ∷ []) value (tree_of old))) e ∙ at-put-here (front ++ name ∷ []) value (tree_of old)
                ∙ sym (ap (found_in new) e ∙ inserted-here s.tree front w i.free i.bare none i.entry i.valued)
            | inr other ↦
                at-put-other (front ++ name ∷ []) path value (tree_of old) other ∙ tree-at old s.tree path
                ∙ sym (inserted-other s.tree front w i.free i.bare none i.entry i.valued path other)
          ])

      pub sound-inserted : {new : List (Option (Node N))} {value : N} → value_at path_cmp (front ++ name ∷ []) (tree_of old) ≡ None → Inserts old new at name value → IsSound new (count + 1)
      sound-inserted {new} {value} h i = record {
        tree = inserted-tree s.tree front w i.free i.bare (absent-entry h) i.entry i.valued;
        counted =
            ap (λ n. n + 1) s.counted
            ∙ sym (length-put path_cmp path_cmp_total (front ++ name ∷ []) value (tree_of old) (tree-sorted old) ∙ ap (λ found. cond (is_some found) (length (tree_of old)) (length (tree_of old) + 1)) h)
            ∙ ap length (sym (tree_of-inserted h i));
      }

      -- a node without others below it has no entries
      pub bare-entries : {slot : ℕ} → child_in old at name ≡ Some slot → ((next : List ℕ) (rest : Path) → value_at path_cmp ((front ++ name ∷ []) ++ next ∷ rest) (tree_of old) ≡ None) →
          (next : List ℕ) → child_in old slot next ≡ None
      bare-entries {slot} there none next = elim (child_in old slot next) as (λ o. child_in old slot next ≡ o → o ≡ None) [
        | None ↦ λ e. refl
        | Some to ↦ λ e.
            let walked : walk (child_in old) 0 ((front ++ name ∷ []) ++ next ∷ []) ≡ Some to =
            walk-append (child_in old) 0 (front ++ name ∷ []) (next ∷ []) ∙ ap (option_and_then (λ b. walk (child_in old) b (next ∷ []))) (walk-name slot there) ∙ ap (option_and_then (λ b. walk (child_in old) b [])) e in
            absurd (s.tree.live slot next to e (sym (there-walk ((front ++ name ∷ []) ++ next ∷ []) to walked) ∙ none next []))
      ] refl

      module _ {new : List (Option (Node N))} {slot : ℕ} (there : child_in old at name ≡ Some slot) (bare : (next : List ℕ) → child_in old slot next ≡ None) (r : Removes old new at name slot) where
        pub tree_of-removed : tree_of new ≡ without (front ++ name ∷ []) (tree_of old)
        tree_of-removed =
            tree-is new (without (front ++ name ∷ []) (tree_of old)) (removed-tree s.tree front w there bare r.entry r.valued)
            (is_sorted-where_key path_cmp (λ p. not (same_path p (front ++ name ∷ []))) (tree_of old) (tree-sorted old))
            (λ path. elim (same_or_other path (front ++ name ∷ [])) [
              | inl e ↦
                  ap (λ p. value_at path_cmp p (without (front ++ name ∷ []) (tree_of old))) e ∙ at-without-here (front ++ name ∷ []) (tree_of old)
                  ∙ sym (ap (found_in new) e ∙ removed-here s.tree front w there bare r.entry r.valued)
              | inr other ↦
                  at-without-other (front ++ name ∷ []) path (tree_of old) other ∙ tree-at old s.tree path
                  ∙ sym (removed-other s.tree front w there bare r.entry r.valued path other)
            ])

        pub sound-removed : {left : ℕ} → left + 1 ≡ count → IsSound new left
        sound-removed {left} fewer = record {
          tree = removed-tree s.tree front w there bare r.entry r.valued;
          counted =
              let here : value_at path_cmp (front ++ name ∷ []) (tree_of old) ≡ value_in old slot = there-walk (front ++ name ∷ []) slot (walk-name slot there) in
              let one = length-without (front ++ name ∷ []) (tree_of old) (tree-sorted old) (λ none. s.tree.live at name slot there (sym here ∙ none)) in
              let same = ap length tree_of-removed in
              let all = s.counted in
              omega arith;
        }

    -- a value that changed
    module _ (new : List (Option (Node N))) (path : Path) {slot : ℕ} {value : N} (w : walk (child_in old) 0 path ≡ Some slot) (v : Revalues (value_in old) (value_in new) slot (Some value))
        (same : (a : ℕ) (name : List ℕ) → child_in new a name ≡ child_in old a name) where
      valued-tree : IsTree (value_in new) (child_in new)
      valued-tree = tree-alike (tree-valued s.tree v) (λ a. refl) same

      pub tree_of-valued : tree_of new ≡ put path_cmp path value (tree_of old)
      tree_of-valued =
          tree-is new (put path_cmp path value (tree_of old)) valued-tree (is_sorted-put path_cmp path_cmp_total path value (tree_of old) (tree-sorted old))
          (λ q. elim (same_or_other q path) [
            | inl e ↦
                ap (λ p. value_at path_cmp p (put path_cmp path value (tree_of old))) e ∙ at-put-here path value (tree_of old)
                ∙ sym (ap (found_in new) e ∙ found-alike (value_in new) (value_in new) (child_in old) (child_in new) (λ a. refl) same path ∙ valued-here s.tree path w v)
            | inr other ↦
                at-put-other path q value (tree_of old) other ∙ tree-at old s.tree q
                ∙ sym (found-alike (value_in new) (value_in new) (child_in old) (child_in new) (λ a. refl) same q ∙ valued-other s.tree path w v q other)
          ])

      pub sound-valued : IsSound new count
      sound-valued = record {
        tree = valued-tree;
        counted =
            s.counted
            ∙ sym (length-put path_cmp path_cmp_total path value (tree_of old) (tree-sorted old)
            ∙ there-length (value_at path_cmp path (tree_of old)) (λ none. live-there none))
            ∙ ap length (sym tree_of-valued);
      }
        where
          there-length : (o : Option N) → o ≢ None → cond (is_some o) (length (tree_of old)) (length (tree_of old) + 1) ≡ length (tree_of old)
          there-length None h = absurd (h refl)
          there-length (Some x) h = refl

          live-there : value_at path_cmp path (tree_of old) ≢ None
          live-there none = live-walk s.tree path slot w (sym (there-walk path slot w) ∙ none)

    -- a node that moved with all below it
    module _ {new : List (Option (Node N))} (front front' : Path) {at to slot : ℕ} {name name' : List ℕ} (w : walk (child_in old) 0 front ≡ Some at) (w' : walk (child_in old) 0 front' ≡ Some to)
        (there : child_in old at name ≡ Some slot) (apart : is_prefix (front ++ name ∷ []) (front' ++ name' ∷ []) ≡ false)
        (none : (next : List ℕ) (rest : Path) → value_at path_cmp ((front' ++ name' ∷ []) ++ next ∷ rest) (tree_of old) ≡ None)
        (r : Relinks old new at name to name' slot) where
      abbrev from : Path
      from = front ++ name ∷ []

      abbrev onto : Path
      onto = front' ++ name' ∷ []

      relinked-tree : IsTree (value_in new) (child_in new)
      relinked-tree = moved-tree s.tree front front' w w' there apart r.added r.taken r.values

      found-moved : (path : Path) → value_at path_cmp path (moved from onto (tree_of old)) ≡ found_in new path
      found-moved path = elim (is_prefix onto path) as (λ b. is_prefix onto path ≡ b → value_at path_cmp path (moved from onto (tree_of old)) ≡ found_in new path) [
        | true ↦ λ e.
            let rest = drop (length onto) path in
            let split : path ≡ onto ++ rest = prefix-splits onto path e in
            ap (λ p. value_at path_cmp p (moved from onto (tree_of old))) split ∙ moved-at from onto (tree_of old) rest (tree-sorted old) none
            ∙ tree-at old s.tree (from ++ rest)
            ∙ ap (found_in old) (append_assoc front (name ∷ []) rest)
            ∙ sym (ap (found_in new) (split ∙ append_assoc front' (name' ∷ []) rest) ∙ moved-found s.tree front front' w w' there apart r.added r.taken r.values rest)
        | false ↦ λ e. elim (is_prefix from path) as (λ b. is_prefix from path ≡ b → value_at path_cmp path (moved from onto (tree_of old)) ≡ found_in new path) [
          | true ↦ λ f. moved-away from onto (tree_of old) path e f ∙ sym (moved-gone s.tree front front' w w' there apart r.added r.taken r.values path e f)
          | false ↦ λ f. moved-beside from onto (tree_of old) path e f ∙ tree-at old s.tree path ∙ sym (moved-other s.tree front front' w w' there apart r.added r.taken r.values path e f)
        ] refl
      ] refl

      pub tree_of-relinked : tree_of new ≡ moved from onto (tree_of old)
      tree_of-relinked = tree-is new (moved from onto (tree_of old)) relinked-tree (moved-sorted from onto (tree_of old) (tree-sorted old)) found-moved

      pub sound-relinked : {left : ℕ} → left + one_if_there (value_at path_cmp onto (tree_of old)) ≡ count → IsSound new left
      sound-relinked {left} fewer = record {
        tree = relinked-tree;
        counted =
            let all = moved-length from onto (tree_of old) (tree-sorted old) apart none in
            let same = ap length tree_of-relinked in
            let counted = s.counted in
            omega arith;
      }

  -- a root alone
  module _ (nodes : List (Option (Node N))) (root : N) (there : value_in nodes 0 ≡ Some root) (bare : (slot : ℕ) (name : List ℕ) → child_in nodes slot name ≡ None) where
    root-tree : IsTree (value_in nodes) (child_in nodes)
    root-tree = record {
      root = λ none. let some : value_in nodes 0 ≡ Some root = there in absurd (cc);
      root_free = λ slot name e. no-entry slot name 0 e;
      live = λ slot name below e. absurd (no-entry slot name below e);
      once = λ a b n m below e f. absurd (no-entry a n below e);
    }
      where
        no-entry : (slot : ℕ) (name : List ℕ) (below : ℕ) → child_in nodes slot name ≡ Some below → ⊥
        no-entry slot name below e = let none : child_in nodes slot name ≡ None = bare slot name in absurd (cc)

    found-root : (path : Path) → value_at path_cmp path (([], root) ∷ []) ≡ found_in nodes path
    found-root [] = sym there
    found-root (name ∷ path) =
        at-later (name ∷ path) ([], root) [] (λ e. let l : suc (length path) ≡ 0 = ap length e in absurd (omega arith))
        ∙ sym (ap (λ o. option_and_then (value_in nodes) (option_and_then (λ below. walk (child_in nodes) below path) o)) (bare 0 name))

    pub tree_of-root : tree_of nodes ≡ ([], root) ∷ []
    tree_of-root = tree-is nodes (([], root) ∷ []) root-tree tt found-root

    pub sound-root : IsSound nodes 1
    sound-root = record { tree = root-tree; counted = ap length (sym tree_of-root) }
