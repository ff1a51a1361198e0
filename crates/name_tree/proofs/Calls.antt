-- What a call requires of the slots, and what it leaves, where it knows the values by path.
use Rattle.std.proofs.Common.{◌≡◌, ◌≢◌, ℕ, ◌+◌, Bool, true, false, not, T, inl, inr, Option, Some, None, IsSome, is_some, List, [], ◌∷◌, ◌++◌, option_and_then, OnOk, OnErr, IfOk, Result, Ok, Err, get_or, if◌then◌else◌, refl, sym, ap, subst, ◌∙◌}
use Rattle.std.specs.FinMap.Entries.{find as value_at, is_sorted, is_sorted-where_key, put, same_entries}
use Rattle.std.specs.List.Sorted.{IsStrictlySortedBy}
use Rattle.std.specs.Map.{keys_of}
use Rattle.vfs_base.specs.Path.{Path, path_cmp}
use Rattle.vfs_base.specs.PathLaws.{path_cmp_exact, path_cmp_total}
use Rattle.vfs_model.proofs.Trees.{at-without-here, at-without-other}
use Rattle.vfs_model.specs.Lookup.{is_prefix}
use Rattle.vfs_model.specs.Namespace.{same_path}
use Rattle.node_maps.proofs.MovedNodes.{none-under, one_if_there, same_or_other}
use Rattle.node_maps.specs.NodeMap.{NodeMap, moved, without}
use Rattle.name_tree.proofs.NodeChanges.{bare-entries, sound-inserted, sound-relinked, sound-removed, sound-same, tree_of-inserted, tree_of-relinked, tree_of-removed, tree_of-same, walk-name, walk-there}
use Rattle.name_tree.proofs.Listings.{listed-named}
use Rattle.name_tree.proofs.Views.{tree-at, tree-sorted}
use Rattle.name_tree.proofs.Walks.{live-walk, walk-append, walk-last}
use Rattle.name_tree.specs.Changes.{Inserts, Relinks, Removes, SameNodes, named_values}
use Rattle.name_tree.specs.Layout.{IsSound, child_in, entries_in, name_cmp, tree_of, value_in, value_of, walk}
use Rattle.name_tree.specs.Listed.{has_below, listed}
use Rattle.name_tree.specs.declared.node.Node.{Node}

-- a step more, to where it leads
itself : (o : Option ℕ) → option_and_then (λ (b : ℕ). Some b) o ≡ o
itself None = refl
itself (Some b) = refl

some-not-none : {X : Type 0} (o : Option X) → IsSome o → o ≢ None
some-not-none None h e = absurd (cc)
some-not-none (Some x) h e = absurd (cc)

node-there : {N : Type 0} (o : Option (Node N)) → value_of o ≢ None → IsSome o
node-there None h = absurd (h refl)
node-there (Some node) h = refl

one-there : {N : Type 0} (o : Option N) → IsSome o → one_if_there o ≡ 1
one-there None h = absurd (cc)
one-there (Some x) h = refl

some-from : {X : Type 0} (o : Option X) → o ≢ None → IsSome o
some-from None h = absurd (h refl)
some-from (Some x) h = refl

module _ {N : Type 0} {old : List (Option (Node N))} {count : ℕ} {tree : NodeMap N} (s : IsSound old count) (view : tree_of old ≡ tree) where
  -- a path leads to a slot where a node stands
  pub walk-some : (path : Path) → IsSome (value_at path_cmp path tree) → IsSome (walk (child_in old) 0 path)
  walk-some path h =
      let there = walk-there s path (λ none. some-not-none (value_at path_cmp path tree) h (ap (value_at path_cmp path) (sym view) ∙ none)) in
      ap is_some there.1

  -- a node is in the slot to which a path leads
  pub walk-contains : (path : Path) (to : ℕ) → walk (child_in old) 0 path ≡ Some to → IsSome (get_or old to None)
  walk-contains path to w = node-there (get_or old to None) (live-walk s.tree path to w)

  -- what is found at the slot of a path stands at the path
  pub at-walk : (path : Path) (to : Option ℕ) → walk (child_in old) 0 path ≡ to → value_at path_cmp path tree ≡ option_and_then (value_in old) to
  at-walk path to w = ap (value_at path_cmp path) (sym view) ∙ tree-at old s.tree path ∙ ap (option_and_then (value_in old)) w

  -- the nodes stand in the order of paths
  pub ordered : is_sorted path_cmp tree ≡ true
  ordered = ap (is_sorted path_cmp) (sym view) ∙ told (is_sorted path_cmp (tree_of old)) (tree-sorted old)
    where
      told : (b : Bool) → T b → b ≡ true
      told true t = refl
      told false t = absurd t

  -- a node stands at the root
  pub root-there : IsSome (value_at path_cmp [] tree)
  root-there = some-from (value_at path_cmp [] tree) (λ none. s.tree.root (sym (at-walk [] (Some 0) refl) ∙ none))

  module _ {path : Path} (front : Path) (name : List ℕ) (split : path ≡ front ++ name ∷ []) where
    -- the last step to a node
    pub entry-to : (at slot : ℕ) → walk (child_in old) 0 front ≡ Some at → walk (child_in old) 0 path ≡ Some slot → child_in old at name ≡ Some slot
    entry-to at slot w v =
        let last = walk-last (child_in old) 0 front name slot (ap (walk (child_in old) 0) (sym split) ∙ v) in
        let same : at ≡ last.0 = cc in
        ap (λ a. child_in old a name) same ∙ last.2

    below-none : has_below path tree ≡ false → (next : List ℕ) (rest : Path) → value_at path_cmp ((front ++ name ∷ []) ++ next ∷ rest) (tree_of old) ≡ None
    below-none h next rest =
        let bare : has_below (front ++ name ∷ []) (tree_of old) ≡ false = ap (λ p. has_below p (tree_of old)) (sym split) ∙ ap (has_below path) view ∙ h in
        none-under (front ++ name ∷ []) (tree_of old) bare next rest

    pub bare-slot : (at slot : ℕ) → walk (child_in old) 0 front ≡ Some at → child_in old at name ≡ Some slot → has_below path tree ≡ false → (next : List ℕ) → child_in old slot next ≡ None
    bare-slot at slot w there h = bare-entries s front name w there (below-none h)

    absent-here : value_at path_cmp path tree ≡ None → value_at path_cmp (front ++ name ∷ []) (tree_of old) ≡ None
    absent-here h = ap (λ p. value_at path_cmp p (tree_of old)) (sym split) ∙ ap (value_at path_cmp path) view ∙ h

    module _ {at : ℕ} (w : walk (child_in old) 0 front ≡ Some at) where
      pub insert-ok : {X E : Type 0} (new : List (Option (Node N))) (value : N) (r : Result X E) → value_at path_cmp path tree ≡ None → OnOk r (Inserts old new at name value) →
          OnOk r (tree_of new ≡ put path_cmp path value tree)
      insert-ok new value (Ok x) h i =
          tree_of-inserted s front name w (absent-here h) i ∙ ap (λ p. put path_cmp p value (tree_of old)) (sym split) ∙ ap (put path_cmp path value) view
      insert-ok new value (Err e) h i = tt

      pub insert-sound : {X E : Type 0} (new : List (Option (Node N))) (value : N) {more : ℕ} (r : Result X E) → value_at path_cmp path tree ≡ None → OnOk r (Inserts old new at name value) →
          OnErr r (SameNodes old new) → OnOk r (more ≡ count + 1) → OnErr r (more ≡ count) → IsSound new more
      insert-sound new value (Ok x) h i same m n = subst (IsSound new) (sym m) (sound-inserted s front name w (absent-here h) i)
      insert-sound new value (Err e) h i same m n = subst (IsSound new) (sym n) (sound-same s same)

      pub remove-ok : {new : List (Option (Node N))} {slot : ℕ} → child_in old at name ≡ Some slot → has_below path tree ≡ false → Removes old new at name slot →
          tree_of new ≡ without path tree
      remove-ok there h r =
          tree_of-removed s front name w there (bare-slot at _ w there h) r ∙ ap (λ p. without p (tree_of old)) (sym split) ∙ ap (without path) view

      pub remove-sound : {new : List (Option (Node N))} {slot left : ℕ} → child_in old at name ≡ Some slot → has_below path tree ≡ false → Removes old new at name slot →
          left + 1 ≡ count → IsSound new left
      remove-sound there h r fewer = sound-removed s front name w there (bare-slot at _ w there h) r fewer

      pub remove-at : {slot : ℕ} → child_in old at name ≡ Some slot → value_at path_cmp path tree ≡ value_in old slot
      remove-at {slot} there = at-walk path (Some slot) (ap (walk (child_in old) 0) split ∙ walk-name s front name w slot there)

  pub same-err : {X E : Type 0} (new : List (Option (Node N))) (r : Result X E) → OnErr r (SameNodes old new) → OnErr r (tree_of new ≡ tree)
  same-err new (Ok x) h = tt
  same-err new (Err e) h = tree_of-same s h ∙ view

  -- without a node that is not there the tree is the same
  pub absent-without : (path : Path) → value_at path_cmp path tree ≡ None → tree ≡ without path tree
  absent-without path h =
      let t : T (is_sorted path_cmp tree) = subst (λ m. T (is_sorted path_cmp m)) view (tree-sorted old) in
      same_entries path_cmp path_cmp_total path_cmp_exact tree (without path tree) t (is_sorted-where_key path_cmp (λ p. not (same_path p path)) tree t)
      (λ q. elim (same_or_other q path) [
        | inl e ↦ ap (λ p. value_at path_cmp p tree) e ∙ h ∙ sym (ap (λ p. value_at path_cmp p (without path tree)) e ∙ at-without-here path tree)
        | inr other ↦ sym (at-without-other path q tree other)
      ])

  -- nothing stands at a path where the way to its parent, or the last step, leads nowhere
  pub absent-front : {path : Path} (front : Path) (name : List ℕ) → path ≡ front ++ name ∷ [] → walk (child_in old) 0 front ≡ None → value_at path_cmp path tree ≡ None
  absent-front {path} front name split w =
      at-walk path None (ap (walk (child_in old) 0) split ∙ walk-append (child_in old) 0 front (name ∷ []) ∙ ap (option_and_then (λ b. walk (child_in old) b (name ∷ []))) w)

  pub absent-last : {path : Path} (front : Path) (name : List ℕ) {at : ℕ} → path ≡ front ++ name ∷ [] → walk (child_in old) 0 front ≡ Some at → child_in old at name ≡ None → value_at path_cmp path tree ≡ None
  absent-last {path} front name split w e =
      at-walk path None (ap (walk (child_in old) 0) split ∙ walk-append (child_in old) 0 front (name ∷ []) ∙ ap (option_and_then (λ b. walk (child_in old) b (name ∷ []))) w
      ∙ ap (option_and_then (λ (b : ℕ). Some b)) e)

  -- what is listed is what a slot's entries lead to
  pub list-ok : {E : Type 0} (path : Path) (slot : ℕ) (r : Result (List (List ℕ × N)) E) → walk (child_in old) 0 path ≡ Some slot → IfOk r (λ list. list ≡ named_values old (entries_in old slot)) →
      OnOk r (IsStrictlySortedBy name_cmp (keys_of (entries_in old slot))) → IfOk r (λ list. list ≡ listed path tree)
  list-ok path slot (Ok list) w is sorted = is ∙ sym (listed-named old s path slot w sorted) ∙ ap (listed path) view
  list-ok path slot (Err e) w is sorted = tt

  module _ {path path' : Path} (front front' : Path) (name name' : List ℕ) (split : path ≡ front ++ name ∷ []) (split' : path' ≡ front' ++ name' ∷ []) {at to slot : ℕ}
      (w : walk (child_in old) 0 front ≡ Some at) (w' : walk (child_in old) 0 front' ≡ Some to) (v : walk (child_in old) 0 path ≡ Some slot)
      (apart : is_prefix path path' ≡ false) (bare : has_below path' tree ≡ false) where
    parted : is_prefix (front ++ name ∷ []) (front' ++ name' ∷ []) ≡ false
    parted = ap (λ p. is_prefix p (front' ++ name' ∷ [])) (sym split) ∙ ap (is_prefix path) (sym split') ∙ apart

    pub relink-ok : {X E : Type 0} (new : List (Option (Node N))) (r : Result X E) → OnOk r (Relinks old new at name to name' slot) → OnOk r (tree_of new ≡ moved path path' tree)
    relink-ok new (Ok x) r =
        tree_of-relinked s front front' w w' (entry-to front name split at slot w v) parted (below-none front' name' split' bare) r
        ∙ ap (λ p. moved p (front' ++ name' ∷ []) (tree_of old)) (sym split) ∙ ap (λ p. moved path p (tree_of old)) (sym split') ∙ ap (moved path path') view
    relink-ok new (Err e) r = tt

    pub replace-ok : {new : List (Option (Node N))} → Relinks old new at name to name' slot → tree_of new ≡ moved path path' tree
    replace-ok r =
        tree_of-relinked s front front' w w' (entry-to front name split at slot w v) parted (below-none front' name' split' bare) r
        ∙ ap (λ p. moved p (front' ++ name' ∷ []) (tree_of old)) (sym split) ∙ ap (λ p. moved path p (tree_of old)) (sym split') ∙ ap (moved path path') view

    pub replace-sound : {new : List (Option (Node N))} {left : ℕ} → Relinks old new at name to name' slot → IsSome (value_at path_cmp path' tree) → left + 1 ≡ count → IsSound new left
    replace-sound {left} r there fewer =
        let here : IsSome (value_at path_cmp (front' ++ name' ∷ []) (tree_of old)) = ap is_some (ap (λ p. value_at path_cmp p (tree_of old)) (sym split') ∙ ap (value_at path_cmp path') view) ∙ there in
        sound-relinked s front front' w w' (entry-to front name split at slot w v) parted (below-none front' name' split' bare) r
        (ap (λ n. left + n) (one-there _ here) ∙ fewer)

    -- the value that was at the new path
    pub replaced-is : value_at path_cmp path' tree ≡ option_and_then (value_in old) (child_in old to name')
    replaced-is =
        at-walk path' (child_in old to name') (ap (walk (child_in old) 0) split' ∙ walk-append (child_in old) 0 front' (name' ∷ []) ∙ ap (option_and_then (λ b. walk (child_in old) b (name' ∷ []))) w' ∙ itself (child_in old to name'))

    pub relink-sound : {E : Type 0} {new : List (Option (Node N))} {left : ℕ} (r : Result (Option N) E) → OnOk r (Relinks old new at name to name' slot) → OnErr r (SameNodes old new) →
        IfOk r (λ value. value ≡ option_and_then (value_in old) (child_in old to name')) → IfOk r (λ value. left + (if is_some value then 1 else 0) ≡ count) → OnErr r (left ≡ count) → IsSound new left
    relink-sound {left} (Ok value) r same is fewer n =
        sound-relinked s front front' w w' (entry-to front name split at slot w v) parted (below-none front' name' split' bare) r
        (ap (λ o. left + one_if_there o) (ap (λ p. value_at path_cmp p (tree_of old)) (sym split') ∙ ap (value_at path_cmp path') view ∙ replaced-is ∙ sym is) ∙ fewer)
    relink-sound {new} (Err e) r same is fewer n = subst (IsSound new) (sym n) (sound-same s same)

    pub relink-value : {E : Type 0} (r : Result (Option N) E) → IfOk r (λ value. value ≡ option_and_then (value_in old) (child_in old to name')) → IfOk r (λ value. value ≡ value_at path_cmp path' tree)
    relink-value (Ok value) is = is ∙ sym replaced-is
    relink-value (Err e) is = tt

  -- the way to a node leads over its parent
  pub walk-front-some : {path : Path} (front : Path) (name : List ℕ) → path ≡ front ++ name ∷ [] → IsSome (value_at path_cmp path tree) → IsSome (walk (child_in old) 0 front)
  walk-front-some {path} front name split h =
      let there = walk-there s path (λ none. some-not-none (value_at path_cmp path tree) h (ap (value_at path_cmp path) (sym view) ∙ none)) in
      let last = walk-last (child_in old) 0 front name there.0 (ap (walk (child_in old) 0) (sym split) ∙ there.1) in
      ap is_some last.1
