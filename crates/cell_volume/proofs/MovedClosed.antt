-- Nodes by path in which each parent is a folder: a node with all below it moves.
use Rattle.std.proofs.Common.{◌≡◌, ◌≢◌, ℕ, ◌+◌, Bool, true, false, ◌||◌, Some, is_some, List, [], ◌∷◌, ◌++◌, length, drop, ◌⊎◌, inl, inr, refl, sym, ap, subst, ◌∙◌, arith, length-append, append_assoc}
use Rattle.std.proofs.lemmas.List.{append_cancel_left, append-nil}
use Rattle.std.specs.FinMap.Entries.{find as value_at}
use Rattle.std.specs.List.{list_any}
use Rattle.vfs_base.specs.Path.{Path, path_cmp}
use Rattle.vfs_model.proofs.MovedLaws.{prefix-append}
use Rattle.vfs_model.proofs.Trees.{prefix-splits, same_path-other}
use Rattle.vfs_model.specs.Consistency.{IsClosedTree}
use Rattle.vfs_model.specs.Lookup.{is_below, is_prefix}
use Rattle.vfs_model.specs.Namespace.{same_path}
use Rattle.node_maps.specs.NodeMap.{NodeMap, is_folder, moved}
use Rattle.node_maps.proofs.MovedNodes.{moved-at, moved-away, moved-beside, moved-length, moved-sorted, none-under}
use Rattle.cell_volume.proofs.ClosedNodes.{found_dir, front-dir}
use Rattle.cell_volume.proofs.PathFronts.{LastName, named, not-empty, or-first, prefix-length, prefix-through, same-front, same-or-other-path, true-or-false}

module _ {N : Type 0} (is_dir : N → Bool) where
  -- a move of old with all below it to new, in one tree
  pub record MayMove (old new : Path) (tree : NodeMap N) : Type 0 where
    pub closed : IsClosedTree (found_dir is_dir) tree
    pub from : old ≢ []
    pub name : LastName new
    pub parent : is_folder is_dir tree name.front ≡ true
    pub clear : list_any (λ entry. is_below new entry.0) tree ≡ false
    pub apart : is_prefix old new ≡ false
    pub beside : is_prefix new old ≡ false
    pub there : is_some (value_at path_cmp old tree) ≡ true

  module _ (old new : Path) (tree : NodeMap N) (may : MayMove old new tree) where
    pub at-new : (rest : Path) → value_at path_cmp (new ++ rest) (moved old new tree) ≡ value_at path_cmp (old ++ rest) tree
    at-new rest = moved-at old new tree rest may.closed.sorted (none-under new tree may.clear)

    -- where a node that stands in the new tree stood
    pub record Source (q : Path) (found : N) : Type 0 where
      pub path : Path
      pub there : value_at path_cmp path tree ≡ Some found
      pub is : ((rest : Path) × (q ≡ new ++ rest) × (path ≡ old ++ rest)) ⊎ ((is_prefix new q ≡ false) × (is_prefix old q ≡ false) × (path ≡ q))

    pub source : (q : Path) (found : N) → value_at path_cmp q (moved old new tree) ≡ Some found → Source q found
    source q found h = elim (true-or-false (is_prefix new q)) [
      | inl k ↦
          let split : q ≡ new ++ drop (length new) q = prefix-splits new q k in
          record {
            path = old ++ drop (length new) q;
            there = sym (at-new (drop (length new) q)) ∙ sym (ap (λ x. value_at path_cmp x (moved old new tree)) split) ∙ h;
            is = inl (drop (length new) q, split, refl);
          }
      | inr k ↦ elim (true-or-false (is_prefix old q)) [
        | inl m ↦ let none = moved-away old new tree q k m in absurd (cc)
        | inr m ↦ record { path = q; there = sym (moved-beside old new tree q k m) ∙ h; is = inr (k, m, refl) }
      ]
    ]

    -- nodes with one source are one
    pub one-source : (p q : Path) (a b : N) → (x : Source p a) → (y : Source q b) → x.path ≡ y.path → p ≡ q
    one-source p q a b x y e = elim x.is [
      | inl m ↦ elim y.is [
        | inl k ↦ m.1 ∙ ap (λ r. new ++ r) (append_cancel_left old m.0 k.0 (sym m.2 ∙ e ∙ k.2)) ∙ sym k.1
        | inr k ↦ let yes : is_prefix old q ≡ true = subst (λ r. is_prefix old r ≡ true) (sym m.2 ∙ e ∙ k.2) (prefix-append old m.0) in let no = k.1 in absurd (cc)
      ]
      | inr m ↦ elim y.is [
        | inl k ↦ let yes : is_prefix old p ≡ true = subst (λ r. is_prefix old r ≡ true) (sym k.2 ∙ sym e ∙ m.2) (prefix-append old k.0) in let no = m.1 in absurd (cc)
        | inr k ↦ sym m.2 ∙ e ∙ k.2
      ]
    ]

    -- the front of a path that is apart from both is apart from both
    front-apart : (front p : Path) (name : List ℕ) → is_prefix front (p ++ name ∷ []) ≡ false → is_prefix front p ≡ false
    front-apart front p name h = elim (true-or-false (is_prefix front p)) [
      | inl k ↦ let yes = prefix-through front p k (name ∷ []) in absurd (cc)
      | inr k ↦ k
    ]

    -- the parent of new
    own-front : (up : Path) (last : List ℕ) → up ++ last ∷ [] ≡ new → (found_dir is_dir (value_at path_cmp up (moved old new tree)) || same_path up []) ≡ true
    own-front up last e =
        let fronts : up ≡ may.name.front = same-front up may.name.front last may.name.name (e ∙ may.name.is) in
        let shorter : length new ≡ length up + 1 = ap (λ x. length x) (sym e) ∙ length-append up (last ∷ []) in
        let not-new : is_prefix new up ≡ false = elim (true-or-false (is_prefix new up)) [
          | inl m ↦ let l = prefix-length new up m in absurd (omega (arith, l, shorter))
          | inr m ↦ m
        ] in
        let not-old : is_prefix old up ≡ false = elim (true-or-false (is_prefix old up)) [
          | inl m ↦ let yes : is_prefix old new ≡ true = subst (λ x. is_prefix old x ≡ true) e (prefix-through old up m (last ∷ [])) in let no = may.apart in absurd (cc)
          | inr m ↦ m
        ] in
        ap (λ found. found_dir is_dir found || same_path up []) (moved-beside old new tree up not-new not-old)
        ∙ front-dir is_dir tree up (ap (λ p. is_folder is_dir tree p) fronts ∙ may.parent)

    no-front : (a b : Path) → a ++ b ≡ [] → a ≡ []
    no-front [] b e = refl
    no-front (x ∷ a) b e = absurd (cc)

    left-true : (a b : Bool) → (a || b) ≡ true → b ≡ false → a ≡ true
    left-true true b h k = refl
    left-true false b h k = absurd (cc)

    -- the parent of what stands below new
    below-new : (up : Path) (last : List ℕ) → up ++ last ∷ [] ≡ new ++ drop (length new) (up ++ last ∷ []) → is_some (value_at path_cmp (up ++ last ∷ []) (moved old new tree)) ≡ true →
        (name : LastName (drop (length new) (up ++ last ∷ []))) → (found_dir is_dir (value_at path_cmp up (moved old new tree)) || same_path up []) ≡ true
    below-new up last split h name =
        let whole : up ++ last ∷ [] ≡ (new ++ name.front) ++ name.name ∷ [] = split ∙ ap (λ r. new ++ r) name.is ∙ sym (append_assoc new name.front (name.name ∷ [])) in
        let fronts : up ≡ new ++ name.front = same-front up (new ++ name.front) last name.name whole in
        let stood : value_at path_cmp (up ++ last ∷ []) (moved old new tree) ≡ value_at path_cmp ((old ++ name.front) ++ name.name ∷ []) tree =
        ap (λ x. value_at path_cmp x (moved old new tree)) (split ∙ ap (λ r. new ++ r) name.is) ∙ at-new (name.front ++ name.name ∷ [])
        ∙ ap (λ x. value_at path_cmp x tree) (sym (append_assoc old name.front (name.name ∷ []))) in
        let before = may.closed.parents (old ++ name.front) name.name (ap is_some (sym stood) ∙ h) in
        let not-root : same_path (old ++ name.front) [] ≡ false = same_path-other (old ++ name.front) [] (λ e. may.from (no-front old name.front e)) in
        or-first _ (same_path up []) (ap (found_dir is_dir) (ap (λ x. value_at path_cmp x (moved old new tree)) fronts ∙ at-new name.front) ∙ left-true _ _ before not-root)

    at-or-below : (up : Path) (last : List ℕ) → is_prefix new (up ++ last ∷ []) ≡ true → is_some (value_at path_cmp (up ++ last ∷ []) (moved old new tree)) ≡ true →
        (up ++ last ∷ [] ≡ new) ⊎ (up ++ last ∷ [] ≢ new) → (found_dir is_dir (value_at path_cmp up (moved old new tree)) || same_path up []) ≡ true
    at-or-below up last k h (inl e) = own-front up last e
    at-or-below up last k h (inr e) =
        let split : up ++ last ∷ [] ≡ new ++ drop (length new) (up ++ last ∷ []) = prefix-splits new (up ++ last ∷ []) k in
        below-new up last split h (named (drop (length new) (up ++ last ∷ [])) (λ x. e (split ∙ ap (λ r. new ++ r) x ∙ append-nil new)))

    moved-parents : (up : Path) (last : List ℕ) → is_some (value_at path_cmp (up ++ last ∷ []) (moved old new tree)) ≡ true →
        (found_dir is_dir (value_at path_cmp up (moved old new tree)) || same_path up []) ≡ true
    moved-parents up last h = elim (true-or-false (is_prefix new (up ++ last ∷ []))) [
      | inr k ↦ elim (true-or-false (is_prefix old (up ++ last ∷ []))) [
        | inl m ↦ let none : is_some (value_at path_cmp (up ++ last ∷ []) (moved old new tree)) ≡ false = ap is_some (moved-away old new tree (up ++ last ∷ []) k m) in absurd (cc)
        | inr m ↦
            ap (λ found. found_dir is_dir found || same_path up []) (moved-beside old new tree up (front-apart new up last k) (front-apart old up last m))
            ∙ may.closed.parents up last (ap is_some (sym (moved-beside old new tree (up ++ last ∷ []) k m)) ∙ h)
      ]
      | inl k ↦ at-or-below up last k h (same-or-other-path (up ++ last ∷ []) new)
    ]

  -- a node with all below it moves
  pub moved-closed : (old new : Path) (tree : NodeMap N) → MayMove old new tree → IsClosedTree (found_dir is_dir) (moved old new tree)
  moved-closed old new tree may = record {
    sorted = moved-sorted old new tree may.closed.sorted;
    rootless =
        let not-new : is_prefix new [] ≡ false = long new (λ e. not-empty may.name.front may.name.name (sym may.name.is ∙ e)) in
        let not-old : is_prefix old [] ≡ false = long old may.from in
        moved-beside old new tree [] not-new not-old ∙ may.closed.rootless;
    parents = moved-parents old new tree may;
    bounded = let l = moved-length old new tree may.closed.sorted may.apart (none-under new tree may.clear) in let m = may.closed.bounded in omega (arith, l, m);
  }
    where
      long : (p : Path) → p ≢ [] → is_prefix p [] ≡ false
      long [] h = absurd (h refl)
      long (x ∷ p) h = refl
