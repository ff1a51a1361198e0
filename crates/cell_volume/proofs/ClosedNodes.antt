-- Nodes by path in which each parent is a folder: a node comes, and a node goes.
use Rattle.std.proofs.Common.{◌≡◌, ◌≢◌, ℕ, suc, ◌+◌, ◌<◌, ◌≤◌, Bool, true, false, cond, not, ◌||◌, Option, None, is_some, List, [], ◌∷◌, ◌++◌, length, filter, inl, inr, refl, sym, ap, ◌∙◌, arith, length-append}
use Rattle.std.specs.FinMap.Entries.{find as value_at, is_sorted-put, is_sorted-where_key, length-put, put}
use Rattle.vfs_base.specs.Path.{Path, path_cmp}
use Rattle.vfs_base.specs.PathLaws.{path_cmp_total}
use Rattle.vfs_model.proofs.Trees.{at-put-other, at-without-here, at-without-other, same_path-other}
use Rattle.vfs_model.specs.Consistency.{IsClosedTree}
use Rattle.vfs_model.specs.Namespace.{same_path}
use Rattle.node_maps.specs.NodeMap.{NodeMap, is_folder, is_found_dir, without}
use Rattle.cell_volume.proofs.PathFronts.{neither, not-empty, or-first, or-second, same-front, same-or-other-path}

module _ {N : Type 0} (is_dir : N → Bool) where
  -- what was found is a folder
  abbrev pub found_dir : Option N → Bool
  found_dir found = is_found_dir is_dir found

  -- a front that is a folder, in the words of a closed tree
  pub front-dir : (tree : NodeMap N) (front : Path) → is_folder is_dir tree front ≡ true → (found_dir (value_at path_cmp front tree) || same_path front []) ≡ true
  front-dir tree [] h = or-second (found_dir (value_at path_cmp [] tree)) (same_path [] []) refl
  front-dir tree (name ∷ names) h = or-first (found_dir (value_at path_cmp (name ∷ names) tree)) (same_path (name ∷ names) []) h

  put-parents : (tree : NodeMap N) (rest front : Path) (name : List ℕ) (new : N) → IsClosedTree found_dir tree → value_at path_cmp rest tree ≡ None →
      rest ≡ front ++ name ∷ [] → is_folder is_dir tree front ≡ true → (up : Path) (last : List ℕ) →
      is_some (value_at path_cmp (up ++ last ∷ []) (put path_cmp rest new tree)) ≡ true →
      (found_dir (value_at path_cmp up (put path_cmp rest new tree)) || same_path up []) ≡ true
  put-parents tree rest front name new closed absent e dir up last h = elim (same-or-other-path (up ++ last ∷ []) rest) [
    | inl same ↦
        let fronts : up ≡ front = same-front up front last name (same ∙ e) in
        let apart : up ≢ rest = λ k. longer up last (same ∙ sym k) in
        ap (λ found. found_dir found || same_path up []) (at-put-other rest up new tree apart)
        ∙ ap (λ p. found_dir (value_at path_cmp p tree) || same_path p []) fronts ∙ front-dir tree front dir
    | inr other ↦
        let there : is_some (value_at path_cmp (up ++ last ∷ []) tree) ≡ true = ap is_some (sym (at-put-other rest (up ++ last ∷ []) new tree other)) ∙ h in
        let before = closed.parents up last there in
        let apart : up ≢ rest = λ k.
        let none : found_dir (value_at path_cmp up tree) ≡ false = ap found_dir (ap (λ p. value_at path_cmp p tree) k ∙ absent) in
        let root : same_path up [] ≡ false = same_path-other up [] (λ x. not-empty front name (sym e ∙ sym k ∙ x)) in
        let neither-one = neither (found_dir (value_at path_cmp up tree)) (same_path up []) none root in absurd (cc) in
        ap (λ found. found_dir found || same_path up []) (at-put-other rest up new tree apart) ∙ before
  ]
    where
      longer : (p : Path) (n : List ℕ) → p ++ n ∷ [] ≢ p
      longer p n k =
          let l : length p ≡ length p + 1 = ap (λ x. length x) (sym k) ∙ length-append p (n ∷ []) in
          absurd (omega (arith, l))

  -- a node comes to an absent path whose parent is a folder
  pub put-closed : (tree : NodeMap N) (rest front : Path) (name : List ℕ) (new : N) → IsClosedTree found_dir tree → value_at path_cmp rest tree ≡ None →
      rest ≡ front ++ name ∷ [] → is_folder is_dir tree front ≡ true → length tree < 4096 → IsClosedTree found_dir (put path_cmp rest new tree)
  put-closed tree rest front name new closed absent e dir l = record {
    sorted = is_sorted-put path_cmp path_cmp_total rest new tree closed.sorted;
    rootless = at-put-other rest [] new tree (λ k. not-empty front name (sym e ∙ sym k)) ∙ closed.rootless;
    parents = put-parents tree rest front name new closed absent e dir;
    bounded =
        let more : length (put path_cmp rest new tree) ≡ length tree + 1 =
        length-put path_cmp path_cmp_total rest new tree closed.sorted ∙ ap (λ found. cond (is_some found) (length tree) (length tree + 1)) absent in
        omega (arith, more);
  }

  shorter-filter : (e : Path × N) (left : NodeMap N) (count : ℕ) (b : Bool) → length left ≤ count → length (cond b (e ∷ left) left) ≤ suc count
  shorter-filter e left count true l = omega (arith, l)
  shorter-filter e left count false l = omega (arith, l)

  length-filter : (test : (Path × N) → Bool) (tree : NodeMap N) → length (filter test tree) ≤ length tree
  length-filter test [] = omega arith
  length-filter test (e ∷ tree) = shorter-filter e (filter test tree) (length tree) (test e) (length-filter test tree)

  without-parents : (tree : NodeMap N) (rest : Path) → IsClosedTree found_dir tree → ((name : List ℕ) → value_at path_cmp (rest ++ name ∷ []) tree ≡ None) → (up : Path) (last : List ℕ) →
      is_some (value_at path_cmp (up ++ last ∷ []) (without rest tree)) ≡ true → (found_dir (value_at path_cmp up (without rest tree)) || same_path up []) ≡ true
  without-parents tree rest closed childless up last h = elim (same-or-other-path (up ++ last ∷ []) rest) [
    | inl same ↦
        let none : is_some (value_at path_cmp (up ++ last ∷ []) (without rest tree)) ≡ false =
        ap (λ p. is_some (value_at path_cmp p (without rest tree))) same ∙ ap is_some (at-without-here rest tree) in
        absurd (cc)
    | inr other ↦
        let there : is_some (value_at path_cmp (up ++ last ∷ []) tree) ≡ true = ap is_some (sym (at-without-other rest (up ++ last ∷ []) tree other)) ∙ h in
        let apart : up ≢ rest = λ k.
        let none : is_some (value_at path_cmp (up ++ last ∷ []) tree) ≡ false = ap (λ p. is_some (value_at path_cmp (p ++ last ∷ []) tree)) k ∙ ap is_some (childless last) in
        absurd (cc) in
        ap (λ found. found_dir found || same_path up []) (at-without-other rest up tree apart) ∙ closed.parents up last there
  ]

  -- a node goes that has no children
  pub without-closed : (tree : NodeMap N) (rest : Path) → rest ≢ [] → IsClosedTree found_dir tree → ((name : List ℕ) → value_at path_cmp (rest ++ name ∷ []) tree ≡ None) →
      IsClosedTree found_dir (without rest tree)
  without-closed tree rest h closed childless = record {
    sorted = is_sorted-where_key path_cmp (λ p. not (same_path p rest)) tree closed.sorted;
    rootless = at-without-other rest [] tree (λ k. h (sym k)) ∙ closed.rootless;
    parents = without-parents tree rest closed childless;
    bounded = let shorter = length-filter (λ entry. not (same_path entry.0 rest)) tree in let before = closed.bounded in omega (arith, shorter, before);
  }
