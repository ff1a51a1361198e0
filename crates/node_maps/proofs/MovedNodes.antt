-- Nodes by path of which one has moved with all below it: what stands where, their order and their number.
use Rattle.std.proofs.Common.{◌≡◌, ◌≢◌, ℕ, ◌+◌, Bool, true, false, cond, not, ◌&&◌, T, Option, Some, None, is_some, List, [], ◌∷◌, ◌++◌, ◌⊎◌, inl, inr, length, drop, filter, map, fold, if◌then◌else◌, refl, sym, ap, ◌∙◌, arith}
use Rattle.std.proofs.lemmas.List.{append_cancel_left, append-nil}
use Rattle.std.specs.FinMap.Entries.{below_all, find as value_at, is_sorted, is_sorted-put, is_sorted-where_key, length-put, put}
use Rattle.std.specs.List.{list_any}
use Rattle.std.specs.Ordering.{is_eq, is_lt}
use Rattle.std.specs.declared.cmp.Ordering.{Ordering}
use Rattle.std.specs.declared.cmp.Ordering.TheVariants.{Less, Equal, Greater}
use Rattle.vfs_base.specs.Path.{Path, path_cmp}
use Rattle.vfs_base.specs.PathLaws.{path_cmp_total, path_ties}
use Rattle.vfs_model.proofs.MovedLaws.{below-longer, neither, prefix-append}
use Rattle.vfs_model.proofs.Trees.{at-filter, at-put-here, at-put-other, prefix-splits, same_path-is, same_path-itself, same_path-other}
use Rattle.vfs_model.specs.Lookup.{is_below, is_prefix}
use Rattle.vfs_model.specs.Namespace.{same_path}
use Rattle.node_maps.specs.NodeMap.{NodeMap, carried, left_behind, moved, put_entry}

both : (a b : Bool) → T (a && b) → T a × T b
both true b h = (tt, h)
both false b h = absurd h

lt-not-eq : (o : Ordering) → T (is_lt o) → is_eq o ≡ false
lt-not-eq Less h = refl
lt-not-eq Equal h = absurd h
lt-not-eq Greater h = absurd h

pub same_or_other : (p q : Path) → (p ≡ q) ⊎ (p ≢ q)
same_or_other p q = elim (same_path p q) as (λ r. same_path p q ≡ r → (p ≡ q) ⊎ (p ≢ q)) [
  | true ↦ λ e. inl (same_path-is p q e)
  | false ↦ λ e. inr (λ f. let t : same_path p q ≡ true = ap (λ x. same_path p x) (sym f) ∙ same_path-itself p in absurd (cc))
] refl

-- the new place of a path at or below old
abbrev carried_path : Path → Path → Path → Path
carried_path old new path = new ++ drop (length old) path

module _ {N : Type 0} where
  -- the first where there is one, and else the second
  abbrev or_else : Option N → Option N → Option N
  or_else None second = second
  or_else (Some first) second = Some first

  or_else-none : (found : Option N) → or_else found None ≡ found
  or_else-none None = refl
  or_else-none (Some found) = refl

  -- what is below all keys is not among them
  pub below-absent : (q : Path) (tree : NodeMap N) → T (below_all path_cmp q tree) → value_at path_cmp q tree ≡ None
  below-absent q [] h = refl
  below-absent q (entry ∷ tree) h =
      let parts = both _ _ h in
      ap (λ b. cond b (Some entry.1) (value_at path_cmp q tree)) (lt-not-eq (path_cmp q entry.0) parts.0) ∙ below-absent q tree parts.1

  pub at-entry : (q : Path) (entry : Path × N) (tree : NodeMap N) → q ≡ entry.0 → value_at path_cmp q (entry ∷ tree) ≡ Some entry.1
  at-entry q entry tree e = ap (λ b. cond b (Some entry.1) (value_at path_cmp q tree)) (sym (path_ties q entry.0) ∙ ap (λ p. same_path q p) (sym e) ∙ same_path-itself q)

  pub at-later : (q : Path) (entry : Path × N) (tree : NodeMap N) → q ≢ entry.0 → value_at path_cmp q (entry ∷ tree) ≡ value_at path_cmp q tree
  at-later q entry tree h = ap (λ b. cond b (Some entry.1) (value_at path_cmp q tree)) (sym (path_ties q entry.0) ∙ same_path-other q entry.0 h)

  -- the entries that move, put one after the other
  abbrev put_moved : Path → Path → NodeMap N → NodeMap N → NodeMap N
  put_moved old new base tree = fold put_entry base (carried old new tree)

  -- one entry more: it moves where it is at or below old
  put_moved-step : (old new : Path) (base : NodeMap N) (entry : Path × N) (tree : NodeMap N) (b : Bool) → is_prefix old entry.0 ≡ b →
      put_moved old new base (entry ∷ tree) ≡ (if b then put_moved old new (put path_cmp (carried_path old new entry.0) entry.1 base) tree else put_moved old new base tree)
  put_moved-step old new base entry tree b e =
      ap (λ r. fold put_entry base (map (λ e. (carried_path old new e.0, e.1)) (cond r (entry ∷ filter (λ e. is_prefix old e.0) tree) (filter (λ e. is_prefix old e.0) tree)))) e ∙ by_case b
    where
      by_case : (r : Bool) → fold put_entry base (map (λ e. (carried_path old new e.0, e.1)) (cond r (entry ∷ filter (λ e. is_prefix old e.0) tree) (filter (λ e. is_prefix old e.0) tree)))
          ≡ (if r then put_moved old new (put path_cmp (carried_path old new entry.0) entry.1 base) tree else put_moved old new base tree)
      by_case true = refl
      by_case false = refl

  -- no path beside new changes
  beside-new : (old new : Path) (tree base : NodeMap N) (q : Path) → is_prefix new q ≡ false → value_at path_cmp q (put_moved old new base tree) ≡ value_at path_cmp q base
  beside-new old new [] base q h = refl
  beside-new old new (entry ∷ tree) base q h = elim (is_prefix old entry.0) as (λ b. is_prefix old entry.0 ≡ b → value_at path_cmp q (put_moved old new base (entry ∷ tree)) ≡ value_at path_cmp q base) [
    | true ↦ λ e. ap (value_at path_cmp q) (put_moved-step old new base entry tree true e)
        ∙ beside-new old new tree (put path_cmp (carried_path old new entry.0) entry.1 base) q h
        ∙ at-put-other (carried_path old new entry.0) q entry.1 base (λ f. let t : is_prefix new q ≡ true = ap (is_prefix new) f ∙ prefix-append new (drop (length old) entry.0) in absurd (cc))
    | false ↦ λ e. ap (value_at path_cmp q) (put_moved-step old new base entry tree false e) ∙ beside-new old new tree base q h
  ] refl

  -- at and below new stands what stood at and below old
  at-new : (old new : Path) (tree base : NodeMap N) (rest : Path) → T (is_sorted path_cmp tree) →
      value_at path_cmp (new ++ rest) (put_moved old new base tree) ≡ or_else (value_at path_cmp (old ++ rest) tree) (value_at path_cmp (new ++ rest) base)
  at-new old new [] base rest s = refl
  at-new old new (entry ∷ tree) base rest s = elim (is_prefix old entry.0) as (λ b. is_prefix old entry.0 ≡ b →
      value_at path_cmp (new ++ rest) (put_moved old new base (entry ∷ tree)) ≡ or_else (value_at path_cmp (old ++ rest) (entry ∷ tree)) (value_at path_cmp (new ++ rest) base)) [
        | true ↦ λ e. ap (value_at path_cmp (new ++ rest)) (put_moved-step old new base entry tree true e)
            ∙ at-new old new tree (put path_cmp (carried_path old new entry.0) entry.1 base) rest (both _ _ s).1
            ∙ elim (same_or_other (old ++ rest) entry.0) [
              | inl f ↦
                  let r : rest ≡ drop (length old) entry.0 = append_cancel_left old rest (drop (length old) entry.0) (f ∙ prefix-splits old entry.0 e) in
                  let none : value_at path_cmp (old ++ rest) tree ≡ None = ap (λ q. value_at path_cmp q tree) f ∙ below-absent entry.0 tree (both _ _ s).0 in
                  let here : value_at path_cmp (new ++ rest) (put path_cmp (carried_path old new entry.0) entry.1 base) ≡ Some entry.1 =
                  ap (λ x. value_at path_cmp (new ++ x) (put path_cmp (carried_path old new entry.0) entry.1 base)) r ∙ at-put-here (carried_path old new entry.0) entry.1 base in
                  ap (λ x. or_else x (value_at path_cmp (new ++ rest) (put path_cmp (carried_path old new entry.0) entry.1 base))) none
                  ∙ here
                  ∙ sym (ap (λ x. or_else x (value_at path_cmp (new ++ rest) base)) (at-entry (old ++ rest) entry tree f))
              | inr g ↦
                  ap (or_else (value_at path_cmp (old ++ rest) tree))
                  (at-put-other (carried_path old new entry.0) (new ++ rest) entry.1 base (elsewhere old new entry.0 rest e g))
                  ∙ sym (ap (λ x. or_else x (value_at path_cmp (new ++ rest) base)) (at-later (old ++ rest) entry tree g))
            ]
        | false ↦ λ e. ap (value_at path_cmp (new ++ rest)) (put_moved-step old new base entry tree false e)
            ∙ at-new old new tree base rest (both _ _ s).1
            ∙ sym (ap (λ x. or_else x (value_at path_cmp (new ++ rest) base)) (at-later (old ++ rest) entry tree
            (λ f. let t : is_prefix old entry.0 ≡ true = ap (is_prefix old) (sym f) ∙ prefix-append old rest in absurd (cc))))
      ] refl
    where
      elsewhere : (old new path rest : Path) → is_prefix old path ≡ true → old ++ rest ≢ path → new ++ rest ≢ carried_path old new path
      elsewhere old new path rest e g f = g (ap (λ x. old ++ x) (append_cancel_left new rest (drop (length old) path) f) ∙ sym (prefix-splits old path e))

  -- of what stays, nothing stands at or below new
  left-absent : (old new : Path) (tree : NodeMap N) (rest : Path) → ((name : List ℕ) (names : Path) → value_at path_cmp (new ++ name ∷ names) tree ≡ None) →
      value_at path_cmp (new ++ rest) (left_behind old new tree) ≡ None
  left-absent old new tree [] h =
      at-filter (λ p. not (is_prefix old p) && not (same_path p new)) (new ++ []) tree
      ∙ out (is_prefix old (new ++ [])) (same_path (new ++ []) new) (value_at path_cmp (new ++ []) tree) (ap (λ p. same_path p new) (append-nil new) ∙ same_path-itself new)
    where
      out : (a b : Bool) (found : Option N) → b ≡ true → cond (not a && not b) found None ≡ None
      out true b found e = refl
      out false true found e = refl
      out false false found e = absurd (cc)
  left-absent old new tree (name ∷ rest) h =
      at-filter (λ p. not (is_prefix old p) && not (same_path p new)) (new ++ name ∷ rest) tree
      ∙ ap (λ found. cond (not (is_prefix old (new ++ name ∷ rest)) && not (same_path (new ++ name ∷ rest) new)) found None) (h name rest)
      ∙ same (not (is_prefix old (new ++ name ∷ rest)) && not (same_path (new ++ name ∷ rest) new))
    where
      same : (b : Bool) → cond {A = Option N} b None None ≡ None
      same true = refl
      same false = refl

  pub moved-at : (old new : Path) (tree : NodeMap N) (rest : Path) → T (is_sorted path_cmp tree) → ((name : List ℕ) (names : Path) → value_at path_cmp (new ++ name ∷ names) tree ≡ None) →
      value_at path_cmp (new ++ rest) (moved old new tree) ≡ value_at path_cmp (old ++ rest) tree
  unfolding moved
  moved-at old new tree rest s h =
      at-new old new tree (left_behind old new tree) rest s
      ∙ ap (or_else (value_at path_cmp (old ++ rest) tree)) (left-absent old new tree rest h)
      ∙ or_else-none (value_at path_cmp (old ++ rest) tree)

  pub moved-away : (old new : Path) (tree : NodeMap N) (q : Path) → is_prefix new q ≡ false → is_prefix old q ≡ true → value_at path_cmp q (moved old new tree) ≡ None
  unfolding moved
  moved-away old new tree q h k =
      beside-new old new tree (left_behind old new tree) q h
      ∙ at-filter (λ p. not (is_prefix old p) && not (same_path p new)) q tree
      ∙ ap (λ b. cond (not b && not (same_path q new)) (value_at path_cmp q tree) None) k

  pub moved-beside : (old new : Path) (tree : NodeMap N) (q : Path) → is_prefix new q ≡ false → is_prefix old q ≡ false → value_at path_cmp q (moved old new tree) ≡ value_at path_cmp q tree
  unfolding moved
  moved-beside old new tree q h k =
      beside-new old new tree (left_behind old new tree) q h
      ∙ at-filter (λ p. not (is_prefix old p) && not (same_path p new)) q tree
      ∙ ap (λ b. cond (not b && not (same_path q new)) (value_at path_cmp q tree) None) k
      ∙ ap (λ b. cond (not b) (value_at path_cmp q tree) None)
      (same_path-other q new (λ f. let t : is_prefix new q ≡ true = ap (λ p. is_prefix new p) f ∙ ap (is_prefix new) (sym (append-nil new)) ∙ prefix-append new [] in absurd (cc)))

  put_all-sorted : (entries base : NodeMap N) → T (is_sorted path_cmp base) → T (is_sorted path_cmp (fold put_entry base entries))
  put_all-sorted [] base s = s
  put_all-sorted (entry ∷ entries) base s = put_all-sorted entries (put path_cmp entry.0 entry.1 base) (is_sorted-put path_cmp path_cmp_total entry.0 entry.1 base s)

  -- the nodes stay in the order of paths
  pub moved-sorted : (old new : Path) (tree : NodeMap N) → T (is_sorted path_cmp tree) → T (is_sorted path_cmp (moved old new tree))
  unfolding moved
  moved-sorted old new tree s =
      put_all-sorted (carried old new tree) (left_behind old new tree) (is_sorted-where_key path_cmp (λ p. not (is_prefix old p) && not (same_path p new)) tree s)

  -- one for a node that is there
  abbrev pub one_if_there : Option N → ℕ
  one_if_there found = cond (is_some found) 1 0

  length-put-absent : (path : Path) (node : N) (base : NodeMap N) → T (is_sorted path_cmp base) → value_at path_cmp path base ≡ None → length (put path_cmp path node base) ≡ length base + 1
  length-put-absent path node base s h = length-put path_cmp path_cmp_total path node base s ∙ ap (λ found. cond (is_some found) (length base) (length base + 1)) h

  -- each entry that moves is one more, where none of their new places is taken
  put_moved-length : (old new : Path) (tree base : NodeMap N) → T (is_sorted path_cmp tree) → T (is_sorted path_cmp base) →
      ((rest : Path) → value_at path_cmp (old ++ rest) tree ≢ None → value_at path_cmp (new ++ rest) base ≡ None) →
      length (put_moved old new base tree) ≡ length base + length (filter (λ e. is_prefix old e.0) tree)
  put_moved-length old new [] base s t free = omega arith
  put_moved-length old new (entry ∷ tree) base s t free = elim (is_prefix old entry.0) as (λ b. is_prefix old entry.0 ≡ b →
      length (put_moved old new base (entry ∷ tree)) ≡ length base + length (cond b (entry ∷ filter (λ e. is_prefix old e.0) tree) (filter (λ e. is_prefix old e.0) tree))) [
        | true ↦ λ e.
            let place = carried_path old new entry.0 in
            let is : old ++ drop (length old) entry.0 ≡ entry.0 = sym (prefix-splits old entry.0 e) in
            let absent : value_at path_cmp place base ≡ None =
            free (drop (length old) entry.0) (λ none. some-not-none (sym (at-entry (old ++ drop (length old) entry.0) entry tree is) ∙ none)) in
            let more : length (put path_cmp place entry.1 base) ≡ length base + 1 = length-put-absent place entry.1 base t absent in
            let rest : length (put_moved old new (put path_cmp place entry.1 base) tree) ≡ length (put path_cmp place entry.1 base) + length (filter (λ e. is_prefix old e.0) tree) =
            put_moved-length old new tree (put path_cmp place entry.1 base) (both _ _ s).1 (is_sorted-put path_cmp path_cmp_total place entry.1 base t) (still-free e) in
            ap length (put_moved-step old new base entry tree true e) ∙ rest ∙ omega (arith, more)
        | false ↦ λ e. ap length (put_moved-step old new base entry tree false e) ∙ put_moved-length old new tree base (both _ _ s).1 t (free-later e)
      ] refl
    where
      some-not-none : Some entry.1 ≡ None → ⊥
      some-not-none h = absurd (cc)

      later : (rest : Path) → old ++ rest ≢ entry.0 → value_at path_cmp (old ++ rest) tree ≢ None → value_at path_cmp (new ++ rest) base ≡ None
      later rest g h = free rest (λ none. h (sym (at-later (old ++ rest) entry tree g) ∙ none))

      not-first : (rest : Path) → value_at path_cmp (old ++ rest) tree ≢ None → old ++ rest ≢ entry.0
      not-first rest h f = h (ap (λ q. value_at path_cmp q tree) f ∙ below-absent entry.0 tree (both _ _ s).0)

      free-later : is_prefix old entry.0 ≡ false → (rest : Path) → value_at path_cmp (old ++ rest) tree ≢ None → value_at path_cmp (new ++ rest) base ≡ None
      free-later e rest h = later rest (not-first rest h) h

      still-free : is_prefix old entry.0 ≡ true → (rest : Path) → value_at path_cmp (old ++ rest) tree ≢ None → value_at path_cmp (new ++ rest) (put path_cmp (carried_path old new entry.0) entry.1 base) ≡ None
      still-free e rest h =
          at-put-other (carried_path old new entry.0) (new ++ rest) entry.1 base
          (λ f. not-first rest h (ap (λ x. old ++ x) (append_cancel_left new rest (drop (length old) entry.0) f) ∙ sym (prefix-splits old entry.0 e)))
          ∙ later rest (not-first rest h) h

  -- what stays, what moves, and what is replaced are all that there was
  parts-length : (old new : Path) (tree : NodeMap N) → T (is_sorted path_cmp tree) → is_prefix old new ≡ false →
      length (left_behind old new tree) + length (filter (λ e. is_prefix old e.0) tree) + one_if_there (value_at path_cmp new tree) ≡ length tree
  parts-length old new [] s h = refl
  parts-length old new (entry ∷ tree) s h =
      let rest : length (left_behind old new tree) + length (filter (λ e. is_prefix old e.0) tree) + one_if_there (value_at path_cmp new tree) ≡ length tree = parts-length old new tree (both _ _ s).1 h in
      elim (same_or_other new entry.0) [
        | inl f ↦
            let aside : is_prefix old entry.0 ≡ false = ap (is_prefix old) (sym f) ∙ h in
            let here : same_path entry.0 new ≡ true = ap (λ p. same_path p new) (sym f) ∙ same_path-itself new in
            let none : value_at path_cmp new tree ≡ None = ap (λ q. value_at path_cmp q tree) f ∙ below-absent entry.0 tree (both _ _ s).0 in
            rw (aside, here, at-entry new entry tree f) (omega (arith, rest, ap one_if_there none))
        | inr g ↦
            let other : same_path entry.0 new ≡ false = same_path-other entry.0 new (λ f. g (sym f)) in
            rw (other, at-later new entry tree g) (elim (is_prefix old entry.0) as (λ b.
            length (cond (not b && true) (entry ∷ left_behind old new tree) (left_behind old new tree)) + length (cond b (entry ∷ filter (λ e. is_prefix old e.0) tree) (filter (λ e. is_prefix old e.0) tree))
            + one_if_there (value_at path_cmp new tree) ≡ length (entry ∷ tree)) [
              | true ↦ omega (arith, rest)
              | false ↦ omega (arith, rest)
            ])
      ]

  -- as many nodes are there as before, but for one that is replaced
  pub moved-length : (old new : Path) (tree : NodeMap N) → T (is_sorted path_cmp tree) → is_prefix old new ≡ false →
      ((name : List ℕ) (names : Path) → value_at path_cmp (new ++ name ∷ names) tree ≡ None) →
      length (moved old new tree) + one_if_there (value_at path_cmp new tree) ≡ length tree
  unfolding moved
  moved-length old new tree s h none =
      let left = is_sorted-where_key path_cmp (λ p. not (is_prefix old p) && not (same_path p new)) tree s in
      let all = put_moved-length old new tree (left_behind old new tree) s left (λ rest _. left-absent old new tree rest none) in
      omega (arith, all, parts-length old new tree s h)

  -- nothing stands below a path where no entry does
  pub none-under : (new : Path) (tree : NodeMap N) → list_any (λ entry. is_below new entry.0) tree ≡ false → (name : List ℕ) (names : Path) → value_at path_cmp (new ++ name ∷ names) tree ≡ None
  none-under new [] h name names = refl
  none-under new (entry ∷ tree) h name names =
      let parts = neither _ _ h in
      at-later (new ++ name ∷ names) entry tree (λ f. let t : is_below new entry.0 ≡ true = ap (is_below new) (sym f) ∙ below-longer new name names in let u : is_below new entry.0 ≡ false = parts.0 in absurd (cc)) ∙ none-under new tree parts.1 name names
