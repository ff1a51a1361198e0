-- A node with all below it moves: what lies below comes to its new paths, the node itself replaces what is there, and then all leave the old paths.
use Rattle.std.proofs.Common.{◌≡◌, ◌≢◌, ℕ, zero, suc, ◌+◌, ◌<◌, Bool, true, false, cond, not, ◌&&◌, T, nat_lt, Option, Some, None, is_some, List, [], ◌∷◌, ◌++◌, length, get_or, take, drop, fold, inl, inr, refl, sym, ap, subst, ◌∙◌, arith}
use Rattle.std.proofs.lemmas.List.{append_cancel_left, append-nil, drop_at, take_more}
use Rattle.std.proofs.lemmas.List.Sums.{fold_push}
use Rattle.std.specs.FinMap.Entries.{below_all, find as value_at, is_sorted, is_sorted-put, is_sorted-where_key, put, same_entries}
use Rattle.std.specs.List.{list_any}
use Rattle.vfs_base.specs.Path.{AllAre, Path, path_cmp}
use Rattle.vfs_base.specs.PathLaws.{path_cmp_exact, path_cmp_total}
use Rattle.vfs_model.proofs.MountLaws.{prefixes-nest}
use Rattle.vfs_model.proofs.MovedLaws.{below-longer, prefix-append}
use Rattle.vfs_model.proofs.Trees.{at-filter, at-put-here, at-put-other, at-without-here, at-without-other, prefix-splits}
use Rattle.vfs_model.specs.Lookup.{is_below, is_prefix}
use Rattle.vfs_model.specs.Namespace.{same_path}
use Rattle.node_maps.proofs.MovedNodes.{at-entry, at-later, below-absent, moved-at, moved-away, moved-beside, moved-sorted, none-under}
use Rattle.node_maps.specs.NodeMap.{NodeMap, moved, put_entry, without}
use Rattle.cell_volume.proofs.BelowRanges.{below-splits}
use Rattle.cell_volume.proofs.PathFronts.{below-or-past, same-or-other-path, true-or-false}
use Rattle.cell_volume.specs.Below.{KeepsOthers, below_in, carried_to, without_entry}

t-parts : (a b : Bool) → T (a && b) → T a × T b
t-parts true b h = (tt, h)
t-parts false b h = absurd h

prefix-itself : (path : Path) → is_prefix path path ≡ true
prefix-itself path = subst (λ p. is_prefix path p ≡ true) (append-nil path) (prefix-append path [])

-- the path itself is not below it
not-below-itself : (path : Path) → is_below path path ≡ false
not-below-itself path = elim (true-or-false (is_below path path)) [
  | inl h ↦
      let split = below-splits path path h in
      let none : [] ≡ split.0 ∷ split.1 = append_cancel_left path [] (split.0 ∷ split.1) (append-nil path ∙ split.2) in
      absurd (cc)
  | inr h ↦ h
]

module _ {N : Type 0} where
  -- the first where there is one, and else the second
  abbrev or_else : Option N → Option N → Option N
  or_else None second = second
  or_else (Some first) second = Some first

  or_else-none : (found : Option N) → or_else found None ≡ found
  or_else-none None = refl
  or_else-none (Some node) = refl

  pub puts-sorted : (entries base : NodeMap N) → T (is_sorted path_cmp base) → T (is_sorted path_cmp (fold put_entry base entries))
  puts-sorted [] base s = s
  puts-sorted (entry ∷ entries) base s = puts-sorted entries (put path_cmp entry.0 entry.1 base) (is_sorted-put path_cmp path_cmp_total entry.0 entry.1 base s)

  without-sorted : (path : Path) (tree : NodeMap N) → T (is_sorted path_cmp tree) → T (is_sorted path_cmp (without path tree))
  without-sorted path tree s = is_sorted-where_key path_cmp (λ p. not (same_path p path)) tree s

  pub gone-sorted : (entries base : NodeMap N) → T (is_sorted path_cmp base) → T (is_sorted path_cmp (fold without_entry base entries))
  gone-sorted [] base s = s
  gone-sorted (entry ∷ entries) base s = gone-sorted entries (without entry.0 base) (without-sorted entry.0 base s)

  -- what stands where the nodes at the paths of entries are gone
  at-gone : (entries base : NodeMap N) (q : Path) → value_at path_cmp q (fold without_entry base entries) ≡ cond (is_some (value_at path_cmp q entries)) None (value_at path_cmp q base)
  at-gone [] base q = refl
  at-gone (entry ∷ entries) base q = elim (same-or-other-path q entry.0) [
    | inl same ↦
        at-gone entries (without entry.0 base) q
        ∙ ap (cond (is_some (value_at path_cmp q entries)) None) (ap (λ p. value_at path_cmp p (without entry.0 base)) same ∙ at-without-here entry.0 base)
        ∙ both (is_some (value_at path_cmp q entries))
        ∙ sym (ap (λ found. cond (is_some found) None (value_at path_cmp q base)) (at-entry q entry entries same))
    | inr other ↦
        at-gone entries (without entry.0 base) q
        ∙ ap (cond (is_some (value_at path_cmp q entries)) None) (at-without-other entry.0 q base other)
        ∙ sym (ap (λ found. cond (is_some found) None (value_at path_cmp q base)) (at-later q entry entries other))
  ]
    where
      both : (b : Bool) → cond {A = Option N} b None None ≡ None
      both true = refl
      both false = refl

  module _ (old new : Path) where
    -- beside new nothing has come
    beside-carried : (entries base : NodeMap N) (q : Path) → is_prefix new q ≡ false → value_at path_cmp q (fold put_entry base (carried_to old new entries)) ≡ value_at path_cmp q base
    beside-carried [] base q h = refl
    beside-carried (entry ∷ entries) base q h =
        beside-carried entries (put path_cmp (new ++ drop (length old) entry.0) entry.1 base) q h
        ∙ at-put-other (new ++ drop (length old) entry.0) q entry.1 base
        (λ f. let yes : is_prefix new q ≡ true = ap (is_prefix new) f ∙ prefix-append new (drop (length old) entry.0) in absurd (cc))

    -- at and below new stands what stood at and below old
    at-carried : (entries base : NodeMap N) (rest : Path) → T (is_sorted path_cmp entries) → AllAre (λ entry. is_prefix old entry.0 ≡ true) entries →
        value_at path_cmp (new ++ rest) (fold put_entry base (carried_to old new entries)) ≡ or_else (value_at path_cmp (old ++ rest) entries) (value_at path_cmp (new ++ rest) base)
    at-carried [] base rest s h = refl
    at-carried (entry ∷ entries) base rest s h =
        at-carried entries (put path_cmp place entry.1 base) rest (t-parts (below_all path_cmp entry.0 entries) (is_sorted path_cmp entries) s).1 h.1
        ∙ elim (same-or-other-path (old ++ rest) entry.0) [
          | inl f ↦
              let r : rest ≡ drop (length old) entry.0 = append_cancel_left old rest (drop (length old) entry.0) (f ∙ prefix-splits old entry.0 h.0) in
              let none : value_at path_cmp (old ++ rest) entries ≡ None =
              ap (λ q. value_at path_cmp q entries) f ∙ below-absent entry.0 entries (t-parts (below_all path_cmp entry.0 entries) (is_sorted path_cmp entries) s).0 in
              let here : value_at path_cmp (new ++ rest) (put path_cmp place entry.1 base) ≡ Some entry.1 =
              ap (λ x. value_at path_cmp (new ++ x) (put path_cmp place entry.1 base)) r ∙ at-put-here place entry.1 base in
              ap (λ x. or_else x (value_at path_cmp (new ++ rest) (put path_cmp place entry.1 base))) none
              ∙ here
              ∙ sym (ap (λ x. or_else x (value_at path_cmp (new ++ rest) base)) (at-entry (old ++ rest) entry entries f))
          | inr g ↦
              ap (or_else (value_at path_cmp (old ++ rest) entries))
              (at-put-other place (new ++ rest) entry.1 base (λ f. g (ap (λ x. old ++ x) (append_cancel_left new rest (drop (length old) entry.0) f) ∙ sym (prefix-splits old entry.0 h.0))))
              ∙ sym (ap (λ x. or_else x (value_at path_cmp (new ++ rest) base)) (at-later (old ++ rest) entry entries g))
        ]
      where
        place : Path
        place = new ++ drop (length old) entry.0

    -- what moves with old stands below new then
    carried-below : (entries : NodeMap N) → AllAre (λ entry. is_below old entry.0 ≡ true) entries → (q : Path) → is_some (value_at path_cmp q (carried_to old new entries)) ≡ true →
        (next : List ℕ) × (more : Path) × (q ≡ new ++ next ∷ more)
    carried-below [] h q k = absurd (cc)
    carried-below (entry ∷ entries) h q k = elim (same-or-other-path q (new ++ drop (length old) entry.0)) [
      | inl same ↦
          let split = below-splits old entry.0 h.0 in
          (split.0, split.1, same ∙ ap (λ r. new ++ r) (ap (drop (length old)) split.2 ∙ drop_at old (split.0 ∷ split.1) (length old) refl))
      | inr other ↦ carried-below entries h.1 q (ap is_some (sym (at-later q (new ++ drop (length old) entry.0, entry.1) (carried_to old new entries) other)) ∙ k)
    ]

  all-below : (folder : Path) (tree : NodeMap N) → AllAre (λ entry. is_below folder entry.0 ≡ true) (below_in folder tree)
  all-below folder [] = tt
  all-below folder (entry ∷ tree) = elim (is_below folder entry.0) as (λ b. is_below folder entry.0 ≡ b →
      AllAre (λ e. is_below folder e.0 ≡ true) (cond b (entry ∷ below_in folder tree) (below_in folder tree))) [
        | true ↦ λ e. (e, all-below folder tree)
        | false ↦ λ e. all-below folder tree
      ] refl

  all-within : (folder : Path) (tree : NodeMap N) → AllAre (λ entry. is_below folder entry.0 ≡ true) tree → AllAre (λ entry. is_prefix folder entry.0 ≡ true) tree
  all-within folder [] h = tt
  all-within folder (entry ∷ tree) h =
      let split = below-splits folder entry.0 h.0 in
      (ap (is_prefix folder) split.2 ∙ prefix-append folder (split.0 ∷ split.1), all-within folder tree h.1)

  module _ (old new : Path) (kept : NodeMap N) (sorted : T (is_sorted path_cmp kept)) (apart : is_prefix old new ≡ false) (beside : is_prefix new old ≡ false)
      (bare : list_any (λ entry. is_below new entry.0) kept ≡ false) where
    abbrev taken : NodeMap N
    taken = below_in old kept

    abbrev come : NodeMap N
    come = fold put_entry kept (carried_to old new taken)

    taken-sorted : T (is_sorted path_cmp taken)
    taken-sorted = is_sorted-where_key path_cmp (is_below old) kept sorted

    at-taken : (q : Path) → value_at path_cmp q taken ≡ cond (is_below old q) (value_at path_cmp q kept) None
    at-taken q = at-filter (is_below old) q kept

    come-at : (rest : Path) → value_at path_cmp (new ++ rest) come ≡ or_else (value_at path_cmp (old ++ rest) taken) (value_at path_cmp (new ++ rest) kept)
    come-at rest = at-carried old new taken kept rest taken-sorted (all-within old taken (all-below old kept))

    -- what stands at new until the node comes is what stood there
    pub replaced-at : value_at path_cmp new come ≡ value_at path_cmp new kept
    replaced-at =
        let root : value_at path_cmp (old ++ []) taken ≡ None =
        ap (λ p. value_at path_cmp p taken) (append-nil old) ∙ at-taken old ∙ ap (λ b. cond b (value_at path_cmp old kept) None) (not-below-itself old) in
        ap (λ p. value_at path_cmp p come) (sym (append-nil new)) ∙ come-at []
        ∙ ap (λ found. or_else found (value_at path_cmp (new ++ []) kept)) root ∙ ap (λ p. value_at path_cmp p kept) (append-nil new)

    -- where not all could come, what came goes again
    pub back-again : (tree : NodeMap N) → T (is_sorted path_cmp tree) →
        ((q : Path) → value_at path_cmp q (carried_to old new taken) ≡ None → value_at path_cmp q tree ≡ value_at path_cmp q kept) →
        fold without_entry tree (carried_to old new taken) ≡ kept
    back-again tree s others =
        same_entries path_cmp path_cmp_total path_cmp_exact (fold without_entry tree (carried_to old new taken)) kept (gone-sorted (carried_to old new taken) tree s) sorted
        (λ q. at-gone (carried_to old new taken) tree q ∙ by q (value_at path_cmp q (carried_to old new taken)) refl)
      where
        by : (q : Path) (found : Option N) → value_at path_cmp q (carried_to old new taken) ≡ found → cond (is_some found) None (value_at path_cmp q tree) ≡ value_at path_cmp q kept
        by q None e = others q e
        by q (Some node) e =
            let split = carried-below old new taken (all-below old kept) q (ap is_some e) in
            sym (ap (λ p. value_at path_cmp p kept) split.2 ∙ none-under new kept bare split.0 split.1)

    -- a path has not both as fronts
    fronts-apart : (q : Path) → is_prefix new q ≡ true → is_prefix old q ≡ false
    fronts-apart q h = elim (true-or-false (is_prefix old q)) [
      | inl k ↦ elim (below-or-past (length old) (length new)) [
        | inl l ↦ let yes = prefixes-nest old new q k h (omega (arith, l)) in absurd (cc)
        | inr l ↦ let yes = prefixes-nest new old q h k l in absurd (cc)
      ]
      | inr k ↦ k
    ]

    taken-beside : (q : Path) → is_prefix old q ≡ false → value_at path_cmp q taken ≡ None
    taken-beside q h = at-taken q ∙ ap (λ b. cond (b && nat_lt (length old) (length q)) (value_at path_cmp q kept) None) h

    module _ (node : N) (there : value_at path_cmp old kept ≡ Some node) where
      abbrev here : NodeMap N
      here = without old (put path_cmp new node come)

      here-other : (q : Path) → q ≢ old → q ≢ new → value_at path_cmp q here ≡ value_at path_cmp q come
      here-other q h k = at-without-other old q (put path_cmp new node come) h ∙ at-put-other new q node come k

      -- at and below new
      here-new : (rest : Path) → value_at path_cmp (new ++ rest) here ≡ value_at path_cmp (old ++ rest) kept
      here-new [] =
          ap (λ p. value_at path_cmp p here) (append-nil new)
          ∙ at-without-other old new (put path_cmp new node come) (λ e. let yes : is_prefix new old ≡ true = ap (is_prefix new) (sym e) ∙ prefix-itself new in absurd (cc))
          ∙ at-put-here new node come ∙ sym there ∙ ap (λ p. value_at path_cmp p kept) (sym (append-nil old))
      here-new (name ∷ rest) =
          here-other (new ++ name ∷ rest)
          (λ e. let yes : is_prefix new old ≡ true = ap (is_prefix new) (sym e) ∙ prefix-append new (name ∷ rest) in absurd (cc))
          (λ e. let none : name ∷ rest ≡ [] = append_cancel_left new (name ∷ rest) [] (e ∙ sym (append-nil new)) in absurd (cc))
          ∙ come-at (name ∷ rest)
          ∙ ap (or_else (value_at path_cmp (old ++ name ∷ rest) taken)) (none-under new kept bare name rest)
          ∙ or_else-none (value_at path_cmp (old ++ name ∷ rest) taken)
          ∙ at-taken (old ++ name ∷ rest)
          ∙ ap (λ b. cond b (value_at path_cmp (old ++ name ∷ rest) kept) None) (below-longer old name rest)

      -- at old and below it
      here-old : (q : Path) → is_prefix new q ≡ false → is_prefix old q ≡ true → value_at path_cmp q taken ≡ None → value_at path_cmp q here ≡ None
      here-old q h k none = elim (same-or-other-path q old) [
        | inl same ↦ ap (λ p. value_at path_cmp p here) same ∙ at-without-here old (put path_cmp new node come)
        | inr other ↦
            let below : is_below old q ≡ true = longer (drop (length old) q) (prefix-splits old q k) other in
            here-other q other (λ e. let yes : is_prefix new q ≡ true = ap (is_prefix new) e ∙ prefix-itself new in absurd (cc))
            ∙ beside-carried old new taken kept q h
            ∙ sym (ap (λ b. cond b (value_at path_cmp q kept) None) below) ∙ sym (at-taken q) ∙ none
      ]
        where
          longer : (rest : Path) → q ≡ old ++ rest → q ≢ old → is_below old q ≡ true
          longer [] e other = absurd (other (e ∙ append-nil old))
          longer (name ∷ rest) e other = ap (is_below old) e ∙ below-longer old name rest

      -- beside both
      here-beside : (q : Path) → is_prefix new q ≡ false → is_prefix old q ≡ false → value_at path_cmp q here ≡ value_at path_cmp q kept
      here-beside q h k =
          here-other q
          (λ e. let yes : is_prefix old q ≡ true = ap (is_prefix old) e ∙ prefix-itself old in absurd (cc))
          (λ e. let yes : is_prefix new q ≡ true = ap (is_prefix new) e ∙ prefix-itself new in absurd (cc))
          ∙ beside-carried old new taken kept q h

      at-moved : (q : Path) → value_at path_cmp q (fold without_entry here taken) ≡ value_at path_cmp q (moved old new kept)
      at-moved q = elim (true-or-false (is_prefix new q)) [
        | inl h ↦
            let split = prefix-splits new q h in
            gone q None (taken-beside q (fronts-apart q h))
            ∙ ap (λ p. value_at path_cmp p here) split ∙ here-new (drop (length new) q)
            ∙ sym (moved-at old new kept (drop (length new) q) sorted (none-under new kept bare))
            ∙ ap (λ p. value_at path_cmp p (moved old new kept)) (sym split)
        | inr h ↦ elim (true-or-false (is_prefix old q)) [
          | inl k ↦ away (value_at path_cmp q taken) refl h k ∙ sym (moved-away old new kept q h k)
          | inr k ↦ gone q None (taken-beside q k) ∙ here-beside q h k ∙ sym (moved-beside old new kept q h k)
        ]
      ]
        where
          gone : (q : Path) (found : Option N) → value_at path_cmp q taken ≡ found → value_at path_cmp q (fold without_entry here taken) ≡ cond (is_some found) None (value_at path_cmp q here)
          gone q found e = at-gone taken here q ∙ ap (λ f. cond (is_some f) None (value_at path_cmp q here)) e

          away : (found : Option N) → value_at path_cmp q taken ≡ found → is_prefix new q ≡ false → is_prefix old q ≡ true → value_at path_cmp q (fold without_entry here taken) ≡ None
          away None e h k = gone q None e ∙ here-old q h k e
          away (Some found) e h k = gone q (Some found) e

      -- what is left is the record in which the node has moved
      pub moved-range : fold without_entry (without old (put path_cmp new node (fold put_entry kept (carried_to old new (below_in old kept))))) (below_in old kept) ≡ moved old new kept
      moved-range =
          same_entries path_cmp path_cmp_total path_cmp_exact (fold without_entry here taken) (moved old new kept)
          (gone-sorted taken here (without-sorted old (put path_cmp new node come) (is_sorted-put path_cmp path_cmp_total new node come (puts-sorted (carried_to old new taken) kept sorted))))
          (moved-sorted old new kept sorted) at-moved

module _ {N : Type 0} where
  -- where nodes came to the paths of some entries, all other paths have what they had
  others-kept : (entries base : NodeMap N) (q : Path) → value_at path_cmp q entries ≡ None → value_at path_cmp q (fold put_entry base entries) ≡ value_at path_cmp q base
  others-kept [] base q h = refl
  others-kept (entry ∷ entries) base q h = elim (same-or-other-path q entry.0) [
    | inl same ↦ let some = at-entry q entry entries same in absurd (cc)
    | inr other ↦
        others-kept entries (put path_cmp entry.0 entry.1 base) q (sym (at-later q entry entries other) ∙ h) ∙ at-put-other entry.0 q entry.1 base other
  ]

  front-absent : (count : ℕ) (entries : NodeMap N) (q : Path) → value_at path_cmp q entries ≡ None → value_at path_cmp q (take count entries) ≡ None
  front-absent zero entries q h = refl
  front-absent (suc count) [] q h = refl
  front-absent (suc count) (entry ∷ entries) q h = elim (same-or-other-path q entry.0) [
    | inl same ↦ let some = at-entry q entry entries same in absurd (cc)
    | inr other ↦ at-later q entry (take count entries) other ∙ front-absent count entries q (sym (at-later q entry entries other) ∙ h)
  ]

  -- the same where only the first of them came
  pub others-so-far : (count : ℕ) (entries base now : NodeMap N) → now ≡ fold put_entry base (take count entries) → KeepsOthers entries base now
  others-so-far count entries base now e q h = ap (value_at path_cmp q) e ∙ others-kept (take count entries) base q (front-absent count entries q h)

  -- one node more has come
  pub puts-next : (count : ℕ) (entries base now : NodeMap N) (entry : Path × N) (key : Path) → count < length entries → entry ≡ get_or entries count entry → key ≡ entry.0 →
      now ≡ fold put_entry base (take count entries) → put path_cmp key entry.1 now ≡ fold put_entry base (take (count + 1) entries)
  puts-next count entries base now entry key l is k e =
      ap (λ p. put path_cmp p entry.1 now) k
      ∙ ap (λ tree. put_entry tree entry) e
      ∙ sym (fold_push put_entry base (take count entries) entry)
      ∙ ap (λ last. fold put_entry base (take count entries ++ last ∷ [])) is
      ∙ ap (fold put_entry base) (sym (take_more entries count entry l))
