-- Dentries that move to the room with all below them.
use Rattle.std.proofs.Common.{◌≡◌, ◌≢◌, ℕ, suc, ◌+◌, true, false, T, Option, Some, None, List, [], ◌∷◌, ◌++◌, ◌⊎◌, inl, inr, slice_index_or, length, drop, if◌then◌else◌, refl, sym, ap, subst, ◌∙◌, arith, append_assoc, length-append}
use Rattle.std.proofs.lemmas.List.{append-nil}
use Rattle.std.specs.FinMap.Entries.{find as value_at, is_sorted}
use Rattle.vfs_base.specs.Path.{Path, path_cmp}
use Rattle.vfs_model.proofs.MovedLaws.{below-longer, prefix-append}
use Rattle.vfs_model.proofs.Trees.{prefix-splits, same_path-itself, same_path-other}
use Rattle.vfs_model.specs.Lookup.{is_prefix}
use Rattle.vfs_model.specs.NormalPath.{parent_of}
use Rattle.node_maps.proofs.MovedNodes.{moved-at, moved-away, moved-beside, none-under}
use Rattle.node_maps.specs.NodeMap.{NodeMap, moved}
use Rattle.name_tree.proofs.Belows.{none-below, some-below}
use Rattle.name_tree.specs.Listed.{has_below}
use Rattle.dentry_table.proofs.Belows.{below-witness, prefix-chain, prefix-parent}
use Rattle.dentry_table.specs.DentryTable.{AreApart, HoldsNothingBelow, Moves, SameCounts, Takes, count_at, told}
use Rattle.dentry_table.specs.Tidy.{HasPlaces, IsBare, IsTidy, IsTidyBut}

none-not-some : (o : Option ℕ) (count : ℕ) → o ≡ None → o ≡ Some count → ⊥
none-not-some o count none some = absurd (cc)

pub there-some : {o : Option ℕ} {count : ℕ} → Some count ≡ o → o ≢ None
there-some {o} {count} e none = none-not-some o count none (sym e)

-- of two paths in front of one path one is in front of the other
prefix-parts : (a x b y : Path) → a ++ x ≡ b ++ y → (is_prefix a b ≡ true) ⊎ (is_prefix b a ≡ true)
prefix-parts [] x b y e = inl (prefix-append [] b)
prefix-parts (n ∷ a) x [] y e = inr (prefix-append [] (n ∷ a))
prefix-parts (n ∷ a) x (m ∷ b) y e =
    let first : n ≡ m = ap (λ p. slice_index_or p 0 []) e in
    elim (prefix-parts a x b y (ap (drop 1) e)) [
      | inl h ↦ inl (ap (is_prefix (n ∷ a)) (ap (λ p. m ∷ p) (prefix-splits a b h) ∙ ap (λ k. k ∷ a ++ drop (length a) b) (sym first)) ∙ prefix-append (n ∷ a) (drop (length a) b))
      | inr h ↦ inr (ap (is_prefix (m ∷ b)) (ap (λ p. n ∷ p) (prefix-splits b a h) ∙ ap (λ k. k ∷ b ++ drop (length b) a) first) ∙ prefix-append (m ∷ b) (drop (length b) a))
    ]

pub prefix-either : (a b path : Path) → is_prefix a path ≡ true → is_prefix b path ≡ true → (is_prefix a b ≡ true) ⊎ (is_prefix b a ≡ true)
prefix-either a b path h k = prefix-parts a (drop (length a) path) b (drop (length b) path) (sym (prefix-splits a path h) ∙ prefix-splits b path k)

module _ (table : NodeMap ℕ) (from to : Path) (sorted : is_sorted path_cmp table ≡ true) (apart : AreApart from to) (free : has_below to table ≡ false) where
  there : (rest : Path) → value_at path_cmp (to ++ rest) (moved from to table) ≡ value_at path_cmp (from ++ rest) table
  there rest = moved-at from to table rest (subst T (sym sorted) tt) (none-under to table free)

  aside : (rest : Path) → is_prefix to (from ++ rest) ≡ false
  aside rest = elim (is_prefix to (from ++ rest)) as (λ b. is_prefix to (from ++ rest) ≡ b → b ≡ false) [
    | true ↦ λ e. absurd (elim (prefix-either from to (from ++ rest) (prefix-append from rest) e) [
      | inl h ↦ let no : is_prefix from to ≡ false = apart.outside in absurd (cc)
      | inr h ↦ let no : is_prefix to from ≡ false = apart.above in absurd (cc)
    ])
    | false ↦ λ e. refl
  ] refl

  -- the holders move along
  pub moved-moves : Moves table (moved from to table) from to
  moved-moves = record {
    there = λ rest. ap told (there rest);
    gone = λ rest. ap told (moved-away from to table (from ++ rest) (aside rest) (prefix-append from rest));
    others = λ q h k. ap told (moved-beside from to table q k h);
  }

  module _ (t : IsTidy table to) (stands : value_at path_cmp from table ≢ None) where
    nothing-left : (rest : Path) → has_below (to ++ rest) (moved from to table) ≡ false → has_below (from ++ rest) table ≡ false
    nothing-left rest b = none-below (from ++ rest) table (λ next more.
        ap (λ p. value_at path_cmp p table) (append_assoc from rest (next ∷ more))
        ∙ sym (there (rest ++ next ∷ more))
        ∙ ap (λ p. value_at path_cmp p (moved from to table)) (sym (append_assoc to rest (next ∷ more)))
        ∙ none-under (to ++ rest) (moved from to table) b next more)

    -- at or below the room
    within : (rest : Path) → IsBare (moved from to table) (to ++ rest) → ⊥
    within rest bare =
        let along = t.along (from ++ rest) (record { value = sym (there rest) ∙ bare.value; below = nothing-left rest bare.below }) in
        let yes : is_prefix from to ≡ true = prefix-chain from (from ++ rest) to (prefix-append from rest) along in
        let no : is_prefix from to ≡ false = apart.outside in
        absurd (cc)

    -- what stood below a path that stays stands there, or the path is in front of the old path or the room
    left-below : (q r : Path) → is_prefix from q ≡ false → is_prefix to q ≡ false → is_prefix q r ≡ true → value_at path_cmp r table ≢ None →
        (value_at path_cmp r (moved from to table) ≢ None) ⊎ ((is_prefix q to ≡ true) ⊎ (is_prefix q from ≡ true))
    left-below q r h k front is = elim (is_prefix from r) as (λ b. is_prefix from r ≡ b → (value_at path_cmp r (moved from to table) ≢ None) ⊎ ((is_prefix q to ≡ true) ⊎ (is_prefix q from ≡ true))) [
      | true ↦ λ e. elim (prefix-either q from r front e) [ inl x ↦ inr (inr x) | inr x ↦ absurd (cc) ]
      | false ↦ λ e. elim (is_prefix to r) as (λ b. is_prefix to r ≡ b → (value_at path_cmp r (moved from to table) ≢ None) ⊎ ((is_prefix q to ≡ true) ⊎ (is_prefix q from ≡ true))) [
        | true ↦ λ f. elim (prefix-either q to r front f) [ inl x ↦ inr (inl x) | inr x ↦ absurd (cc) ]
        | false ↦ λ f. inl (λ none. is (sym (moved-beside from to table r f e) ∙ none))
      ] refl
    ] refl

    beside : (q : Path) → is_prefix from q ≡ false → is_prefix to q ≡ false → IsBare (moved from to table) q → (is_prefix q to ≡ true) ⊎ (is_prefix q (parent_of from) ≡ true)
    beside q h k bare = elim (has_below q table) as (λ b. has_below q table ≡ b → (is_prefix q to ≡ true) ⊎ (is_prefix q (parent_of from) ≡ true)) [
      | false ↦ λ e. inl (t.along q (record { value = sym (moved-beside from to table q k h) ∙ bare.value; below = e }))
      | true ↦ λ e.
          let w = below-witness q table e in
          elim (left-below q (q ++ w.0 ∷ w.1) h k (prefix-append q (w.0 ∷ w.1)) w.2) [
            | inl still ↦ let yes : has_below q (moved from to table) ≡ true = some-below q (moved from to table) w.0 w.1 still in let no : has_below q (moved from to table) ≡ false = bare.below in absurd (cc)
            | inr (inl x) ↦ inl x
            | inr (inr x) ↦ inr (prefix-parent q from x (λ same. let yes : is_prefix from q ≡ true = ap (is_prefix from) (same ∙ sym (append-nil from)) ∙ prefix-append from [] in absurd (cc)))
          ]
    ] refl

    moved-places : HasPlaces (moved from to table) to
    moved-places = record {
      root = λ none. t.places.root (sym (moved-beside from to table [] (no-front to from apart.above) (no-front from to apart.outside)) ∙ none);
      last = λ none. stands (sym (ap (λ p. value_at path_cmp p (moved from to table)) (sym (append-nil to)) ∙ there [] ∙ ap (λ p. value_at path_cmp p table) (append-nil from)) ∙ none);
    }
      where
        no-front : (p other : Path) → is_prefix p other ≡ false → is_prefix p [] ≡ false
        no-front [] other h = let yes : is_prefix [] other ≡ true = prefix-append [] other in absurd (cc)
        no-front (name ∷ names) other h = elim (is_prefix (name ∷ names) []) as (λ b. is_prefix (name ∷ names) [] ≡ b → b ≡ false) [
          | true ↦ λ e. let split : [] ≡ (name ∷ names) ++ drop (length (name ∷ names)) [] = prefix-splits (name ∷ names) [] e in absurd (cc)
          | false ↦ λ e. refl
        ] refl

    -- no dentry is bare but along the room, and above the place that was left
    pub moved-tidy : IsTidyBut (moved from to table) to (parent_of from)
    moved-tidy = record {
      along = λ q bare. elim (is_prefix to q) as (λ b. is_prefix to q ≡ b → (is_prefix q to ≡ true) ⊎ (is_prefix q (parent_of from) ≡ true)) [
        | true ↦ λ e. absurd (within (drop (length to) q) (at q (to ++ drop (length to) q) (prefix-splits to q e) bare))
        | false ↦ λ e. elim (is_prefix from q) as (λ b. is_prefix from q ≡ b → (is_prefix q to ≡ true) ⊎ (is_prefix q (parent_of from) ≡ true)) [
          | true ↦ λ f. absurd (none-not-some (value_at path_cmp q (moved from to table)) 0 (moved-away from to table q e f) bare.value)
          | false ↦ λ f. beside q f e bare
        ] refl
      ] refl;
      places = moved-places;
    }
      where
        at : (q p : Path) → q ≡ p → IsBare (moved from to table) q → IsBare (moved from to table) p
        at q p e bare = record { value = sym (ap (λ x. value_at path_cmp x (moved from to table)) e) ∙ bare.value; below = sym (ap (λ x. has_below x (moved from to table)) e) ∙ bare.below }

-- where nothing stands at or below the old path, the holders at the new one go
pub takes-moves : {old new : NodeMap ℕ} {from to : Path} → AreApart from to → value_at path_cmp from old ≡ None → has_below from old ≡ false → HoldsNothingBelow old to → Takes old new to → Moves old new from to
takes-moves {old} {new} {from} {to} apart absent bare nothing takes = record {
  there = λ rest. at-room rest ∙ sym (none-from rest);
  gone = λ rest. other (from ++ rest) (not-room rest) ∙ none-from rest;
  others = λ q h k. other q (λ e. let yes : is_prefix to q ≡ true = ap (is_prefix to) (e ∙ sym (append-nil to)) ∙ prefix-append to [] in absurd (cc));
}
  where
    other : (q : Path) → q ≢ to → count_at new q ≡ count_at old q
    other q h = takes.counts q ∙ ap (λ b. if b then 0 else count_at old q) (same_path-other q to h)

    none-from : (rest : Path) → count_at old (from ++ rest) ≡ 0
    none-from [] = ap told (ap (λ p. value_at path_cmp p old) (append-nil from) ∙ absent)
    none-from (next ∷ more) = ap told (none-under from old bare next more)

    not-room : (rest : Path) → from ++ rest ≢ to
    not-room rest e = let yes : is_prefix from to ≡ true = ap (is_prefix from) (sym e) ∙ prefix-append from rest in let no : is_prefix from to ≡ false = apart.outside in absurd (cc)

    at-room : (rest : Path) → count_at new (to ++ rest) ≡ 0
    at-room [] = ap (count_at new) (append-nil to) ∙ takes.counts to ∙ ap (λ b. if b then 0 else count_at old to) (same_path-itself to)
    at-room (next ∷ more) =
        other (to ++ next ∷ more) (λ e. longer next more e) ∙ nothing.counts (to ++ next ∷ more) (below-longer to next more)
      where
        longer : (next : List ℕ) (more : Path) → to ++ next ∷ more ≢ to
        longer next more e = let l : length to + suc (length more) ≡ length to = sym (length-append to (next ∷ more)) ∙ ap length e in absurd (omega arith)

-- the counts stay, once they moved
pub moves-same : (old mid new : NodeMap ℕ) (from to : Path) → Moves old mid from to → SameCounts mid new → Moves old new from to
moves-same old mid new from to a b = record {
  there = λ rest. b.counts (to ++ rest) ∙ a.there rest;
  gone = λ rest. b.counts (from ++ rest) ∙ a.gone rest;
  others = λ q h k. b.counts q ∙ a.others q h k;
}
