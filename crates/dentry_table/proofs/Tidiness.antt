-- Which dentries may be bare where one comes, changes or goes, and what a tidy table shows.
use Rattle.std.proofs.Common.{◌≡◌, ◌≢◌, ℕ, zero, suc, ◌+◌, ◌≤◌, Bool, true, false, not, ◌||◌, ◌==◌, Option, Some, None, List, [], ◌∷◌, ◌++◌, ◌⊎◌, inl, inr, IsTrue, length, drop, refl, sym, ap, ◌∙◌, arith, append_assoc, length-append}
use Rattle.std.proofs.lemmas.Bool.Decides.{nat_tests}
use Rattle.std.specs.FinMap.Entries.{find as value_at, put}
use Rattle.vfs_base.specs.Path.{Path, path_cmp}
use Rattle.vfs_model.proofs.MovedLaws.{below-longer, prefix-append}
use Rattle.vfs_model.proofs.Trees.{at-put-here, at-put-other, at-without-here, at-without-other, prefix-splits}
use Rattle.vfs_model.specs.Lookup.{is_below, is_prefix}
use Rattle.vfs_model.specs.NormalPath.{parent_of}
use Rattle.node_maps.proofs.MovedNodes.{at-entry, at-later, same_or_other}
use Rattle.node_maps.specs.NodeMap.{NodeMap, without}
use Rattle.name_tree.proofs.Belows.{below-splits, some-below}
use Rattle.name_tree.proofs.FoundChanges.{prefix-itself}
use Rattle.name_tree.specs.Listed.{has_below}
use Rattle.dentry_table.proofs.Belows.{below-front, below-kept, below-over, below-witness, prefix-chain, prefix-of-root, prefix-parent}
use Rattle.dentry_table.specs.DentryTable.{HoldsBelow, count_at, told}
use Rattle.dentry_table.specs.Tidy.{HasPlaces, IsBare, IsTidy, IsTidyBut}

some-not-none : (o : Option ℕ) (count : ℕ) → o ≡ Some count → o ≢ None
some-not-none o count e none = absurd (cc)

pub told-there : (o : Option ℕ) → told o ≢ 0 → o ≢ None
told-there None h e = h refl
told-there (Some count) h e = absurd (cc)

either : (a b : Bool) → (a || b) ≡ true → (a ≡ true) ⊎ (b ≡ true)
either true b h = inl refl
either false b h = inr h

not-zero : (n : ℕ) → not (n == 0) ≡ true → n ≢ 0
not-zero n h e = grind (arith, nat_tests)

pub zero-or : (n : ℕ) → n ≢ 0 → (b : Bool) → (b || not (n == 0)) ≡ true
zero-or n h true = refl
zero-or n h false = grind (arith, nat_tests)

pub unwanted-none : (b : Bool) (n : ℕ) → (b || not (n == 0)) ≡ false → n ≡ 0
unwanted-none true n h = absurd (cc)
unwanted-none false n h = grind (arith, nat_tests)

-- where no dentry goes, the places stay
pub places-kept : {old new : NodeMap ℕ} {room : Path} → ((q : Path) → value_at path_cmp q new ≡ None → value_at path_cmp q old ≡ None) → HasPlaces old room → HasPlaces new room
places-kept {old} {new} {room} kept p = record { root = λ none. p.root (kept [] none); last = λ none. p.last (kept room none) }

-- the root alone is tidy
pub tidy-root : IsTidy (([], 0) ∷ []) []
tidy-root = record {
  places = record { root = here; last = here };
  along = λ q bare. elim (same_or_other q []) [
    | inl e ↦ ap (λ p. is_prefix p []) e ∙ prefix-itself []
    | inr other ↦ absurd (some-not-none (value_at path_cmp q (([], 0) ∷ [])) 0 bare.value (at-later q ([], 0) [] other))
  ];
}
  where
    start : NodeMap ℕ
    start = ([], 0) ∷ []

    here : value_at path_cmp [] start ≢ None
    here none = let some : value_at path_cmp [] start ≡ Some 0 = at-entry [] ([], 0) [] refl in absurd (cc)

pub tidy-along : {table : NodeMap ℕ} {room : Path} → IsTidy table room → (path : Path) → IsTidyBut table room path
tidy-along t path = record { along = λ q bare. inl (t.along q bare); places = t.places }

-- what is bare along the room alone
pub tidy-within : {table : NodeMap ℕ} {room path : Path} → IsTidyBut table room path → is_prefix path room ≡ true → IsTidy table room
tidy-within {table} {room} {path} t h = record { along = λ q bare. elim (t.along q bare) [ inl along ↦ along | inr other ↦ prefix-chain q path room other h ]; places = t.places }

-- where the dentry at the path is wanted, those above it are not bare
pub tidy-wanted : {table : NodeMap ℕ} {room : Path} (path : Path) → IsTidyBut table room path → (has_below path table || not (count_at table path == 0)) ≡ true → IsTidy table room
tidy-wanted {table} {room} path t wanted = record {
  places = t.places;
  along = λ q bare. elim (t.along q bare) [
    | inl along ↦ along
    | inr along ↦ absurd (elim (same_or_other q path) [ inl e ↦ not-here q e bare | inr other ↦ not-above q other along bare ])
  ];
}
  where
    not-here : (q : Path) → q ≡ path → IsBare table q → ⊥
    not-here q e bare =
        let b : has_below path table ≡ false = ap (λ p. has_below p table) (sym e) ∙ bare.below in
        let v : count_at table path ≡ 0 = ap told (ap (λ p. value_at path_cmp p table) (sym e) ∙ bare.value) in
        let no : (has_below path table || not (count_at table path == 0)) ≡ false = ap (λ x. x || not (count_at table path == 0)) b ∙ ap (λ n. not (n == 0)) v in
        absurd (cc)

    not-above : (q : Path) → q ≢ path → is_prefix q path ≡ true → IsBare table q → ⊥
    not-above q other along bare =
        let yes : has_below q table ≡ true = elim (either (has_below path table) (not (count_at table path == 0)) wanted) [
          | inl below ↦ below-over q path table along below
          | inr held ↦ below-front q path table along other (told-there (value_at path_cmp path table) (not-zero (count_at table path) held))
        ] in
        let no : has_below q table ≡ false = bare.below in
        absurd (cc)

pub tidy-held : {table : NodeMap ℕ} {room : Path} (path : Path) → IsTidyBut table room path → count_at table path ≢ 0 → IsTidy table room
tidy-held {table} path t held = tidy-wanted path t (zero-or (count_at table path) held (has_below path table))

-- a count that changes at a dentry
pub tidy-put : {table : NodeMap ℕ} {room : Path} (path : Path) (count : ℕ) → IsTidyBut table room path → IsTidyBut (put path_cmp path count table) room path
tidy-put {table} path count t = record {
  places = places-kept kept t.places;
  along = λ q bare. elim (same_or_other q path) [
    | inl e ↦ inr (ap (λ p. is_prefix p path) e ∙ prefix-itself path)
    | inr other ↦ t.along q (record {
      value = sym (at-put-other path q count table other) ∙ bare.value;
      below = below-kept q table (put path_cmp path count table) (kept) bare.below;
    })
  ];
}
  where
    kept : (r : Path) → value_at path_cmp r (put path_cmp path count table) ≡ None → value_at path_cmp r table ≡ None
    kept r none = elim (same_or_other r path) [
      | inl e ↦ absurd (some-not-none (value_at path_cmp r (put path_cmp path count table)) count (ap (λ p. value_at path_cmp p (put path_cmp path count table)) e ∙ at-put-here path count table) none)
      | inr other ↦ sym (at-put-other path r count table other) ∙ none
    ]

-- a dentry that goes, beside the room, leaves those above it
pub tidy-without : {table : NodeMap ℕ} {room : Path} (path : Path) → is_prefix path room ≡ false → IsTidyBut table room path → IsTidyBut (without path table) room (parent_of path)
tidy-without {table} {room} path beside t = record {
  places = record { root = left [] (prefix-append [] room) t.places.root; last = left room (prefix-itself room) t.places.last };
  along = λ q bare. elim (same_or_other q path) [
    | inl e ↦ absurd (some-not-none (value_at path_cmp q (without path table)) 0 bare.value (ap (λ p. value_at path_cmp p (without path table)) e ∙ at-without-here path table))
    | inr other ↦ elim (in-front q other bare) [ inl along ↦ inl along | inr front ↦ inr (prefix-parent q path front other) ]
  ];
}
  where
    left : (q : Path) → is_prefix q room ≡ true → value_at path_cmp q table ≢ None → value_at path_cmp q (without path table) ≢ None
    left q along there none = elim (same_or_other q path) [
      | inl e ↦ let yes : is_prefix path room ≡ true = ap (λ p. is_prefix p room) (sym e) ∙ along in absurd (cc)
      | inr other ↦ there (sym (at-without-other path q table other) ∙ none)
    ]

    below-left : (q : Path) → is_prefix q path ≡ false → has_below q table ≡ true → has_below q (without path table) ≡ true
    below-left q aside b =
        let w = below-witness q table b in
        some-below q (without path table) w.0 w.1 (λ none. w.2 (sym (at-without-other path (q ++ w.0 ∷ w.1) table
        (λ e. let yes : is_prefix q path ≡ true = ap (is_prefix q) (sym e) ∙ prefix-append q (w.0 ∷ w.1) in absurd (cc))) ∙ none))

    in-front : (q : Path) → q ≢ path → IsBare (without path table) q → (is_prefix q room ≡ true) ⊎ (is_prefix q path ≡ true)
    in-front q other bare = elim (has_below q table) as (λ b. has_below q table ≡ b → (is_prefix q room ≡ true) ⊎ (is_prefix q path ≡ true)) [
      | false ↦ λ e. t.along q (record { value = sym (at-without-other path q table other) ∙ bare.value; below = e })
      | true ↦ λ e. inr (elim (is_prefix q path) as (λ b. is_prefix q path ≡ b → b ≡ true) [
        | true ↦ λ f. refl
        | false ↦ λ f. let yes : has_below q (without path table) ≡ true = below-left q f e in let no : has_below q (without path table) ≡ false = bare.below in absurd (cc)
      ] refl)
    ] refl

-- more names than any path of the table has
longest : NodeMap ℕ → ℕ
longest [] = 0
longest (entry ∷ table) = length entry.0 + longest table

there-short : (q : Path) (table : NodeMap ℕ) → value_at path_cmp q table ≢ None → length q ≤ longest table
unfolding longest
there-short q [] h = absurd (h refl)
there-short q (entry ∷ table) h = elim (same_or_other q entry.0) [
  | inl e ↦ let l : length q ≡ length entry.0 = ap length e in omega arith
  | inr other ↦ let l : length q ≤ longest table = there-short q table (λ none. h (at-later q entry table other ∙ none)) in omega arith
]

abbrev Holder : NodeMap ℕ → Path → Type 0
Holder table q = (place : Path) × (is_prefix q place ≡ true) × (count_at table place ≢ 0)

beside-below : (q rest room : Path) → is_prefix q room ≡ false → is_prefix (q ++ rest) room ≡ false
beside-below q rest room beside = elim (is_prefix (q ++ rest) room) as (λ b. is_prefix (q ++ rest) room ≡ b → b ≡ false) [
  | true ↦ λ e. absurd (let yes : is_prefix q room ≡ true = prefix-chain q (q ++ rest) room (prefix-append q rest) e in absurd (cc))
  | false ↦ λ e. refl
] refl

-- at or below a dentry beside the room is a holder
module _ (table : NodeMap ℕ) (room : Path) (t : IsTidy table room) where
  by_count : (q : Path) (o : Option ℕ) → is_prefix q room ≡ false → value_at path_cmp q table ≢ None → value_at path_cmp q table ≡ o → (has_below q table ≡ true → Holder table q) → Holder table q
  by_count q None beside there e down = absurd (there e)
  by_count q (Some (suc count)) beside there e down = (q, prefix-itself q, λ none. let v : count_at table q ≡ suc count = ap told e in absurd (omega arith))
  by_count q (Some zero) beside there e down = elim (has_below q table) as (λ b. has_below q table ≡ b → Holder table q) [
    | true ↦ λ b. down b
    | false ↦ λ b. absurd (let yes : is_prefix q room ≡ true = t.along q (record { value = e; below = b }) in absurd (cc))
  ] refl

  longer : (q more : Path) (next : List ℕ) → length (q ++ next ∷ more) ≡ length q + suc (length more)
  longer q more next = length-append q (next ∷ more)

  holder : (fuel : ℕ) (q : Path) → is_prefix q room ≡ false → value_at path_cmp q table ≢ None → longest table ≤ length q + fuel → Holder table q
  holder zero q beside there far = by_count q (value_at path_cmp q table) beside there refl (λ b.
      let w = below-witness q table b in
      let short : length (q ++ w.0 ∷ w.1) ≤ longest table = there-short (q ++ w.0 ∷ w.1) table w.2 in
      let l = longer q w.1 w.0 in
      absurd (omega arith))
  holder (suc fuel) q beside there far = by_count q (value_at path_cmp q table) beside there refl (λ b.
      let w = below-witness q table b in
      let l = longer q w.1 w.0 in
      let inside = holder fuel (q ++ w.0 ∷ w.1) (beside-below q (w.0 ∷ w.1) room beside) w.2 (omega arith) in
      (inside.0, prefix-chain q (q ++ w.0 ∷ w.1) inside.0 (prefix-append q (w.0 ∷ w.1)) inside.1, inside.2))

  -- what stands below a path, beside the room, tells of a holder there
  pub holds-beside : (path : Path) (next : List ℕ) (more : Path) → is_prefix (path ++ next ∷ more) room ≡ false → value_at path_cmp (path ++ next ∷ more) table ≢ None → HoldsBelow table path
  holds-beside path next more beside there =
      let q = path ++ next ∷ more in
      let inside = holder (longest table) q beside there (omega arith) in
      let split : inside.0 ≡ path ++ next ∷ (more ++ drop (length q) inside.0) = prefix-splits q inside.0 inside.1 ∙ append_assoc path (next ∷ more) (drop (length q) inside.0) in
      record { place = inside.0; below = ap (is_below path) split ∙ below-longer path next (more ++ drop (length q) inside.0); held = inside.2 }

  pub holds-below : (path : Path) → is_prefix path room ≡ false → has_below path table ≡ true → HoldsBelow table path
  holds-below path beside b = let w = below-witness path table b in holds-beside path w.0 w.1 (beside-below path (w.0 ∷ w.1) room beside) w.2

-- where the root alone may be bare
pub holds-below-root : (table : NodeMap ℕ) → IsTidy table [] → (path : Path) → has_below path table ≡ true → HoldsBelow table path
holds-below-root table t path b =
    let w = below-witness path table b in
    holds-beside table [] t path w.0 w.1 (inner (path ++ w.0 ∷ w.1) (λ e. let l : length path + suc (length w.1) ≡ 0 = sym (length-append path (w.0 ∷ w.1)) ∙ ap length e in absurd (omega arith))) w.2
  where
    inner : (q : Path) → q ≢ [] → is_prefix q [] ≡ false
    inner q h = elim (is_prefix q []) as (λ b. is_prefix q [] ≡ b → b ≡ false) [ true ↦ λ e. absurd (h (prefix-of-root q e)) | false ↦ λ e. refl ] refl

pub below-held : (table : NodeMap ℕ) (path : Path) → HoldsBelow table path → has_below path table ≡ true
below-held table path h =
    let s = below-splits path h.place h.below in
    some-below path table s.0 s.1 (λ none. told-there (value_at path_cmp h.place table) h.held (ap (λ p. value_at path_cmp p table) s.2 ∙ none))

pub below-tells : (table : NodeMap ℕ) → IsTidy table [] → (path : Path) → (IsTrue (has_below path table) → HoldsBelow table path) × (HoldsBelow table path → IsTrue (has_below path table))
below-tells table t path = (λ b. holds-below-root table t path b, λ h. below-held table path h)
