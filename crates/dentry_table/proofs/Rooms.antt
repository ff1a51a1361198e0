-- What is held below a path in front of the room, name by name, and the room that comes, is filled or goes.
use Rattle.std.proofs.Common.{◌≡◌, ◌≢◌, ℕ, suc, ◌+◌, Bool, true, false, None, List, [], ◌∷◌, ◌++◌, ◌⊎◌, inl, inr, IsTrue, not, ◌==◌, ◌≤◌, get_or, slice_index_or, length, take, drop, refl, sym, ap, subst, ◌∙◌, arith, append_assoc, length-append}
use Rattle.std.proofs.Math.Seq.{take-append_seam}
use Rattle.std.proofs.lemmas.List.{take-append-drop, take_all, take_more}
use Rattle.std.specs.FinMap.Entries.{find as value_at}
use Rattle.vfs_base.specs.Path.{Path, path_cmp}
use Rattle.vfs_model.proofs.MovedLaws.{below-longer, prefix-append}
use Rattle.vfs_model.proofs.Trees.{prefix-splits}
use Rattle.vfs_model.specs.Lookup.{is_below, is_prefix}
use Rattle.node_maps.proofs.MovedNodes.{same_or_other}
use Rattle.node_maps.specs.NodeMap.{NodeMap}
use Rattle.name_tree.proofs.Belows.{below-splits}
use Rattle.name_tree.proofs.Besides.{beside-other, beside-witness, some-beside}
use Rattle.name_tree.specs.Entered.{entered}
use Rattle.name_tree.specs.Listed.{has_below, has_beside}
use Rattle.dentry_table.proofs.Belows.{below-witness, prefix-chain, prefix-of-root}
use Rattle.dentry_table.proofs.Entering.{entered-there, entered-tidy}
use Rattle.dentry_table.proofs.Tidiness.{below-held, holds-below, holds-beside, told-there, zero-or}
use Rattle.dentry_table.specs.DentryTable.{HoldsBelow, HoldsNothingBelow, count_at}
use Rattle.dentry_table.specs.Tidy.{IsTidy}

-- a path with more names is not in front
longer-aside : (path : Path) (next : List ℕ) (more : Path) → is_prefix (path ++ next ∷ more) path ≡ false
longer-aside path next more = elim (is_prefix (path ++ next ∷ more) path) as (λ b. is_prefix (path ++ next ∷ more) path ≡ b → b ≡ false) [
  | true ↦ λ e.
      let split : path ≡ (path ++ next ∷ more) ++ drop (length (path ++ next ∷ more)) path = prefix-splits (path ++ next ∷ more) path e in
      let all : length path ≡ length (path ++ next ∷ more) + length (drop (length (path ++ next ∷ more)) path) = ap length split ∙ length-append (path ++ next ∷ more) (drop (length (path ++ next ∷ more)) path) in
      let front : length (path ++ next ∷ more) ≡ length path + suc (length more) = length-append path (next ∷ more) in
      absurd (omega arith)
  | false ↦ λ e. refl
] refl

module _ {table : NodeMap ℕ} {room : Path} (t : IsTidy table room) where
  -- below the room's path nothing but holders wants a dentry
  pub holds-below-room : has_below room table ≡ true → HoldsBelow table room
  holds-below-room b = let w = below-witness room table b in holds-beside table room t room w.0 w.1 (longer-aside room w.0 w.1) w.2

  pub below-room-tells : (IsTrue (has_below room table) → HoldsBelow table room) × (HoldsBelow table room → IsTrue (has_below room table))
  below-room-tells = (holds-below-room, below-held table room)

  -- beside the room nothing but holders wants a dentry
  pub below-beside-tells : (path : Path) → is_prefix path room ≡ false → (IsTrue (has_below path table) → HoldsBelow table path) × (HoldsBelow table path → IsTrue (has_below path table))
  below-beside-tells path beside = (holds-below table room t path beside, below-held table path)

  pub nothing-below-room : HoldsNothingBelow table room → has_below room table ≡ false
  nothing-below-room nothing = elim (has_below room table) as (λ b. has_below room table ≡ b → b ≡ false) [
    | true ↦ λ e. let h = holds-below-room e in absurd (h.held (nothing.counts h.place h.below))
    | false ↦ λ e. refl
  ] refl

  module _ (front : Path) (name : List ℕ) (rest : Path) (is : room ≡ front ++ name ∷ rest) where
    -- a dentry that leads on by another name
    pub beside-holds : has_beside front name table ≡ true → HoldsBelow table front
    beside-holds b =
        let w = beside-witness front name table b in
        holds-beside table room t front w.0 w.1 (ap (is_prefix (front ++ w.0 ∷ w.1)) is ∙ aside w.0 w.1 w.2) w.3
      where
        aside : (next : List ℕ) (more : Path) → next ≢ name → is_prefix (front ++ next ∷ more) (front ++ name ∷ rest) ≡ false
        aside next more other = elim (is_prefix (front ++ next ∷ more) (front ++ name ∷ rest)) as (λ b. is_prefix (front ++ next ∷ more) (front ++ name ∷ rest) ≡ b → b ≡ false) [
          | true ↦ λ e.
              let one : is_prefix (front ++ next ∷ []) (front ++ next ∷ more) ≡ true = ap (is_prefix (front ++ next ∷ [])) (sym (append_assoc front (next ∷ []) more)) ∙ prefix-append (front ++ next ∷ []) more in
              let yes : is_prefix (front ++ next ∷ []) (front ++ name ∷ rest) ≡ true = prefix-chain (front ++ next ∷ []) (front ++ next ∷ more) (front ++ name ∷ rest) one e in
              let no : is_prefix (front ++ next ∷ []) (front ++ name ∷ rest) ≡ false = beside-other front rest next name (λ same. other (sym same)) in
              absurd (cc)
          | false ↦ λ e. refl
        ] refl

-- a holder at the next name, or below it
pub next-holds : (table : NodeMap ℕ) (front : Path) (name : List ℕ) → count_at table (front ++ name ∷ []) ≢ 0 → HoldsBelow table front
next-holds table front name held = record { place = front ++ name ∷ []; below = below-longer front name []; held = held }

pub behind-holds : (table : NodeMap ℕ) (front : Path) (name : List ℕ) → HoldsBelow table (front ++ name ∷ []) → HoldsBelow table front
behind-holds table front name h =
    let s = below-splits (front ++ name ∷ []) h.place h.below in
    let split : h.place ≡ front ++ name ∷ (s.0 ∷ s.1) = s.2 ∙ append_assoc front (name ∷ []) (s.0 ∷ s.1) in
    record { place = h.place; below = ap (is_below front) split ∙ below-longer front name (s.0 ∷ s.1); held = h.held }

-- what is held below a path is held by another name, at the next one or below it
pub holds-on : (table : NodeMap ℕ) (front : Path) (name : List ℕ) → has_beside front name table ≡ false → count_at table (front ++ name ∷ []) ≡ 0 → HoldsBelow table front → HoldsBelow table (front ++ name ∷ [])
holds-on table front name alone none h = let s = below-splits front h.place h.below in by_name s.0 s.1 s.2 (same_name s.0)
  where
    same_name : (next : List ℕ) → (next ≡ name) ⊎ (next ≢ name)
    same_name next = elim (same_or_other (next ∷ []) (name ∷ [])) [
      | inl e ↦ inl (ap (λ p. slice_index_or p 0 []) e)
      | inr other ↦ inr (λ e. other (ap (λ n. n ∷ []) e))
    ]

    there : value_at path_cmp h.place table ≢ None
    there = told-there (value_at path_cmp h.place table) h.held

    by_name : (next : List ℕ) (more : Path) → h.place ≡ front ++ next ∷ more → (next ≡ name) ⊎ (next ≢ name) → HoldsBelow table (front ++ name ∷ [])
    by_name next more split (inr other) =
        let yes : has_beside front name table ≡ true = some-beside front name table next more other (λ e. there (ap (λ p. value_at path_cmp p table) split ∙ e)) in
        absurd (cc)
    by_name next [] split (inl same) = absurd (h.held (ap (count_at table) (split ∙ ap (λ n. front ++ n ∷ []) same) ∙ none))
    by_name next (one ∷ more) split (inl same) =
        let on : h.place ≡ (front ++ name ∷ []) ++ one ∷ more = split ∙ ap (λ n. front ++ n ∷ one ∷ more) same ∙ sym (append_assoc front (name ∷ []) (one ∷ more)) in
        record { place = h.place; below = ap (is_below (front ++ name ∷ [])) on ∙ below-longer (front ++ name ∷ []) one more; held = h.held }

-- the dentries along a path have come: it is the room
pub room-tidy : (path : Path) (table : NodeMap ℕ) → IsTidy table [] → IsTidy (entered (length path) path 0 table) path
room-tidy path table t =
    let e = entered-tidy path table (length path) t in
    record {
      along = λ q bare. elim (e.along q bare) [
        | inl root ↦ ap (λ p. is_prefix p path) (prefix-of-root q root) ∙ prefix-append [] path
        | inr along ↦ along
      ];
      places = record { root = e.places.root; last = last path refl };
    }
  where
    last : (p : Path) → p ≡ path → value_at path_cmp path (entered (length path) path 0 table) ≢ None
    last [] same = λ none. (entered-tidy path table (length path) t).places.root (ap (λ p. value_at path_cmp p (entered (length path) path 0 table)) same ∙ none)
    last (name ∷ names) same = entered-there path table (λ e. let no : name ∷ names ≡ [] = same ∙ e in absurd (cc))

-- a path in front of the room is its first names
front-is : (path room : Path) → is_prefix path room ≡ true → take (length path) room ≡ path
front-is path room h = ap (take (length path)) (prefix-splits path room h) ∙ take-append_seam path (drop (length path) room)

-- the answer tells whether a path below has a holder
abbrev Tells : NodeMap ℕ → Path → Bool → Type 0
Tells table path answer = (IsTrue answer → HoldsBelow table path) × (HoldsBelow table path → IsTrue answer)

pub along-tells : (table : NodeMap ℕ) (path room : Path) {answer : Bool} → is_prefix path room ≡ true → Tells table (take (length path) room) answer → Tells table path answer
along-tells table path room {answer} h tells = subst (λ p. Tells table p answer) (front-is path room h) tells

module _ {table : NodeMap ℕ} {room : Path} (t : IsTidy table room) (len : ℕ) where
  pub end-tells : {answer : Bool} → len ≡ length room → answer ≡ has_below room table → Tells table (take len room) answer
  end-tells {answer} all is = subst (λ p. Tells table p answer) (sym (take_all len room (omega (arith, all)))) (subst (λ b. Tells table room b) (sym is) (below-room-tells t))

  module _ {name : List ℕ} (short : len ≢ length room) (within : len ≤ length room) (at : name ≡ get_or room len name) where
    next-is : take (len + 1) room ≡ take len room ++ name ∷ []
    next-is = take_more room len name (omega (arith, short, within)) ∙ ap (λ n. take len room ++ n ∷ []) (sym at)

    whole : room ≡ take len room ++ name ∷ drop (len + 1) room
    whole =
        sym (take-append-drop (len + 1) room)
        ∙ ap (λ f. f ++ drop (len + 1) room) next-is
        ∙ append_assoc (take len room) (name ∷ []) (drop (len + 1) room)

    pub beside-tells : has_beside (take len room) name table ≡ true → Tells table (take len room) true
    beside-tells b = (λ yes. beside-holds t (take len room) name (drop (len + 1) room) whole b, λ h. refl)

    pub next-tells : {count : ℕ} → count ≢ 0 → count ≡ count_at table (take (len + 1) room) → Tells table (take len room) (not (count == 0))
    next-tells {count} some is =
        (λ yes. next-holds table (take len room) name (λ none. some (is ∙ ap (count_at table) next-is ∙ none)), λ h. zero-or count some false)

    pub behind-tells : {count : ℕ} {answer : Bool} → has_beside (take len room) name table ≡ false → count ≡ 0 → count ≡ count_at table (take (len + 1) room) →
        Tells table (take (len + 1) room) answer → Tells table (take len room) answer
    behind-tells {count} {answer} alone none is tells =
        let on : Tells table (take len room ++ name ∷ []) answer = subst (λ p. Tells table p answer) next-is tells in (
          λ yes. behind-holds table (take len room) name (on.0 yes),
          λ h. on.1 (holds-on table (take len room) name alone (sym (ap (count_at table) next-is) ∙ sym is ∙ none) h),
        )
