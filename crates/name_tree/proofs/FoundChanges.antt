-- What is found at each path after a node came, went, changed or moved.
use Rattle.std.proofs.Common.{◌≡◌, ◌≢◌, ℕ, Bool, true, false, Option, Some, None, List, [], ◌∷◌, ◌++◌, inl, inr, length, drop, option_and_then, refl, sym, ap, ◌∙◌, append_assoc}
use Rattle.std.proofs.lemmas.List.{append-nil}
use Rattle.vfs_base.specs.Path.{Path}
use Rattle.vfs_model.proofs.MovedLaws.{prefix-append}
use Rattle.vfs_model.proofs.Trees.{prefix-splits}
use Rattle.vfs_model.specs.Lookup.{is_prefix}
use Rattle.name_tree.proofs.TreeChanges.{IsFree, Redirects-without_entry, tree-kept, tree-linked, tree-unlinked, tree-valued, without_entry}
use Rattle.name_tree.proofs.Walks.{alone, live-walk, not-below-itself, same_entry, same_walk, walk-along, walk-append, walk-beside}
use Rattle.name_tree.specs.Changes.{Redirects, Revalues}
use Rattle.name_tree.specs.Layout.{Child, IsTree, found_at, walk}

pub prefix-itself : (p : Path) → is_prefix p p ≡ true
prefix-itself p = ap (is_prefix p) (sym (append-nil p)) ∙ prefix-append p []

-- a path below another
below-of : (path front : Path) (name : List ℕ) → is_prefix (front ++ name ∷ []) path ≡ true → (rest : Path) × (path ≡ front ++ name ∷ rest)
below-of path front name h =
    let rest = drop (length (front ++ name ∷ [])) path in
    (rest, prefix-splits (front ++ name ∷ []) path h ∙ append_assoc front (name ∷ []) rest)

module _ {T : Type 0} where
  -- nothing is found where no walk leads
  found-none : (V : ℕ → Option T) (C : Child) (path : Path) → walk C 0 path ≡ None → found_at V C path ≡ None
  found-none V C path h = ap (option_and_then V) h

  found-some : (V : ℕ → Option T) (C : Child) (path : Path) (to : ℕ) → walk C 0 path ≡ Some to → found_at V C path ≡ V to
  found-some V C path to h = ap (option_and_then V) h

  -- what is found through other values, where they are the same at the slots of walks
  found-same : (V W : ℕ → Option T) (C D : Child) (path : Path) → walk D 0 path ≡ walk C 0 path → ((to : ℕ) → walk C 0 path ≡ Some to → W to ≡ V to) → found_at W D path ≡ found_at V C path
  found-same V W C D path h same =
      ap (option_and_then W) h
      ∙ elim (walk C 0 path) as (λ o. walk C 0 path ≡ o → option_and_then W o ≡ option_and_then V o) [ None ↦ λ e. refl | Some to ↦ λ e. same to e ] refl

  module _ {V W : ℕ → Option T} {C D : Child} (t : IsTree V C) (front : Path) {at : ℕ} {name : List ℕ} (w : walk C 0 front ≡ Some at) where
    -- a node that came
    module _ {slot : ℕ} {value : T} (free : V slot ≡ None) (bare : (n : List ℕ) → C slot n ≡ None) (absent : C at name ≡ None) (r : Redirects C D at name (Some slot)) (v : Revalues V W slot (Some value)) where
      pub inserted-tree : IsTree W D
      inserted-tree =
          let valued : IsTree W C = tree-valued t v in
          tree-linked valued r (λ e. t.root (ap V (sym e) ∙ free)) (λ none. let here : W slot ≡ Some value = v.changed in absurd (cc)) (λ a n e. t.live a n slot e free)

      pub inserted-here : found_at W D (front ++ name ∷ []) ≡ Some value
      inserted-here = found-some W D (front ++ name ∷ []) slot (walk-along t front w r []) ∙ v.changed

      bare-now : (n : List ℕ) → D slot n ≡ None
      bare-now n = r.others slot n (λ e. absurd (live-walk t front at w (ap V (sym e) ∙ free))) ∙ bare n

      below-none : (n : List ℕ) (rest : Path) → found_at W D (front ++ name ∷ n ∷ rest) ≡ found_at V C (front ++ name ∷ n ∷ rest)
      below-none n rest =
          let now : walk D 0 (front ++ name ∷ n ∷ rest) ≡ None = walk-along t front w r (n ∷ rest) ∙ ap (option_and_then (λ b. walk D b rest)) (bare-now n) in
          let before : walk C 0 (front ++ name ∷ n ∷ rest) ≡ None =
          walk-append C 0 front (name ∷ n ∷ rest) ∙ ap (option_and_then (λ b. walk C b (name ∷ n ∷ rest))) w ∙ ap (option_and_then (λ b. walk C b (n ∷ rest))) absent in
          found-none W D (front ++ name ∷ n ∷ rest) now ∙ sym (found-none V C (front ++ name ∷ n ∷ rest) before)

      inserted-under : (path rest : Path) → path ≢ front ++ name ∷ [] → path ≡ front ++ name ∷ rest → found_at W D path ≡ found_at V C path
      inserted-under path [] h e = absurd (h e)
      inserted-under path (n ∷ rest) h e = ap (found_at W D) e ∙ below-none n rest ∙ sym (ap (found_at V C) e)

      pub inserted-other : (path : Path) → path ≢ front ++ name ∷ [] → found_at W D path ≡ found_at V C path
      inserted-other path h = elim (is_prefix (front ++ name ∷ []) path) as (λ b. is_prefix (front ++ name ∷ []) path ≡ b → found_at W D path ≡ found_at V C path) [
        | true ↦ λ e. let under = below-of path front name e in inserted-under path under.0 h under.1
        | false ↦ λ e. found-same V W C D path (walk-beside t front w r path e)
            (λ to walked. v.others to (λ same. live-walk t path to walked (ap V same ∙ free)))
      ] refl

    -- a node that went, below which none stood
    module _ {slot : ℕ} (there : C at name ≡ Some slot) (bare : (n : List ℕ) → C slot n ≡ None) (r : Redirects C D at name None) (v : Revalues V W slot None) where
      leads : walk C 0 (front ++ name ∷ []) ≡ Some slot
      leads = walk-append C 0 front (name ∷ []) ∙ ap (option_and_then (λ b. walk C b (name ∷ []))) w ∙ ap (option_and_then (λ b. walk C b [])) there

      unentered : (a : ℕ) (n : List ℕ) (below : ℕ) → D a n ≡ Some below → below ≢ slot
      unentered a n below e same = elim (same_entry a at n name) [
        | inl here ↦ let gone : D a n ≡ None = ap (λ s. D s n) here.0 ∙ ap (D at) here.1 ∙ r.changed in absurd (cc)
        | inr differs ↦
            let one = t.once a at n name slot (sym (r.others a n differs) ∙ e ∙ ap (λ x. Some x) same) there in
            absurd (differs one.0 one.1)
      ]

      pub removed-tree : IsTree W D
      removed-tree =
          tree-kept (tree-unlinked t r)
          (v.others 0 (λ same. t.root_free at name (there ∙ ap (λ x. Some x) (sym same))))
          (λ a n below e. v.others below (unentered a n below e))

      pub removed-here : found_at W D (front ++ name ∷ []) ≡ None
      removed-here = found-none W D (front ++ name ∷ []) (walk-along t front w r [])

      removed-under : (path rest : Path) → path ≢ front ++ name ∷ [] → path ≡ front ++ name ∷ rest → found_at W D path ≡ found_at V C path
      removed-under path [] h e = absurd (h e)
      removed-under path (n ∷ rest) h e =
          let before : walk C 0 (front ++ name ∷ n ∷ rest) ≡ None =
          walk-append C 0 front (name ∷ n ∷ rest) ∙ ap (option_and_then (λ b. walk C b (name ∷ n ∷ rest))) w
          ∙ ap (option_and_then (λ b. walk C b (n ∷ rest))) there ∙ ap (option_and_then (λ b. walk C b rest)) (bare n) in
          ap (found_at W D) e ∙ found-none W D (front ++ name ∷ n ∷ rest) (walk-along t front w r (n ∷ rest))
          ∙ sym (ap (found_at V C) e ∙ found-none V C (front ++ name ∷ n ∷ rest) before)

      pub removed-other : (path : Path) → path ≢ front ++ name ∷ [] → found_at W D path ≡ found_at V C path
      removed-other path h = elim (is_prefix (front ++ name ∷ []) path) as (λ b. is_prefix (front ++ name ∷ []) path ≡ b → found_at W D path ≡ found_at V C path) [
        | true ↦ λ e. let under = below-of path front name e in removed-under path under.0 h under.1
        | false ↦ λ e. found-same V W C D path (walk-beside t front w r path e)
            (λ to walked. v.others to (λ same. h (alone t path (front ++ name ∷ []) slot (walked ∙ ap (λ x. Some x) same) leads)))
      ] refl

  -- a value that changed
  module _ {V W : ℕ → Option T} {C : Child} (t : IsTree V C) (path : Path) {slot : ℕ} {value : T} (w : walk C 0 path ≡ Some slot) (v : Revalues V W slot (Some value)) where
    pub valued-here : found_at W C path ≡ Some value
    valued-here = found-some W C path slot w ∙ v.changed

    pub valued-other : (q : Path) → q ≢ path → found_at W C q ≡ found_at V C q
    valued-other q h = found-same V W C C q refl (λ to walked. v.others to (λ same. h (alone t q path slot (walked ∙ ap (λ x. Some x) same) w)))

  -- a node that moved with all below it; what stood at its new place is gone
  module _ {V W : ℕ → Option T} {C D E : Child} (t : IsTree V C) (front front' : Path) {at at' slot : ℕ} {name name' : List ℕ}
      (w : walk C 0 front ≡ Some at) (w' : walk C 0 front' ≡ Some at') (there : C at name ≡ Some slot)
      (apart : is_prefix (front ++ name ∷ []) (front' ++ name' ∷ []) ≡ false)
      (r : Redirects C D at' name' (Some slot)) (s : Redirects D E at name None)
      (v : (other : ℕ) → C at' name' ≢ Some other → W other ≡ V other) where
    leads-old : walk C 0 (front ++ name ∷ []) ≡ Some slot
    leads-old = walk-append C 0 front (name ∷ []) ∙ ap (option_and_then (λ b. walk C b (name ∷ []))) w ∙ ap (option_and_then (λ b. walk C b [])) there

    -- the old and the new entry are two
    two : at ≡ at' → name ≢ name'
    two e f =
        let fronts : front ≡ front' = alone t front front' at' (w ∙ ap (λ x. Some x) e) w' in
        let same : front ++ name ∷ [] ≡ front' ++ name' ∷ [] = ap (λ p. p ++ name ∷ []) fronts ∙ ap (λ n. front' ++ n ∷ []) f in
        let yes : is_prefix (front ++ name ∷ []) (front' ++ name' ∷ []) ≡ true = ap (is_prefix (front ++ name ∷ [])) (sym same) ∙ prefix-itself (front ++ name ∷ []) in
        absurd (cc)

    -- the entries as they are between: without the old one
    left : Child
    left = without_entry C at name

    to-left : Redirects C left at name None
    unfolding left
    to-left = Redirects-without_entry C at name

    from-left : Redirects left E at' name' (Some slot)
    from-left = record {
      changed = s.others at' name' (λ e f. two (sym e) (sym f)) ∙ r.changed;
      others = λ a n differs. elim (same_entry a at n name) [
        | inl here ↦
            ap (λ x. E x n) here.0 ∙ ap (E at) here.1 ∙ s.changed ∙ sym (ap (λ x. left x n) here.0 ∙ ap (left at) here.1 ∙ to-left.changed)
        | inr other ↦ s.others a n other ∙ r.others a n differs ∙ sym (to-left.others a n other)
      ];
    }

    left-tree : IsTree V left
    left-tree = tree-unlinked t to-left

    left-free : IsFree left slot
    left-free a n e = elim (same_entry a at n name) [
      | inl here ↦ let gone : left a n ≡ None = ap (λ x. left x n) here.0 ∙ ap (left at) here.1 ∙ to-left.changed in absurd (cc)
      | inr other ↦
          let one = t.once a at n name slot (sym (to-left.others a n other) ∙ e) there in
          absurd (other one.0 one.1)
    ]

    between-tree : IsTree V E
    between-tree = tree-linked left-tree from-left (λ e. t.root_free at name (there ∙ ap (λ x. Some x) e)) (t.live at name slot there) left-free

    -- no entry leads to what is gone
    kept : (a : ℕ) (n : List ℕ) (below : ℕ) → E a n ≡ Some below → C at' name' ≢ Some below
    kept a n below e gone = elim (same_entry a at' n name') [
      | inl here ↦
          let now : E a n ≡ Some slot = ap (λ x. E x n) here.0 ∙ ap (E at') here.1 ∙ from-left.changed in
          let is : below ≡ slot = cc in
          let one = t.once at at' name name' slot there (gone ∙ ap (λ x. Some x) is) in
          absurd (two one.0 one.1)
      | inr differs ↦
          let was : left a n ≡ Some below = sym (from-left.others a n differs) ∙ e in
          elim (same_entry a at n name) [
            | inl here ↦ let none : left a n ≡ None = ap (λ x. left x n) here.0 ∙ ap (left at) here.1 ∙ to-left.changed in absurd (cc)
            | inr other ↦
                let one = t.once a at' n name' below (sym (to-left.others a n other) ∙ was) gone in
                absurd (differs one.0 one.1)
          ]
    ]

    pub moved-tree : IsTree W E
    moved-tree = tree-kept between-tree (v 0 (t.root_free at' name')) (λ a n below e. v below (kept a n below e))

    w-left : walk left 0 front' ≡ Some at'
    w-left = walk-beside t front w to-left front' (outside (is_prefix (front ++ name ∷ []) front') refl) ∙ w'
      where
        outside : (b : Bool) → is_prefix (front ++ name ∷ []) front' ≡ b → is_prefix (front ++ name ∷ []) front' ≡ false
        outside true e =
            let rest = drop (length (front ++ name ∷ [])) front' in
            let split : front' ++ name' ∷ [] ≡ (front ++ name ∷ []) ++ (rest ++ name' ∷ []) =
            ap (λ p. p ++ name' ∷ []) (prefix-splits (front ++ name ∷ []) front' e) ∙ append_assoc (front ++ name ∷ []) rest (name' ∷ []) in
            let yes : is_prefix (front ++ name ∷ []) (front' ++ name' ∷ []) ≡ true = ap (is_prefix (front ++ name ∷ [])) split ∙ prefix-append (front ++ name ∷ []) (rest ++ name' ∷ []) in
            absurd (cc)
        outside false e = e

    -- below the node that moved all entries lead where they led
    walk-inside : (rest : Path) → walk E slot rest ≡ walk C slot rest
    walk-inside rest = same_walk C E slot rest (λ f n more j split walked.
        let from-root : walk C 0 ((front ++ name ∷ []) ++ f) ≡ Some j = walk-append C 0 (front ++ name ∷ []) f ∙ ap (option_and_then (λ b. walk C b f)) leads-old ∙ walked in
        from-left.others j n (λ e g.
        let same : (front ++ name ∷ []) ++ f ≡ front' = alone t ((front ++ name ∷ []) ++ f) front' at' (from-root ∙ ap (λ x. Some x) e) w' in
        let split : front' ++ name' ∷ [] ≡ (front ++ name ∷ []) ++ (f ++ name' ∷ []) = ap (λ p. p ++ name' ∷ []) (sym same) ∙ append_assoc (front ++ name ∷ []) f (name' ∷ []) in
        let yes : is_prefix (front ++ name ∷ []) (front' ++ name' ∷ []) ≡ true = ap (is_prefix (front ++ name ∷ [])) split ∙ prefix-append (front ++ name ∷ []) (f ++ name' ∷ []) in
        absurd (cc))
        ∙ to-left.others j n (λ e g.
        let same : (front ++ name ∷ []) ++ f ≡ front = alone t ((front ++ name ∷ []) ++ f) front at (from-root ∙ ap (λ x. Some x) e) w in
        let yes : is_prefix (front ++ name ∷ []) front ≡ true = ap (is_prefix (front ++ name ∷ [])) (sym same) ∙ prefix-append (front ++ name ∷ []) f in
        let no : is_prefix (front ++ name ∷ []) front ≡ false = not-below-itself front name in
        absurd (cc)))

    -- what is found at the new path was found at the old one
    pub moved-found : (rest : Path) → found_at W E (front' ++ name' ∷ rest) ≡ found_at V C (front ++ name ∷ rest)
    moved-found rest =
        let now : walk E 0 (front' ++ name' ∷ rest) ≡ walk C slot rest = walk-along left-tree front' w-left from-left rest ∙ walk-inside rest in
        let before : walk C 0 (front ++ name ∷ rest) ≡ walk C slot rest =
        walk-append C 0 front (name ∷ rest) ∙ ap (option_and_then (λ b. walk C b (name ∷ rest))) w ∙ ap (option_and_then (λ b. walk C b rest)) there in
        ap (option_and_then W) (now ∙ sym before)
        ∙ elim (walk C 0 (front ++ name ∷ rest)) as (λ o. walk C 0 (front ++ name ∷ rest) ≡ o → option_and_then W o ≡ option_and_then V o) [
          | None ↦ λ e. refl
          | Some to ↦ λ e. v to (λ gone. not-gone (front ++ name ∷ rest) to e gone (
              let split : front ++ name ∷ rest ≡ (front ++ name ∷ []) ++ rest = sym (append_assoc front (name ∷ []) rest) in
              λ same.
              let yes : is_prefix (front ++ name ∷ []) (front' ++ name' ∷ []) ≡ true = ap (is_prefix (front ++ name ∷ [])) (sym same ∙ split) ∙ prefix-append (front ++ name ∷ []) rest in
              absurd (cc)))
        ] refl
      where
        not-gone : (path : Path) (to : ℕ) → walk C 0 path ≡ Some to → C at' name' ≡ Some to → path ≢ front' ++ name' ∷ [] → ⊥
        not-gone path to e gone h =
            h (alone t path (front' ++ name' ∷ []) to e
            (walk-append C 0 front' (name' ∷ []) ∙ ap (option_and_then (λ b. walk C b (name' ∷ []))) w' ∙ ap (option_and_then (λ b. walk C b [])) gone))

    pub moved-gone : (path : Path) → is_prefix (front' ++ name' ∷ []) path ≡ false → is_prefix (front ++ name ∷ []) path ≡ true → found_at W E path ≡ None
    moved-gone path h k =
        let under = below-of path front name k in
        let none : walk E 0 path ≡ None =
        walk-beside left-tree front' w-left from-left path h ∙ ap (walk left 0) under.1 ∙ walk-along t front w to-left under.0 in
        found-none W E path none

    pub moved-other : (path : Path) → is_prefix (front' ++ name' ∷ []) path ≡ false → is_prefix (front ++ name ∷ []) path ≡ false → found_at W E path ≡ found_at V C path
    moved-other path h k =
        found-same V W C E path (walk-beside left-tree front' w-left from-left path h ∙ walk-beside t front w to-left path k)
        (λ to walked. v to (λ gone.
        let same : path ≡ front' ++ name' ∷ [] = alone t path (front' ++ name' ∷ []) to walked
        (walk-append C 0 front' (name' ∷ []) ∙ ap (option_and_then (λ b. walk C b (name' ∷ []))) w' ∙ ap (option_and_then (λ b. walk C b [])) gone) in
        let yes : is_prefix (front' ++ name' ∷ []) path ≡ true = ap (is_prefix (front' ++ name' ∷ [])) same ∙ prefix-itself (front' ++ name' ∷ []) in
        absurd (cc)))
