-- Walks along names, from slot to slot.
use Rattle.std.proofs.Common.{◌≡◌, ◌≢◌, ℕ, zero, suc, ◌+◌, ◌≤◌, ◌<◌, true, false, Option, Some, None, List, [], ◌∷◌, ◌++◌, ◌⊎◌, inl, inr, length, drop, option_and_then, get_or, take, refl, sym, ap, ◌∙◌, arith, append_assoc, length-append}
use Rattle.std.proofs.lemmas.Bool.{cases_eq}
use Rattle.std.proofs.lemmas.List.{nil_from_length, take_more}
use Rattle.std.specs.Cmp.Lexicographic.{pointwise, bytes_decides}
use Rattle.std.specs.Prelude.{nat_eq}
use Rattle.vfs_base.specs.Path.{Path}
use Rattle.vfs_model.proofs.MovedLaws.{prefix-append}
use Rattle.vfs_model.proofs.Trees.{prefix-splits}
use Rattle.vfs_model.specs.Lookup.{is_prefix}
use Rattle.name_tree.specs.Changes.{Redirects}
use Rattle.name_tree.specs.Layout.{Child, IsTree, walk}

pub walk-append : (C : Child) (slot : ℕ) (front rest : Path) → walk C slot (front ++ rest) ≡ option_and_then (λ below. walk C below rest) (walk C slot front)
walk-append C slot [] rest = refl
walk-append C slot (name ∷ front) rest = elim (C slot name) as (λ o. option_and_then (λ b. walk C b (front ++ rest)) o ≡ option_and_then (λ b. walk C b rest) (option_and_then (λ b. walk C b front) o)) [
  | None ↦ refl
  | Some below ↦ walk-append C below front rest
]

-- a walk that goes one name further
pub walk-more : (C : Child) (path : Path) (at slot : ℕ) (d : List ℕ) (to : Option ℕ) → at < length path → walk C 0 (take at path) ≡ Some slot →
    C slot (get_or path at d) ≡ to → walk C 0 (take (at + 1) path) ≡ to
walk-more C path at slot d to l w e =
    ap (walk C 0) (take_more path at d l) ∙ walk-append C 0 (take at path) (get_or path at d ∷ [])
    ∙ ap (option_and_then (λ below. walk C below (get_or path at d ∷ []))) w ∙ one_more (C slot (get_or path at d)) ∙ e
  where
    one_more : (o : Option ℕ) → option_and_then (λ (b : ℕ). Some b) o ≡ o
    one_more None = refl
    one_more (Some b) = refl

-- a walk comes by the slot of each path above
pub walk-front : (C : Child) (slot : ℕ) (front rest : Path) (to : ℕ) → walk C slot (front ++ rest) ≡ Some to →
    (mid : ℕ) × (walk C slot front ≡ Some mid) × (walk C mid rest ≡ Some to)
walk-front C slot front rest to h =
    elim (walk C slot front) as (λ o. walk C slot front ≡ o → option_and_then (λ b. walk C b rest) o ≡ Some to →
    (mid : ℕ) × (walk C slot front ≡ Some mid) × (walk C mid rest ≡ Some to)) [
      | None ↦ λ w k. absurd (cc)
      | Some mid ↦ λ w k. (mid, w, k)
    ] refl (sym (walk-append C slot front rest) ∙ h)

one_step : (o : Option ℕ) (to : ℕ) → option_and_then (λ (b : ℕ). Some b) o ≡ Some to → o ≡ Some to
one_step None to h = absurd (cc)
one_step (Some b) to h = h

-- the last step of a walk
pub walk-last : (C : Child) (slot : ℕ) (front : Path) (name : List ℕ) (to : ℕ) → walk C slot (front ++ name ∷ []) ≡ Some to →
    (mid : ℕ) × (walk C slot front ≡ Some mid) × (C mid name ≡ Some to)
walk-last C slot front name to h =
    let w = walk-front C slot front (name ∷ []) to h in
    (w.0, w.1, one_step (C w.0 name) to w.2)

-- a path is the root's or has a last name
pub last_split : (p : Path) → (p ≡ []) ⊎ ((front : Path) × (name : List ℕ) × (p ≡ front ++ name ∷ []))
last_split [] = inl refl
last_split (n ∷ p) = elim (last_split p) [
  | inl e ↦ inr ([], n, ap (λ r. n ∷ r) e)
  | inr s ↦ inr (n ∷ s.0, s.1, ap (λ r. n ∷ r) s.2)
]

longer-nothing : (p : Path) (name : List ℕ) (rest : Path) → (p ++ name ∷ rest) ≢ p
longer-nothing p name rest e = let l : length p + suc (length rest) ≡ length p = sym (length-append p (name ∷ rest)) ∙ ap length e in absurd (omega arith)

-- no path lies below itself
pub not-below-itself : (p : Path) (name : List ℕ) → is_prefix (p ++ name ∷ []) p ≡ false
not-below-itself p name = elim (is_prefix (p ++ name ∷ []) p) as (λ b. is_prefix (p ++ name ∷ []) p ≡ b → b ≡ false) [
  | true ↦ λ e.
      let rest = drop (length (p ++ name ∷ [])) p in
      let split : p ≡ (p ++ name ∷ []) ++ rest = prefix-splits (p ++ name ∷ []) p e in
      absurd (longer-nothing p name rest (sym (split ∙ append_assoc p (name ∷ []) rest)))
  | false ↦ λ e. refl
] refl

-- walks that meet no entry that differs are the same
pub same_walk : (C D : Child) (slot : ℕ) (path : Path) →
    ((front : Path) (name : List ℕ) (rest : Path) (at : ℕ) → path ≡ front ++ name ∷ rest → walk C slot front ≡ Some at → D at name ≡ C at name) →
    walk D slot path ≡ walk C slot path
same_walk C D slot [] same = refl
same_walk C D slot (name ∷ path) same =
    let first : D slot name ≡ C slot name = same [] name path slot refl refl in
    ap (option_and_then (λ b. walk D b path)) first
    ∙ elim (C slot name) as (λ o. C slot name ≡ o → option_and_then (λ b. walk D b path) o ≡ option_and_then (λ b. walk C b path) o) [
      | None ↦ λ e. refl
      | Some below ↦ λ e. same_walk C D below path (λ front n rest at p w. same (name ∷ front) n rest at (ap (λ r. name ∷ r) p) (ap (option_and_then (λ b. walk C b front)) e ∙ w))
    ] refl

bytes_eq : (a b : List ℕ) → (a ≡ b) ⊎ (a ≢ b)
bytes_eq a b = elim (pointwise nat_eq a b) as (λ r. pointwise nat_eq a b ≡ r → (a ≡ b) ⊎ (a ≢ b)) [
  | true ↦ λ e. inl ((bytes_decides a b).0 e)
  | false ↦ λ e. inr (λ f. let t : pointwise nat_eq a b ≡ true = (bytes_decides a b).1 f in absurd (cc))
] refl

-- an entry is the one of a name below a slot, or another one
pub same_entry : (slot at : ℕ) (other name : List ℕ) → ((slot ≡ at) × (other ≡ name)) ⊎ ((slot ≡ at) → other ≢ name)
same_entry slot at other name = elim (cases_eq slot at) [
  | inl e ↦ elim (bytes_eq other name) [
    | inl f ↦ inl (e, f)
    | inr g ↦ inr (λ _. g)
  ]
  | inr d ↦ inr (λ e. absurd (d e))
]

module _ {T : Type 0} {V : ℕ → Option T} {C : Child} (t : IsTree V C) where
  -- where a walk from the root ends is a node
  pub live-walk : (path : Path) (to : ℕ) → walk C 0 path ≡ Some to → V to ≢ None
  live-walk path to w = elim (last_split path) [
    | inl e ↦ let here : ◌≡◌ {A = Option ℕ} (Some 0) (Some to) = ap (walk C 0) (sym e) ∙ w in let zero_is : 0 ≡ to = cc in λ none. t.root (ap V zero_is ∙ none)
    | inr s ↦ let last = walk-last C 0 s.0 s.1 to (ap (walk C 0) (sym s.2) ∙ w) in t.live last.0 s.1 to last.2
  ]

  root-alone : (q : Path) → walk C 0 q ≡ Some 0 → q ≡ []
  root-alone q w = elim (last_split q) [
    | inl e ↦ e
    | inr s ↦ let last = walk-last C 0 s.0 s.1 0 (ap (walk C 0) (sym s.2) ∙ w) in absurd (t.root_free last.0 s.1 last.2)
  ]

  alone-root : (p q : Path) (to : ℕ) → p ≡ [] → walk C 0 p ≡ Some to → walk C 0 q ≡ Some to → p ≡ q
  alone-root p q to e v w =
      let here : ◌≡◌ {A = Option ℕ} (Some 0) (Some to) = ap (walk C 0) (sym e) ∙ v in
      e ∙ sym (root-alone q (w ∙ sym here))

  -- one path at most leads to a slot
  alone-within : (k : ℕ) (p q : Path) (to : ℕ) → length p ≤ k → walk C 0 p ≡ Some to → walk C 0 q ≡ Some to → p ≡ q
  alone-within zero p q to l v w = alone-root p q to (nil_from_length p (omega arith)) v w
  alone-within (suc k) p q to l v w = elim (last_split p) [
    | inl e ↦ alone-root p q to e v w
    | inr r ↦ elim (last_split q) [
      | inl f ↦ sym (alone-root q p to f w v)
      | inr s ↦
          let one = walk-last C 0 r.0 r.1 to (ap (walk C 0) (sym r.2) ∙ v) in
          let two = walk-last C 0 s.0 s.1 to (ap (walk C 0) (sym s.2) ∙ w) in
          let same = t.once one.0 two.0 r.1 s.1 to one.2 two.2 in
          let longer : length p ≡ length r.0 + 1 = ap length r.2 ∙ length-append r.0 (r.1 ∷ []) in
          let fronts : r.0 ≡ s.0 = alone-within k r.0 s.0 one.0 (omega arith) one.1 (two.1 ∙ ap (λ x. Some x) (sym same.0)) in
          r.2 ∙ ap (λ f. f ++ r.1 ∷ []) fronts ∙ ap (λ n. s.0 ++ n ∷ []) same.1 ∙ sym s.2
    ]
  ]

  pub alone : (p q : Path) (to : ℕ) → walk C 0 p ≡ Some to → walk C 0 q ≡ Some to → p ≡ q
  alone p q to v w = alone-within (length p) p q to (omega arith) v w

  module _ {D : Child} (front : Path) {at : ℕ} {name : List ℕ} {to : Option ℕ} (w : walk C 0 front ≡ Some at) (r : Redirects C D at name to) where
    -- no path beside the changed entry leads elsewhere
    pub walk-beside : (path : Path) → is_prefix (front ++ name ∷ []) path ≡ false → walk D 0 path ≡ walk C 0 path
    walk-beside path h = same_walk C D 0 path (λ f n rest j split v. r.others j n (λ same names.
        let fronts : f ≡ front = alone f front at (v ∙ ap (λ x. Some x) same) w in
        let along : path ≡ (front ++ name ∷ []) ++ rest = split ∙ ap (λ x. x ++ n ∷ rest) fronts ∙ ap (λ m. front ++ m ∷ rest) names ∙ sym (append_assoc front (name ∷ []) rest) in
        let yes : is_prefix (front ++ name ∷ []) path ≡ true = ap (is_prefix (front ++ name ∷ [])) along ∙ prefix-append (front ++ name ∷ []) rest in
        absurd (cc)))

    -- paths along the changed entry go on from where it leads
    pub walk-along : (rest : Path) → walk D 0 (front ++ name ∷ rest) ≡ option_and_then (λ below. walk D below rest) to
    walk-along rest =
        let mid : walk D 0 front ≡ Some at = walk-beside front (not-below-itself front name) ∙ w in
        walk-append D 0 front (name ∷ rest)
        ∙ ap (option_and_then (λ below. walk D below (name ∷ rest))) mid
        ∙ ap (option_and_then (λ below. walk D below rest)) r.changed
