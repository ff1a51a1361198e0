-- A tree in which a subtree has moved.
use Rattle.std.proofs.Common.{◌≡◌, ◌≢◌, ℕ, Bool, true, false, cond, not, ◌&&◌, ◌||◌, nat_lt, Option, Some, None, List, [], ◌∷◌, ◌++◌, ◌⊎◌, inl, inr, length, take, drop, filter, map, fold, if◌then◌else◌, refl, sym, ap, ◌∙◌, arith}
use Rattle.std.proofs.Math.Seq.{take-append_seam}
use Rattle.std.proofs.lemmas.Bool.Decides.{nat_tests}
use Rattle.std.proofs.lemmas.List.{append_cancel_left, append-nil, length-append}
use Rattle.std.specs.Cmp.Lexicographic.{pointwise_decides, bytes_decides}
use Rattle.std.specs.FinMap.Entries.{below_all, find as value_at, is_sorted, put}
use Rattle.std.specs.List.{list_any}
use Rattle.std.specs.Ordering.{is_eq, is_lt}
use Rattle.std.specs.declared.cmp.Ordering.{Ordering}
use Rattle.std.specs.declared.cmp.Ordering.TheVariants.{Less, Equal, Greater}
use Rattle.vfs_base.specs.Path.{Path, path_cmp}
use Rattle.vfs_base.specs.PathLaws.{path_ties}
use Rattle.vfs_base.specs.declared.kinds.NodeKind.{NodeKind}
use Rattle.vfs_model.proofs.Trees.{at-filter, at-put-here, at-put-other, prefix-splits, same_path-is, same_path-itself, same_path-other}
use Rattle.vfs_model.specs.Lookup.{is_below, is_prefix}
use Rattle.vfs_model.specs.Namespace.{Tree, same_path}
use Rattle.vfs_model.specs.RenameStep.{carried, left_behind, moved, put_entry}

-- the first where there is one, and else the second
abbrev pub or_else : Option NodeKind → Option NodeKind → Option NodeKind
or_else None second = second
or_else (Some first) second = Some first

pub prefix-append : (front rest : Path) → is_prefix front (front ++ rest) ≡ true
prefix-append front rest = (pointwise_decides bytes_decides front (take (length front) (front ++ rest))).1 (sym (take-append_seam front rest))

lt-not-eq : (o : Ordering) → is_lt o ≡ true → is_eq o ≡ false
lt-not-eq Less h = refl
lt-not-eq Equal h = absurd (cc)
lt-not-eq Greater h = refl

both-true : (a b : Bool) → (a && b) ≡ true → (a ≡ true) × (b ≡ true)
both-true true b h = (refl, h)
both-true false b h = absurd (cc)

-- what is below all keys of a tree is not in it
below-absent : (q : Path) (tree : Tree) → below_all path_cmp q tree ≡ true → value_at path_cmp q tree ≡ None
below-absent q [] h = refl
below-absent q (entry ∷ tree) h =
    let both = both-true _ _ h in
    ap (λ b. cond b (Some entry.1) (value_at path_cmp q tree)) (lt-not-eq (path_cmp q entry.0) both.0) ∙ below-absent q tree both.1

at-entry : (q : Path) (entry : Path × NodeKind) (tree : Tree) → q ≡ entry.0 → value_at path_cmp q (entry ∷ tree) ≡ Some entry.1
at-entry q entry tree e = ap (λ b. cond b (Some entry.1) (value_at path_cmp q tree)) (sym (path_ties q entry.0) ∙ ap (λ p. same_path q p) (sym e) ∙ same_path-itself q)

at-later : (q : Path) (entry : Path × NodeKind) (tree : Tree) → q ≢ entry.0 → value_at path_cmp q (entry ∷ tree) ≡ value_at path_cmp q tree
at-later q entry tree h = ap (λ b. cond b (Some entry.1) (value_at path_cmp q tree)) (sym (path_ties q entry.0) ∙ same_path-other q entry.0 h)

same_or_other : (p q : Path) → (p ≡ q) ⊎ (p ≢ q)
same_or_other p q = elim (same_path p q) as (λ r. same_path p q ≡ r → (p ≡ q) ⊎ (p ≢ q)) [
  | true ↦ λ e. inl (same_path-is p q e)
  | false ↦ λ e. inr (λ f. let t : same_path p q ≡ true = ap (λ x. same_path p x) (sym f) ∙ same_path-itself p in absurd (cc))
] refl

-- the entries of a tree that move, put one after the other
abbrev put_moved : Path → Path → Tree → Tree → Tree
put_moved old new base tree = fold put_entry base (carried old new tree)

-- one entry more: it moves where it is at or below old
put_moved-step : (old new : Path) (base : Tree) (entry : Path × NodeKind) (tree : Tree) (b : Bool) → is_prefix old entry.0 ≡ b →
    put_moved old new base (entry ∷ tree) ≡ (if b then put_moved old new (put path_cmp (new ++ drop (length old) entry.0) entry.1 base) tree else put_moved old new base tree)
put_moved-step old new base entry tree b e = ap (λ r. fold put_entry base (map (λ e. (new ++ drop (length old) e.0, e.1)) (cond r (entry ∷ filter (λ e. is_prefix old e.0) tree) (filter (λ e. is_prefix old e.0) tree)))) e ∙ by_case b
  where
    by_case : (r : Bool) → fold put_entry base (map (λ e. (new ++ drop (length old) e.0, e.1)) (cond r (entry ∷ filter (λ e. is_prefix old e.0) tree) (filter (λ e. is_prefix old e.0) tree)))
        ≡ (if r then put_moved old new (put path_cmp (new ++ drop (length old) entry.0) entry.1 base) tree else put_moved old new base tree)
    by_case true = refl
    by_case false = refl

-- no path beside new changes
beside-new : (old new : Path) (tree base : Tree) (q : Path) → is_prefix new q ≡ false → value_at path_cmp q (put_moved old new base tree) ≡ value_at path_cmp q base
beside-new old new [] base q h = refl
beside-new old new (entry ∷ tree) base q h = elim (is_prefix old entry.0) as (λ b. is_prefix old entry.0 ≡ b → value_at path_cmp q (put_moved old new base (entry ∷ tree)) ≡ value_at path_cmp q base) [
  | true ↦ λ e. ap (value_at path_cmp q) (put_moved-step old new base entry tree true e)
      ∙ beside-new old new tree (put path_cmp (new ++ drop (length old) entry.0) entry.1 base) q h
      ∙ at-put-other (new ++ drop (length old) entry.0) q entry.1 base (λ f. let t : is_prefix new q ≡ true = ap (is_prefix new) f ∙ prefix-append new (drop (length old) entry.0) in absurd (cc))
  | false ↦ λ e. ap (value_at path_cmp q) (put_moved-step old new base entry tree false e) ∙ beside-new old new tree base q h
] refl

or_else-none : (found : Option NodeKind) → or_else found None ≡ found
or_else-none None = refl
or_else-none (Some found) = refl

-- at and below new stands what stood at and below old
at-new : (old new : Path) (tree base : Tree) (rest : Path) → is_sorted path_cmp tree ≡ true →
    value_at path_cmp (new ++ rest) (put_moved old new base tree) ≡ or_else (value_at path_cmp (old ++ rest) tree) (value_at path_cmp (new ++ rest) base)
at-new old new [] base rest s = refl
at-new old new (entry ∷ tree) base rest s = elim (is_prefix old entry.0) as (λ b. is_prefix old entry.0 ≡ b →
    value_at path_cmp (new ++ rest) (put_moved old new base (entry ∷ tree)) ≡ or_else (value_at path_cmp (old ++ rest) (entry ∷ tree)) (value_at path_cmp (new ++ rest) base)) [
      | true ↦ λ e. ap (value_at path_cmp (new ++ rest)) (put_moved-step old new base entry tree true e)
          ∙ at-new old new tree (put path_cmp (new ++ drop (length old) entry.0) entry.1 base) rest (both-true _ _ s).1
          ∙ elim (same_or_other (old ++ rest) entry.0) [
            | inl f ↦
                let r : rest ≡ drop (length old) entry.0 = append_cancel_left old rest (drop (length old) entry.0) (f ∙ prefix-splits old entry.0 e) in
                let none : value_at path_cmp (old ++ rest) tree ≡ None = ap (λ q. value_at path_cmp q tree) f ∙ below-absent entry.0 tree (both-true _ _ s).0 in
                let here : value_at path_cmp (new ++ rest) (put path_cmp (new ++ drop (length old) entry.0) entry.1 base) ≡ Some entry.1 =
                ap (λ x. value_at path_cmp (new ++ x) (put path_cmp (new ++ drop (length old) entry.0) entry.1 base)) r ∙ at-put-here (new ++ drop (length old) entry.0) entry.1 base in
                ap (λ x. or_else x (value_at path_cmp (new ++ rest) (put path_cmp (new ++ drop (length old) entry.0) entry.1 base))) none
                ∙ here
                ∙ sym (ap (λ x. or_else x (value_at path_cmp (new ++ rest) base)) (at-entry (old ++ rest) entry tree f))
            | inr g ↦
                ap (or_else (value_at path_cmp (old ++ rest) tree))
                (at-put-other (new ++ drop (length old) entry.0) (new ++ rest) entry.1 base
                (λ f. g (ap (λ x. old ++ x) (append_cancel_left new rest (drop (length old) entry.0) f) ∙ sym (prefix-splits old entry.0 e))))
                ∙ sym (ap (λ x. or_else x (value_at path_cmp (new ++ rest) base)) (at-later (old ++ rest) entry tree g))
          ]
      | false ↦ λ e. ap (value_at path_cmp (new ++ rest)) (put_moved-step old new base entry tree false e)
          ∙ at-new old new tree base rest (both-true _ _ s).1
          ∙ sym (ap (λ x. or_else x (value_at path_cmp (new ++ rest) base)) (at-later (old ++ rest) entry tree
          (λ f. let t : is_prefix old entry.0 ≡ true = ap (is_prefix old) (sym f) ∙ prefix-append old rest in absurd (cc))))
    ] refl

pub neither : (a b : Bool) → (a || b) ≡ false → (a ≡ false) × (b ≡ false)
neither true b h = absurd (cc)
neither false b h = (refl, h)

not-there : (new q : Path) (entry : Path × NodeKind) → is_below new entry.0 ≡ false → is_below new q ≡ true → q ≢ entry.0
not-there new q entry h k f = let t : is_below new entry.0 ≡ true = ap (is_below new) (sym f) ∙ k in absurd (cc)

-- a tree without nodes below a path has none there
pub none-below : (new q : Path) (tree : Tree) → list_any (λ entry. is_below new entry.0) tree ≡ false → is_below new q ≡ true → value_at path_cmp q tree ≡ None
none-below new q [] h k = refl
none-below new q (entry ∷ tree) h k =
    let both = neither _ _ h in
    at-later q entry tree (not-there new q entry both.0 k) ∙ none-below new q tree both.1 k

pub below-longer : (new : Path) (name : List ℕ) (rest : Path) → is_below new (new ++ name ∷ rest) ≡ true
below-longer new name rest =
    let l : nat_lt (length new) (length (new ++ name ∷ rest)) ≡ true = rw (length-append new (name ∷ rest)) (grind (arith, nat_tests)) in
    ap (λ b. b && nat_lt (length new) (length (new ++ name ∷ rest))) (prefix-append new (name ∷ rest)) ∙ l

-- of what stays, nothing stands at or below new
left-absent : (old new : Path) (tree : Tree) (rest : Path) → list_any (λ entry. is_below new entry.0) tree ≡ false →
    value_at path_cmp (new ++ rest) (left_behind old new tree) ≡ None
left-absent old new tree [] h =
    at-filter (λ p. not (is_prefix old p) && not (same_path p new)) (new ++ []) tree
    ∙ out (is_prefix old (new ++ [])) (same_path (new ++ []) new) (value_at path_cmp (new ++ []) tree) (ap (λ p. same_path p new) (append-nil new) ∙ same_path-itself new)
  where
    out : (a b : Bool) (found : Option NodeKind) → b ≡ true → cond (not a && not b) found None ≡ None
    out true b found e = refl
    out false true found e = refl
    out false false found e = absurd (cc)
left-absent old new tree (name ∷ rest) h =
    at-filter (λ p. not (is_prefix old p) && not (same_path p new)) (new ++ name ∷ rest) tree
    ∙ ap (λ found. cond (not (is_prefix old (new ++ name ∷ rest)) && not (same_path (new ++ name ∷ rest) new)) found None)
    (none-below new (new ++ name ∷ rest) tree h (below-longer new name rest))
    ∙ both (not (is_prefix old (new ++ name ∷ rest)) && not (same_path (new ++ name ∷ rest) new))
  where
    both : (b : Bool) → cond {A = Option NodeKind} b None None ≡ None
    both true = refl
    both false = refl

pub moved-at : (old new : Path) (tree : Tree) (rest : Path) → is_sorted path_cmp tree ≡ true → list_any (λ entry. is_below new entry.0) tree ≡ false →
    value_at path_cmp (new ++ rest) (moved old new tree) ≡ value_at path_cmp (old ++ rest) tree
unfolding moved
moved-at old new tree rest s h =
    at-new old new tree (left_behind old new tree) rest s
    ∙ ap (or_else (value_at path_cmp (old ++ rest) tree)) (left-absent old new tree rest h)
    ∙ or_else-none (value_at path_cmp (old ++ rest) tree)

pub moved-away : (old new : Path) (tree : Tree) (q : Path) → is_prefix new q ≡ false → is_prefix old q ≡ true → value_at path_cmp q (moved old new tree) ≡ None
unfolding moved
moved-away old new tree q h k =
    beside-new old new tree (left_behind old new tree) q h
    ∙ at-filter (λ p. not (is_prefix old p) && not (same_path p new)) q tree
    ∙ ap (λ b. cond (not b && not (same_path q new)) (value_at path_cmp q tree) None) k

pub moved-beside : (old new : Path) (tree : Tree) (q : Path) → is_prefix new q ≡ false → is_prefix old q ≡ false → value_at path_cmp q (moved old new tree) ≡ value_at path_cmp q tree
unfolding moved
moved-beside old new tree q h k =
    beside-new old new tree (left_behind old new tree) q h
    ∙ at-filter (λ p. not (is_prefix old p) && not (same_path p new)) q tree
    ∙ ap (λ b. cond (not b && not (same_path q new)) (value_at path_cmp q tree) None) k
    ∙ ap (λ b. cond (not b) (value_at path_cmp q tree) None)
    (same_path-other q new (λ f. let t : is_prefix new q ≡ true = ap (λ p. is_prefix new p) f ∙ ap (is_prefix new) (sym (append-nil new)) ∙ prefix-append new [] in absurd (cc)))
