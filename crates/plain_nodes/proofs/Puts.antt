-- Putting an entry at its place.
use Rattle.std.proofs.Common.{◌≡◌, ℕ, zero, suc, ◌+◌, ◌<◌, List, [], ◌∷◌, ◌++◌, length, take, drop, refl, ap, sym, ◌∙◌, arith, append_assoc}
use Rattle.std.specs.Prelude.{true, false, not, slice_index_or, slice_set}
use Rattle.std.specs.List.{insert}
use Rattle.std.specs.FinMap.Entries.{put, by_order}
use Rattle.std.specs.Ordering.{is_gt, is_eq}
use Rattle.std.specs.declared.cmp.Ordering.TheVariants.{Less, Equal, Greater}
use Rattle.std.proofs.lemmas.List.{drop_more, take_more}
use Rattle.vfs_base.specs.Path.{Path, path_cmp}
use Rattle.vfs_base.specs.PathLaws.{path_cmp_exact, path_ties}
use Rattle.vfs_model.specs.Namespace.{same_path}
use Rattle.plain_nodes.specs.Puts.{begins_with, comes_first}

-- an entry whose path comes later is put behind the first one
put_behind : {X : Type 0} (path : Path) (value : X) (entry : Path × X) (entries : List (Path × X)) →
    path_cmp path entry.0 ≡ Greater → put path_cmp path value (entry ∷ entries) ≡ entry ∷ put path_cmp path value entries
put_behind path value entry entries e =
    ap (λ o. by_order o ((path, value) ∷ entry ∷ entries) ((entry.0, value) ∷ entries) (entry ∷ put path_cmp path value entries)) e

-- one entry further
pub put_on : {X : Type 0} (path : Path) (value : X) (entries : List (Path × X)) (i : ℕ) (x : Path × X) →
    i < length entries → x ≡ slice_index_or entries i x → path_cmp path x.0 ≡ Greater →
    take (i + 1) entries ++ put path_cmp path value (drop (i + 1) entries)
    ≡ take i entries ++ put path_cmp path value (drop i entries)
put_on path value entries i x h e g =
    ap (λ front. front ++ put path_cmp path value (drop (i + 1) entries)) (take_more entries i x h)
    ∙ ap (λ y. (take i entries ++ y ∷ []) ++ put path_cmp path value (drop (i + 1) entries)) (sym e)
    ∙ append_assoc (take i entries) (x ∷ []) (put path_cmp path value (drop (i + 1) entries))
    ∙ ap (λ rest. take i entries ++ rest) (sym (put_behind path value x (drop (i + 1) entries) g))
    ∙ ap (λ y. take i entries ++ put path_cmp path value (y ∷ drop (i + 1) entries)) e
    ∙ ap (λ rest. take i entries ++ put path_cmp path value rest) (sym (drop_more entries i x h))

-- the entries from a place on come after a path that is not greater than the first of them
pub comes_at : {X : Type 0} (path : Path) (entries : List (Path × X)) (i : ℕ) (x : Path × X) →
    i < length entries → x ≡ slice_index_or entries i x → is_gt (path_cmp path x.0) ≡ false →
    comes_first path (drop i entries) ≡ true
comes_at path entries i x h e g =
    ap (comes_first path) (drop_more entries i x h)
    ∙ ap (λ y. not (is_gt (path_cmp path y.0))) (sym e)
    ∙ ap not g

-- the entries from a place on begin with the one that stands there
pub begins_at : {X : Type 0} (path : Path) (entries : List (Path × X)) (i : ℕ) (x : Path × X) →
    i < length entries → x ≡ slice_index_or entries i x →
    begins_with path (drop i entries) ≡ same_path path x.0
begins_at path entries i x h e =
    ap (begins_with path) (drop_more entries i x h)
    ∙ ap (λ y. same_path path y.0) (sym e)

put_first : {X : Type 0} (path : Path) (value : X) (entries : List (Path × X)) →
    comes_first path entries ≡ true → begins_with path entries ≡ false →
    put path_cmp path value entries ≡ (path, value) ∷ entries
put_first path value [] c b = refl
put_first path value (entry ∷ entries) c b =
    elim (path_cmp path entry.0) as (λ o. not (is_gt o) ≡ true → is_eq o ≡ false →
    by_order o ((path, value) ∷ entry ∷ entries) ((entry.0, value) ∷ entries) (entry ∷ put path_cmp path value entries)
    ≡ (path, value) ∷ entry ∷ entries) [
      | Less ↦ λ c b. refl
      | Equal ↦ λ c b. absurd (cc (b))
      | Greater ↦ λ c b. absurd (cc (c))
    ] c (sym (path_ties path entry.0) ∙ b)

-- an entry that comes first is put in front of the others
pub put_as_insert : {X : Type 0} (path : Path) (value : X) (entries : List (Path × X)) (i : ℕ) →
    comes_first path (drop i entries) ≡ true → begins_with path (drop i entries) ≡ false →
    take i entries ++ put path_cmp path value (drop i entries) ≡ insert entries i (path, value)
put_as_insert path value entries i c b = ap (λ rest. take i entries ++ rest) (put_first path value (drop i entries) c b)

set_in_parts : {X : Type 0} (xs : List X) (i : ℕ) (y : X) → i < length xs →
    slice_set xs i y ≡ take i xs ++ y ∷ drop 1 (drop i xs)
set_in_parts [] i y h = absurd (omega (arith, h))
set_in_parts (x ∷ xs) zero y h = refl
set_in_parts (x ∷ xs) (suc i) y h = ap (λ rest. x ∷ rest) (set_in_parts xs i y (omega (arith, h)))

put_over : {X : Type 0} (path : Path) (value : X) (entries : List (Path × X)) →
    begins_with path entries ≡ true →
    put path_cmp path value entries ≡ (path, value) ∷ drop 1 entries
put_over path value [] b = absurd (cc (b))
put_over path value (entry ∷ entries) b =
    elim (path_cmp path entry.0) as (λ o. path_cmp path entry.0 ≡ o → is_eq o ≡ true →
    by_order o ((path, value) ∷ entry ∷ entries) ((entry.0, value) ∷ entries) (entry ∷ put path_cmp path value entries)
    ≡ (path, value) ∷ entries) [
      | Less ↦ λ o b. absurd (cc (b))
      | Equal ↦ λ o b. ap (λ p. (p, value) ∷ entries) (sym (path_cmp_exact path entry.0 o))
      | Greater ↦ λ o b. absurd (cc (b))
    ] refl (sym (path_ties path entry.0) ∙ b)

begins_within : {X : Type 0} (path : Path) (entries : List (Path × X)) (i : ℕ) →
    begins_with path (drop i entries) ≡ true → i < length entries
begins_within path [] zero b = absurd (cc (b))
begins_within path [] (suc i) b = absurd (cc (b))
begins_within path (entry ∷ entries) zero b = omega arith
begins_within path (entry ∷ entries) (suc i) b = omega (arith, begins_within path entries i b)

-- an entry whose path is there takes that one's place
pub put_as_set : {X : Type 0} (path : Path) (value : X) (entries : List (Path × X)) (i : ℕ) →
    begins_with path (drop i entries) ≡ true →
    take i entries ++ put path_cmp path value (drop i entries) ≡ slice_set entries i (path, value)
put_as_set path value entries i b =
    ap (λ rest. take i entries ++ rest) (put_over path value (drop i entries) b)
    ∙ sym (set_in_parts entries i (path, value) (begins_within path entries i b))
