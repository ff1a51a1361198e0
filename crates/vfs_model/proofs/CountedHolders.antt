-- Keys that are counted one after the other: how often each stands among them.
use Rattle.std.specs.Prelude.{◌≡◌, ℕ, ◌+◌, ◌==◌, ◌<◌, Bool, true, false, T, Some, unwrap_or, List, [], ◌∷◌, ◌++◌, cond, flat_map, fold, map, refl}
use Rattle.std.specs.Cmp.{IsTotalOrder, unsigned_tied}
use Rattle.std.specs.FinMap.Entries.{find as value_at, find-put, is_sorted, is_sorted-put}
use Rattle.std.specs.List.{count_by}
use Rattle.std.specs.Ordering.{eq_by_cmp, nat_cmp}
use Rattle.std.specs.declared.cmp.Ordering.{Ordering}
use Rattle.std.proofs.Common.{sym, ◌∙◌, ap, arith}
use Rattle.std.proofs.lemmas.Bool.Decides.{nat_tests}
use Rattle.std.proofs.lemmas.Cmp.{nat_cmp_total}
use Rattle.std.proofs.lemmas.List.Sums.{sum_by-append, sum_by-cons}
use Rattle.vfs_base.specs.Path.{Path, path_cmp}
use Rattle.vfs_base.specs.PathLaws.{path_cmp_total, path_ties}
use Rattle.vfs_model.proofs.Trees.{same_path-is}
use Rattle.vfs_model.specs.HolderLaws.{CountsHolders, CountsKeys, holders_at}
use Rattle.vfs_model.specs.Holders.{count_one, counted, holder_paths, nameless_rows, reference_paths}
use Rattle.vfs_model.specs.Namespace.{all_mounts, same_path}
use Rattle.vfs_model.specs.declared.namespace.Mount.{Mount}
use Rattle.vfs_model.specs.declared.namespace.Namespace.{Namespace}

-- an order that tells any two keys apart
pub record TellsApart {K : Type 0} (R : K → K → Ordering) : Type 0 where
  pub total : IsTotalOrder R
  pub exact : (a b : K) → eq_by_cmp R a b ≡ true → a ≡ b

one-more : {K : Type 0} (R : K → K → Ordering) (o : TellsApart R) (q key : K) (counts : List (K × ℕ)) (t : Bool) → eq_by_cmp R q key ≡ t →
    unwrap_or (value_at R q (count_one R counts key)) 0 ≡ unwrap_or (value_at R q counts) 0 + cond t 1 0
one-more R o q key counts true e =
    ap (λ x. unwrap_or x 0) (find-put R o.total q key (unwrap_or (value_at R key counts) 0 + 1) counts
    ∙ ap (λ b. cond b (Some (unwrap_or (value_at R key counts) 0 + 1)) (value_at R q counts)) e)
    ∙ ap (λ k. unwrap_or (value_at R k counts) 0 + 1) (sym (o.exact q key e))
one-more R o q key counts false e =
    ap (λ x. unwrap_or x 0) (find-put R o.total q key (unwrap_or (value_at R key counts) 0 + 1) counts
    ∙ ap (λ b. cond b (Some (unwrap_or (value_at R key counts) 0 + 1)) (value_at R q counts)) e)
    ∙ omega arith

counted-more : {K : Type 0} (R : K → K → Ordering) (o : TellsApart R) (q : K) (keys : List K) (counts : List (K × ℕ)) →
    unwrap_or (value_at R q (fold (count_one R) counts keys)) 0 ≡ unwrap_or (value_at R q counts) 0 + count_by (eq_by_cmp R q) keys
counted-more R o q [] counts = omega arith
counted-more R o q (key ∷ keys) counts =
    let later = counted-more R o q keys (count_one R counts key) in
    let first = one-more R o q key counts (eq_by_cmp R q key) refl in
    let more = sum_by-cons (λ x. cond (eq_by_cmp R q x) 1 0) key keys in omega (arith, later, first, more)

-- no key has a count of none
abbrev NoneEmpty : {K : Type 0} → (K → K → Ordering) → List (K × ℕ) → Type 0
NoneEmpty {K} R counts = (q : K) (count : ℕ) → value_at R q counts ≡ Some count → 0 < count

none-empty-more : {K : Type 0} (R : K → K → Ordering) (o : TellsApart R) (key : K) (counts : List (K × ℕ)) → NoneEmpty R counts →
    NoneEmpty R (count_one R counts key)
none-empty-more R o key counts h q count e = by (eq_by_cmp R q key) (sym (find-put R o.total q key (unwrap_or (value_at R key counts) 0 + 1) counts) ∙ e)
  where
    by : (t : Bool) → cond t (Some (unwrap_or (value_at R key counts) 0 + 1)) (value_at R q counts) ≡ Some count → 0 < count
    by true f = let g : unwrap_or (value_at R key counts) 0 + 1 ≡ count = cc in omega (arith, g)
    by false f = h q count f

none-empty : {K : Type 0} (R : K → K → Ordering) (o : TellsApart R) (keys : List K) (counts : List (K × ℕ)) → NoneEmpty R counts →
    NoneEmpty R (fold (count_one R) counts keys)
none-empty R o [] counts h = h
none-empty R o (key ∷ keys) counts h = none-empty R o keys (count_one R counts key) (none-empty-more R o key counts h)

counts-rise : {K : Type 0} (R : K → K → Ordering) (o : TellsApart R) (keys : List K) (counts : List (K × ℕ)) → T (is_sorted R counts) →
    T (is_sorted R (fold (count_one R) counts keys))
counts-rise R o [] counts h = h
counts-rise R o (key ∷ keys) counts h =
    counts-rise R o keys (count_one R counts key) (is_sorted-put R o.total key (unwrap_or (value_at R key counts) 0 + 1) counts h)

count-same : {K : Type 0} (p q : K → Bool) → ((x : K) → p x ≡ q x) → (keys : List K) → count_by p keys ≡ count_by q keys
count-same p q h [] = refl
count-same p q h (key ∷ keys) =
    let e = sum_by-cons (λ x. cond (p x) 1 0) key keys in let f = sum_by-cons (λ x. cond (q x) 1 0) key keys in
    let first = ap {B = ℕ} (λ b. cond b 1 0) (h key) in let rest = count-same p q h keys in omega (arith, e, f, first, rest)

count-mapped : {K X : Type 0} (p : K → Bool) (f : X → K) (xs : List X) → count_by p (map f xs) ≡ count_by (λ x. p (f x)) xs
count-mapped p f [] = refl
count-mapped p f (x ∷ xs) =
    let e = sum_by-cons (λ y. cond (p y) 1 0) (f x) (map f xs) in let g = sum_by-cons (λ y. cond (p (f y)) 1 0) x xs in
    let rest = count-mapped p f xs in omega (arith, e, g, rest)

counts-keys : {K : Type 0} (R : K → K → Ordering) (o : TellsApart R) (keys : List K) (times : K → ℕ) →
    ((q : K) → count_by (eq_by_cmp R q) keys ≡ times q) → CountsKeys times (value_at R) (counted R keys)
counts-keys R o keys times h = record {
  counts = λ q. let none : unwrap_or (value_at {X = ℕ} R q []) 0 ≡ 0 = refl in let all = counted-more R o q keys [] in let is = h q in omega (arith, none, all, is);
  held = none-empty R o keys [] (λ q count e. absurd (cc));
}

paths-apart : TellsApart path_cmp
paths-apart = record { total = path_cmp_total; exact = λ a b e. same_path-is a b (path_ties a b ∙ e) }

same-row : (a b : ℕ) → (a == b) ≡ true → a ≡ b
same-row a b e = grind (arith, nat_tests)

rows-apart : TellsApart nat_cmp
rows-apart = record { total = nat_cmp_total; exact = λ a b e. same-row a b (sym (unsigned_tied a b) ∙ e) }

path-times : (n : Namespace) (path : Path) → count_by (eq_by_cmp path_cmp path) (holder_paths n) ≡ holders_at n path
path-times n path =
    let referred = flat_map (reference_paths n) n.references in
    let points = map (λ (mount : Mount). mount.point) (all_mounts n) in
    let same = count-same (eq_by_cmp path_cmp path) (same_path path) (λ other. sym (path_ties path other)) (holder_paths n) in
    let all : count_by (same_path path) (holder_paths n) ≡ count_by (same_path path) (referred ++ n.working_directories) + count_by (same_path path) points =
    sum_by-append (λ other. cond (same_path path other) 1 0) (referred ++ n.working_directories) points in
    let rest : count_by (same_path path) (referred ++ n.working_directories) ≡ count_by (same_path path) referred + count_by (same_path path) n.working_directories =
    sum_by-append (λ other. cond (same_path path other) 1 0) referred n.working_directories in
    let last : count_by (same_path path) points ≡ count_by (λ mount. same_path path mount.point) (all_mounts n) =
    count-mapped (same_path path) (λ (mount : Mount). mount.point) (all_mounts n) in
    omega (arith, same, all, rest, last)

pub holders-are-counted : (n : Namespace) → CountsHolders n
holders-are-counted n = record {
  paths = counts-keys path_cmp paths-apart (holder_paths n) (holders_at n) (path-times n);
  rows = counts-keys nat_cmp rows-apart (nameless_rows n) (λ row. count_by (λ other. row == other) (nameless_rows n))
      (λ row. count-same (eq_by_cmp nat_cmp row) (λ other. row == other) (λ other. unsigned_tied row other) (nameless_rows n));
  paths_rise = counts-rise path_cmp paths-apart (holder_paths n) [] tt;
  rows_rise = counts-rise nat_cmp rows-apart (nameless_rows n) [] tt;
}
