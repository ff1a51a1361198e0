-- How paths stand to one another in their order.
use Rattle.std.proofs.Common.{◌≡◌, ℕ, List, [], ◌∷◌, ◌++◌, refl, sym, append_assoc}
use Rattle.std.proofs.lemmas.Cmp.{tied_itself, nat_cmp_total, nat_list_cmp_total}
use Rattle.std.proofs.lemmas.List.{append-nil}
use Rattle.std.specs.Cmp.{IsTotalOrder}
use Rattle.std.specs.Cmp.Lexicographic.{slice_cmp}
use Rattle.std.specs.Ordering.{nat_cmp, ordering_then}
use Rattle.std.specs.declared.cmp.Ordering.{Ordering}
use Rattle.std.specs.declared.cmp.Ordering.TheVariants.{Less, Equal, Greater}
use Rattle.vfs_base.specs.Path.{Path, slashed, names_cmp, path_cmp}

nothing_first : (bytes : List ℕ) → ordering_then (slice_cmp nat_cmp [] bytes) Less ≡ Less
nothing_first [] = refl
nothing_first (byte ∷ bytes) = refl

nothing_last : (bytes : List ℕ) → ordering_then (slice_cmp nat_cmp bytes []) Greater ≡ Greater
nothing_last [] = refl
nothing_last (byte ∷ bytes) = refl

-- the slash that the root prints decides nothing
pub by_slashed : (p q : Path) → ordering_then (slice_cmp nat_cmp (slashed p) (slashed q)) (names_cmp p q) ≡ path_cmp p q
by_slashed [] [] = refl
by_slashed [] (name ∷ q) = sym (nothing_first (name ++ slashed q))
by_slashed (name ∷ p) [] = sym (nothing_last (name ++ slashed p))
by_slashed (n ∷ p) (m ∷ q) = refl

slashed-append : (p q : Path) → slashed (p ++ q) ≡ slashed p ++ slashed q
slashed-append [] q = refl
slashed-append (name ∷ p) q = rw (slashed-append p q, append_assoc) refl

slice_cmp-append : {X : Type 0} {R : X → X → Ordering} → IsTotalOrder R → (xs ys zs : List X) → slice_cmp R (xs ++ ys) (xs ++ zs) ≡ slice_cmp R ys zs
slice_cmp-append o [] ys zs = refl
slice_cmp-append o (x ∷ xs) ys zs = rw (tied_itself o x) (slice_cmp-append o xs ys zs)

-- a common front decides nothing
pub path_cmp-append : (p q r : Path) → path_cmp (p ++ q) (p ++ r) ≡ path_cmp q r
path_cmp-append p q r =
    let bytes = slice_cmp-append nat_cmp_total (slashed p) (slashed q) (slashed r) in
    let names = slice_cmp-append nat_list_cmp_total p q r in
    rw (← by_slashed (p ++ q) (p ++ r), ← by_slashed q r, slashed-append p q, slashed-append p r, bytes, names) refl

-- what stands below a path comes behind it
pub below : (p : Path) (n : List ℕ) (q : Path) → path_cmp p (p ++ n ∷ q) ≡ Less
below p n q =
    let e : path_cmp (p ++ []) (p ++ n ∷ q) ≡ Less = rw (path_cmp-append p [] (n ∷ q)) (nothing_first (n ++ slashed q)) in
    rw append-nil at e

twice : (o : Ordering) → ordering_then o (ordering_then o Equal) ≡ o
twice Less = refl
twice Equal = refl
twice Greater = refl

-- entries of one folder stand in the order of their names
pub beside : (p : Path) (n m : List ℕ) → path_cmp (p ++ n ∷ []) (p ++ m ∷ []) ≡ slice_cmp nat_cmp n m
beside p n m = rw (path_cmp-append p (n ∷ []) (m ∷ []), append-nil n, append-nil m) (twice (slice_cmp nat_cmp n m))
