-- Between paths of names the printed bytes alone decide.
use Rattle.std.proofs.Common.{◌≡◌, ℕ, List, [], ◌∷◌, ◌++◌, length, nat_lt, nat_le, ◌&&◌, true, refl, sym, subst, ◌∙◌}
use Rattle.std.proofs.lemmas.Cmp.{tied_itself, lists_total, nat_list_cmp_total}
use Rattle.std.specs.Cmp.{second_so}
use Rattle.std.specs.Cmp.Lexicographic.{slice_cmp}
use Rattle.std.specs.FinMap.{nat_cmp-IsAntisymmetric, slice_cmp-IsAntisymmetric}
use Rattle.std.specs.List.{list_all}
use Rattle.std.specs.Ordering.{nat_cmp, ordering_then}
use Rattle.std.specs.declared.cmp.Ordering.{Ordering}
use Rattle.std.specs.declared.cmp.Ordering.TheVariants.{Less, Equal, Greater}
use Rattle.vfs_base.specs.Name.{IsName, slash, is_name_byte}
use Rattle.vfs_base.proofs.PathOrder.{by_slashed}
use Rattle.vfs_base.specs.Path.{Path, IsPath, slashed, printed, names_cmp, path_cmp}

abbrev Plain : List ℕ → Type 0
Plain name = list_all is_name_byte name ≡ true

plain : (name : List ℕ) → IsName name → Plain name
plain name h = second_so (nat_lt 0 (length name) && nat_le (length name) 255) (list_all is_name_byte name) h

plain_rest : (byte : ℕ) (name : List ℕ) → Plain (byte ∷ name) → Plain name
plain_rest byte name h = second_so (is_name_byte byte) (list_all is_name_byte name) h

no_slash : (byte : ℕ) (name : List ℕ) → Plain (byte ∷ name) → slash ≡ byte → ⊥
no_slash byte name h e = let plain_slash : Plain (slash ∷ name) = subst (λ b. Plain (b ∷ name)) (sym e) h in absurd (cc)

not_empty : (name more : List ℕ) → IsName name → [] ≡ name ++ more → ⊥
not_empty [] more h e = absurd (cc)
not_empty (byte ∷ name) more h e = absurd (cc)

-- a name ends at the first slash
same_name : (n m : List ℕ) (p q : Path) → Plain n → Plain m → n ++ slashed p ≡ m ++ slashed q → (n ≡ m) × (slashed p ≡ slashed q)
same_name [] [] p q a b e = (refl, e)
same_name [] (y ∷ m) [] q a b e = absurd (cc)
same_name [] (y ∷ m) (z ∷ p) q a b e = absurd (no_slash y m b (cc))
same_name (x ∷ n) [] p [] a b e = absurd (cc)
same_name (x ∷ n) [] p (z ∷ q) a b e = absurd (no_slash x n a (cc))
same_name (x ∷ n) (y ∷ m) p q a b e =
    let rest : (n ≡ m) × (slashed p ≡ slashed q) = same_name n m p q (plain_rest x n a) (plain_rest y m b) (cc) in
    let first : x ≡ y = cc in
    let name : n ≡ m = rest.0 in
    (cc, rest.1)

same_slashed : (p q : Path) → IsPath p → IsPath q → slashed p ≡ slashed q → p ≡ q
same_slashed [] [] a b e = refl
same_slashed [] (m ∷ q) a b e = absurd (cc)
same_slashed (n ∷ p) [] a b e = absurd (cc)
same_slashed (n ∷ p) (m ∷ q) a b e =
    let (name, rest) = same_name n m p q (plain n a.0) (plain m b.0) (cc) in
    let names : p ≡ q = same_slashed p q a.1 b.1 rest in
    cc

same_printed : (p q : Path) → IsPath p → IsPath q → printed p ≡ printed q → p ≡ q
same_printed [] [] a b e = refl
same_printed [] (m ∷ q) a b e = absurd (not_empty m (slashed q) b.0 (cc))
same_printed (n ∷ p) [] a b e = absurd (not_empty n (slashed p) a.0 (cc))
same_printed (n ∷ p) (m ∷ q) a b e = same_slashed (n ∷ p) (m ∷ q) a b e

decided : (o r : Ordering) → (o ≡ Equal → r ≡ Equal) → ordering_then o r ≡ o
decided Less r h = refl
decided Equal r h = h refl
decided Greater r h = refl

level : (p q : Path) → p ≡ q → names_cmp p q ≡ Equal
level p q same = subst (λ w. names_cmp p w ≡ Equal) same (tied_itself (lists_total nat_list_cmp_total) p)

same_bytes : (xs ys : List ℕ) → slice_cmp nat_cmp xs ys ≡ Equal → xs ≡ ys
same_bytes = slice_cmp-IsAntisymmetric nat_cmp-IsAntisymmetric

-- the order of paths is that of their printed bytes
pub printed_alone : (p q : Path) → IsPath p → IsPath q → path_cmp p q ≡ slice_cmp nat_cmp (printed p) (printed q)
printed_alone p q a b = decided _ _ (λ e. level p q (same_printed p q a b (same_bytes (printed p) (printed q) e)))

-- the same, without the slash that the root prints
pub slashed_alone : (p q : Path) → IsPath p → IsPath q → path_cmp p q ≡ slice_cmp nat_cmp (slashed p) (slashed q)
slashed_alone p q a b =
    sym (by_slashed p q)
    ∙ decided _ _ (λ e. level p q (same_slashed p q a b (same_bytes (slashed p) (slashed q) e)))
