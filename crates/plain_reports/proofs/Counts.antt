-- Counts of keys: no count passes the number of keys that are counted.
use Rattle.std.proofs.Common.{◌≡◌, ℕ, ◌+◌, ◌≤◌, List, [], ◌∷◌, refl, ap, subst, arith, All, cond}
use Rattle.std.specs.Prelude.{Option, Some, None, unwrap_or, IfSome}
use Rattle.std.specs.BTreeMap.{is_at}
use Rattle.std.specs.Map.{lookup, values_of}
use Rattle.std.specs.FinMap.Entries.{find}
use Rattle.std.specs.Ordering.{is_eq}
use Rattle.std.specs.declared.cmp.Ordering.{Ordering}
use Rattle.std.proofs.lemmas.List.Elements.{All-weaker}
use Rattle.std.proofs.lemmas.Map.Views.{All-values-insert_entry, IfSome-lookup_from_All}
use Rattle.vfs_base.proofs.PathMaps.{insert_entry-put}
use Rattle.vfs_model.specs.Holders.{count_one}

-- what a look-up finds at a key
pub lookup_finds : {K X : Type 0} (R : K → K → Ordering) (key : K) (es : List (K × X)) → lookup (is_at (R key)) es ≡ find R key es
lookup_finds R key [] = refl
lookup_finds R key (e ∷ es) = ap (cond (is_eq (R key e.0)) (Some e.1)) (lookup_finds R key es)

pub ruleset counting = (insert_entry-put, lookup_finds)

one_more_fits : (found : Option ℕ) (rest size : ℕ) → IfSome found (λ count. count + (rest + 1) ≤ size) → rest + 1 ≤ size →
    unwrap_or found 0 + 1 + rest ≤ size
one_more_fits None rest size h r = omega (arith, r)
one_more_fits (Some count) rest size h r = omega (arith, h)

-- each count leaves room for the keys that are still to be counted
pub counts_fit : {K : Type 0} (R : K → K → Ordering) (es : List (K × ℕ)) (key : K) (rest size : ℕ) → rest + 1 ≤ size →
    All (λ count. count + (rest + 1) ≤ size) (values_of es) → All (λ count. count + rest ≤ size) (values_of (count_one R es key))
counts_fit R es key rest size r h =
    let before = unwrap_or (find R key es) 0 in
    let found = IfSome-lookup_from_All (λ count. count + (rest + 1) ≤ size) (is_at (R key)) es h in
    let most : before + 1 + rest ≤ size = one_more_fits (find R key es) rest size (subst (λ found. IfSome found (λ count. count + (rest + 1) ≤ size)) (lookup_finds R key es) found) r in
    let weaker = All-weaker (λ count. count + (rest + 1) ≤ size) (λ count. count + rest ≤ size) (λ count h. omega (arith, h)) (values_of es) h in
    subst (λ made. All (λ count. count + rest ≤ size) (values_of made)) (insert_entry-put R es key (before + 1))
    (All-values-insert_entry R key (before + 1) (λ count. count + rest ≤ size) es weaker most)
