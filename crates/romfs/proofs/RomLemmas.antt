-- What a manifest means is a rom: each line keeps what holds of one.
use Rattle.std.proofs.Common.{◌≡◌, ℕ, zero, suc, ◌+◌, ◌≤◌, true, false, ◌&&◌, cond, nat_lt, is_some, is_none, Option, Some, None, IfSome, List, [], ◌∷◌, ◌++◌, length, refl, sym, ap, ◌∙◌, subst, arith, ltb-true}
use Rattle.std.specs.BTreeMap.{insert_entry, is_at}
use Rattle.std.specs.Cmp.{IsTotalOrder}
use Rattle.std.specs.FinMap.Entries.{find, find-put}
use Rattle.std.specs.List.Sorted.{IsStrictlySortedBy}
use Rattle.std.specs.Map.{keys_of, lookup, set_value}
use Rattle.std.specs.Option.{option_flatten}
use Rattle.std.specs.Ordering.{eq_by_cmp, match_ordering, ordering_reverse, is_eq}
use Rattle.std.specs.declared.cmp.Ordering.{Ordering}
use Rattle.std.specs.declared.cmp.Ordering.TheVariants.{Less, Equal, Greater}
use Rattle.std.proofs.lemmas.Bool.{and_parts, false_from_ne_true, both_ways}
use Rattle.std.proofs.lemmas.Cmp.{eq_by_cmp_equiv}
use Rattle.std.proofs.lemmas.List.Elements.{All-from_recursion, recursion_from_All, All-weaker}
use Rattle.std.proofs.lemmas.Map.{lookup-set_value, keys-set_value, length-set_value}
use Rattle.std.proofs.lemmas.Map.Views.{All-keys-insert_entry, All-values-insert_entry, All-values-set_value, IfSome-lookup_from_All, tells_apart}
use Rattle.std.proofs.lemmas.Option.{cond_some, option_and_then_some, same_Some}
use Rattle.vfs_base.proofs.PathMaps.{insert_entry-put}
use Rattle.vfs_base.specs.Path.{Path, path_cmp}
use Rattle.vfs_base.specs.declared.limits.TheConstants.{NODES}
use Rattle.vfs_base.specs.PathLaws.{path_cmp_total, path_cmp_exact}
use Rattle.hex.specs.Hex.{IsBytes}
use Rattle.vfs_model.specs.Manifest.{with_item, with_more}
use Rattle.vfs_model.specs.NormalPath.{parent_of}
use Rattle.vfs_model.specs.Rom.{RomItems, IsRom, IsRomPath, item_at, file_at, is_rom_folder}

module _ {K X : Type 0} {R : K → K → Ordering} (o : IsTotalOrder R) where
  sorted-insert_entry : (k : K) (v : X) (es : List (K × X)) → IsStrictlySortedBy R (keys_of es) → IsStrictlySortedBy R (keys_of (insert_entry R es k v))
  unfolding IsStrictlySortedBy
  sorted-insert_entry k v [] h = (tt, tt)
  sorted-insert_entry k v (e ∷ es) h =
      let others = All-from_recursion (λ y. R e.0 y ≡ Less) (keys_of es) h.0 in
      elim (R k e.0) as (λ r. R k e.0 ≡ r → IsStrictlySortedBy R (keys_of (match_ordering r ((k, v) ∷ e ∷ es) ((e.0, v) ∷ es) (e ∷ insert_entry R es k v)))) [
        | Less ↦ λ p. ((p, recursion_from_All (λ y. R k y ≡ Less) (keys_of es) (All-weaker (λ y. R e.0 y ≡ Less) (λ y. R k y ≡ Less) (λ y. o.trans k e.0 y p) (keys_of es) others)), h)
        | Equal ↦ λ p. h
        | Greater ↦ λ p.
            let below : R e.0 k ≡ Less = o.antisymm e.0 k ∙ ap ordering_reverse p in
            (recursion_from_All (λ y. R e.0 y ≡ Less) (keys_of (insert_entry R es k v)) (All-keys-insert_entry R k v (λ y. R e.0 y ≡ Less) es others below), sorted-insert_entry k v es h.1)
      ] refl

  length-insert_entry : (k : K) (v : X) (es : List (K × X)) → length (insert_entry R es k v) ≤ length es + 1
  length-insert_entry k v [] = omega arith
  length-insert_entry k v (e ∷ es) =
      elim (R k e.0) as (λ r. length (match_ordering r ((k, v) ∷ e ∷ es) ((e.0, v) ∷ es) (e ∷ insert_entry R es k v)) ≤ length (e ∷ es) + 1) [
        | Less ↦ omega arith
        | Equal ↦ omega arith
        | Greater ↦ omega (arith, length-insert_entry k v es)
      ]

  find-lookup : (q : K) (es : List (K × X)) → find R q es ≡ lookup (is_at (R q)) es
  find-lookup q [] = refl
  find-lookup q (e ∷ es) = ap (cond (is_eq (R q e.0)) (Some e.1)) (find-lookup q es)

  lookup-insert_entry : (k q : K) (v : X) (es : List (K × X)) → lookup (is_at (R q)) (insert_entry R es k v) ≡ cond (eq_by_cmp R q k) (Some v) (lookup (is_at (R q)) es)
  lookup-insert_entry k q v es =
      sym (find-lookup q (insert_entry R es k v)) ∙ ap (find R q) (insert_entry-put R es k v) ∙ find-put R o q k v es ∙ ap (cond (eq_by_cmp R q k) (Some v)) (find-lookup q es)

-- a folder stays one when an item comes
folder-insert : (items : RomItems) (path : Path) (bytes : Option (List ℕ)) (q : Path) → item_at items path ≡ None
    → is_rom_folder items q ≡ true → is_rom_folder (insert_entry path_cmp items path bytes) q ≡ true
folder-insert items path bytes [] none h = refl
folder-insert items path bytes (name ∷ names) none h =
    let q : Path = name ∷ names in
    let some = (and_parts (is_some (item_at items q)) (is_none (file_at items q)) h).0 in
    let apart : eq_by_cmp path_cmp q path ≡ false = false_from_ne_true (eq_by_cmp path_cmp q path) (λ e.
    let same : q ≡ path = tells_apart path_cmp_exact q path e in
    both_ways (is_some (item_at items q)) (ap (λ p. is_some (item_at items p)) same ∙ ap is_some none) some) in
    let kept : item_at (insert_entry path_cmp items path bytes) q ≡ item_at items q =
    lookup-insert_entry path_cmp_total path q bytes items ∙ ap (λ b. cond b (Some bytes) (item_at items q)) apart in
    rw kept h

none_there : {A : Type 0} (o : Option A) → is_none o ≡ true → o ≡ None
none_there None h = refl
none_there (Some x) h = absurd (cc)

-- a new item keeps a rom
pub IsRom-with_item : (items new : RomItems) (path : Path) (bytes : Option (List ℕ)) → IsRom items → IsRomPath path → IfSome bytes IsBytes
    → with_item items path bytes ≡ Some new → IsRom new
IsRom-with_item items new path bytes rom form fits is =
    let (test, inserted) = cond_some _ _ new is in
    let (room, folder) = and_parts (nat_lt (length items) NODES && is_none (item_at items path)) (is_rom_folder items (parent_of path)) test in
    let (few, none) = and_parts (nat_lt (length items) NODES) (is_none (item_at items path)) room in
    let absent : item_at items path ≡ None = none_there (item_at items path) none in
    let next = insert_entry path_cmp items path bytes in
    subst IsRom inserted (record {
      ordered = sorted-insert_entry path_cmp_total path bytes items rom.ordered;
      few = omega (arith, length-insert_entry path_cmp_total path bytes items, ltb-true (length items) NODES few);
      paths = All-keys-insert_entry path_cmp path bytes IsRomPath items rom.paths form;
      parents = All-keys-insert_entry path_cmp path bytes (λ p. is_rom_folder next (parent_of p) ≡ true) items
          (All-weaker (λ p. is_rom_folder items (parent_of p) ≡ true) (λ p. is_rom_folder next (parent_of p) ≡ true) (λ p. folder-insert items path bytes (parent_of p) absent) (keys_of items) rom.parents)
          (folder-insert items path bytes (parent_of path) absent folder);
      bytes = All-values-insert_entry path_cmp path bytes (λ b. IfSome b IsBytes) items rom.bytes fits;
    })

-- what a file's look-up finds
file_there : (o : Option (Option (List ℕ))) (bytes : List ℕ) → option_flatten o ≡ Some bytes → o ≡ Some (Some bytes)
file_there None bytes h = absurd (cc)
file_there (Some None) bytes h = absurd (cc)
file_there (Some (Some b)) bytes h = ap Some h

module _ (items : RomItems) (path : Path) (bytes : List ℕ) (there : item_at items path ≡ Some (Some bytes)) (more : Option (List ℕ)) where
  lookup-set : (q : Path) → item_at (set_value (is_at (path_cmp path)) items more) q ≡ cond (is_at (path_cmp path) q) (Some more) (item_at items q)
  lookup-set q = lookup-set_value (eq_by_cmp_equiv path_cmp_total) (is_at (path_cmp path)) ((eq_by_cmp_equiv path_cmp_total).congr path) q more items (ap is_some there)

  -- a folder stays one when a file changes
  folder-set : (q : Path) → is_rom_folder items q ≡ true → is_rom_folder (set_value (is_at (path_cmp path)) items more) q ≡ true
  folder-set [] h = refl
  folder-set (name ∷ names) h =
      let q : Path = name ∷ names in
      let folder = (and_parts (is_some (item_at items q)) (is_none (file_at items q)) h).1 in
      let apart : is_at (path_cmp path) q ≡ false = false_from_ne_true (is_at (path_cmp path) q) (λ e.
      let same : path ≡ q = tells_apart path_cmp_exact path q e in
      both_ways (is_none (file_at items q)) (ap (λ p. is_none (file_at items p)) (sym same) ∙ ap (λ o. is_none (option_flatten o)) there) folder) in
      let kept : item_at (set_value (is_at (path_cmp path)) items more) q ≡ item_at items q = lookup-set q ∙ ap (λ b. cond b (Some more) (item_at items q)) apart in
      rw kept h

IsBytes-append : (xs ys : List ℕ) → IsBytes xs → IsBytes ys → IsBytes (xs ++ ys)
IsBytes-append [] ys a b i = b i
IsBytes-append (x ∷ xs) ys a b zero = a 0
IsBytes-append (x ∷ xs) ys a b (suc i) = IsBytes-append xs ys (λ k. a (suc k)) b i

-- a file that goes on keeps a rom
pub IsRom-with_more : (items new : RomItems) (path : Path) (more : List ℕ) → IsRom items → IsBytes more → with_more items path more ≡ Some new → IsRom new
IsRom-with_more items new path more rom fits is =
    option_and_then_some _ (file_at items path) new is (λ bytes file changed.
    let there = file_there (item_at items path) bytes file in
    let next = set_value (is_at (path_cmp path)) items (Some (bytes ++ more)) in
    let before : IsBytes bytes = subst (λ o. IfSome o (λ b. IfSome b IsBytes)) there (IfSome-lookup_from_All (λ b. IfSome b IsBytes) (is_at (path_cmp path)) items rom.bytes) in
    let keys : keys_of next ≡ keys_of items = keys-set_value (is_at (path_cmp path)) items (Some (bytes ++ more)) in
    subst IsRom (same_Some next new changed) (record {
      ordered = rw keys rom.ordered;
      few = rw (length-set_value (is_at (path_cmp path)) items (Some (bytes ++ more))) rom.few;
      paths = rw keys rom.paths;
      parents = rw keys (All-weaker (λ p. is_rom_folder items (parent_of p) ≡ true) (λ p. is_rom_folder next (parent_of p) ≡ true) (λ p. folder-set items path bytes there (Some (bytes ++ more)) (parent_of p)) (keys_of items) rom.parents);
      bytes = All-values-set_value (is_at (path_cmp path)) (λ b. IfSome b IsBytes) items (Some (bytes ++ more)) rom.bytes (IsBytes-append bytes more before fits);
    }))
