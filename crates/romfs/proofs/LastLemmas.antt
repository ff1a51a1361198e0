-- An item that comes behind all others.
use Rattle.std.proofs.Common.{◌≡◌, ℕ, suc, ◌-◌, ◌<◌, true, cond, nat_lt, Option, Some, None, IfSome, List, [], ◌∷◌, ◌++◌, length, drop, get_or, map, All, refl, sym, ap, ◌∙◌, subst, arith, length-append, lt-ltb}
use Rattle.std.specs.BTreeMap.{insert_entry, is_at}
use Rattle.std.specs.List.{AllByRecursion}
use Rattle.std.specs.List.Sorted.{IsStrictlySortedBy}
use Rattle.std.specs.Map.{keys_of, set_value}
use Rattle.std.specs.Ordering.{is_eq, ordering_reverse}
use Rattle.std.specs.declared.cmp.Ordering.TheVariants.{Less, Greater}
use Rattle.std.proofs.Math.Seq.{split_at}
use Rattle.std.proofs.lemmas.Cmp.{tied_itself}
use Rattle.std.proofs.lemmas.List.{drop_all}
use Rattle.std.proofs.lemmas.List.Elements.{recursion_from_All}
use Rattle.std.proofs.lemmas.Map.{lookup-none}
use Rattle.std.proofs.lemmas.Map.Entries.{none_below_head}
use Rattle.hex.specs.Hex.{IsBytes}
use Rattle.vfs_base.proofs.PathOrder.{below}
use Rattle.vfs_base.specs.Path.{Path, path_cmp}
use Rattle.vfs_base.specs.PathLaws.{path_cmp_total}
use Rattle.vfs_base.specs.declared.limits.TheConstants.{NODES}
use Rattle.vfs_model.specs.Manifest.{with_item, with_more}
use Rattle.vfs_model.specs.NormalPath.{parent_of}
use Rattle.vfs_model.specs.Rom.{RomItems, IsRom, IsRomPath, item_at, is_rom_folder}

-- the path comes behind those of the items
abbrev pub IsLast : RomItems → Path → Type 0
IsLast items path = AllByRecursion (λ item. path_cmp path item.0 ≡ Greater) items

-- the items with one behind them
abbrev pub and_last : RomItems → Path → Option (List ℕ) → RomItems
and_last items path bytes = items ++ (path, bytes) ∷ []

pub item_at-behind : (items : RomItems) (path : Path) → IsLast items path → item_at items path ≡ None
item_at-behind [] path h = refl
item_at-behind (item ∷ items) path h = rw h.0 (item_at-behind items path h.1)

pub insert-behind : (items : RomItems) (path : Path) (bytes : Option (List ℕ)) → IsLast items path → insert_entry path_cmp items path bytes ≡ and_last items path bytes
insert-behind [] path bytes h = refl
insert-behind (item ∷ items) path bytes h = rw h.0 (ap (λ rest. item ∷ rest) (insert-behind items path bytes h.1))

pub item_at-last : (items : RomItems) (path : Path) (bytes : Option (List ℕ)) → IsLast items path → item_at (and_last items path bytes) path ≡ Some bytes
item_at-last [] path bytes h = rw (tied_itself path_cmp_total path) refl
item_at-last (item ∷ items) path bytes h = rw h.0 (item_at-last items path bytes h.1)

pub set_value-last : (items : RomItems) (path : Path) (bytes more : Option (List ℕ)) → IsLast items path
    → set_value (is_at (path_cmp path)) (and_last items path bytes) more ≡ and_last items path more
set_value-last [] path bytes more h = rw (tied_itself path_cmp_total path) refl
set_value-last (item ∷ items) path bytes more h = rw h.0 (ap (λ rest. item ∷ rest) (set_value-last items path bytes more h.1))

-- the bytes of the last file go on
pub with_more-last : (items : RomItems) (path : Path) (bytes more : List ℕ) → IsLast items path
    → with_more (and_last items path (Some bytes)) path more ≡ Some (and_last items path (Some (bytes ++ more)))
with_more-last items path bytes more h =
    rw (item_at-last items path (Some bytes) h, set_value-last items path (Some bytes) (Some (bytes ++ more)) h) refl

-- what holds of each item holds of the one at the seam
seam : {X Y : Type 0} (f : X → Y) (P : Y → Type 0) (items rest : List X) (item : X) → AllByRecursion P (map f (items ++ item ∷ rest)) → P (f item)
seam f P [] rest item h = h.0
seam f P (first ∷ items) rest item h = seam f P items rest item h.1

at_seam : {X Y : Type 0} (f : X → Y) (P : Y → Type 0) (items rest : List X) (item : X) → All P (map f (items ++ item ∷ rest)) → P (f item)
at_seam f P items rest item h = seam f P items rest item (recursion_from_All P (map f (items ++ item ∷ rest)) h)

pub IsLast-sorted : (items rest : RomItems) (path : Path) (bytes : Option (List ℕ)) → IsStrictlySortedBy path_cmp (keys_of (items ++ (path, bytes) ∷ rest)) → IsLast items path
unfolding IsStrictlySortedBy
IsLast-sorted [] rest path bytes h = tt
IsLast-sorted (item ∷ items) rest path bytes h =
    (path_cmp_total.antisymm path item.0 ∙ ap ordering_reverse (seam (λ i. i.0) (λ p. path_cmp item.0 p ≡ Less) items rest (path, bytes) h.0), IsLast-sorted items rest path bytes h.1)

sorted-rest : (items rest : RomItems) → IsStrictlySortedBy path_cmp (keys_of (items ++ rest)) → IsStrictlySortedBy path_cmp (keys_of rest)
unfolding IsStrictlySortedBy
sorted-rest [] rest h = h
sorted-rest (item ∷ items) rest h = sorted-rest items rest h.1

-- what stands before a path is found among the items before it
item_at-before : (items rest : RomItems) (path q : Path) (bytes : Option (List ℕ)) → IsStrictlySortedBy path_cmp (keys_of (items ++ (path, bytes) ∷ rest))
    → path_cmp q path ≡ Less → item_at (items ++ (path, bytes) ∷ rest) q ≡ item_at items q
item_at-before [] rest path q bytes h less =
    lookup-none (is_at (path_cmp q)) ((path, bytes) ∷ rest) (none_below_head path_cmp_total q (path, bytes) rest h less)
item_at-before (item ∷ items) rest path q bytes h less =
    ap (cond (is_eq (path_cmp q item.0)) (Some item.1)) (item_at-before items rest path q bytes (sorted-rest (item ∷ []) (items ++ (path, bytes) ∷ rest) h) less)

-- a path is its parent and its last name
from_parent : (path : Path) → 0 < length path → path_cmp (parent_of path) path ≡ Less
from_parent path some =
    let at = length path - 1 in
    let parts = split_at path at [] (omega arith) in
    let past : drop (suc at) path ≡ [] = drop_all (suc at) path (omega arith) in
    let whole : path ≡ parent_of path ++ get_or path at [] ∷ [] = parts ∙ ap (λ r. parent_of path ++ get_or path at [] ∷ r) past in
    subst (λ p. path_cmp (parent_of path) p ≡ Less) (sym whole) (below (parent_of path) (get_or path at []) [])

folder_before : (items rest : RomItems) (path q : Path) (bytes : Option (List ℕ)) → IsStrictlySortedBy path_cmp (keys_of (items ++ (path, bytes) ∷ rest))
    → path_cmp q path ≡ Less → is_rom_folder (items ++ (path, bytes) ∷ rest) q ≡ true → is_rom_folder items q ≡ true
folder_before items rest path [] bytes sorted less h = refl
folder_before items rest path (name ∷ names) bytes sorted less h = rw (item_at-before items rest path (name ∷ names) bytes sorted less) at h

-- what holds of the next item of a rom
pub record Next (items : RomItems) (path : Path) (bytes : Option (List ℕ)) : Type 0 where
  pub form : IsRomPath path
  pub fits : IfSome bytes IsBytes
  pub last : IsLast items path
  pub comes : (first : Option (List ℕ)) → with_item items path first ≡ Some (and_last items path first)

pub next_item : (items rest : RomItems) (path : Path) (bytes : Option (List ℕ)) → IsRom (items ++ (path, bytes) ∷ rest) → Next items path bytes
next_item items rest path bytes rom =
    let all = items ++ (path, bytes) ∷ rest in
    let form = at_seam (λ i. i.0) IsRomPath items rest (path, bytes) rom.paths in
    let last = IsLast-sorted items rest path bytes rom.ordered in
    let parent = at_seam (λ i. i.0) (λ p. is_rom_folder all (parent_of p) ≡ true) items rest (path, bytes) rom.parents in
    let folder = folder_before items rest path (parent_of path) bytes rom.ordered (from_parent path form.below_root) parent in
    let room : nat_lt (length items) NODES ≡ true = lt-ltb (length items) NODES (omega (arith, rom.few, length-append items ((path, bytes) ∷ rest))) in
    record {
      form = form;
      fits = at_seam (λ i. i.1) (λ b. IfSome b IsBytes) items rest (path, bytes) rom.bytes;
      last = last;
      comes = λ first. rw (room, item_at-behind items path last, folder, insert-behind items path first last) refl;
    }
