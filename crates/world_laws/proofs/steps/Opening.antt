-- The world at the start of a script is consistent: each of its roms is a tree.
use Rattle.std.proofs.Common.{◌≡◌, ℕ, zero, suc, ◌-◌, Bool, true, false, cond, ◌&&◌, ◌||◌, T, Option, Some, None, is_some, is_none, List, [], ◌∷◌, ◌++◌, length, map, take, slice_index_or, unwrap_or, Result, Ok, Err, refl, sym, ap, subst, ◌∙◌, arith}
use Rattle.std.proofs.lemmas.List.{length-append}
use Rattle.std.proofs.lemmas.Map.Views.{tells_apart}
use Rattle.std.proofs.Math.Seq.{take-append_seam}
use Rattle.std.specs.List.{AllByRecursion}
use Rattle.vfs_base.specs.PathLaws.{path_cmp_exact}
use Rattle.std.proofs.lemmas.List.Elements.{recursion_from_All}
use Rattle.std.specs.FinMap.Entries.{below_all, find as value_at, is_sorted}
use Rattle.std.specs.List.Sorted.{IsStrictlySortedBy}
use Rattle.std.specs.Map.{keys_of}
use Rattle.std.specs.Option.{option_flatten, option_map}
use Rattle.std.specs.Ordering.{is_eq, is_lt}
use Rattle.std.specs.Result.{result_ok}
use Rattle.std.specs.declared.cmp.Ordering.TheVariants.{Less}
use Rattle.romfs.proofs.FormLemmas.{IsRom-manifest_tree}
use Rattle.vfs_base.specs.Path.{Path, path_cmp}
use Rattle.vfs_base.specs.declared.describe.Describe.{Describe}
use Rattle.vfs_model.proofs.OpeningLaws.{opening-consistent}
use Rattle.vfs_model.specs.Boxes.{IsConsistent, is_rom_dir}
use Rattle.vfs_model.specs.Consistency.{IsClosedTree}
use Rattle.vfs_model.specs.Content.{no_rom}
use Rattle.vfs_model.specs.Manifest.{manifest_tree}
use Rattle.vfs_model.specs.Namespace.{same_path}
use Rattle.vfs_model.specs.NormalPath.{parent_of}
use Rattle.vfs_model.specs.Rom.{IsRom, IsRomPath, RomItems, is_rom_folder, item_at}
use Rattle.vfs_model.specs.ScriptRun.{opening_state, rom_image, rom_node}
use Rattle.vfs_base.specs.declared.deck.Deck.{Deck}
use Rattle.vfs_base.specs.declared.deck.RomText.{RomText}
use Rattle.vfs_model.specs.declared.namespace.RomNode.{RomNode}
use Rattle.world_laws.proofs.lists.Lists.{or-first, or-second}

abbrev nodes : RomItems → List (Path × RomNode)
nodes items = map (λ item. (item.0, rom_node item.1)) items

node-of : (items : RomItems) (p : Path) → value_at path_cmp p (nodes items) ≡ option_map rom_node (item_at items p)
node-of [] p = refl
node-of (e ∷ items) p = by (is_eq (path_cmp p e.0)) (node-of items p)
  where
    by : (b : Bool) → value_at path_cmp p (nodes items) ≡ option_map rom_node (item_at items p) →
        cond b (Some (rom_node e.1)) (value_at path_cmp p (nodes items)) ≡ option_map rom_node (cond b (Some e.1) (item_at items p))
    by true later = refl
    by false later = later

nodes-length : (items : RomItems) → length (nodes items) ≡ length items
nodes-length [] = refl
nodes-length (e ∷ items) = ap suc (nodes-length items)

nodes-sorted : (items : RomItems) → IsStrictlySortedBy path_cmp (keys_of items) → T (is_sorted path_cmp (nodes items))
unfolding IsStrictlySortedBy
nodes-sorted [] h = tt
nodes-sorted (e ∷ items) h = t-both (below_all path_cmp e.0 (nodes items)) (is_sorted path_cmp (nodes items)) (below items h.0) (nodes-sorted items h.1)
  where
    t-both : (a b : Bool) → T a → T b → T (a && b)
    t-both true b h k = k
    t-both false b h k = h

    below : (rest : RomItems) → AllByRecursion (λ y. path_cmp e.0 y ≡ Less) (keys_of rest) → T (below_all path_cmp e.0 (nodes rest))
    below [] k = tt
    below (x ∷ rest) k = t-both (is_lt (path_cmp e.0 x.0)) (below_all path_cmp e.0 (nodes rest)) (subst (λ o. T (is_lt o)) (sym k.0) tt) (below rest k.1)

-- what stands at a path is one of the keys
key-holds : (P : Path → Type 0) (items : RomItems) (p : Path) → ((a b : Path) → is_eq (path_cmp a b) ≡ true → a ≡ b) → AllByRecursion P (keys_of items) → is_some (item_at items p) ≡ true → P p
key-holds P [] p same all h = absurd (cc)
key-holds P (e ∷ items) p same all h = by (is_eq (path_cmp p e.0)) refl h (key-holds P items p same all.1)
  where
    by : (b : Bool) → is_eq (path_cmp p e.0) ≡ b → is_some (cond b (Some e.1) (item_at items p)) ≡ true → (is_some (item_at items p) ≡ true → P p) → P p
    by true eq k later = subst P (sym (same p e.0 eq)) all.0
    by false eq k later = later k

parent-front : (front : Path) (name : List ℕ) → parent_of (front ++ name ∷ []) ≡ front
parent-front front name =
    ap (λ k. take k (front ++ name ∷ [])) (let l = length-append front (name ∷ []) in let e : length (front ++ name ∷ []) - 1 ≡ length front = omega (arith, l) in e)
    ∙ take-append_seam front (name ∷ [])

some-node : (found : Option (Option (List ℕ))) → is_some (option_map rom_node found) ≡ true → is_some found ≡ true
some-node None h = h
some-node (Some x) h = refl

dir-node : (found : Option (Option (List ℕ))) → (is_some found && is_none (option_flatten found)) ≡ true → is_rom_dir (option_map rom_node found) ≡ true
dir-node None h = absurd (cc)
dir-node (Some None) h = refl
dir-node (Some (Some bytes)) h = absurd (cc)

folder-node : (items : RomItems) (front : Path) → is_rom_folder items front ≡ true → (is_rom_dir (value_at path_cmp front (nodes items)) || same_path front []) ≡ true
folder-node items [] h = or-second (is_rom_dir (value_at path_cmp [] (nodes items))) _ refl
folder-node items (name ∷ names) h = or-first _ _ (ap is_rom_dir (node-of items (name ∷ names)) ∙ dir-node (item_at items (name ∷ names)) h)

rootless : (items : RomItems) → IsRom items → (found : Option (Option (List ℕ))) → item_at items [] ≡ found → value_at path_cmp [] (nodes items) ≡ None
rootless items r None e = node-of items [] ∙ ap (option_map rom_node) e
rootless items r (Some x) e =
    let path = key-holds IsRomPath items [] (λ a b. tells_apart path_cmp_exact a b) (recursion_from_All IsRomPath (keys_of items) r.paths) (ap is_some e) in
    let l = path.below_root in
    absurd (omega (arith, l))

-- the items of a rom are a tree
items-closed : (items : RomItems) → IsRom items → IsClosedTree is_rom_dir (nodes items)
items-closed items r = record {
  sorted = nodes-sorted items r.ordered;
  rootless = rootless items r (item_at items []) refl;
  parents = λ front name h.
      let there = some-node (item_at items (front ++ name ∷ [])) (sym (ap is_some (node-of items (front ++ name ∷ []))) ∙ h) in
      let parent = key-holds (λ path. is_rom_folder items (parent_of path) ≡ true) items (front ++ name ∷ []) (λ a b. tells_apart path_cmp_exact a b)
      (recursion_from_All (λ path. is_rom_folder items (parent_of path) ≡ true) (keys_of items) r.parents) there in
      folder-node items front (sym (ap (is_rom_folder items) (parent-front front name)) ∙ parent);
  bounded = let e = nodes-length items in let l = r.few in omega (arith, e, l);
}

text-closed : (text : List ℕ) (found : Result RomItems ℕ) → manifest_tree text ≡ found → IsClosedTree is_rom_dir (nodes (unwrap_or (result_ok found) []))
text-closed text (Ok items) e = items-closed items (IsRom-manifest_tree text items e)
text-closed text (Err number) e = record { sorted = tt; rootless = refl; parents = λ front name h. absurd (cc); bounded = omega arith }

roms-closed : (roms : List RomText) (place : ℕ) → IsClosedTree is_rom_dir (slice_index_or (map rom_image roms) place no_rom).nodes
roms-closed [] place = record { sorted = tt; rootless = refl; parents = λ front name h. absurd (cc); bounded = omega arith }
roms-closed (text ∷ roms) zero = text-closed text.manifest (manifest_tree text.manifest) refl
roms-closed (text ∷ roms) (suc place) = roms-closed roms place

pub opened-consistent : (deck : Deck) (describe : Describe) → IsConsistent (opening_state deck describe).world
opened-consistent deck describe = opening-consistent (map rom_image deck.roms) describe (roms-closed deck.roms)
