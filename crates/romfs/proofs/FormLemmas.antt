-- What a manifest means is a rom.
use Rattle.std.proofs.Common.{◌≡◌, ℕ, ◌+◌, ◌<◌, ◌==◌, Bool, true, false, ◌&&◌, not, cond, nat_le, Option, Some, None, Result, Ok, Err, IfSome, List, [], ◌∷◌, ◌++◌, length, refl, ap, ◌∙◌, subst, arith, leb-true, eqb-true, ◌%◌}
use Rattle.std.specs.List.{list_all, onto_first, before_first}
use Rattle.std.specs.List.Sorted.{IsStrictlySortedBy}
use Rattle.std.specs.Result.{result_ok}
use Rattle.std.proofs.lemmas.Bool.{and_parts, cond_both}
use Rattle.std.proofs.lemmas.List.Elements.{All-nil}
use Rattle.std.proofs.lemmas.List.Splits.{length-slice_split}
use Rattle.std.proofs.lemmas.Option.{cond_some, option_and_then_some, none-some, same_Some}
use Rattle.hex.specs.Hex.{IsBytes, decode_of, decode_pairs}
use Rattle.hex.proofs.HexLemmas.{decode_pairs-ok}
use Rattle.vfs_base.specs.Name.{slash}
use Rattle.vfs_base.specs.declared.limits.TheConstants.{PATH_MAX}
use Rattle.vfs_base.specs.Path.{Path, printed, slashed}
use Rattle.vfs_model.specs.Manifest.{Draft, rom_path, rom_bytes, is_space, behind_space, first_bytes, with_item, with_more, with_folder, with_file, with_bytes, with_line, or_bad_line, items_from, manifest_tree}
use Rattle.vfs_model.specs.NormalPath.{parts_of, parent_of}
use Rattle.vfs_model.specs.Rom.{RomItems, IsRom, IsRomPath, is_rom_name, is_rom_folder}
use Rattle.vfs_model.specs.Script.{input_lines}
use Rattle.romfs.proofs.RomLemmas.{IsRom-with_item, IsRom-with_more}
use Rattle.romfs.proofs.SplitLemmas.{is_value}

slashed-onto_first : (byte : ℕ) (rest : List ℕ) (parts : Path) → slashed parts ≡ slash ∷ rest → slashed (onto_first byte parts) ≡ slash ∷ byte ∷ rest
slashed-onto_first byte rest [] h = absurd (cc)
slashed-onto_first byte rest (part ∷ parts) h =
    let same : part ++ slashed parts ≡ rest = cc in
    ap (λ r. slash ∷ byte ∷ r) same

-- the parts are the names of the path that prints so
pub slashed-parts_of : (rest : List ℕ) → slashed (parts_of rest) ≡ slash ∷ rest
slashed-parts_of [] = refl
slashed-parts_of (byte ∷ rest) =
    let parts : Path = parts_of rest in
    cond_both (is_value slash byte) ([] ∷ parts) (onto_first byte parts) (λ p. slashed p ≡ slash ∷ byte ∷ rest)
    (λ e. rw (eqb-true byte slash e) (ap (λ r. slash ∷ r) (slashed-parts_of rest)))
    (λ _. slashed-onto_first byte rest parts (slashed-parts_of rest))

printed-slashed : (path : Path) → 0 < length path → printed path ≡ slashed path
printed-slashed [] h = absurd (omega arith)
printed-slashed (name ∷ names) h = refl

-- the path that a text prints is one that a manifest can have
pub IsRomPath-rom_path : (text : List ℕ) (path : Path) → rom_path text ≡ Some path → IsRomPath path
IsRomPath-rom_path [] path is = absurd (none-some path is)
IsRomPath-rom_path (first ∷ rest) path is =
    let parts : Path = parts_of rest in
    let (test, same) = cond_some _ parts path is in
    let (front, names) = and_parts (first == slash && nat_le (length (first ∷ rest)) PATH_MAX) (list_all is_rom_name parts) test in
    let short = leb-true (length (first ∷ rest)) PATH_MAX (and_parts (first == slash) (nat_le (length (first ∷ rest)) PATH_MAX) front).1 in
    let some : 0 < length parts = omega (arith, length-slice_split (is_value slash) rest) in
    let text : printed parts ≡ slash ∷ rest = printed-slashed parts some ∙ slashed-parts_of rest in
    subst IsRomPath same (record { below_root = some; short = omega (arith, short, ap length text); names = names })

unless : {A E : Type 0} (b : Bool) (e : E) (r : Result A E) (x : A) → cond b (Err e) r ≡ Ok x → r ≡ Ok x
unless true e r x h = absurd (cc)
unless false e r x h = h

ok_there : {A E : Type 0} (r : Result A E) (x : A) → result_ok r ≡ Some x → r ≡ Ok x
ok_there (Ok y) x h = ap Ok (same_Some y x h)
ok_there (Err e) x h = absurd (none-some x h)

IsBytes-rom_bytes : (text bytes : List ℕ) → rom_bytes text ≡ Some bytes → IsBytes bytes
IsBytes-rom_bytes [] bytes is = absurd (none-some bytes is)
IsBytes-rom_bytes (digit ∷ digits) bytes is =
    let text = digit ∷ digits in
    (decode_pairs-ok 0 text bytes (unless (length text % 2 == 1) _ (decode_pairs 0 text) bytes (ok_there (decode_of text) bytes is))).2

IsBytes-first_bytes : (text : Option (List ℕ)) (bytes : List ℕ) → first_bytes text ≡ Some bytes → IsBytes bytes
IsBytes-first_bytes None bytes is = subst IsBytes (same_Some [] bytes is) (λ i. omega arith)
IsBytes-first_bytes (Some text) bytes is = IsBytes-rom_bytes text bytes is

IsRom-with_folder : (draft next : Draft) (text : List ℕ) → IsRom draft.items → with_folder draft text ≡ Some next → IsRom next.items
IsRom-with_folder draft next text rom is =
    option_and_then_some _ (rom_path text) next is (λ path path_is then_item.
    option_and_then_some _ (with_item draft.items path None) next then_item (λ items items_are last.
    subst (λ d. IsRom d.items) (same_Some _ next last) (IsRom-with_item draft.items items path None rom (IsRomPath-rom_path text path path_is) tt items_are)))

IsRom-with_file : (draft next : Draft) (fields : List ℕ) → IsRom draft.items → with_file draft fields ≡ Some next → IsRom next.items
IsRom-with_file draft next fields rom is =
    let text = before_first is_space fields in
    option_and_then_some _ (rom_path text) next is (λ path path_is then_bytes.
    option_and_then_some _ (first_bytes (behind_space fields)) next then_bytes (λ bytes bytes_are then_item.
    option_and_then_some _ (with_item draft.items path (Some bytes)) next then_item (λ items items_are last.
    subst (λ d. IsRom d.items) (same_Some _ next last) (IsRom-with_item draft.items items path (Some bytes) rom (IsRomPath-rom_path text path path_is)
    (IsBytes-first_bytes (behind_space fields) bytes bytes_are) items_are))))

IsRom-with_bytes : (draft next : Draft) (text : List ℕ) → IsRom draft.items → with_bytes draft text ≡ Some next → IsRom next.items
IsRom-with_bytes draft next text rom is =
    option_and_then_some _ draft.last_file next is (λ path path_is then_bytes.
    option_and_then_some _ (rom_bytes text) next then_bytes (λ more more_is then_items.
    option_and_then_some _ (with_more draft.items path more) next then_items (λ items items_are last.
    subst (λ d. IsRom d.items) (same_Some _ next last) (IsRom-with_more draft.items items path more rom (IsBytes-rom_bytes text more more_is) items_are))))

-- one of the two was chosen
either : {A P : Type 0} (b : Bool) (x y : Option A) (z : A) → cond b x y ≡ Some z → (x ≡ Some z → P) → (y ≡ Some z → P) → P
either true x y z h f g = f h
either false x y z h f g = g h

IsRom-with_line : (draft next : Draft) (line : List ℕ) → IsRom draft.items → with_line draft line ≡ Some next → IsRom next.items
IsRom-with_line draft next [] rom is = absurd (none-some next is)
IsRom-with_line draft next (kind ∷ []) rom is = absurd (none-some next is)
IsRom-with_line draft next (kind ∷ space ∷ fields) rom is =
    either (not (space == 32)) None _ next is (λ none. absurd (none-some next none)) (λ rest.
    either (kind == 100) (with_folder draft fields) _ next rest (IsRom-with_folder draft next fields rom) (λ rest.
    either (kind == 102) (with_file draft fields) _ next rest (IsRom-with_file draft next fields rom) (λ rest.
    either (kind == 43) (with_bytes draft fields) None next rest (IsRom-with_bytes draft next fields rom) (λ none. absurd (none-some next none)))))

went_on : (number : ℕ) (o : Option Draft) (go : Draft → Result RomItems ℕ) (items : RomItems) → or_bad_line number o go ≡ Ok items
    → (next : Draft) × (o ≡ Some next) × (go next ≡ Ok items)
went_on number None go items h = absurd (cc)
went_on number (Some next) go items h = (next, refl, h)

IsRom-items_from : (number : ℕ) (draft : Draft) (lines : List (List ℕ)) (items : RomItems) → IsRom draft.items → items_from number draft lines ≡ Ok items → IsRom items
IsRom-items_from number draft [] items rom is =
    let same : draft.items ≡ items = cc in
    subst IsRom same rom
IsRom-items_from number draft (line ∷ lines) items rom is =
    let (next, line_is, rest) = went_on number (with_line draft line) (λ next. items_from (number + 1) next lines) items is in
    IsRom-items_from (number + 1) next lines items (IsRom-with_line draft next line rom line_is) rest

IsRom-nil : IsRom []
unfolding IsStrictlySortedBy
IsRom-nil = record {
  ordered = tt;
  few = omega arith;
  paths = All-nil IsRomPath;
  parents = All-nil (λ path. is_rom_folder [] (parent_of path) ≡ true);
  bytes = All-nil (λ bytes. IfSome bytes IsBytes);
}

-- what a text means is a rom
pub IsRom-manifest_tree : (text : List ℕ) (items : RomItems) → manifest_tree text ≡ Ok items → IsRom items
IsRom-manifest_tree text items is = IsRom-items_from 1 _ (input_lines text) items IsRom-nil is
