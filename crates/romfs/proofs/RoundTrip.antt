-- What is written is read again as the same items.
use Rattle.std.proofs.Common.{◌≡◌, ℕ, zero, suc, ◌+◌, ◌<◌, ◌≤◌, min, true, Option, Some, None, Ok, List, [], ◌∷◌, ◌++◌, length, take, drop, refl, sym, ap, ◌∙◌, subst, arith, append-nil, append_assoc, length-append, length-take}
use Rattle.std.specs.List.{list_all}
use Rattle.std.proofs.lemmas.List.{take-append-drop}
use Rattle.hex.specs.Hex.{IsBytes, encode_lower}
use Rattle.vfs_base.specs.Path.{Path, printed}
use Rattle.vfs_model.specs.Manifest.{Draft, with_line, or_bad_line, items_from, manifest_tree, bytes_line, bytes_text, item_text, manifest_text}
use Rattle.vfs_model.specs.Rom.{RomItems, IsRom, is_rom_byte}
use Rattle.vfs_model.specs.Script.{input_lines}
use Rattle.romfs.proofs.LastLemmas.{and_last, IsLast, Next, next_item, with_more-last}
use Rattle.romfs.proofs.PrintedLemmas.{input_lines-kind, one_field, printed-plain, rom_path-printed, encode_lower-plain, rom_bytes-encode_lower}
use Rattle.romfs.proofs.TextLemmas.{bytes_text-step}

-- the draft with these items and this last file
abbrev drafted : RomItems → Option Path → Draft
drafted items file = record { items = items; last_file = file }

-- the lines of the text lead from one draft to the other, whatever follows
abbrev Leads : Draft → Draft → List ℕ → Type 0
Leads old new text = (rest : List ℕ) (number : ℕ) → (next : ℕ) × (items_from number old (input_lines (text ++ rest)) ≡ items_from next new (input_lines rest))

Leads-nil : (draft : Draft) → Leads draft draft []
Leads-nil draft rest number = (number, refl)

Leads-then : (a b c : Draft) (s t : List ℕ) → Leads a b s → Leads b c t → Leads a c (s ++ t)
Leads-then a b c s t first then rest number =
    let (middle, front) = first (t ++ rest) number in
    let (next, back) = then rest middle in
    (next, ap (λ text. items_from number a (input_lines text)) (append_assoc s t rest) ∙ front ∙ back)

-- one line in the form
Leads-line : (kind : ℕ) (text : List ℕ) (old new : Draft) → is_rom_byte kind ≡ true → list_all is_rom_byte text ≡ true
    → with_line old (kind ∷ 32 ∷ text) ≡ Some new → Leads old new ((kind ∷ 32 ∷ text) ++ 10 ∷ [])
Leads-line kind text old new k plain is rest number =
    let lines : input_lines (((kind ∷ 32 ∷ text) ++ 10 ∷ []) ++ rest) ≡ (kind ∷ 32 ∷ text) ∷ input_lines rest =
    ap input_lines (append_assoc (kind ∷ 32 ∷ text) (10 ∷ []) rest) ∙ input_lines-kind kind text rest k plain in
    (number + 1, ap (items_from number old) lines ∙ ap (λ o. or_bad_line number o (λ next. items_from (number + 1) next (input_lines rest))) is)

Leads-folder : (items : RomItems) (file : Option Path) (path : Path) → Next items path None
    → Leads (drafted items file) (drafted (and_last items path None) None) (item_text path None)
Leads-folder items file path next =
    Leads-line 100 (printed path) (drafted items file) (drafted (and_last items path None) None) refl (printed-plain path next.form)
    (rw (rom_path-printed path next.form, next.comes None) refl)

Leads-file : (items : RomItems) (file : Option Path) (path : Path) (bytes : List ℕ) → Next items path (Some bytes)
    → Leads (drafted items file) (drafted (and_last items path (Some [])) (Some path)) ((102 ∷ 32 ∷ printed path) ++ 10 ∷ [])
Leads-file items file path bytes next =
    let plain = printed-plain path next.form in
    let (front, behind) = one_field (printed path) plain in
    Leads-line 102 (printed path) (drafted items file) (drafted (and_last items path (Some [])) (Some path)) refl plain
    (rw (front, behind, rom_path-printed path next.form, next.comes (Some [])) refl)

Leads-bytes_line : (items : RomItems) (path : Path) (bytes more : List ℕ) → IsLast items path → 0 < length more → IsBytes more
    → Leads (drafted (and_last items path (Some bytes)) (Some path)) (drafted (and_last items path (Some (bytes ++ more))) (Some path)) (bytes_line more)
Leads-bytes_line items path bytes more last some fits =
    Leads-line 43 (encode_lower more) (drafted (and_last items path (Some bytes)) (Some path)) (drafted (and_last items path (Some (bytes ++ more))) (Some path)) refl
    (encode_lower-plain more fits)
    (rw (rom_bytes-encode_lower more some fits, with_more-last items path bytes more last) refl)

IsBytes-cons : (x : ℕ) (xs : List ℕ) → x < 256 → IsBytes xs → IsBytes (x ∷ xs)
IsBytes-cons x xs h hs zero = h
IsBytes-cons x xs h hs (suc i) = hs i

IsBytes-parts : (xs ys : List ℕ) → IsBytes (xs ++ ys) → IsBytes xs × IsBytes ys
IsBytes-parts [] ys h = (λ i. omega arith, h)
IsBytes-parts (x ∷ xs) ys h = let (front, back) = IsBytes-parts xs ys (λ i. h (suc i)) in (IsBytes-cons x xs (h 0) front, back)

-- all lines of a file's bytes; `count` is at least the number of these
Leads-bytes_text : (count : ℕ) (items : RomItems) (path : Path) (bytes more : List ℕ) → length more ≤ count → IsLast items path → IsBytes more
    → Leads (drafted (and_last items path (Some bytes)) (Some path)) (drafted (and_last items path (Some (bytes ++ more))) (Some path)) (bytes_text more)
Leads-bytes_text count items path bytes [] fits last h =
    rw (append-nil bytes) (Leads-nil (drafted (and_last items path (Some bytes)) (Some path)))
Leads-bytes_text zero items path bytes (byte ∷ more) fits last h = absurd (omega arith)
Leads-bytes_text (suc count) items path bytes (byte ∷ more) fits last h =
    let all = byte ∷ more in
    let line = take 500 all in
    let rest = drop 500 all in
    let at = λ (b : List ℕ). drafted (and_last items path (Some b)) (Some path) in
    let joined : all ≡ line ++ rest = sym (take-append-drop 500 all) in
    let size : length line ≡ min 500 (length all) = length-take 500 all in
    let (front, back) = IsBytes-parts line rest (subst IsBytes joined h) in
    let first = Leads-bytes_line items path bytes line last (omega (arith, size)) front in
    let others = Leads-bytes_text count items path (bytes ++ line) rest (omega (arith, size, ap length joined, length-append line rest)) last back in
    let both = Leads-then (at bytes) (at (bytes ++ line)) (at ((bytes ++ line) ++ rest)) (bytes_line line) (bytes_text rest) first others in
    let whole : (bytes ++ line) ++ rest ≡ bytes ++ all = append_assoc bytes line rest ∙ ap (λ m. bytes ++ m) (sym joined) in
    subst (λ t. Leads (at bytes) (at (bytes ++ all)) t) (sym (bytes_text-step all line rest joined size (omega arith)))
    (subst (λ b. Leads (at bytes) (at b) (bytes_line line ++ bytes_text rest)) whole both)

-- an item
Leads-item : (items rest : RomItems) (file : Option Path) (path : Path) (bytes : Option (List ℕ)) → IsRom (items ++ (path, bytes) ∷ rest)
    → (next : Option Path) × Leads (drafted items file) (drafted (and_last items path bytes) next) (item_text path bytes)
Leads-item items rest file path None rom = (None, Leads-folder items file path (next_item items rest path None rom))
Leads-item items rest file path (Some bytes) rom =
    let next = next_item items rest path (Some bytes) rom in
    let at = λ (b : List ℕ). drafted (and_last items path (Some b)) (Some path) in
    let head = (102 ∷ 32 ∷ printed path) ++ 10 ∷ [] in
    let both = Leads-then (drafted items file) (at []) (at bytes) head (bytes_text bytes) (Leads-file items file path bytes next)
    (Leads-bytes_text (length bytes) items path [] bytes (omega arith) next.last next.fits) in
    (Some path, subst (λ t. Leads (drafted items file) (at bytes) t) (append_assoc (102 ∷ 32 ∷ printed path) (10 ∷ []) (bytes_text bytes)) both)

-- all items
Leads-items : (items rest : RomItems) (file : Option Path) → IsRom (items ++ rest)
    → (next : Option Path) × Leads (drafted items file) (drafted (items ++ rest) next) (manifest_text rest)
Leads-items items [] file rom = (file, rw (append-nil items) (Leads-nil (drafted items file)))
Leads-items items (item ∷ rest) file rom =
    let (middle, first) = Leads-item items rest file item.0 item.1 rom in
    let more = and_last items item.0 item.1 in
    let joined : more ++ rest ≡ items ++ item ∷ rest = append_assoc items (item ∷ []) rest in
    let (next, others) = Leads-items more rest middle (subst IsRom (sym joined) rom) in (
      next,
      subst (λ all. Leads (drafted items file) (drafted all next) (manifest_text (item ∷ rest))) joined
          (Leads-then (drafted items file) (drafted more middle) (drafted (more ++ rest) next) (item_text item.0 item.1) (manifest_text rest) first others),
    )

-- the canonical form of what a manifest can mean is read as that
pub reads_again : (items : RomItems) → IsRom items → manifest_tree (manifest_text items) ≡ Ok items
reads_again items rom =
    let (next, leads) = Leads-items [] items None rom in
    let (number, is) = leads [] 1 in
    ap (λ text. items_from 1 (drafted [] None) (input_lines text)) (sym (append-nil (manifest_text items))) ∙ is
