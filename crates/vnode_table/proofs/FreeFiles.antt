-- The files of free rows: how many there are, where they stand, and what is left when the first one is taken.
use Rattle.std.proofs.Common.{◌≡◌, ℕ, zero, suc, ◌+◌, ◌-◌, ◌*◌, ◌<◌, ◌≤◌, Bool, true, false, cond, not, ◌&&◌, Option, Some, None, List, [], ◌∷◌, ◌++◌, length, take, drop, slice_get, slice_index_or, slice_set, if◌then◌else◌, refl, sym, ap, subst, ◌∙◌, arith, add-zero}
use Rattle.std.specs.Prelude.{IfSome, count_by}
use Rattle.std.specs.List.{cons_option, position_or_len}
use Rattle.std.proofs.lemmas.List.{at_drop_more, drop-drop, length-drop, length-take-le, take-append-drop}
use Rattle.std.proofs.lemmas.List.Sums.{sum_by-cons}
use Rattle.std.proofs.lemmas.Option.{same_Some}
use Rattle.vfs_base.specs.declared.ids.FileId.{FileId}
use Rattle.vnode_table.specs.Layout.{free_in_block, one_if}
use Rattle.vnode_table.specs.SlotTable.{IsFreeRow, SlotTable, bound_slot, file_to_bind, free_files, free_files_from, is_free, next_file, opening_slot, slot_at}
use Rattle.vnode_table.specs.declared.vnode_slot.VnodeSlot.{VnodeSlot}

length-first : (test : Bool) (file : FileId) (files : List FileId) →
    length (cons_option (if test then Some file else None) files) ≡ one_if test + length files
length-first true file files = omega arith
length-first false file files = omega arith

-- there are as many as there are free slots
pub length-free_files : (row : ℕ) (slots : SlotTable) → length (free_files_from row slots) ≡ count_by is_free slots
length-free_files row [] = refl
length-free_files row (slot ∷ slots) =
    length-first (is_free slot) (next_file row slot) (free_files_from (row + 1) slots)
    ∙ ap (λ n. one_if (is_free slot) + n) (length-free_files (row + 1) slots)
    ∙ sym (sum_by-cons (λ (x : VnodeSlot). one_if (is_free x)) slot slots)

first-append : (found : Option FileId) (files later : List FileId) → cons_option found (files ++ later) ≡ cons_option found files ++ later
first-append None files later = refl
first-append (Some file) files later = refl

pub free_files-append : (row : ℕ) (front slots : SlotTable) →
    free_files_from row (front ++ slots) ≡ free_files_from row front ++ free_files_from (row + length front) slots
free_files-append row [] slots = ap (λ r. free_files_from r slots) (sym (add-zero row))
free_files-append row (slot ∷ front) slots =
    let next : row + 1 + length front ≡ row + suc (length front) = omega arith in
    ap (cons_option (file_to_bind row slot)) (free_files-append (row + 1) front slots)
    ∙ first-append (file_to_bind row slot) (free_files_from (row + 1) front) (free_files_from (row + 1 + length front) slots)
    ∙ ap (λ r. free_files_from row (slot ∷ front) ++ free_files_from r slots) next

get-past : (front files : List FileId) (k : ℕ) → slice_get (front ++ files) (length front + k) ≡ slice_get files k
get-past [] files k = let same : 0 + k ≡ k = omega arith in ap (slice_get files) same
get-past (file ∷ front) files k =
    let next : suc (length front) + k ≡ suc (length front + k) = omega arith in
    ap (slice_get (file ∷ front ++ files)) next ∙ get-past front files k

-- slots whose free files are counted are passed by their count
pub passed : (row n left count : ℕ) (slots : SlotTable) → n ≤ length slots → count ≡ count_by is_free (take n slots) → count ≤ left →
    slice_get (free_files_from (row + n) (drop n slots)) (left - count) ≡ slice_get (free_files_from row slots) left
passed row n left count slots within is le =
    let front : List FileId = free_files_from row (take n slots) in
    let parts : free_files_from row slots ≡ front ++ free_files_from (row + n) (drop n slots) =
    ap (free_files_from row) (sym (take-append-drop n slots))
    ∙ free_files-append row (take n slots) (drop n slots)
    ∙ ap (λ k. front ++ free_files_from (row + k) (drop n slots)) (length-take-le n slots within) in
    let len : length front ≡ count = length-free_files row (take n slots) ∙ sym is in
    let at : left ≡ length front + (left - count) = omega (arith, len, le) in
    sym (
    ap (slice_get (free_files_from row slots)) at
    ∙ ap (λ files. slice_get files (length front + (left - count))) parts
    ∙ get-past front (free_files_from (row + n) (drop n slots)) (left - count)
    )

-- a whole block is passed by its count
pub block-passed : (slots : SlotTable) (block left count nth : ℕ) → 64 * block + 64 ≤ length slots → count ≡ free_in_block slots block → count ≤ left →
    slice_get (free_files_from (64 * block + 1) (drop (64 * block) slots)) left ≡ slice_get (free_files slots) nth →
    slice_get (free_files_from (64 * (block + 1) + 1) (drop (64 * (block + 1)) slots)) (left - count) ≡ slice_get (free_files slots) nth
block-passed slots block left count nth within is le so_far =
    let room : 64 ≤ length (drop (64 * block) slots) = omega (arith, length-drop (64 * block) slots) in
    let row : 64 * (block + 1) + 1 ≡ 64 * block + 1 + 64 = omega arith in
    let start : 64 * (block + 1) ≡ 64 * block + 64 = omega arith in
    let rest : drop (64 * (block + 1)) slots ≡ drop 64 (drop (64 * block) slots) =
    ap (λ n. drop n slots) start ∙ sym (drop-drop 64 (64 * block) slots) in
    ap (λ r. slice_get (free_files_from r (drop (64 * (block + 1)) slots)) (left - count)) row
    ∙ ap (λ xs. slice_get (free_files_from (64 * block + 1 + 64) xs) (left - count)) rest
    ∙ passed (64 * block + 1) 64 left count (drop (64 * block) slots) room is le
    ∙ so_far

-- the slot at a place comes first among those from it on
pub first-at : (slots : SlotTable) (at : ℕ) → at < length slots →
    free_files_from (at + 1) (drop at slots)
    ≡ cons_option (file_to_bind (at + 1) (slice_index_or slots at opening_slot)) (free_files_from (at + 1 + 1) (drop (at + 1) slots))
first-at slots at within = at_drop_more (free_files_from (at + 1)) slots at opening_slot within

-- the slot at the place is not free
pub slot-skipped : (slots : SlotTable) (at left : ℕ) → at < length slots → file_to_bind (at + 1) (slice_index_or slots at opening_slot) ≡ None →
    slice_get (free_files_from (at + 1 + 1) (drop (at + 1) slots)) left ≡ slice_get (free_files_from (at + 1) (drop at slots)) left
slot-skipped slots at left within none =
    let later : List FileId = free_files_from (at + 1 + 1) (drop (at + 1) slots) in
    sym (ap (λ files. slice_get files left) (first-at slots at within ∙ ap (λ found. cons_option found later) none))

-- the slot at the place is free, and another one is looked for
pub slot-passed : (slots : SlotTable) (at left : ℕ) (file : FileId) → at < length slots →
    file_to_bind (at + 1) (slice_index_or slots at opening_slot) ≡ Some file → 0 < left →
    slice_get (free_files_from (at + 1 + 1) (drop (at + 1) slots)) (left - 1) ≡ slice_get (free_files_from (at + 1) (drop at slots)) left
slot-passed slots at zero file within some more = absurd (omega arith)
slot-passed slots at (suc left) file within some more =
    let later : List FileId = free_files_from (at + 1 + 1) (drop (at + 1) slots) in
    let back : suc left - 1 ≡ left = omega arith in
    ap (slice_get later) back
    ∙ sym (ap (λ files. slice_get files (suc left)) (first-at slots at within ∙ ap (λ found. cons_option found later) some))

-- the slot at the place is the free one that is looked for
pub slot-found : (slots : SlotTable) (at : ℕ) (file : FileId) → at < length slots →
    file_to_bind (at + 1) (slice_index_or slots at opening_slot) ≡ Some file →
    slice_get (free_files_from (at + 1) (drop at slots)) 0 ≡ Some file
slot-found slots at file within some =
    let later : List FileId = free_files_from (at + 1 + 1) (drop (at + 1) slots) in
    ap (λ files. slice_get files 0) (first-at slots at within ∙ ap (λ found. cons_option found later) some)

-- where a file of a free row comes from, in slots from a row on
pub record IsFound (row : ℕ) (slots : SlotTable) (file : FileId) : Type 0 where
  pub low : row ≤ file.row
  pub within : file.row < row + length slots
  pub free : is_free (slice_index_or slots (file.row - row) opening_slot) ≡ true
  pub next : file ≡ next_file file.row (slice_index_or slots (file.row - row) opening_slot)

found-here : (row : ℕ) (slot : VnodeSlot) (slots : SlotTable) → is_free slot ≡ true → IsFound row (slot ∷ slots) (next_file row slot)
found-here row slot slots free =
    let here : row - row ≡ 0 = omega arith in
    record {
      low = omega arith;
      within = omega arith;
      free = rw here free;
      next = rw here refl;
    }

found-on : (row : ℕ) (slot : VnodeSlot) (slots : SlotTable) (file : FileId) → IsFound (row + 1) slots file → IsFound row (slot ∷ slots) file
found-on row slot slots file later =
    let low = later.low in
    let within = later.within in
    let on : file.row - row ≡ suc (file.row - (row + 1)) = omega arith in
    record {
      low = omega arith;
      within = omega arith;
      free = rw on later.free;
      next = rw on later.next;
    }

found-by : (test : Bool) (row : ℕ) (slot : VnodeSlot) (slots : SlotTable) (nth : ℕ) (file : FileId) → is_free slot ≡ test →
    slice_get (cons_option (if test then Some (next_file row slot) else None) (free_files_from (row + 1) slots)) nth ≡ Some file →
    ((k : ℕ) → slice_get (free_files_from (row + 1) slots) k ≡ Some file → IsFound (row + 1) slots file) →
    IsFound row (slot ∷ slots) file
found-by true row slot slots zero file is e later =
    subst (IsFound row (slot ∷ slots)) (same_Some (next_file row slot) file e) (found-here row slot slots is)
found-by true row slot slots (suc nth) file is e later = found-on row slot slots file (later nth e)
found-by false row slot slots nth file is e later = found-on row slot slots file (later nth e)

pub found : (row : ℕ) (slots : SlotTable) (nth : ℕ) (file : FileId) → slice_get (free_files_from row slots) nth ≡ Some file → IsFound row slots file
found row [] nth file e = absurd (cc)
found row (slot ∷ slots) nth file e = found-by (is_free slot) row slot slots nth file refl e (λ k f. found (row + 1) slots k file f)

taken-by : (test : Bool) (row : ℕ) (slot : VnodeSlot) (slots : SlotTable) (file : FileId) → is_free slot ≡ test →
    slice_get (cons_option (if test then Some (next_file row slot) else None) (free_files_from (row + 1) slots)) 0 ≡ Some file →
    (slice_get (free_files_from (row + 1) slots) 0 ≡ Some file →
    free_files_from (row + 1) slots
    ≡ file ∷ free_files_from (row + 1) (slice_set slots (file.row - (row + 1)) (bound_slot (slice_index_or slots (file.row - (row + 1)) opening_slot)))) →
    cons_option (if test then Some (next_file row slot) else None) (free_files_from (row + 1) slots)
    ≡ file ∷ free_files_from row (slice_set (slot ∷ slots) (file.row - row) (bound_slot (slice_index_or (slot ∷ slots) (file.row - row) opening_slot)))
taken-by true row slot slots file is e later =
    let here : row - row ≡ 0 = omega arith in
    let after : FileId → List FileId =
    λ f. f ∷ free_files_from row (slice_set (slot ∷ slots) (f.row - row) (bound_slot (slice_index_or (slot ∷ slots) (f.row - row) opening_slot))) in
    let same : next_file row slot ∷ free_files_from (row + 1) slots ≡ after (next_file row slot) = rw here refl in
    same ∙ ap after (same_Some (next_file row slot) file e)
taken-by false row slot slots file is e later =
    let low = (found (row + 1) slots 0 file e).low in
    let on : file.row - row ≡ suc (file.row - (row + 1)) = omega arith in
    let rest : ℕ → List FileId =
    λ k. free_files_from (row + 1) (slice_set slots k (bound_slot (slice_index_or slots k opening_slot))) in
    let none : cons_option (file_to_bind row slot) (rest (file.row - (row + 1))) ≡ rest (file.row - (row + 1)) =
    ap (λ t. cons_option (if t then Some (next_file row slot) else None) (rest (file.row - (row + 1)))) is in
    rw on (later e ∙ ap (λ files. file ∷ files) (sym none))

-- when the first one is bound, the others are left
pub taken : (row : ℕ) (slots : SlotTable) (file : FileId) → slice_get (free_files_from row slots) 0 ≡ Some file →
    free_files_from row slots
    ≡ file ∷ free_files_from row (slice_set slots (file.row - row) (bound_slot (slice_index_or slots (file.row - row) opening_slot)))
taken row [] file e = absurd (cc)
taken row (slot ∷ slots) file e = taken-by (is_free slot) row slot slots file refl e (λ f. taken (row + 1) slots file f)

least-by : (test : Bool) (row place : ℕ) (slot : VnodeSlot) (files : List FileId) (file : FileId) →
    slice_get (cons_option (if test then Some (next_file row slot) else None) files) 0 ≡ Some file →
    (slice_get files 0 ≡ Some file → file.row ≡ place + (row + 1)) →
    file.row ≡ cond (not test) (1 + place) 0 + row
least-by true row place slot files file e later =
    let same : row ≡ file.row = ap (λ (f : FileId). f.row) (same_Some (next_file row slot) file e) in omega (arith, same)
least-by false row place slot files file e later = let is : file.row ≡ place + (row + 1) = later e in omega (arith, is)

-- the first one is that of the least free row
pub least : (row : ℕ) (slots : SlotTable) (file : FileId) → slice_get (free_files_from row slots) 0 ≡ Some file →
    file.row ≡ position_or_len is_free slots + row
least row [] file e = absurd (cc)
least row (slot ∷ slots) file e =
    least-by (is_free slot) row (position_or_len is_free slots) slot (free_files_from (row + 1) slots) file e (λ f. least (row + 1) slots file f)

none-by : (test : Bool) (row place size : ℕ) (slot : VnodeSlot) (files : List FileId) →
    slice_get (cons_option (if test then Some (next_file row slot) else None) files) 0 ≡ None →
    (slice_get files 0 ≡ None → place ≡ size) → cond (not test) (1 + place) 0 ≡ suc size
none-by true row place size slot files e later = absurd (cc)
none-by false row place size slot files e later = let is : place ≡ size = later e in omega (arith, is)

-- where there is none, no row is free
pub none-least : (row : ℕ) (slots : SlotTable) → slice_get (free_files_from row slots) 0 ≡ None → position_or_len is_free slots ≡ length slots
none-least row [] e = refl
none-least row (slot ∷ slots) e =
    none-by (is_free slot) row (position_or_len is_free slots) (length slots) slot (free_files_from (row + 1) slots) e (λ f. none-least (row + 1) slots f)

not-bound : (bound room : Bool) → (not bound && room) ≡ true → bound ≡ false
not-bound true room e = absurd (cc)
not-bound false room e = refl

-- a file of a free row is that of its row's next generation
pub found-row : (table : SlotTable) (nth : ℕ) (answer : Option FileId) → answer ≡ slice_get (free_files table) nth → IfSome answer (IsFreeRow table)
found-row table nth None e = tt
found-row table nth (Some file) e =
    let is = found 1 table nth file (sym e) in
    let low = is.low in
    let within = is.within in
    record {
      least = low;
      within = omega arith;
      free = is.free;
      unbound = not-bound (slot_at table file.row).bound _ is.free;
      next = is.next;
    }
