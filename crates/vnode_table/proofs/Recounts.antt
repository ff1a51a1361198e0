-- The counts of free slots, when one slot changes.
use Rattle.std.proofs.Common.{◌≡◌, ◌≢◌, ℕ, ◌+◌, ◌-◌, ◌*◌, ◌/◌, ◌%◌, ◌==◌, ◌<◌, ◌≤◌, ◌⊎◌, inl, inr, ⊎_elim, true, false, List, length, take, drop, slice_index_or, slice_set, replicate, refl, sym, ap, subst, ◌∙◌, arith, get_or-set_same, get_or-set_other}
use Rattle.std.specs.Prelude.{count_by, sum_by}
use Rattle.std.proofs.lemmas.Bool.{cases_lt}
use Rattle.std.proofs.lemmas.Bool.Decides.{eqb_tells}
use Rattle.std.proofs.lemmas.List.{drop-set-add, drop-set-lt, drop-replicate, get_or-drop, get_or-replicate, get_or-take, get_or_past, length-drop, length-replicate, length-set, length-take, take-replicate, take-set-le}
use Rattle.std.proofs.lemmas.List.Folds.{sum_by-replicate}
use Rattle.std.proofs.lemmas.List.Sums.{count_by-le-length, get_or-le-sum_by, sum_by-set, sum_by-take-drop}
use Rattle.vnode_table.specs.Layout.{IsCounted, free_in_block, one_if, recounted}
use Rattle.vnode_table.specs.SlotTable.{IsSound, SlotTable, is_free, opening_slot}
use Rattle.vnode_table.specs.declared.vnode_slot.VnodeSlot.{VnodeSlot}
use Rattle.vnode_table.proofs.SoundSlots.{sound-opening}

-- one for a free slot, else none
abbrev free_number : VnodeSlot → ℕ
free_number slot = one_if (is_free slot)

-- a change within the first slots changes their count alone
count-front : (slots : SlotTable) (n at : ℕ) (slot : VnodeSlot) → at < n → at < length slots →
    count_by is_free (take n (slice_set slots at slot)) + free_number (slice_index_or slots at opening_slot)
    ≡ count_by is_free (take n slots) + free_number slot
count-front slots n at slot front within =
    let sum_is = sum_by-set free_number slots at slot opening_slot within in
    let before = sum_by-take-drop free_number slots n in
    let after = sum_by-take-drop free_number (slice_set slots at slot) n in
    let rest : sum_by free_number (drop n (slice_set slots at slot)) ≡ sum_by free_number (drop n slots) =
    ap (sum_by free_number) (drop-set-lt n slots at slot front) in
    omega (arith, sum_is, before, after, rest)

-- the count of the block of a changed slot
pub block-same : (slots : SlotTable) (place : ℕ) (slot : VnodeSlot) → place < length slots →
    free_in_block (slice_set slots place slot) (place / 64) + one_if (is_free (slice_index_or slots place opening_slot))
    ≡ free_in_block slots (place / 64) + one_if (is_free slot)
block-same slots place slot within =
    let start : ℕ = 64 * (place / 64) in
    let at : ℕ = place % 64 in
    let parts : place ≡ start + at = omega arith in
    let inner : at < length (drop start slots) = omega (arith, length-drop start slots) in
    let front : at < 64 = omega arith in
    let moved : drop start (slice_set slots place slot) ≡ slice_set (drop start slots) at slot =
    ap (λ k. drop start (slice_set slots k slot)) parts ∙ drop-set-add start slots at slot in
    let old : slice_index_or (drop start slots) at opening_slot ≡ slice_index_or slots place opening_slot =
    get_or-drop start slots at opening_slot ∙ ap (λ k. slice_index_or slots k opening_slot) (sym parts) in
    let count = count-front (drop start slots) 64 at slot front inner in
    ap (λ xs. count_by is_free (take 64 xs) + free_number (slice_index_or slots place opening_slot)) moved
    ∙ ap (λ x. count_by is_free (take 64 (slice_set (drop start slots) at slot)) + free_number x) (sym old)
    ∙ count

-- the count of another block
pub block-other : (slots : SlotTable) (place block : ℕ) (slot : VnodeSlot) → block ≢ place / 64 →
    free_in_block (slice_set slots place slot) block ≡ free_in_block slots block
block-other slots place block slot other =
    ⊎_elim
    (λ (before : place < 64 * block). ap (λ xs. count_by is_free (take 64 xs)) (drop-set-lt (64 * block) slots place slot before))
    (λ (behind : 64 * block + 64 ≤ place).
    let at : ℕ = place - 64 * block in
    let parts : place ≡ 64 * block + at = omega arith in
    let past : 64 ≤ at = omega arith in
    ap (count_by is_free) (
    ap (λ k. take 64 (drop (64 * block) (slice_set slots k slot))) parts
    ∙ ap (take 64) (drop-set-add (64 * block) slots at slot)
    ∙ take-set-le 64 (drop (64 * block) slots) at slot past
    ))
    (apart place block other)
  where
    apart : (place block : ℕ) → block ≢ place / 64 → (place < 64 * block) ⊎ (64 * block + 64 ≤ place)
    apart place block other =
        ⊎_elim (λ (before : place < 64 * block). inl before) (λ (behind : 64 * block ≤ place). inr (omega arith)) (cases_lt place (64 * block))

-- a free slot is counted in its block
pub block-counts : (slots : SlotTable) (place : ℕ) → place < length slots →
    one_if (is_free (slice_index_or slots place opening_slot)) ≤ free_in_block slots (place / 64)
block-counts slots place within =
    let start : ℕ = 64 * (place / 64) in
    let at : ℕ = place % 64 in
    let parts : place ≡ start + at = omega arith in
    let front : at < 64 = omega arith in
    let inner : at < length (take 64 (drop start slots)) = omega (arith, length-drop start slots, length-take 64 (drop start slots)) in
    let old : slice_index_or (take 64 (drop start slots)) at opening_slot ≡ slice_index_or slots place opening_slot =
    get_or-take 64 (drop start slots) at opening_slot front
    ∙ get_or-drop start slots at opening_slot ∙ ap (λ k. slice_index_or slots k opening_slot) (sym parts) in
    subst (λ x. free_number x ≤ free_in_block slots (place / 64)) old
    (get_or-le-sum_by free_number (take 64 (drop start slots)) at opening_slot inner)

-- and in all
pub total-counts : (slots : SlotTable) (place : ℕ) → place < length slots →
    one_if (is_free (slice_index_or slots place opening_slot)) ≤ count_by is_free slots
total-counts slots place within = get_or-le-sum_by free_number slots place opening_slot within

pub block-small : (slots : SlotTable) (block : ℕ) → free_in_block slots block ≤ 64
block-small slots block =
    omega (arith, count_by-le-length is_free (take 64 (drop (64 * block) slots)), length-take 64 (drop (64 * block) slots))

pub total-small : (slots : SlotTable) → count_by is_free slots ≤ length slots
total-small slots = count_by-le-length is_free slots

block-here : (slots : SlotTable) (blocks : List ℕ) (total place count : ℕ) (slot : VnodeSlot) → IsCounted slots blocks total → place < length slots →
    count ≡ recounted (slice_index_or blocks (place / 64) 0) (is_free (slice_index_or slots place opening_slot)) (is_free slot) →
    slice_index_or (slice_set blocks (place / 64) count) (place / 64) 0 ≡ free_in_block (slice_set slots place slot) (place / 64)
block-here slots blocks total place count slot counted within is =
    let size = counted.size in
    let places = counted.places in
    let inner : place / 64 < length blocks = omega arith in
    let old = counted.each (place / 64) in
    let some = block-counts slots place within in
    let change = block-same slots place slot within in
    get_or-set_same blocks (place / 64) count 0 inner ∙ omega (arith, is, old, some, change)

block-by : (slots : SlotTable) (blocks : List ℕ) (total place block : ℕ) (slot : VnodeSlot) → IsCounted slots blocks total → place < length slots →
    (((block == place / 64) ≡ true) × (block ≡ place / 64)) ⊎ (((block == place / 64) ≡ false) × (block ≢ place / 64)) →
    slice_index_or
    (slice_set blocks (place / 64) (recounted (slice_index_or blocks (place / 64) 0) (is_free (slice_index_or slots place opening_slot)) (is_free slot)))
    block 0
    ≡ free_in_block (slice_set slots place slot) block
block-by slots blocks total place block slot counted within (inl same) =
    let count : ℕ = recounted (slice_index_or blocks (place / 64) 0) (is_free (slice_index_or slots place opening_slot)) (is_free slot) in
    subst (λ b. slice_index_or (slice_set blocks (place / 64) count) b 0 ≡ free_in_block (slice_set slots place slot) b) (sym same.1)
    (block-here slots blocks total place count slot counted within refl)
block-by slots blocks total place block slot counted within (inr other) =
    get_or-set_other blocks (place / 64) block _ 0 other.1 ∙ counted.each block ∙ sym (block-other slots place block slot other.1)

-- a count has room for one more
pub block-room : (slots : SlotTable) (blocks : List ℕ) (total block : ℕ) → IsCounted slots blocks total → slice_index_or blocks block 0 < 65535
block-room slots blocks total block counted =
    let is = counted.each block in let small = block-small slots block in omega (arith, is, small)

-- the counts after the change of a slot
pub counted-set : (slots : SlotTable) (blocks : List ℕ) (total place : ℕ) (slot : VnodeSlot) → IsCounted slots blocks total → place < length slots →
    IsCounted (slice_set slots place slot)
    (slice_set blocks (place / 64) (recounted (slice_index_or blocks (place / 64) 0) (is_free (slice_index_or slots place opening_slot)) (is_free slot)))
    (recounted total (is_free (slice_index_or slots place opening_slot)) (is_free slot))
counted-set slots blocks total place slot counted within =
    let some = total-counts slots place within in
    let sum_is = sum_by-set free_number slots place slot opening_slot within in
    let total_is = counted.all in
    record {
      size = length-set slots place slot ∙ counted.size;
      places = length-set blocks (place / 64) _ ∙ counted.places;
      each = λ block. block-by slots blocks total place block slot counted within (eqb_tells block (place / 64));
      all = omega (arith, some, sum_is, total_is);
    }

opening-block : (n block : ℕ) → n ≡ 1024 → (block < 16) ⊎ (16 ≤ block) →
    slice_index_or (replicate 16 64) block 0 ≡ free_in_block (replicate n opening_slot) block
opening-block n block is (inl within) =
    let room : 64 ≤ n - 64 * block = omega arith in
    get_or-replicate 16 block 64 0 within
    ∙ sym (
    ap (λ xs. count_by is_free (take 64 xs)) (drop-replicate (64 * block) n opening_slot)
    ∙ ap (count_by is_free) (take-replicate 64 (n - 64 * block) opening_slot room)
    ∙ sum_by-replicate free_number 64 opening_slot
    )
opening-block n block is (inr past) =
    let none : n - 64 * block ≡ 0 = omega arith in
    get_or_past (replicate 16 64) block 0 past
    ∙ sym (
    ap (λ xs. count_by is_free (take 64 xs)) (drop-replicate (64 * block) n opening_slot)
    ∙ ap (λ k. count_by is_free (take 64 (replicate k opening_slot))) none
    )

pub opening-counted : (n : ℕ) → n ≡ 1024 → IsCounted (replicate n opening_slot) (replicate 16 64) n
opening-counted n is =
    let sum_is = sum_by-replicate free_number n opening_slot in
    record {
      size = length-replicate n opening_slot ∙ is;
      places = refl;
      each = λ block. opening-block n block is (cases_lt block 16);
      all = omega (arith, sum_is);
    }

-- the table at the beginning
pub opened : (slots : SlotTable) (n : ℕ) → n ≡ 1024 → slots ≡ replicate n opening_slot → IsSound slots × IsCounted slots (replicate 16 64) n
opened slots n is e =
    subst (λ xs. IsSound xs × IsCounted xs (replicate 16 64) n) (sym e) (sound-opening n is, opening-counted n is)
