-- How many pages a step leaves in memory.
use Rattle.std.specs.Prelude.{◌≡◌, ℕ, zero, suc, ◌+◌, ◌-◌, ◌/◌, ◌%◌, ◌<◌, ◌≤◌, ◌==◌, Bool, true, false, not, ◌&&◌, ◌||◌, cond, nat_lt, nat_le, is_ok, is_some, Option, Some, None, List, [], ◌∷◌, ◌++◌, length, map, take, drop, filter, count_by, Result, Ok, Err, MatchResult, refl, if◌then◌else◌}
use Rattle.std.proofs.Common.{sym, ◌∙◌, ap, inl, inr, arith}
use Rattle.std.proofs.lemmas.Bool.{cases_lt}
use Rattle.std.proofs.lemmas.Bool.Decides.{eqb_tells, leb_tells}
use Rattle.std.proofs.lemmas.List.{length-append, length-take, take-append-drop}
use Rattle.std.proofs.lemmas.List.Filters.{length-filter_both}
use Rattle.std.proofs.lemmas.List.Sums.{count_by-le-length, length-filter, sum_by-append}
use Rattle.std.specs.BTreeSet.{insert_key}
use Rattle.std.specs.List.{last_or, list_all, list_any}
use Rattle.std.specs.Ordering.{nat_cmp}
use Rattle.vfs_base.specs.declared.limits.TheConstants.{PAGE_SIZE, RECLAIM_TARGET, RESIDENT_PAGES}
use Rattle.vfs_base.specs.declared.step.Step.{Step}
use Rattle.vfs_base.specs.declared.step.Step.TheVariants as step
use Rattle.vfs_model.specs.Asking.{Asked, run_steps}
use Rattle.vfs_model.specs.Cache.{CacheRun, begin_run, dirty_pages, evict, evict_last, evict_many, file_size, is_page, is_resident, is_stored, make_clean, make_dirty, move_to_front, pages_of, reclaim, without_last, write_back}
use Rattle.vfs_model.specs.CacheLaws.{IsSmall}
use Rattle.vfs_model.specs.FailedCalls.{◌>>=◌, StoppedRun, bytes_before, clean_page, having_moved, stopped_run, try_bring_in, try_call, try_clean, try_each, try_edit, try_edit_end, try_evict, try_evict_last, try_evict_many, try_move, try_pages, try_reclaim, try_touch, try_truncate, try_write, try_write_back}
use Rattle.vfs_model.specs.FileMoves.{is_on_cell}
use Rattle.vfs_model.specs.FileStep.{file_refusals, moved_count}
use Rattle.vfs_model.specs.IoTotals.{IoState, io_step, io_steps}
use Rattle.vfs_model.specs.World.{world_step}
use Rattle.vfs_model.specs.declared.cache.CacheState.{CacheState}
use Rattle.vfs_model.specs.declared.cache.DeviceCall.{DeviceCall}
use Rattle.vfs_model.specs.declared.cache.DeviceCall.TheVariants as call
use Rattle.vfs_model.specs.declared.cache.Resident.{Resident}
use Rattle.vfs_model.specs.declared.world.FileState.{FileState}
use Rattle.vfs_model.specs.declared.world.WorldState.{WorldState}

-- how many pass a test, over what lists are made of

count-append : {X : Type 0} (p : X → Bool) (xs ys : List X) → count_by p (xs ++ ys) ≡ count_by p xs + count_by p ys
count-append p xs ys = sum_by-append (λ x. cond (p x) 1 0) xs ys

-- 1 where a test holds
abbrev pub one_if_true : Bool → ℕ
one_if_true test = cond test 1 0

count-cons : {X : Type 0} (p : X → Bool) (x : X) (xs : List X) → count_by p (x ∷ xs) ≡ one_if_true (p x) + count_by p xs
count-cons p x xs = let e = sum_by-append (λ x. cond (p x) 1 0) (x ∷ []) xs in omega (arith, e)

count-take : {X : Type 0} (p : X → Bool) (n : ℕ) (xs : List X) → count_by p (take n xs) ≤ count_by p xs
count-take p n xs =
    let parts = ap (count_by p) (take-append-drop n xs) in
    let sum = count-append p (take n xs) (drop n xs) in
    omega (arith, parts, sum)

count-filter : {X : Type 0} (p q : X → Bool) (xs : List X) → count_by p (filter q xs) ≤ count_by p xs
count-filter p q [] = omega arith
count-filter p q (x ∷ xs) = by (q x) (count-filter p q xs)
  where
    by : (t : Bool) → count_by p (filter q xs) ≤ count_by p xs → count_by p (if t then x ∷ filter q xs else filter q xs) ≤ count_by p (x ∷ xs)
    by true more = let a = count-cons p x (filter q xs) in let b = count-cons p x xs in omega (arith, a, b, more)
    by false more = let b = count-cons p x xs in omega (arith, b, more)

-- what passes a test, and then what does not, are all in another order
count-split : {X : Type 0} (p q : X → Bool) (xs : List X) → count_by p (filter q xs ++ filter (λ x. not (q x)) xs) ≡ count_by p xs
count-split p q [] = refl
count-split p q (x ∷ xs) = by (q x) (count-split p q xs)
  where
    by : (t : Bool) → count_by p (filter q xs ++ filter (λ x. not (q x)) xs) ≡ count_by p xs →
        count_by p ((if t then x ∷ filter q xs else filter q xs) ++ (if not t then x ∷ filter (λ x. not (q x)) xs else filter (λ x. not (q x)) xs)) ≡ count_by p (x ∷ xs)
    by true more =
        let a = count-cons p x (filter q xs ++ filter (λ x. not (q x)) xs) in let b = count-cons p x xs in omega (arith, a, b, more)
    by false more =
        let first = count-append p (filter q xs) (x ∷ filter (λ x. not (q x)) xs) in
        let second = count-append p (filter q xs) (filter (λ x. not (q x)) xs) in
        let third = count-cons p x (filter (λ x. not (q x)) xs) in
        let b = count-cons p x xs in
        omega (arith, first, second, third, b, more)

count-map : (p : Resident → Bool) (f : Resident → Resident) → ((slot : Resident) → p (f slot) ≡ p slot) → (xs : List Resident) → count_by p (map f xs) ≡ count_by p xs
count-map p f same [] = refl
count-map p f same (x ∷ xs) =
    let a = count-cons p (f x) (map f xs) in let b = count-cons p x xs in let more = count-map p f same xs in
    let one = ap one_if_true (same x) in
    omega (arith, a, b, more, one)

count-none : {X : Type 0} (p : X → Bool) (xs : List X) → list_any p xs ≡ false → count_by p xs ≡ 0
count-none p [] e = refl
count-none p (x ∷ xs) e = by (count-none p xs) (p x) refl
  where
    by : (list_any p xs ≡ false → count_by p xs ≡ 0) → (t : Bool) → p x ≡ t → count_by p (x ∷ xs) ≡ 0
    by more true f = let no : true ≡ false = sym (ap (λ t. t || list_any p xs) f) ∙ e in absurd (cc)
    by more false f =
        let none = more (sym (ap (λ t. t || list_any p xs) f) ∙ e) in
        let a = count-cons p x xs in let one = ap one_if_true f in omega (arith, a, none, one)

length-take-le : {X : Type 0} (n : ℕ) (xs : List X) → length (take n xs) ≤ n
length-take-le n xs = let e = length-take n xs in omega (arith, e)

-- small lists of pages in memory

moved-small : (page : ℕ) (slots : List Resident) → IsSmall slots →
    IsSmall (filter (is_page page) slots ++ filter (λ slot. not (is_page page slot)) slots)
moved-small page slots h = record {
  bounded = let e = length-append (filter (is_page page) slots) (filter (λ slot. not (is_page page slot)) slots) in
      let f = length-filter_both (is_page page) (λ slot. not (is_page page slot)) (λ slot. refl) slots in let b = h.bounded in omega (arith, e, f, b);
  once = λ other. rw (count-split (is_page other) (is_page page) slots) (h.once other);
}

length-mapped : (f : Resident → Resident) (slots : List Resident) → length (map f slots) ≡ length slots
length-mapped f [] = refl
length-mapped f (slot ∷ slots) = let more = length-mapped f slots in omega (arith, more)

mapped-small : (f : Resident → Resident) → ((slot : Resident) → (f slot).page ≡ slot.page) → (slots : List Resident) → IsSmall slots → IsSmall (map f slots)
mapped-small f same slots h = record {
  bounded = let e = length-mapped f slots in let b = h.bounded in omega (arith, e, b);
  once = λ other. rw (count-map (is_page other) f (λ slot. ap (λ page. page == other) (same slot)) slots) (h.once other);
}

filtered-small : (q : Resident → Bool) (slots : List Resident) → IsSmall slots → IsSmall (filter q slots)
filtered-small q slots h = record {
  bounded = let e = length-filter q slots in let f = count_by-le-length q slots in let b = h.bounded in omega (arith, e, f, b);
  once = λ other. let less = count-filter (is_page other) q slots in let one = h.once other in omega (arith, less, one);
}

dropped-small : (n : ℕ) (slots : List Resident) → IsSmall slots → IsSmall (take n slots)
dropped-small n slots h = record {
  bounded = let e = length-take n slots in let b = h.bounded in omega (arith, e, b);
  once = λ other. let less = count-take (is_page other) n slots in let one = h.once other in omega (arith, less, one);
}

-- there is room for the page, which is not in memory
record HasRoom (page : ℕ) (slots : List Resident) : Type 0 where
  bounded : length slots < RESIDENT_PAGES
  once : (other : ℕ) → count_by (is_page other) slots ≤ 1
  absent : count_by (is_page page) slots ≡ 0

brought-small : (page : ℕ) (slots : List Resident) → HasRoom page slots → IsSmall (record { page = page; is_dirty = false } ∷ slots)
brought-small page slots h = record {
  bounded = let b = h.bounded in omega (arith, b);
  once = λ other. elim (eqb_tells page other) [
    | inl p ↦ let a = count-cons (is_page other) (record { page = page; is_dirty = false }) slots in
        let one = ap one_if_true p.0 in
        let none : count_by (is_page other) slots ≡ 0 = ap (λ n. count_by (is_page n) slots) (sym p.1) ∙ h.absent in omega (arith, a, one, none)
    | inr p ↦ let a = count-cons (is_page other) (record { page = page; is_dirty = false }) slots in
        let none = ap one_if_true p.0 in let one = h.once other in omega (arith, a, one, none)
  ];
}

-- there is room, but for a page that leaves
record SmallWithout (page : ℕ) (slots : List Resident) : Type 0 where
  small : IsSmall slots
  absent : count_by (is_page page) slots ≡ 0

room-small : (page : ℕ) (slots : List Resident) → HasRoom page slots → IsSmall slots
room-small page slots h = record { bounded = let b = h.bounded in omega (arith, b); once = h.once }

last-some : {X : Type 0} (found : Option X) (xs : List X) → is_some found ≡ true → is_some (last_or found xs) ≡ true
last-some found [] e = e
last-some found (x ∷ xs) e = last-some (Some x) xs refl

last-there : {X : Type 0} (xs : List X) → 0 < length xs → is_some (last_or None xs) ≡ true
last-there [] h = absurd (omega (arith, h))
last-there (x ∷ xs) h = last-some (Some x) xs refl

-- what is tried leaves one property of the pages in memory, and small ones where a call failed

abbrev pub Leaves : {E : Type 0} → (List Resident → Type 0) → (E → CacheRun) → Result CacheRun E → Type 0
Leaves P left (Ok run) = P run.next.resident
Leaves P left (Err stopped) = IsSmall (left stopped).next.resident

bound : {E : Type 0} (P Q : List Resident → Type 0) (left : E → CacheRun) (tried : Result CacheRun E) (rest : CacheRun → Result CacheRun E) →
    Leaves P left tried → ((run : CacheRun) → P run.next.resident → Leaves Q left (rest run)) → Leaves Q left (tried >>= rest)
bound P Q left (Ok run) rest h more = more run h
bound P Q left (Err stopped) rest h more = h

chosen : {E : Type 0} (P : List Resident → Type 0) (left : E → CacheRun) (test : Bool) (tried other : Result CacheRun E) →
    Leaves P left tried → Leaves P left other → Leaves P left (if test then tried else other)
chosen P left true tried other h g = h
chosen P left false tried other h g = g

abbrev pub itself : CacheRun → CacheRun
itself run = run

-- a call changes nothing in memory, whether it fails or not
called : (P : List Resident → Type 0) (number : ℕ) (run : CacheRun) (asked : DeviceCall) → P run.next.resident → IsSmall run.next.resident →
    Leaves P itself (try_call number run asked)
called P number run asked h small = by (length (run.calls ++ asked ∷ []) == number)
  where
    by : (t : Bool) → Leaves P itself (if t then Err (record run { calls = run.calls ++ asked ∷ [] }) else Ok (record run { calls = run.calls ++ asked ∷ [] }))
    by true = small
    by false = h

written : (P : List Resident → Type 0) (number : ℕ) (run : CacheRun) (page : ℕ) → P run.next.resident → IsSmall run.next.resident →
    Leaves P itself (try_write number run page)
written P number run page h small = bound P P itself (try_call number run (call.Write page)) _ (called P number run (call.Write page) h small) (λ made g. g)

written-first : (P : List Resident → Type 0) (number : ℕ) (run : CacheRun) (slot : Resident) → P run.next.resident → IsSmall run.next.resident →
    Leaves P itself (if slot.is_dirty then try_write number run slot.page else Ok run)
written-first P number run slot h small = chosen P itself slot.is_dirty (try_write number run slot.page) (Ok run) (written P number run slot.page h small) h

evicted : (number : ℕ) (run : CacheRun) (slot : Option Resident) → IsSmall run.next.resident → Leaves IsSmall itself (try_evict number run slot)
evicted number run None h = h
evicted number run (Some slot) h =
    bound IsSmall IsSmall itself (if slot.is_dirty then try_write number run slot.page else Ok run) _ (written-first IsSmall number run slot h h)
    (λ next g. dropped-small (length next.next.resident - 1) next.next.resident g)

evicted-many : (number count : ℕ) (run : CacheRun) → IsSmall run.next.resident → Leaves IsSmall itself (try_evict_many number count run)
evicted-many number zero run h = h
evicted-many number (suc count) run h =
    bound IsSmall IsSmall itself (try_evict_last number run) _ (evicted number run (last_or None run.next.resident) h) (λ next g. evicted-many number count next g)

-- where a page leaves there is room for another one
left-room : (page : ℕ) (slots : List Resident) → SmallWithout page slots → HasRoom page (take (length slots - 1) slots)
left-room page slots h = record {
  bounded = let e = length-take (length slots - 1) slots in let b = h.small.bounded in omega (arith, e, b);
  once = λ other. let less = count-take (is_page other) (length slots - 1) slots in let one = h.small.once other in omega (arith, less, one);
  absent = let less = count-take (is_page page) (length slots - 1) slots in let none = h.absent in omega (arith, less, none);
}

evicted-for : (number page : ℕ) (run : CacheRun) (slot : Option Resident) → is_some slot ≡ true → SmallWithout page run.next.resident →
    Leaves (HasRoom page) itself (try_evict number run slot)
evicted-for number page run None e h = absurd (cc)
evicted-for number page run (Some slot) e h =
    bound (SmallWithout page) (HasRoom page) itself (if slot.is_dirty then try_write number run slot.page else Ok run) _
    (written-first (SmallWithout page) number run slot h h.small) (λ next g. left-room page next.next.resident g)

made-room : (number page : ℕ) (run : CacheRun) → SmallWithout page run.next.resident →
    Leaves (HasRoom page) itself (if nat_le RESIDENT_PAGES (length run.next.resident) then try_evict_last number run else Ok run)
made-room number page run h = elim (leb_tells RESIDENT_PAGES (length run.next.resident)) as (λ _. Leaves (HasRoom page) itself (if nat_le RESIDENT_PAGES (length run.next.resident) then try_evict_last number run else Ok run)) [
  | inl full ↦ rw full.0 (evicted-for number page run (last_or None run.next.resident) (last-there run.next.resident (let f = full.1 in omega (arith, f))) h)
  | inr free ↦ rw free.0 (record { bounded = free.1; once = h.small.once; absent = h.absent })
]

brought : (number page : ℕ) (run : CacheRun) → HasRoom page run.next.resident → Leaves IsSmall itself (try_bring_in number page run)
brought number page run h =
    bound (HasRoom page) IsSmall itself (if is_stored run.next page then try_call number run (call.Read page) else Ok run) _
    (chosen (HasRoom page) itself (is_stored run.next page) (try_call number run (call.Read page)) (Ok run)
    (called (HasRoom page) number run (call.Read page) h (room-small page run.next.resident h)) h)
    (λ read g. brought-small page read.next.resident g)

touched : (number : ℕ) (run : CacheRun) (page : ℕ) → IsSmall run.next.resident → Leaves IsSmall itself (try_touch number run page)
touched number run page h = by (is_resident run.next page) refl
  where
    by : (t : Bool) → is_resident run.next page ≡ t → Leaves IsSmall itself (if t then Ok (record run { next = move_to_front page run.next })
        else ((if nat_le RESIDENT_PAGES (length run.next.resident) then try_evict_last number run else Ok run) >>= λ room. try_bring_in number page room))
    by true f = moved-small page run.next.resident h
    by false f =
        bound (HasRoom page) IsSmall itself (if nat_le RESIDENT_PAGES (length run.next.resident) then try_evict_last number run else Ok run) _
        (made-room number page run (record { small = h; absent = count-none (is_page page) run.next.resident f }))
        (λ room g. brought number page room g)

dirty-page : (page : ℕ) (slot : Resident) → (make_dirty page slot).page ≡ slot.page
dirty-page page slot = by (is_page page slot)
  where
    by : (t : Bool) → (let s : Resident = if t then record slot { is_dirty = true } else slot in s.page) ≡ slot.page
    by true = refl
    by false = refl

clean-page : (page : ℕ) (slot : Resident) → (clean_page page slot).page ≡ slot.page
clean-page page slot = by (is_page page slot)
  where
    by : (t : Bool) → (let s : Resident = if t then make_clean slot else slot in s.page) ≡ slot.page
    by true = refl
    by false = refl

edited : (number : ℕ) (run : CacheRun) (page : ℕ) → IsSmall run.next.resident → Leaves IsSmall itself (try_edit number run page)
edited number run page h = bound IsSmall IsSmall itself (try_touch number run page) _ (touched number run page h)
    (λ next g. mapped-small (make_dirty page) (dirty-page page) next.next.resident g)

cleaned : (number : ℕ) (run : CacheRun) (page : ℕ) → IsSmall run.next.resident → Leaves IsSmall itself (try_clean number run page)
cleaned number run page h = bound IsSmall IsSmall itself (try_write number run page) _ (written IsSmall number run page h h)
    (λ next g. mapped-small (clean_page page) (clean-page page) next.next.resident g)

each-cleaned : (number : ℕ) (run : CacheRun) (pages : List ℕ) → IsSmall run.next.resident → Leaves IsSmall itself (try_each (try_clean number) run pages)
each-cleaned number run [] h = h
each-cleaned number run (page ∷ pages) h = bound IsSmall IsSmall itself (try_clean number run page) _ (cleaned number run page h) (λ next g. each-cleaned number next pages g)

ended : (number : ℕ) (run : CacheRun) (len : ℕ) → IsSmall run.next.resident → Leaves IsSmall itself (try_edit_end number run len)
ended number run len h = chosen IsSmall itself
    (not (len % PAGE_SIZE == 0) && (is_resident run.next (len / PAGE_SIZE) || is_stored run.next (len / PAGE_SIZE)))
    (try_edit number run (len / PAGE_SIZE)) (Ok run) (edited number run (len / PAGE_SIZE) h) h

truncated : (number : ℕ) (run : CacheRun) (size len : ℕ) → IsSmall run.next.resident → Leaves IsSmall itself (try_truncate number run size len)
truncated number run size len h = chosen IsSmall itself (nat_lt len size) _ (Ok run)
    (bound IsSmall IsSmall itself (try_edit_end number run len) _ (ended number run len h)
    (λ next g. filtered-small (λ slot. nat_lt slot.page ((len + PAGE_SIZE - 1) / PAGE_SIZE)) next.next.resident g)) h

abbrev pub stopped_at : StoppedRun → CacheRun
stopped_at stopped = stopped.run

told : (count : ℕ) (tried : Result CacheRun CacheRun) → Leaves IsSmall itself tried → Leaves IsSmall stopped_at (having_moved count tried)
told count (Ok run) h = h
told count (Err left) h = h

all-pages : (off : ℕ) (try : CacheRun → ℕ → Result CacheRun CacheRun) →
    ((run : CacheRun) (page : ℕ) → IsSmall run.next.resident → Leaves IsSmall itself (try run page)) →
    (run : CacheRun) (pages : List ℕ) → IsSmall run.next.resident → Leaves IsSmall stopped_at (try_pages try off run pages)
all-pages off try each run [] h = h
all-pages off try each run (page ∷ pages) h =
    bound IsSmall IsSmall stopped_at (having_moved (bytes_before off page) (try run page)) _
    (told (bytes_before off page) (try run page) (each run page h)) (λ next g. all-pages off try each next pages g)

all-moved : (number : ℕ) (run : CacheRun) (size : ℕ) (asked : Step) (count : ℕ) → IsSmall run.next.resident →
    Leaves IsSmall stopped_at (try_move number run size asked count)
all-moved number run size (step.Read id off len) count h = all-pages off (try_touch number) (touched number) run (pages_of off count) h
all-moved number run size (step.Load id off len) count h = all-pages off (try_touch number) (touched number) run (pages_of off count) h
all-moved number run size (step.Write id off piece) count h = all-pages off (try_edit number) (edited number) run (pages_of off count) h
all-moved number run size (step.Store id off piece) count h = all-pages off (try_edit number) (edited number) run (pages_of off count) h
all-moved number run size (step.Append id piece) count h = all-pages size (try_edit number) (edited number) run (pages_of size count) h
all-moved number run size (step.Trunc id len) count h = told 0 (try_truncate number run size len) (truncated number run size len h)
all-moved number run size (step.Sync id) count h = told 0 (try_write_back number run) (each-cleaned number run (dirty_pages run.next) h)
all-moved number run size (step.Flush row) count h = told 0 (try_write_back number run) (each-cleaned number run (dirty_pages run.next) h)
all-moved number run size (step.Reclaim row) count h = told 0 (try_reclaim number run) (evicted-many number (length run.next.resident - RECLAIM_TARGET) run h)
all-moved number run size _ count h = h

pub cache-stays-small : (number : ℕ) (f : FileState) (cache : CacheState) (asked : Step) → IsSmall cache.resident →
    MatchResult (stopped_run number f cache asked) (λ run. IsSmall run.next.resident) (λ stopped. IsSmall stopped.run.next.resident)
unfolding stopped_run
cache-stays-small number f cache asked h = as-match (stopped_run number f cache asked)
    (chosen IsSmall stopped_at (is_on_cell f && is_ok (file_refusals f asked)) _ (Ok (begin_run cache))
    (all-moved number (begin_run cache) (file_size f) asked (moved_count f asked) h) h)
  where
    as-match : (tried : Result CacheRun StoppedRun) → Leaves IsSmall stopped_at tried →
        MatchResult tried (λ run. IsSmall run.next.resident) (λ stopped. IsSmall stopped.run.next.resident)
    as-match (Ok run) g = g
    as-match (Err stopped) g = g

-- a page leaves, if there is one
leaves-one : (run : CacheRun) (slot : Resident) → length (evict run (Some slot)).next.resident ≤ length run.next.resident - 1
leaves-one run slot = by slot.is_dirty
  where
    by : (t : Bool) → length (let written : CacheRun = if t then record {
      next = record run.next { stored = insert_key nat_cmp run.next.stored slot.page };
      calls = run.calls ++ call.Write slot.page ∷ [];
    } else run in without_last written.next).resident ≤ length run.next.resident - 1
    by true = length-take-le (length run.next.resident - 1) run.next.resident
    by false = length-take-le (length run.next.resident - 1) run.next.resident

leaves-last : (run : CacheRun) (slot : Option Resident) → (0 < length run.next.resident → is_some slot ≡ true) →
    length (evict run slot).next.resident ≤ length run.next.resident - 1
leaves-last run (Some slot) there = leaves-one run slot
leaves-last run None there = elim (cases_lt 0 (length run.next.resident)) [ inl some ↦ (let e = there some in absurd (cc)) | inr none ↦ omega (arith, none) ]

leaves-many : (count : ℕ) (run : CacheRun) → length (evict_many count run).next.resident ≤ length run.next.resident - count
unfolding evict_last
leaves-many zero run = omega arith
leaves-many (suc count) run =
    let first = leaves-last run (last_or None run.next.resident) (last-there run.next.resident) in
    let more = leaves-many count (evict run (last_or None run.next.resident)) in
    omega (arith, first, more)

pub reclaim-leaves-few : (run : CacheRun) → length (reclaim run).next.resident ≤ RECLAIM_TARGET
unfolding reclaim
reclaim-leaves-few run = let few = leaves-many (length run.next.resident - RECLAIM_TARGET) run in omega (arith, few)

pub none-dirty : (run : CacheRun) → list_all (λ slot. not slot.is_dirty) (write_back run).next.resident ≡ true
unfolding write_back
none-dirty run = all-clean run.next.resident
  where
    all-clean : (slots : List Resident) → list_all (λ slot. not slot.is_dirty) (map make_clean slots) ≡ true
    all-clean [] = refl
    all-clean (slot ∷ slots) = all-clean slots

pub calls-add-up : (w : WorldState) (io : IoState) (first second : List Asked) →
    io_steps w io (first ++ second) ≡ io_steps (run_steps w first).next (io_steps w io first) second
calls-add-up w io [] second = refl
calls-add-up w io (asked ∷ later) second = calls-add-up (world_step w asked.who asked.step asked.mark).next (io_step w io asked) later second
