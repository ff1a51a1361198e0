-- A file that is cut to a shorter length: its last page is cleared behind the length, and the pages behind it are gone.
use Rattle.std.specs.Prelude.{◌≡◌, ℕ, zero, suc, ◌+◌, ◌-◌, ◌*◌, ◌/◌, ◌%◌, ◌<◌, ◌≤◌, ◌==◌, ◌||◌, Bool, true, false, nat_lt, Option, Some, None, List, [], ◌∷◌, ◌++◌, length, map, filter, find, take, drop, replicate, slice_index_or, Result, Ok, refl, if◌then◌else◌}
use Rattle.std.proofs.Common.{sym, ◌∙◌, ap, ap₂, subst, arith, inl, inr}
use Rattle.std.proofs.lemmas.Bool.{cases_lt}
use Rattle.std.proofs.lemmas.Bool.Decides.{nat_tests}
use Rattle.std.proofs.lemmas.List.FromFn.{get_or-map-range_with_len}
use Rattle.std.proofs.lemmas.List.{append-nil, append_assoc, drop-drop, length-append, length-replicate, length-take-le, replicate-append-replicate}
use Rattle.std.specs.List.{concat, list_any, range_with_len}
use Rattle.vfs_base.specs.declared.limits.TheConstants.{PAGE_SIZE}
use Rattle.vfs_model.specs.Cache.{CacheRun, cut_pages, is_resident, is_stored, truncate}
use Rattle.vfs_model.specs.FailedCalls.{◌>>=◌, StoppedRun, having_moved}
use Rattle.vfs_model.specs.PageList.{CachedPage, cached_bytes, page_bytes, slot_of}
use Rattle.vfs_model.specs.declared.cache.DeviceCall.{DeviceCall}
use Rattle.page_cache.specs.AddressSpace.{AddressSpace, Completes, IsCurrent, Moment, Stops, cache_in, file_pages, page_of, run_behind, space_of}
use Rattle.page_cache.specs.Framed.{AreCounted}
use Rattle.page_cache.specs.Resident.{is_cached, spliced}
use Rattle.page_cache.specs.declared.cache_fault.CacheFault.{CacheFault}
use Rattle.page_cache.specs.declared.cache_fault.CacheFault.TheVariants as fault
use Rattle.page_cache.proofs.Calls.{none-made}
use Rattle.page_cache.proofs.Found.{find-kept, find-lost, other-number, same-number}
use Rattle.page_cache.proofs.Pages.{absent-found}
use Rattle.page_cache.proofs.Runs.{Alike, out-as, stops-as}
use Rattle.page_cache.proofs.Turns.{stored-cut}
use Rattle.page_cache.proofs.Ways.{resident-held}
use Rattle.cell_file.specs.CellFile.{IsWhole, all_bytes}
use Rattle.cell_file.specs.Moves.{Passes, Runs, editing, ending, mark_of, truncating}
use Rattle.cell_file.specs.Parts.{ClearsEnd, CutsBytes, has_end, page_end}
use Rattle.cell_file.proofs.Flat.{AreFull, flat-length, flat-page, take-further, take-over}
use Rattle.cell_file.proofs.SizedBytes.{drop-zeros, take-zeros}
use Rattle.cell_file.proofs.Told.{part-bytes}
use Rattle.cell_file.proofs.Touching.{pages-count}

-- the address space without the pages from one on
abbrev pub cut_space : ℕ → AddressSpace → AddressSpace
cut_space keep a = record a { resident = filter (λ cached. nat_lt cached.page keep) a.resident; stored = filter (λ page. nat_lt page keep) a.stored }

slots-cut : (keep : ℕ) (xs : List CachedPage) → filter (λ slot. nat_lt slot.page keep) (map slot_of xs) ≡ map slot_of (filter (λ cached. nat_lt cached.page keep) xs)
slots-cut keep [] = refl
slots-cut keep (x ∷ xs) = elim (nat_lt x.page keep) as (λ t.
    (if t then slot_of x ∷ filter (λ slot. nat_lt slot.page keep) (map slot_of xs) else filter (λ slot. nat_lt slot.page keep) (map slot_of xs))
    ≡ map slot_of (if t then x ∷ filter (λ cached. nat_lt cached.page keep) xs else filter (λ cached. nat_lt cached.page keep) xs)) [
      | true ↦ ap (λ ys. slot_of x ∷ ys) (slots-cut keep xs)
      | false ↦ slots-cut keep xs
    ]

cut-behind : (b : Moment) (keep : ℕ) (calls : List DeviceCall) → cut_pages keep (run_behind calls b) ≡ run_behind calls (record { space = cut_space keep b.space; device = b.device })
cut-behind b keep calls =
    ap (λ slots. let r : CacheRun = record { next = record { resident = slots; stored = filter (λ page. nat_lt page keep) b.space.stored }; calls = calls } in r) (slots-cut keep b.space.resident)

is-less : (a b : ℕ) → a < b → nat_lt a b ≡ true
is-less a b h = grind (arith, nat_tests)

is-not-less : (a b : ℕ) → b ≤ a → nat_lt a b ≡ false
is-not-less a b h = grind (arith, nat_tests)

-- the last page is done, and the others are gone
pub truncated : (a b : Moment) (size len : ℕ) → len < size → Completes (ending len) a b →
    Passes (truncating size len) a (record { space = cut_space ((len + PAGE_SIZE - 1) / PAGE_SIZE) b.space; device = b.device })
unfolding truncate
truncated a b size len shorter h = record {
  made = h.made;
  calls = h.calls;
  clear = λ e. rw (is-less len size shorter) (ap (cut_pages keep) (h.clear e) ∙ cut-behind b keep (e ++ h.made));
  tried = λ n e low. rw (is-less len size shorter)
      (ap (λ (t : Result CacheRun CacheRun). having_moved 0 (t >>= λ ended. Ok (cut_pages keep ended))) (h.tried n e low)
      ∙ ap (λ run. let r : Result CacheRun StoppedRun = Ok run in r) (cut-behind b keep (e ++ h.made)));
}
  where
    keep : ℕ
    keep = (len + PAGE_SIZE - 1) / PAGE_SIZE

-- what stops the last page stops the whole
pub truncate-stopped : (a b : Moment) (size len : ℕ) (why : CacheFault) → len < size → Stops (ending len) a b why → Runs (truncating size len) a b (mark_of why 0)
unfolding truncate
truncate-stopped a b size len fault.DeviceFault shorter h = record {
  made = h.made;
  failed = h.failed;
  calls = h.calls;
  stopped = λ e. rw (is-less len size shorter)
      (ap (λ (t : Result CacheRun CacheRun). having_moved 0 (t >>= λ ended. Ok (cut_pages ((len + PAGE_SIZE - 1) / PAGE_SIZE) ended))) (h.stopped e));
}
truncate-stopped a b size len fault.NoMemory shorter h = record {
  made = h.made;
  calls = h.calls;
  front = λ e. (h.later, rw (is-less len size shorter) (h.front e));
}

-- nothing is cut
pub not-cut : (a : Moment) (size len : ℕ) → size ≤ len → AreCounted a.device.counts → Passes (truncating size len) a a
unfolding truncate
not-cut a size len longer small = record {
  made = [];
  calls = none-made a.device a.device small refl;
  clear = λ e. rw (is-not-less len size longer) (ap (λ calls. run_behind calls a) (sym (append-nil e)));
  tried = λ n e low. rw (is-not-less len size longer) (ap (λ calls. let r : Result CacheRun StoppedRun = Ok (run_behind calls a) in r) (sym (append-nil e)));
}

pub end-edited : (a : Moment) (len : ℕ) → has_end len a.space ≡ true → Alike (ending len) (editing (len / PAGE_SIZE)) a
end-edited a len there = record { clear = λ e. rw there refl; tried = λ n e. rw there refl }

pub end-stopped : (a b : Moment) (len : ℕ) (why : CacheFault) → has_end len a.space ≡ true → Stops (editing (len / PAGE_SIZE)) a b why → Stops (ending len) a b why
end-stopped a b len fault.DeviceFault there h = stops-as (ending len) (editing (len / PAGE_SIZE)) a b (end-edited a len there) h
end-stopped a b len fault.NoMemory there h = out-as (ending len) (editing (len / PAGE_SIZE)) a b (end-edited a len there) h

pub end-absent : (a : Moment) (len : ℕ) → has_end len a.space ≡ false → AreCounted a.device.counts → Completes (ending len) a a
end-absent a len absent small = record {
  made = [];
  calls = none-made a.device a.device small refl;
  clear = λ e. rw absent (ap (λ calls. run_behind calls a) (sym (append-nil e)));
  tried = λ n e low. rw absent (ap (λ calls. let r : Result CacheRun CacheRun = Ok (run_behind calls a) in r) (sym (append-nil e)));
}

or-left : (a b : Bool) → (a || b) ≡ false → a ≡ false
or-left true b e = e
or-left false b e = refl

or-right : (a b : Bool) → (a || b) ≡ false → b ≡ false
or-right true b e = absurd (cc)
or-right false b e = e

-- a page that is neither in memory nor on the device is zeros
pub absent-page : (a : AddressSpace) (told : List (List ℕ)) (page : ℕ) → (is_resident (cache_in a) page || is_stored (cache_in a) page) ≡ false → page < a.pages →
    slice_index_or (file_pages a told) page [] ≡ replicate PAGE_SIZE 0
absent-page a told page absent low =
    let away = absent-found page a.resident (sym (resident-held page a.resident) ∙ or-left (is_resident (cache_in a) page) (is_stored (cache_in a) page) absent) in
    get_or-map-range_with_len (page_bytes (space_of a) (page_of told)) 0 a.pages page page [] low (omega arith)
    ∙ ap (cached_bytes (space_of a) (page_of told) page) away
    ∙ ap (λ t. if t then page_of told page else replicate PAGE_SIZE 0) (or-right (is_resident (cache_in a) page) (is_stored (cache_in a) page) absent)

take-nil : (n : ℕ) → take n [] ≡ (let none : List (List ℕ) = [] in none)
take-nil zero = refl
take-nil (suc n) = refl

cut-range : (f g : ℕ → List ℕ) (z : List ℕ) (keep : ℕ) → ((q : ℕ) → q < keep → g q ≡ f q) → ((q : ℕ) → keep ≤ q → g q ≡ z) → (from count : ℕ) →
    map g (range_with_len from count) ≡ take (keep - from) (map f (range_with_len from count)) ++ replicate (count - (keep - from)) z
cut-range f g z keep low high from zero = sym (ap (λ xs. xs ++ replicate (zero - (keep - from)) z) (take-nil (keep - from)) ∙ ap (λ n. replicate n z) (let e : zero - (keep - from) ≡ zero = omega arith in e))
cut-range f g z keep low high from (suc count) =
    let rest = cut-range f g z keep low high (from + 1) count in
    elim (cases_lt from keep) [
      | inl below ↦
          ap₂ (λ x xs. x ∷ xs) (low from below) rest
          ∙ ap₂ (λ n m. take n (f from ∷ map f (range_with_len (from + 1) count)) ++ replicate m z)
          (let e : suc (keep - (from + 1)) ≡ keep - from = omega (arith, below) in e) (let e : count - (keep - (from + 1)) ≡ suc count - (keep - from) = omega (arith, below) in e)
      | inr above ↦
          ap₂ (λ x xs. x ∷ xs) (high from above) (rest ∙ ap₂ (λ n m. take n (map f (range_with_len (from + 1) count)) ++ replicate m z) (let e : keep - (from + 1) ≡ 0 = omega (arith, above) in e) (let e : count - (keep - (from + 1)) ≡ count = omega (arith, above) in e))
          ∙ sym (ap₂ (λ n m. take n (f from ∷ map f (range_with_len (from + 1) count)) ++ replicate m z) (let e : keep - from ≡ 0 = omega (arith, above) in e) (let e : suc count - (keep - from) ≡ suc count = omega (arith, above) in e))
    ]

stored-lost : (q keep : ℕ) (pages : List ℕ) → keep ≤ q → list_any (λ other. other == q) (filter (λ page. nat_lt page keep) pages) ≡ false
stored-lost q keep [] high = refl
stored-lost q keep (page ∷ pages) high =
    (elim (nat_lt page keep) as (λ t. nat_lt page keep ≡ t → list_any (λ other. other == q) (if t then page ∷ filter (λ p. nat_lt p keep) pages else filter (λ p. nat_lt p keep) pages) ≡ false) [
      | true ↦ λ f. ap (λ t. t || list_any (λ other. other == q) (filter (λ p. nat_lt p keep) pages)) (apart page f) ∙ stored-lost q keep pages high
      | false ↦ λ f. stored-lost q keep pages high
    ]) refl
  where
    apart : (n : ℕ) → nat_lt n keep ≡ true → (n == q) ≡ false
    apart n f = grind (arith, nat_tests)

cut-low : (a : AddressSpace) (told : List (List ℕ)) (keep q : ℕ) → q < keep → page_bytes (space_of (cut_space keep a)) (page_of told) q ≡ page_bytes (space_of a) (page_of told) q
cut-low a told keep q low =
    ap (cached_bytes (space_of (cut_space keep a)) (page_of told) q)
    (find-kept q (λ c. nat_lt c.page keep) a.resident (λ c e. is-less c.page keep (let p = same-number c.page q e in omega (arith, p, low))))
    ∙ by (find (is_cached q) a.resident)
  where
    by : (o : Option CachedPage) → cached_bytes (space_of (cut_space keep a)) (page_of told) q o ≡ cached_bytes (space_of a) (page_of told) q o
    by (Some x) = refl
    by None = ap (λ t. if t then page_of told q else replicate PAGE_SIZE 0) (stored-cut q keep a.stored low)

cut-high : (a : AddressSpace) (told : List (List ℕ)) (keep q : ℕ) → keep ≤ q → page_bytes (space_of (cut_space keep a)) (page_of told) q ≡ replicate PAGE_SIZE 0
cut-high a told keep q high =
    ap (cached_bytes (space_of (cut_space keep a)) (page_of told) q)
    (find-lost q (λ c. nat_lt c.page keep) a.resident (λ c e. is-not-less c.page keep (let p = same-number c.page q e in omega (arith, p, high))))
    ∙ ap (λ t. if t then page_of told q else replicate PAGE_SIZE 0) (stored-lost q keep a.stored high)

-- the pages before one, and zeros
cut-file : (a : AddressSpace) (told : List (List ℕ)) (keep : ℕ) →
    file_pages (cut_space keep a) told ≡ take keep (file_pages a told) ++ replicate (a.pages - keep) (replicate PAGE_SIZE 0)
cut-file a told keep =
    cut-range (page_bytes (space_of a) (page_of told)) (page_bytes (space_of (cut_space keep a)) (page_of told)) (replicate PAGE_SIZE 0) keep
    (λ q low. cut-low a told keep q low) (λ q high. cut-high a told keep q high) 0 a.pages
    ∙ ap (λ n. take n (file_pages a told) ++ replicate (a.pages - n) (replicate PAGE_SIZE 0)) (let e : keep - 0 ≡ keep = omega arith in e)

full-append : (xs ys : List (List ℕ)) → AreFull xs → AreFull ys → AreFull (xs ++ ys)
full-append [] ys h k = k
full-append (x ∷ xs) ys h k = (h.0, full-append xs ys h.1 k)

full-take : (n : ℕ) (xs : List (List ℕ)) → AreFull xs → AreFull (take n xs)
full-take zero xs h = tt
full-take (suc n) [] h = tt
full-take (suc n) (x ∷ xs) h = (h.0, full-take n xs h.1)

pub full-zeros : (n : ℕ) → AreFull (replicate n (replicate PAGE_SIZE 0))
full-zeros zero = tt
full-zeros (suc n) = (length-replicate {A = ℕ} PAGE_SIZE 0, full-zeros n)

flat-append : (xs ys : List (List ℕ)) → concat (xs ++ ys) ≡ concat xs ++ concat ys
flat-append [] ys = refl
flat-append (x ∷ xs) ys = ap (λ zs. x ++ zs) (flat-append xs ys) ∙ sym (append_assoc x (concat xs) (concat ys))

pub flat-zeros : (n : ℕ) → concat (replicate n (replicate PAGE_SIZE 0)) ≡ replicate (PAGE_SIZE * n) 0
flat-zeros zero = refl
flat-zeros (suc n) = ap (λ xs. replicate PAGE_SIZE 0 ++ xs) (flat-zeros n) ∙ replicate-append-replicate PAGE_SIZE (PAGE_SIZE * n) 0
    ∙ ap (λ k. replicate k 0) (let e : PAGE_SIZE + PAGE_SIZE * n ≡ PAGE_SIZE * suc n = omega arith in e)

flat-take : (n : ℕ) (pages : List (List ℕ)) → AreFull pages → n ≤ length pages → concat (take n pages) ≡ take (PAGE_SIZE * n) (concat pages)
flat-take zero pages h low = refl
flat-take (suc n) [] h low = absurd (omega (arith, low))
flat-take (suc n) (page ∷ pages) h low =
    let full = h.0 in
    ap (λ xs. page ++ xs) (flat-take n pages h.1 (omega (arith, low))) ∙ sym (take-over page (concat pages) (PAGE_SIZE * n) (PAGE_SIZE * suc n) (omega (arith, full)))

-- the cell's bytes in the pages before one, and zeros
pub cut-bytes : (a : AddressSpace) (told : List (List ℕ)) (keep : ℕ) → AreFull (file_pages a told) → keep ≤ a.pages →
    AreFull (file_pages (cut_space keep a) told) × (all_bytes (cut_space keep a) told ≡ take (PAGE_SIZE * keep) (all_bytes a told) ++ replicate (PAGE_SIZE * (a.pages - keep)) 0)
cut-bytes a told keep full within =
    let pages = cut-file a told keep in
    let count = pages-count a told in
    let kept : List (List ℕ) = take keep (file_pages a told) in
    let zeros : List (List ℕ) = replicate (a.pages - keep) (replicate PAGE_SIZE 0) in (
      subst AreFull (sym pages) (full-append kept zeros (full-take keep (file_pages a told) full) (full-zeros (a.pages - keep))),
      ap concat pages ∙ flat-append kept zeros
          ∙ ap₂ (λ xs ys. xs ++ ys) (flat-take keep (file_pages a told) full (omega (arith, count, within))) (flat-zeros (a.pages - keep)),
    )

-- the last page is cleared, and those behind it are gone: behind the length there are zeros
pub cuts-cleared : (a b : Moment) (len keep : ℕ) → keep ≡ (len + PAGE_SIZE - 1) / PAGE_SIZE → len ≤ PAGE_SIZE * a.space.pages → b.space.pages ≡ a.space.pages → ClearsEnd len a b →
    ((told : List (List ℕ)) → IsCurrent b.space told → IsCurrent (cut_space keep b.space) told) →
    CutsBytes len a (record { space = cut_space keep b.space; device = b.device })
cuts-cleared a b len keep last inside same cleared current told e h =
    let one = cleared told e h in
    let within : keep ≤ b.space.pages = omega (arith, last, inside, same) in
    let cut = cut-bytes b.space one.0 keep one.2.whole within in
    let count = pages-count a.space told in
    let size = flat-length (file_pages a.space told) h.whole in
    let W : List ℕ = all_bytes a.space told in (
      one.0,
      one.1,
      record { current = current one.0 one.2.current; whole = cut.0 },
      cut.1 ∙ ap (λ k. take (PAGE_SIZE * k) (all_bytes b.space one.0) ++ replicate (PAGE_SIZE * (b.space.pages - keep)) 0) last
          ∙ ap (λ xs. xs ++ replicate (PAGE_SIZE * (b.space.pages - keep)) 0) one.3
          ∙ append_assoc (take len W) (replicate (page_end len - len) 0) (replicate (PAGE_SIZE * (b.space.pages - keep)) 0)
          ∙ ap (λ xs. take len W ++ xs) (replicate-append-replicate (page_end len - len) (PAGE_SIZE * (b.space.pages - keep)) 0)
          ∙ ap (λ n. take len W ++ replicate n 0)
          (let f : page_end len - len + PAGE_SIZE * (b.space.pages - keep) ≡ length W - len = omega (arith, last, inside, same, count, size) in f),
    )

-- the page in which the length lies was edited
pub clears-edited : (bytes now : List ℕ) (len : ℕ) → len < length bytes → now ≡ spliced len (replicate (page_end len - len) 0) bytes →
    take (page_end len) now ≡ take len bytes ++ replicate (page_end len - len) 0
clears-edited bytes now len inside e =
    let zeros : List ℕ = replicate (page_end len - len) 0 in
    let front : List ℕ = take len bytes ++ zeros in
    let order : len ≤ page_end len = omega arith in
    let size : length front ≡ page_end len =
    (let l = length-append (take len bytes) zeros in let f = length-take-le len bytes (omega (arith, inside)) in let z : length zeros ≡ page_end len - len = length-replicate (page_end len - len) 0 in omega (arith, l, f, z, order)) in
    ap (take (page_end len)) e
    ∙ take-over front (drop (len + length zeros) bytes) 0 (page_end len) (omega (arith, size))
    ∙ append-nil front

-- nothing lies behind the length in its page
pub clears-none : (bytes : List ℕ) (len : ℕ) → len % PAGE_SIZE ≡ 0 → take (page_end len) bytes ≡ take len bytes ++ replicate (page_end len - len) 0
clears-none bytes len none =
    let e : page_end len ≡ len = omega (arith, none) in
    ap (λ n. take n bytes) e ∙ sym (append-nil (take len bytes)) ∙ ap (λ n. take len bytes ++ replicate n 0) (let f : 0 ≡ page_end len - len = omega (arith, e) in f)

-- the page in which the length lies is zeros already
pub clears-absent : (bytes : List ℕ) (len : ℕ) → take PAGE_SIZE (drop (PAGE_SIZE * (len / PAGE_SIZE)) bytes) ≡ replicate PAGE_SIZE 0 → 0 < len % PAGE_SIZE →
    take (page_end len) bytes ≡ take len bytes ++ replicate (page_end len - len) 0
clears-absent bytes len zeros some =
    let count : ℕ = page_end len - len in
    let at : ℕ = len % PAGE_SIZE in
    let order : len ≤ page_end len = omega arith in
    let fits : at + count ≤ PAGE_SIZE = omega (arith, some) in
    sym (take-further bytes len (page_end len) order)
    ∙ ap (λ xs. take len bytes ++ xs)
    (ap (λ n. take count (drop n bytes)) (let e : len ≡ len + 0 = omega arith in e)
    ∙ ap (take count) (sym (drop-drop 0 len bytes))
    ∙ sym (part-bytes bytes (replicate PAGE_SIZE 0) (len / PAGE_SIZE) len 0 count at zeros (omega arith) fits)
    ∙ ap (take count) (drop-zeros at PAGE_SIZE) ∙ take-zeros count (PAGE_SIZE - at) (omega (arith, fits)))

-- no page has to be cleared: there are zeros already
pub clears-kept : (a : AddressSpace) (told : List (List ℕ)) (len : ℕ) → IsWhole a told → len < PAGE_SIZE * a.pages → has_end len a ≡ false →
    take (page_end len) (all_bytes a told) ≡ take len (all_bytes a told) ++ replicate (page_end len - len) 0
clears-kept a told len h inside none = by (len % PAGE_SIZE == 0) refl
  where
    by : (t : Bool) → (len % PAGE_SIZE == 0) ≡ t → take (page_end len) (all_bytes a told) ≡ take len (all_bytes a told) ++ replicate (page_end len - len) 0
    by true e = clears-none (all_bytes a told) len (same-number (len % PAGE_SIZE) 0 e)
    by false e =
        let page : ℕ = len / PAGE_SIZE in
        let away : (is_resident (cache_in a) page || is_stored (cache_in a) page) ≡ false = rw e at none in
        let low : page < a.pages = omega (arith, inside) in
        let count = pages-count a told in
        let some : 0 < len % PAGE_SIZE = (let apart = other-number (len % PAGE_SIZE) 0 e in omega (arith, apart)) in
        clears-absent (all_bytes a told) len (flat-page (file_pages a told) page h.whole (omega (arith, count, low)) ∙ absent-page a told page away low) some

-- how many bytes of its last page lie behind the end
pub end-room : (len : ℕ) (a : AddressSpace) → has_end len a ≡ true → PAGE_SIZE - len % PAGE_SIZE ≡ page_end len - len
end-room len a behind = by (len % PAGE_SIZE == 0) refl
  where
    by : (t : Bool) → (len % PAGE_SIZE == 0) ≡ t → PAGE_SIZE - len % PAGE_SIZE ≡ page_end len - len
    by true e = absurd (let no = rw e at behind in cc)
    by false e = let apart = other-number (len % PAGE_SIZE) 0 e in omega (arith, apart)
