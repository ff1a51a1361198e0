-- A page that was touched is in memory, with its bytes; and an edit behind a touch.
use Rattle.std.specs.Prelude.{◌≡◌, ℕ, ◌<◌, ◌==◌, ◌||◌, Bool, true, false, not, nat_le, List, [], ◌∷◌, ◌++◌, length, map, filter, slice_index_or, Result, Ok, refl, if◌then◌else◌}
use Rattle.std.proofs.Common.{sym, ◌∙◌, ap, ap₂, arith}
use Rattle.std.proofs.lemmas.List.FromFn.{get_or-map-range_with_len, length-range_with_len}
use Rattle.std.proofs.lemmas.List.{length-map}
use Rattle.std.proofs.lemmas.List.Folds.{list_any-append}
use Rattle.std.specs.List.{list_any, range_with_len}
use Rattle.vfs_base.specs.declared.limits.TheConstants.{RESIDENT_PAGES}
use Rattle.vfs_model.specs.Cache.{CacheRun, evict_last, is_page, is_resident, make_dirty, touch}
use Rattle.vfs_model.specs.FailedCalls.{◌>>=◌}
use Rattle.vfs_model.specs.PageList.{CachedPage, cached_bytes, page_bytes, slot_of}
use Rattle.vfs_model.specs.declared.cache.DeviceCall.{DeviceCall}
use Rattle.vfs_model.specs.declared.cache.Resident.{Resident}
use Rattle.page_cache.specs.AddressSpace.{AddressSpace, Completes, Moment, RunsOut, StopsAt, file_pages, page_of, run_behind, space_of, touching}
use Rattle.page_cache.specs.Resident.{bytes_in, bytes_of, edited, holds_page, is_cached, spliced}
use Rattle.page_cache.proofs.Found.{alike}
use Rattle.page_cache.proofs.Parts.{found-held}
use Rattle.page_cache.proofs.Ways.{resident-held}
use Rattle.cell_file.specs.Moves.{editing}

any-filtered : (p : Resident → Bool) (xs : List Resident) → list_any p (filter p xs) ≡ list_any p xs
any-filtered p [] = refl
any-filtered p (x ∷ xs) = by (p x) refl (any-filtered p xs)
  where
    by : (t : Bool) → p x ≡ t → list_any p (filter p xs) ≡ list_any p xs → list_any p (if p x then x ∷ filter p xs else filter p xs) ≡ (p x || list_any p xs)
    by true e rest = rw e (ap (λ t. t || list_any p (filter p xs)) e)
    by false e rest = rw e rest

true-or : (a b : Bool) → a ≡ true → (a || b) ≡ true
true-or true b e = refl
true-or false b e = absurd (cc)

is-in : (run : CacheRun) (page : ℕ) → is_resident (touch run page).next page ≡ true
unfolding touch
is-in run page = (elim (is_resident run.next page) as (λ t. is_resident run.next page ≡ t → is_resident (touch run page).next page ≡ true) [
  | true ↦ λ f. rw f (list_any-append (is_page page) (filter (is_page page) run.next.resident) (filter (λ slot. not (is_page page slot)) run.next.resident)
      ∙ true-or (list_any (is_page page) (filter (is_page page) run.next.resident)) (list_any (is_page page) (filter (λ slot. not (is_page page slot)) run.next.resident))
      (any-filtered (is_page page) run.next.resident ∙ f))
  | false ↦ λ f. rw f (true-or (page == page)
      (list_any (is_page page) (if nat_le RESIDENT_PAGES (length run.next.resident) then evict_last run else run).next.resident) (alike page))
]) refl

-- a page that was touched is in memory
pub touched-held : (a b : Moment) (page : ℕ) → Completes (touching page) a b → holds_page b.space.resident page ≡ true
touched-held a b page h =
    sym (resident-held page b.space.resident)
    ∙ ap (λ (run : CacheRun). is_resident run.next page) (sym (h.clear []))
    ∙ is-in (run_behind [] a) page

-- a page in memory has its bytes among the file's pages
pub held-page : (a : AddressSpace) (told : List (List ℕ)) (page : ℕ) → holds_page a.resident page ≡ true → page < a.pages →
    slice_index_or (file_pages a told) page [] ≡ bytes_in a.resident page
held-page a told page held low =
    let found = found-held page a.resident held in
    get_or-map-range_with_len (page_bytes (space_of a) (page_of told)) 0 a.pages page page [] low (omega arith)
    ∙ ap (cached_bytes (space_of a) (page_of told) page) found.1
    ∙ sym (ap bytes_of found.1)

pub pages-count : (a : AddressSpace) (told : List (List ℕ)) → length (file_pages a told) ≡ a.pages
pages-count a told = length-map (range_with_len 0 a.pages) (page_bytes (space_of a) (page_of told)) ∙ length-range_with_len 0 a.pages

slots-edited : (page at : ℕ) (piece : List ℕ) (xs : List CachedPage) → map slot_of (map (edited page at piece) xs) ≡ map (make_dirty page) (map slot_of xs)
slots-edited page at piece [] = refl
slots-edited page at piece (x ∷ xs) = ap₂ (λ y ys. y ∷ ys) (by (is_cached page x)) (slots-edited page at piece xs)
  where
    by : (t : Bool) → slot_of (if t then record x { is_dirty = true; bytes = spliced at piece x.bytes } else x) ≡ (let r : Resident = if t then record (slot_of x) { is_dirty = true } else slot_of x in r)
    by true = refl
    by false = refl

-- the pages in memory, one of them dirty
abbrev pub dirtied : ℕ → CacheRun → CacheRun
dirtied page run = record run { next = record run.next { resident = map (make_dirty page) run.next.resident } }

dirty-behind : (b : Moment) (page at : ℕ) (piece : List ℕ) (calls : List DeviceCall) →
    dirtied page (run_behind calls b) ≡ run_behind calls (record { space = record b.space { resident = map (edited page at piece) b.space.resident }; device = b.device })
dirty-behind b page at piece calls =
    ap (λ slots. let r : CacheRun = record { next = record { resident = slots; stored = b.space.stored }; calls = calls } in r) (sym (slots-edited page at piece b.space.resident))

-- a page was touched, and then edited
pub touched-edited : (a b : Moment) (page at : ℕ) (piece : List ℕ) → Completes (touching page) a b →
    Completes (editing page) a (record { space = record b.space { resident = map (edited page at piece) b.space.resident }; device = b.device })
touched-edited a b page at piece h = record {
  made = h.made;
  calls = h.calls;
  clear = λ e. ap (dirtied page) (h.clear e) ∙ dirty-behind b page at piece (e ++ h.made);
  tried = λ n e low.
      ap (λ (t : Result CacheRun CacheRun). t >>= λ touched. Ok (dirtied page touched)) (h.tried n e low)
      ∙ ap (λ run. let r : Result CacheRun CacheRun = Ok run in r) (dirty-behind b page at piece (e ++ h.made));
}

-- a touch that is stopped stops the edit
pub stopped-edit : (a b : Moment) (page : ℕ) → StopsAt (touching page) a b → StopsAt (editing page) a b
stopped-edit a b page h = record {
  made = h.made;
  failed = h.failed;
  calls = h.calls;
  stopped = λ e. ap (λ (t : Result CacheRun CacheRun). t >>= λ touched. Ok (dirtied page touched)) (h.stopped e);
}

pub short-edit : (a b : Moment) (page : ℕ) → RunsOut (touching page) a b → RunsOut (editing page) a b
short-edit a b page h = record { made = h.made; later = h.later; calls = h.calls; front = h.front }
