-- Which pages of a cell file stay in memory, and which calls of its device are made.
use Rattle.std.specs.Prelude.{ℕ, zero, suc, ◌+◌, ◌-◌, ◌/◌, ◌%◌, ◌==◌, Bool, true, false, not, ◌&&◌, ◌||◌, nat_lt, nat_le, is_ok, Option, Some, None, List, [], ◌∷◌, ◌++◌, length, take, map, filter, fold, if◌then◌else◌}
use Rattle.std.specs.BTreeSet.{insert_key}
use Rattle.std.specs.List.{last_or, list_any, range_with_len}
use Rattle.std.specs.Ordering.{nat_cmp}
use Rattle.vfs_base.specs.declared.step.Step.{Step}
use Rattle.vfs_base.specs.declared.step.Step.TheVariants as step
use Rattle.vfs_base.specs.declared.limits.TheConstants.{PAGE_SIZE, RECLAIM_TARGET, RESIDENT_PAGES}
use Rattle.vfs_model.specs.FileMoves.{is_on_cell}
use Rattle.vfs_model.specs.FileStep.{file_refusals, moved_count}
use Rattle.vfs_model.specs.declared.cache.CacheState.{CacheState}
use Rattle.vfs_model.specs.declared.cache.DeviceCall.{DeviceCall}
use Rattle.vfs_model.specs.declared.cache.DeviceCall.TheVariants as call
use Rattle.vfs_model.specs.declared.cache.Resident.{Resident}
use Rattle.vfs_model.specs.declared.world.FileState.{FileState}
use Rattle.vfs_model.specs.declared.world.FileState.TheVariants as file

-- the cache on the way through a step, and the calls of the device so far
pub record CacheRun : Type 0 where
  pub next : CacheState
  pub calls : List DeviceCall

-- the cache of a file that has no page yet
abbrev pub empty_cache : CacheState
empty_cache = record { resident = []; stored = [] }

abbrev pub is_page : ℕ → Resident → Bool
is_page page slot = slot.page == page

abbrev pub is_resident : CacheState → ℕ → Bool
is_resident cache page = list_any (is_page page) cache.resident

abbrev pub is_stored : CacheState → ℕ → Bool
is_stored cache page = list_any (λ other. other == page) cache.stored

-- one page is written to the device, where it is dirty
abbrev pub write_dirty : CacheRun → Resident → CacheRun
write_dirty run slot =
    if slot.is_dirty then record {
      next = record run.next { stored = insert_key nat_cmp run.next.stored slot.page };
      calls = run.calls ++ call.Write slot.page ∷ [];
    } else run

abbrev pub without_last : CacheState → CacheState
without_last cache = record cache { resident = take (length cache.resident - 1) cache.resident }

abbrev pub evict : CacheRun → Option Resident → CacheRun
evict run None = run
evict run (Some slot) = let written = write_dirty run slot in record written { next = without_last written.next }

-- the last page leaves: it is written first where it is dirty
unfoldable pub evict_last : CacheRun → CacheRun
evict_last run = evict run (last_or None run.next.resident)

-- so many pages leave
abbrev pub evict_many : ℕ → CacheRun → CacheRun
evict_many zero run = run
evict_many (suc count) run = evict_many count (evict_last run)

-- the page goes to the front as it is
abbrev pub move_to_front : ℕ → CacheState → CacheState
move_to_front page cache = record cache {
  resident = filter (is_page page) cache.resident ++ filter (λ slot. not (is_page page slot)) cache.resident;
}

-- the page comes in clean: from the device where it is stored, and else as zeros
abbrev pub bring_in : ℕ → CacheRun → CacheRun
bring_in page run = record {
  next = record run.next { resident = record { page = page; is_dirty = false } ∷ run.next.resident };
  calls = if is_stored run.next page then run.calls ++ call.Read page ∷ [] else run.calls;
}

-- the page is resident and in front: where 32 others are resident, the last of them leaves for it
unfoldable pub touch : CacheRun → ℕ → CacheRun
touch run page =
    if is_resident run.next page then record run { next = move_to_front page run.next }
    else bring_in page (if nat_le RESIDENT_PAGES (length run.next.resident) then evict_last run else run)

abbrev pub make_dirty : ℕ → Resident → Resident
make_dirty page slot = if is_page page slot then record slot { is_dirty = true } else slot

-- the page is resident, in front and dirty
abbrev pub touch_and_edit : CacheRun → ℕ → CacheRun
touch_and_edit run page =
    let touched = touch run page in
    record touched { next = record touched.next { resident = map (make_dirty page) touched.next.resident } }

-- the pages in which so many bytes lie from an offset on, in rising order
abbrev pub pages_of : ℕ → ℕ → List ℕ
pages_of off count =
    if count == 0 then [] else range_with_len (off / PAGE_SIZE) ((off + count - 1) / PAGE_SIZE - off / PAGE_SIZE + 1)

-- the dirty pages, in rising order
abbrev pub dirty_pages : CacheState → List ℕ
dirty_pages cache = fold (λ pages slot. insert_key nat_cmp pages slot.page) [] (filter (λ slot. slot.is_dirty) cache.resident)

abbrev pub make_clean : Resident → Resident
make_clean slot = record slot { is_dirty = false }

-- each dirty page is written, and is clean and stored then
unfoldable pub write_back : CacheRun → CacheRun
write_back run = record {
  next = record {
    resident = map make_clean run.next.resident;
    stored = fold (insert_key nat_cmp) run.next.stored (dirty_pages run.next);
  };
  calls = run.calls ++ map (λ page. call.Write page) (dirty_pages run.next);
}

-- pages leave until 8 are resident
unfoldable pub reclaim : CacheRun → CacheRun
reclaim run = evict_many (length run.next.resident - RECLAIM_TARGET) run

-- the pages from a number on are gone, unwritten
abbrev pub cut_pages : ℕ → CacheRun → CacheRun
cut_pages keep run = record run {
  next = record {
    resident = filter (λ slot. nat_lt slot.page keep) run.next.resident;
    stored = filter (λ page. nat_lt page keep) run.next.stored;
  };
}

-- the page in which a file ends now is edited where it is resident or stored
abbrev pub edit_end : CacheRun → ℕ → CacheRun
edit_end run len =
    if not (len % PAGE_SIZE == 0) && (is_resident run.next (len / PAGE_SIZE) || is_stored run.next (len / PAGE_SIZE))
    then touch_and_edit run (len / PAGE_SIZE) else run

-- a file of so many bytes is cut to a length
unfoldable pub truncate : CacheRun → ℕ → ℕ → CacheRun
truncate run size len = if nat_lt len size then cut_pages ((len + PAGE_SIZE - 1) / PAGE_SIZE) (edit_end run len) else run

-- a step that moves so many bytes, from the cache of a file of so many bytes on
abbrev pub cache_move : CacheRun → ℕ → Step → ℕ → CacheRun
cache_move run size (step.Read id off len) count = fold touch run (pages_of off count)
cache_move run size (step.Load id off len) count = fold touch run (pages_of off count)
cache_move run size (step.Write id off piece) count = fold touch_and_edit run (pages_of off count)
cache_move run size (step.Store id off piece) count = fold touch_and_edit run (pages_of off count)
cache_move run size (step.Append id piece) count = fold touch_and_edit run (pages_of size count)
cache_move run size (step.Trunc id len) count = truncate run size len
cache_move run size (step.Sync id) count = write_back run
cache_move run size (step.Flush row) count = write_back run
cache_move run size (step.Reclaim row) count = reclaim run
cache_move run size _ count = run

-- the run of a step begins: no call so far
abbrev pub begin_run : CacheState → CacheRun
begin_run cache = record { next = cache; calls = [] }

-- the bytes of a file in memory or on a cell
abbrev pub file_size : FileState → ℕ
file_size (file.Unbound generation) = 0
file_size (file.Bytes generation kind capacity bytes) = length bytes
file_size (file.Device generation input output) = 0

-- The cache of a row after a step that nothing stops, and the calls of its device that the step makes: none where it is
-- refused, and none where the row's file does not lie on a cell.
unfoldable pub row_run : FileState → CacheState → Step → CacheRun
row_run f cache asked =
    if is_on_cell f && is_ok (file_refusals f asked) then cache_move (begin_run cache) (file_size f) asked (moved_count f asked)
    else begin_run cache

-- the calls of a row's device that a step makes which nothing stops
abbrev pub row_calls : FileState → CacheState → Step → List DeviceCall
row_calls f cache asked = (row_run f cache asked).calls
