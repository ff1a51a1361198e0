-- What a step of a file on a cell makes, moves and leaves where one call of the cell's device fails.
use Rattle.std.specs.Prelude.{ℕ, zero, suc, ◌+◌, ◌-◌, ◌*◌, ◌/◌, ◌%◌, ◌==◌, false, not, ◌&&◌, ◌||◌, nat_lt, nat_le, is_ok, Option, Some, None, List, [], ◌∷◌, ◌++◌, length, map, Result, Ok, Err, if◌then◌else◌}
use Rattle.std.specs.BTreeSet.{insert_key}
use Rattle.std.specs.List.{last_or}
use Rattle.std.specs.Ordering.{nat_cmp}
use Rattle.std.specs.Result.{result_map_both}
use Rattle.vfs_base.specs.declared.step.Step.{Step}
use Rattle.vfs_base.specs.declared.step.Step.TheVariants as step
use Rattle.vfs_base.specs.declared.limits.TheConstants.{PAGE_SIZE, RECLAIM_TARGET, RESIDENT_PAGES}
use Rattle.vfs_model.specs.Cache.{CacheRun, begin_run, cut_pages, dirty_pages, file_size, is_page, is_resident, is_stored, make_clean, make_dirty, move_to_front, pages_of, without_last}
use Rattle.vfs_model.specs.FileMoves.{is_on_cell}
use Rattle.vfs_model.specs.FileStep.{file_refusals, moved_count}
use Rattle.vfs_model.specs.declared.cache.CacheState.{CacheState}
use Rattle.vfs_model.specs.declared.cache.DeviceCall.{DeviceCall}
use Rattle.vfs_model.specs.declared.cache.DeviceCall.TheVariants as call
use Rattle.vfs_model.specs.declared.cache.Resident.{Resident}
use Rattle.vfs_model.specs.declared.world.FileState.{FileState}

infixl 10 ◌>>=◌
-- goes on with the run, unless a call failed before
abbrev pub ◌>>=◌ : {X Y E : Type 0} → Result X E → (X → Result Y E) → Result Y E
(Ok run) >>= rest = rest run
(Err stopped) >>= rest = Err stopped

-- a call of the device: it fails where it is the one with this number, counted from 1
abbrev pub try_call : ℕ → CacheRun → DeviceCall → Result CacheRun CacheRun
try_call number run asked =
    let made : CacheRun = record run { calls = run.calls ++ asked ∷ [] } in
    if length made.calls == number then Err made else Ok made

-- a page is written and is stored then; where the write fails, the cache is as before
abbrev pub try_write : ℕ → CacheRun → ℕ → Result CacheRun CacheRun
try_write number run page =
    try_call number run (call.Write page) >>= λ made. Ok (record made { next = record made.next { stored = insert_key nat_cmp made.next.stored page } })

abbrev pub try_evict : ℕ → CacheRun → Option Resident → Result CacheRun CacheRun
try_evict number run None = Ok run
try_evict number run (Some slot) =
    (if slot.is_dirty then try_write number run slot.page else Ok run) >>= λ written. Ok (record written { next = without_last written.next })

-- the last page leaves: where its write fails, it stays
abbrev pub try_evict_last : ℕ → CacheRun → Result CacheRun CacheRun
try_evict_last number run = try_evict number run (last_or None run.next.resident)

-- so many pages leave, up to one whose write fails
abbrev pub try_evict_many : ℕ → ℕ → CacheRun → Result CacheRun CacheRun
try_evict_many number zero run = Ok run
try_evict_many number (suc count) run = try_evict_last number run >>= λ next. try_evict_many number count next

-- the page comes in clean; where its read fails, it is not resident
abbrev pub try_bring_in : ℕ → ℕ → CacheRun → Result CacheRun CacheRun
try_bring_in number page run =
    (if is_stored run.next page then try_call number run (call.Read page) else Ok run)
    >>= λ read. Ok (record read { next = record read.next { resident = record { page = page; is_dirty = false } ∷ read.next.resident } })

-- the page is resident and in front; where its read fails, the page that left for it is gone all the same
abbrev pub try_touch : ℕ → CacheRun → ℕ → Result CacheRun CacheRun
try_touch number run page =
    if is_resident run.next page then Ok (record run { next = move_to_front page run.next })
    else ((if nat_le RESIDENT_PAGES (length run.next.resident) then try_evict_last number run else Ok run) >>= λ room. try_bring_in number page room)

abbrev pub try_edit : ℕ → CacheRun → ℕ → Result CacheRun CacheRun
try_edit number run page =
    try_touch number run page
    >>= λ touched. Ok (record touched { next = record touched.next { resident = map (make_dirty page) touched.next.resident } })

abbrev pub clean_page : ℕ → Resident → Resident
clean_page page slot = if is_page page slot then make_clean slot else slot

-- a dirty page is written and is clean then
abbrev pub try_clean : ℕ → CacheRun → ℕ → Result CacheRun CacheRun
try_clean number run page =
    try_write number run page
    >>= λ written. Ok (record written { next = record written.next { resident = map (clean_page page) written.next.resident } })

-- the pages one after the other, up to one where a call fails
abbrev pub try_each : (CacheRun → ℕ → Result CacheRun CacheRun) → CacheRun → List ℕ → Result CacheRun CacheRun
try_each try run [] = Ok run
try_each try run (page ∷ pages) = try run page >>= λ next. try_each try next pages

-- the dirty pages are written in rising order: the page whose write fails stays dirty, and so do those behind it
abbrev pub try_write_back : ℕ → CacheRun → Result CacheRun CacheRun
try_write_back number run = try_each (try_clean number) run (dirty_pages run.next)

-- pages leave until 8 are resident, or one's write fails
abbrev pub try_reclaim : ℕ → CacheRun → Result CacheRun CacheRun
try_reclaim number run = try_evict_many number (length run.next.resident - RECLAIM_TARGET) run

abbrev pub try_edit_end : ℕ → CacheRun → ℕ → Result CacheRun CacheRun
try_edit_end number run len =
    if not (len % PAGE_SIZE == 0) && (is_resident run.next (len / PAGE_SIZE) || is_stored run.next (len / PAGE_SIZE))
    then try_edit number run (len / PAGE_SIZE) else Ok run

-- a file of so many bytes is cut to a length; where a call fails, no page is cut
abbrev pub try_truncate : ℕ → CacheRun → ℕ → ℕ → Result CacheRun CacheRun
try_truncate number run size len =
    if nat_lt len size then (try_edit_end number run len >>= λ ended. Ok (cut_pages ((len + PAGE_SIZE - 1) / PAGE_SIZE) ended)) else Ok run

-- A step that a failed call has stopped: the bytes of its transfer that were moved before, the calls with the failed one last,
-- and the cache that it leaves.
pub record StoppedRun : Type 0 where
  pub moved : ℕ
  pub run : CacheRun

-- where a call failed, so many bytes were moved before
abbrev pub having_moved : ℕ → Result CacheRun CacheRun → Result CacheRun StoppedRun
having_moved count tried = result_map_both (λ run. run) (λ run. record { moved = count; run = run }) tried

-- the bytes of a transfer from an offset on that lie in the pages before this one
abbrev pub bytes_before : ℕ → ℕ → ℕ
bytes_before off page = PAGE_SIZE * page - off

-- the pages of a transfer from an offset on, one after the other
abbrev pub try_pages : (CacheRun → ℕ → Result CacheRun CacheRun) → ℕ → CacheRun → List ℕ → Result CacheRun StoppedRun
try_pages try off run [] = Ok run
try_pages try off run (page ∷ pages) = having_moved (bytes_before off page) (try run page) >>= λ next. try_pages try off next pages

-- a step that moves so many bytes, from the cache of a file of so many bytes on, in which the call with a number fails
abbrev pub try_move : ℕ → CacheRun → ℕ → Step → ℕ → Result CacheRun StoppedRun
try_move number run size (step.Read id off len) count = try_pages (try_touch number) off run (pages_of off count)
try_move number run size (step.Load id off len) count = try_pages (try_touch number) off run (pages_of off count)
try_move number run size (step.Write id off piece) count = try_pages (try_edit number) off run (pages_of off count)
try_move number run size (step.Store id off piece) count = try_pages (try_edit number) off run (pages_of off count)
try_move number run size (step.Append id piece) count = try_pages (try_edit number) size run (pages_of size count)
try_move number run size (step.Trunc id len) count = having_moved 0 (try_truncate number run size len)
try_move number run size (step.Sync id) count = having_moved 0 (try_write_back number run)
try_move number run size (step.Flush row) count = having_moved 0 (try_write_back number run)
try_move number run size (step.Reclaim row) count = having_moved 0 (try_reclaim number run)
try_move number run size _ count = Ok run

-- A step of a row in which the call of the row's device with this number fails, counted from 1. Where the step makes no call of this
-- number, nothing stops it.
unfoldable pub stopped_run : ℕ → FileState → CacheState → Step → Result CacheRun StoppedRun
stopped_run number f cache asked =
    if is_on_cell f && is_ok (file_refusals f asked) then try_move number (begin_run cache) (file_size f) asked (moved_count f asked)
    else Ok (begin_run cache)
