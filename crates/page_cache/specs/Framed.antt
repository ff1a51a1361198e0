-- How an address space is laid out, and the parts of its calls.
use Rattle.std.specs.Prelude.{◌≡◌, ℕ, ◌-◌, ◌^◌, ◌<◌, ◌≤◌, Option, Some, None, List, [], ◌∷◌, ◌++◌, length, fold, map, if◌then◌else◌, Result, Ok}
use Rattle.std.specs.BTreeSet.{insert_key}
use Rattle.std.specs.List.{AllByRecursion, last_or}
use Rattle.std.specs.Ordering.{nat_cmp}
use Rattle.vfs_base.specs.declared.describe.Counts.{Counts}
use Rattle.vfs_base.specs.declared.limits.TheConstants.{CELL_PAGES_MAX, PAGE_SIZE}
use Rattle.vfs_model.specs.Cache.{CacheRun, evict_last, evict_many, is_stored, write_dirty}
use Rattle.vfs_model.specs.FailedCalls.{◌>>=◌, clean_page, try_call, try_clean, try_each, try_evict_last, try_evict_many, try_write}
use Rattle.vfs_model.specs.PageList.{CachedPage, device_bytes}
use Rattle.vfs_model.specs.declared.cache.CacheState.{CacheState}
use Rattle.vfs_model.specs.declared.cache.DeviceCall.TheVariants as call
use Rattle.vfs_model.specs.declared.cache.Resident.{Resident}
use Rattle.page_cache.specs.StoredSet.{pages_in}
use Rattle.page_cache.specs.AddressSpace.{AddressSpace, Completes, IsCurrent, Moment, SamePages, StopsAt, Way, page_of, space_of}
use Rattle.page_cache.specs.declared.page_set.PageSet.{PageSet}

-- an address space by its parts
abbrev pub seen : ℕ → List CachedPage → PageSet → AddressSpace
seen pages resident stored = record { pages = pages; resident = resident; stored = pages_in stored.words }

-- the pages in memory are those of the cell, and there is a frame beside them
pub record IsFramed (pages : ℕ) (resident : List CachedPage) (frame : List ℕ) : Type 0 where
  pub bounded : pages ≤ CELL_PAGES_MAX
  pub within : AllByRecursion (λ cached. cached.page < pages) resident
  pub beside : length frame ≡ PAGE_SIZE

-- each count is one that a u64 holds
pub record AreCounted (counts : Counts) : Type 0 where
  pub reads : counts.reads ≤ 2 ^ 64 - 1
  pub writes : counts.writes ≤ 2 ^ 64 - 1
  pub faults : counts.faults ≤ 2 ^ 64 - 1

-- one page is written, and is clean and stored then
abbrev pub clear_clean : CacheRun → ℕ → CacheRun
clear_clean run page = record {
  next = record { resident = map (clean_page page) run.next.resident; stored = insert_key nat_cmp run.next.stored page };
  calls = run.calls ++ call.Write page ∷ [];
}

abbrev pub write_slot : CacheRun → Option Resident → CacheRun
write_slot run None = run
write_slot run (Some slot) = write_dirty run slot

abbrev pub try_write_slot : ℕ → CacheRun → Option Resident → Result CacheRun CacheRun
try_write_slot number run None = Ok run
try_write_slot number run (Some slot) = if slot.is_dirty then try_write number run slot.page else Ok run

-- the last page is written, where it is dirty, and stays
abbrev pub writing_end : Way
writing_end = record {
  clear = λ run. write_slot run (last_or None run.next.resident);
  tried = λ number run. try_write_slot number run (last_or None run.next.resident);
}

-- the last page leaves
abbrev pub evicting : Way
evicting = record { clear = evict_last; tried = try_evict_last }

-- so many pages leave
abbrev pub evicting_many : ℕ → Way
evicting_many count = record { clear = evict_many count; tried = λ number run. try_evict_many number count run }

-- the page is read, where it is stored
abbrev pub reading : ℕ → Way
reading page = record {
  clear = λ run. if is_stored run.next page then record run { calls = run.calls ++ call.Read page ∷ [] } else run;
  tried = λ number run. if is_stored run.next page then try_call number run (call.Read page) else Ok run;
}

-- a dirty page is written, and is clean then
abbrev pub cleaning : ℕ → Way
cleaning page = record { clear = λ run. clear_clean run page; tried = λ number run. try_clean number run page }

-- these pages are cleaned, one after the other
abbrev pub cleaning_each : List ℕ → Way
cleaning_each pages = record { clear = λ run. fold clear_clean run pages; tried = λ number run. try_each (try_clean number) run pages }

-- one way, and then another
abbrev pub then_way : Way → Way → Way
then_way first second = record {
  clear = λ run. second.clear (first.clear run);
  tried = λ number run. first.tried number run >>= second.tried number;
}

-- a way that changes the cache and calls no device
abbrev pub changing : (CacheState → CacheState) → Way
changing change = record {
  clear = λ run. record run { next = change run.next };
  tried = λ number run. Ok (record run { next = change run.next });
}

-- the last page in memory is as it would come in again
abbrev pub IsSettled : AddressSpace → List (List ℕ) → Option CachedPage → Type 0
IsSettled a told None = Unit {0}
IsSettled a told (Some cached) = cached.bytes ≡ device_bytes (space_of a) (page_of told) cached.page

-- the file's pages are the same, and the last one in memory may leave
abbrev pub SettlesEnd : Moment → Moment → Type 0
SettlesEnd old new =
    (told : List (List ℕ)) → old.device.contents ≡ Some told → IsCurrent old.space told →
    (now : List (List ℕ)) × (new.device.contents ≡ Some now) × SamePages old.space new.space told now × IsSettled new.space now (last_or None new.space.resident)

-- A way for the rest completes or stops the whole.
pub record Rests (whole : Way) (old : Moment) (rest : Way) (now : Moment) : Type 0 where
  pub completes : (new : Moment) → Completes rest now new → Completes whole old new
  pub stops : (new : Moment) → StopsAt rest now new → StopsAt whole old new
