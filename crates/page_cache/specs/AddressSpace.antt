-- What a contract sees of an `AddressSpace`, and what a call of the page cache leaves and asks of the device.
use Rattle.std.specs.Prelude.{◌≡◌, ℕ, ◌+◌, ◌<◌, false, IfSome, find, Option, Some, List, [], ◌∷◌, ◌++◌, length, slice_index_or, Result, Ok, Err}
use Rattle.vfs_base.specs.declared.describe.Counts.{Counts}
use Rattle.vfs_model.specs.BlockDevice.{BlockDevice, Makes}
use Rattle.vfs_model.specs.Cache.{CacheRun, reclaim, touch, write_back}
use Rattle.vfs_model.specs.FailedCalls.{try_reclaim, try_touch, try_write_back}
use Rattle.vfs_model.specs.PageList.{CachedPage, SpaceState, cache_of, device_bytes, page_list}
use Rattle.vfs_model.specs.declared.cache.CacheState.{CacheState}
use Rattle.vfs_model.specs.declared.cache.DeviceCall.{DeviceCall}
use Rattle.page_cache.specs.Resident.{is_cached}
use Rattle.page_cache.specs.declared.cache_fault.CacheFault.{CacheFault}
use Rattle.page_cache.specs.declared.cache_fault.CacheFault.TheVariants as fault

-- The pages of a file on a cell: how many the cell has, those in memory, most recent first, and those that lie on the device.
pub record AddressSpace : Type 0 where
  pub pages : ℕ
  pub resident : List CachedPage
  pub stored : List ℕ

abbrev pub space_of : AddressSpace → SpaceState
space_of a = record { resident = a.resident; stored = a.stored }

-- which pages are in memory, clean or dirty, and which on the device
abbrev pub cache_in : AddressSpace → CacheState
cache_in a = cache_of (space_of a)

-- A file's pages and its device.
pub record Moment : Type 0 where
  pub space : AddressSpace
  pub device : BlockDevice

-- the pages, and the device by what it tells of itself
abbrev pub view : {B : Type 0} → (B → ℕ) → (B → Option (List (List ℕ))) → (B → Counts) → AddressSpace → B → Moment
view pages contents counts space device =
    record { space = space; device = record { pages = pages device; contents = contents device; counts = counts device } }

-- the cache, behind calls of the device that were made before
abbrev pub run_behind : List DeviceCall → Moment → CacheRun
run_behind earlier m = record { next = cache_in m.space; calls = earlier }

-- A way through the cache: where no call of the device fails, and where the one with a number does.
pub record Way : Type 0 where
  pub clear : CacheRun → CacheRun
  pub tried : ℕ → CacheRun → Result CacheRun CacheRun

-- the page comes to the front, and into memory where it is not there
abbrev pub touching : ℕ → Way
touching page = record { clear = λ run. touch run page; tried = λ number run. try_touch number run page }

-- the dirty pages are written, in rising order
abbrev pub writing_back : Way
writing_back = record { clear = write_back; tried = try_write_back }

-- pages leave until 8 are in memory
abbrev pub reclaiming : Way
reclaiming = record { clear = reclaim; tried = try_reclaim }

-- Nothing stopped the call: behind any earlier calls of the device it leaves what the definition leaves, has made the definition's calls,
-- and one that fails later would not have stopped it.
pub record Completes (way : Way) (old new : Moment) : Type 0 where
  pub made : List DeviceCall
  pub calls : Makes made [] old.device new.device
  pub clear : (earlier : List DeviceCall) → way.clear (run_behind earlier old) ≡ run_behind (earlier ++ made) new
  pub tried : (number : ℕ) (earlier : List DeviceCall) → length (earlier ++ made) < number →
      way.tried number (run_behind earlier old) ≡ Ok (run_behind (earlier ++ made) new)

-- A call of the device failed behind those that were made: the cache is left as the definition leaves it there.
pub record StopsAt (way : Way) (old new : Moment) : Type 0 where
  pub made : List DeviceCall
  pub failed : DeviceCall
  pub calls : Makes made (failed ∷ []) old.device new.device
  pub stopped : (earlier : List DeviceCall) →
      way.tried (length (earlier ++ made) + 1) (run_behind earlier old) ≡ Err (run_behind ((earlier ++ made) ++ failed ∷ []) new)

-- Memory was wanting behind some first calls of the definition's, none of which failed.
pub record RunsOut (way : Way) (old new : Moment) : Type 0 where
  pub made : List DeviceCall
  pub later : List DeviceCall
  pub calls : Makes made [] old.device new.device
  pub front : (earlier : List DeviceCall) → (way.clear (run_behind earlier old)).calls ≡ (earlier ++ made) ++ later

-- what was left to do is not done: a call of the device failed, or memory was wanting
abbrev pub Stops : Way → Moment → Moment → CacheFault → Type 0
Stops way old new fault.DeviceFault = StopsAt way old new
Stops way old new fault.NoMemory = RunsOut way old new

-- the page, of those that a device tells
abbrev pub page_of : List (List ℕ) → ℕ → List ℕ
page_of told page = slice_index_or told page []

-- the file's pages, over what a device tells
abbrev pub file_pages : AddressSpace → List (List ℕ) → List (List ℕ)
file_pages a told = page_list (space_of a) (page_of told) a.pages

-- The device has the cell's pages, and each clean page in memory is as it would come in again.
pub record IsCurrent (a : AddressSpace) (told : List (List ℕ)) : Type 0 where
  pub whole : length told ≡ a.pages
  pub clean : (page : ℕ) → IfSome (find (is_cached page) a.resident) (λ cached. cached.is_dirty ≡ false → cached.bytes ≡ device_bytes (space_of a) (page_of told) page)

-- the file's pages are the same, though some come in, leave or are written
pub record SamePages (old new : AddressSpace) (before after : List (List ℕ)) : Type 0 where
  pub current : IsCurrent new after
  pub same : file_pages new after ≡ file_pages old before

-- where the device tells its pages, and those in memory were current
abbrev pub KeepsPages : Moment → Moment → Type 0
KeepsPages old new =
    (told : List (List ℕ)) → old.device.contents ≡ Some told → IsCurrent old.space told →
    (now : List (List ℕ)) × (new.device.contents ≡ Some now) × SamePages old.space new.space told now
