-- The ways of a file's steps through the page cache, and how a step that is stopped leaves it.
use Rattle.std.specs.Prelude.{◌≡◌, ℕ, ◌+◌, ◌<◌, List, [], ◌∷◌, ◌++◌, length, fold, Result, Ok, Err}
use Rattle.vfs_base.specs.declared.entry.Mark.{Mark}
use Rattle.vfs_base.specs.declared.entry.Mark.TheVariants as mark
use Rattle.vfs_model.specs.BlockDevice.{Makes}
use Rattle.vfs_model.specs.Cache.{CacheRun, pages_of, touch, touch_and_edit, truncate, edit_end}
use Rattle.vfs_model.specs.FailedCalls.{StoppedRun, having_moved, try_edit, try_edit_end, try_pages, try_touch, try_truncate}
use Rattle.vfs_model.specs.declared.cache.DeviceCall.{DeviceCall}
use Rattle.page_cache.specs.AddressSpace.{Moment, Way, run_behind}
use Rattle.page_cache.specs.declared.cache_fault.CacheFault.{CacheFault}
use Rattle.page_cache.specs.declared.cache_fault.CacheFault.TheVariants as fault

-- A step's way through the cache: where no call of the device fails, and where the one with a number does.
pub record StepWay : Type 0 where
  pub clear : CacheRun → CacheRun
  pub tried : ℕ → CacheRun → Result CacheRun StoppedRun

-- the pages of a transfer from an offset on, one after the other
abbrev pub each_way : (CacheRun → ℕ → CacheRun) → (ℕ → CacheRun → ℕ → Result CacheRun CacheRun) → ℕ → List ℕ → StepWay
each_way clear tried off pages = record { clear = λ run. fold clear run pages; tried = λ number run. try_pages (tried number) off run pages }

-- so many bytes are read, from an offset on
abbrev pub reading_pages : ℕ → ℕ → StepWay
reading_pages off count = each_way touch try_touch off (pages_of off count)

-- so many bytes are written, from an offset on
abbrev pub editing_pages : ℕ → ℕ → StepWay
editing_pages off count = each_way touch_and_edit try_edit off (pages_of off count)

-- a file of so many bytes is cut or padded to a length
abbrev pub truncating : ℕ → ℕ → StepWay
truncating size len = record { clear = λ run. truncate run size len; tried = λ number run. having_moved 0 (try_truncate number run size len) }

-- the page in which a file ends now is edited, where it is in memory or on the device
abbrev pub ending : ℕ → Way
ending len = record { clear = λ run. edit_end run len; tried = λ number run. try_edit_end number run len }

-- a way on which no byte is moved
abbrev pub at_once : Way → StepWay
at_once way = record { clear = way.clear; tried = λ number run. having_moved 0 (way.tried number run) }

-- the way of one page
abbrev pub page_way : (CacheRun → ℕ → CacheRun) → (ℕ → CacheRun → ℕ → Result CacheRun CacheRun) → ℕ → Way
page_way clear tried page = record { clear = λ run. clear run page; tried = λ number run. tried number run page }

-- one page is in memory, in front and dirty
abbrev pub editing : ℕ → Way
editing page = page_way touch_and_edit try_edit page

-- Nothing stopped the step: it leaves the cache that the definition leaves, and has made the definition's calls of the device.
pub record Passes (way : StepWay) (old new : Moment) : Type 0 where
  pub made : List DeviceCall
  pub calls : Makes made [] old.device new.device
  pub clear : (earlier : List DeviceCall) → way.clear (run_behind earlier old) ≡ run_behind (earlier ++ made) new
  pub tried : (number : ℕ) (earlier : List DeviceCall) → length (earlier ++ made) < number →
      way.tried number (run_behind earlier old) ≡ Ok (run_behind (earlier ++ made) new)

-- A call of the device failed when so many bytes were moved: the calls before it are the definition's, and the cache is left as the
-- definition leaves it there.
pub record StopsAfter (moved : ℕ) (way : StepWay) (old new : Moment) : Type 0 where
  pub made : List DeviceCall
  pub failed : DeviceCall
  pub calls : Makes made (failed ∷ []) old.device new.device
  pub stopped : (earlier : List DeviceCall) → way.tried (length (earlier ++ made) + 1) (run_behind earlier old)
      ≡ Err (record { moved = moved; run = run_behind ((earlier ++ made) ++ failed ∷ []) new })

-- Memory was wanting behind some first calls of the definition's, none of which failed.
pub record RunsShort (way : StepWay) (old new : Moment) : Type 0 where
  pub made : List DeviceCall
  pub calls : Makes made [] old.device new.device
  pub front : (earlier : List DeviceCall) → (later : List DeviceCall) × ((way.clear (run_behind earlier old)).calls ≡ (earlier ++ made) ++ later)

-- what a step has done of its way that came to its end with this mark
abbrev pub Runs : StepWay → Moment → Moment → Mark → Type 0
Runs way old new mark.Clear = Passes way old new
Runs way old new (mark.Fault moved) = StopsAfter moved way old new
Runs way old new (mark.NoMem moved) = RunsShort way old new

-- the mark of what stopped a step that had moved so many bytes
abbrev pub mark_of : CacheFault → ℕ → Mark
mark_of fault.DeviceFault moved = mark.Fault moved
mark_of fault.NoMemory moved = mark.NoMem moved
