-- What a contract sees of a block device, and how calls lead from one value of it to another.
use Rattle.std.specs.Prelude.{◌≡◌, ℕ, ◌+◌, ◌-◌, ◌^◌, ◌==◌, min, Bool, false, is_some, Option, Some, None, List, [], length, count_by, slice_index_or}
use Rattle.std.specs.List.{list_any}
use Rattle.vfs_base.specs.declared.describe.Counts.{Counts}
use Rattle.vfs_model.specs.IoTotals.{is_read, is_write}
use Rattle.vfs_model.specs.declared.cache.DeviceCall.{DeviceCall}
use Rattle.vfs_model.specs.declared.cache.DeviceCall.TheVariants as call

-- A block device: how many pages it has, what is on each of them where the device tells it, and how often it was called.
pub record BlockDevice : Type 0 where
  pub pages : ℕ
  pub contents : Option (List (List ℕ))
  pub counts : Counts

-- so many more are counted; a count stops at its greatest value
abbrev pub counted : ℕ → ℕ → ℕ
counted before more = min (before + more) (2 ^ 64 - 1)

-- the page, where the device tells it
abbrev pub told_page : Option (List (List ℕ)) → ℕ → List ℕ
told_page None page = []
told_page (Some pages) page = slice_index_or pages page []

abbrev pub is_write_of : ℕ → DeviceCall → Bool
is_write_of page (call.Read other) = false
is_write_of page (call.Write other) = other == page

-- Calls that succeeded, and then those that failed, none or one, lead from one value of a block device to another: each is counted
-- among reads or writes, the failed ones among faults too, and no page changes but those that were written.
pub record Makes (made failed : List DeviceCall) (old new : BlockDevice) : Type 0 where
  pub reads : new.counts.reads ≡ counted old.counts.reads (count_by is_read made + count_by is_read failed)
  pub writes : new.counts.writes ≡ counted old.counts.writes (count_by is_write made + count_by is_write failed)
  pub faults : new.counts.faults ≡ counted old.counts.faults (length failed)
  pub pages : new.pages ≡ old.pages
  pub told : is_some new.contents ≡ is_some old.contents
  pub kept : (page : ℕ) → list_any (is_write_of page) made ≡ false → told_page new.contents page ≡ told_page old.contents page
