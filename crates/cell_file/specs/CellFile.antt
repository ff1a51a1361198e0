-- What a contract sees of a `CellFile`, and what a transfer leaves of its bytes.
use Rattle.std.specs.Prelude.{◌≡◌, ℕ, ◌+◌, ◌-◌, ◌*◌, ◌≤◌, ◌==◌, ◌||◌, Bool, true, nat_lt, Option, Some, IfSome, List, length, take, drop, replicate, max, option_map, if◌then◌else◌}
use Rattle.std.specs.List.{AllByRecursion, concat}
use Rattle.vfs_base.specs.declared.describe.Counts.{Counts}
use Rattle.vfs_base.specs.declared.entry.Mark.{Mark}
use Rattle.vfs_base.specs.declared.entry.Mark.TheVariants as mark
use Rattle.vfs_base.specs.declared.limits.TheConstants.{CELL_PAGES_MAX, PAGE_SIZE}
use Rattle.vfs_model.specs.FileStep.{cut_or_padded}
use Rattle.vfs_model.specs.PageList.{row_bytes}
use Rattle.page_cache.specs.AddressSpace.{AddressSpace, IsCurrent, Moment, file_pages, page_of, space_of, view}

-- A file on a cell: how many bytes it has, its pages and its device.
pub record CellFile : Type 0 where
  pub size : ℕ
  pub state : Moment

-- a file by its pages, its device and its size
abbrev pub seen : {B : Type 0} → (B → ℕ) → (B → Option (List (List ℕ))) → (B → Counts) → AddressSpace → B → ℕ → CellFile
seen pages contents counts space device size = record { size = size; state = view pages contents counts space device }

-- how many bytes the cell can hold
abbrev pub capacity : CellFile → ℕ
capacity f = PAGE_SIZE * f.state.space.pages

-- the file's bytes, where its device tells its pages
abbrev pub told_bytes : CellFile → Option (List ℕ)
told_bytes f = option_map (λ told. row_bytes (space_of f.state.space) (page_of told) f.state.space.pages f.size) f.state.device.contents

-- all bytes of the cell, over the pages that its device tells
abbrev pub all_bytes : AddressSpace → List (List ℕ) → List ℕ
all_bytes a told = concat (file_pages a told)

-- the pages in memory go with those of the device, and each page is whole
pub record IsWhole (a : AddressSpace) (told : List (List ℕ)) : Type 0 where
  pub current : IsCurrent a told
  pub whole : AllByRecursion (λ page. length page ≡ PAGE_SIZE) (file_pages a told)

-- What holds of each file on a cell. Where the device tells its pages, the bytes behind the end of the file are zeros.
pub record IsCellFile (f : CellFile) : Type 0 where
  pub pages : f.state.device.pages ≡ f.state.space.pages
  pub few : f.state.space.pages ≤ CELL_PAGES_MAX
  pub size : f.size ≤ capacity f
  pub whole : (told : List (List ℕ)) → f.state.device.contents ≡ Some told → IsWhole f.state.space told
  pub zeros : (told : List (List ℕ)) → f.state.device.contents ≡ Some told →
      drop f.size (all_bytes f.state.space told) ≡ replicate (capacity f - f.size) 0

-- how many bytes of so many were moved, where a transfer ended with this mark
abbrev pub moved_under : Mark → ℕ → ℕ
moved_under mark.Clear count = count
moved_under (mark.Fault moved) count = moved
moved_under (mark.NoMem moved) count = moved

-- what a transfer from an offset on has read of the file's bytes, where the device tells them
abbrev pub ReadsFile : ℕ → Mark → List ℕ → CellFile → Type 0
ReadsFile off m out f =
    IfSome (told_bytes f) (λ bytes. take (moved_under m (length out)) out ≡ take (moved_under m (length out)) (drop off bytes))

-- a transfer of so many bytes that was stopped moved fewer, or none
abbrev pub is_within : Mark → ℕ → Bool
is_within mark.Clear count = true
is_within (mark.Fault moved) count = moved == 0 || nat_lt moved count
is_within (mark.NoMem moved) count = moved == 0 || nat_lt moved count

-- where so many bytes were written from an offset on, a file of so many bytes ends
abbrev pub size_behind : ℕ → ℕ → ℕ → ℕ
size_behind off count size = if count == 0 then size else max size (off + count)

-- what a truncation leaves: nothing is cut where it was stopped
abbrev pub cut_under : Mark → ℕ → List ℕ → List ℕ
cut_under mark.Clear len bytes = cut_or_padded len bytes
cut_under (mark.Fault moved) len bytes = bytes
cut_under (mark.NoMem moved) len bytes = bytes

-- and how long the file is then
abbrev pub size_under : Mark → ℕ → ℕ → ℕ
size_under mark.Clear len size = len
size_under (mark.Fault moved) len size = size
size_under (mark.NoMem moved) len size = size
