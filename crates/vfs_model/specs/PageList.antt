-- The bytes of a file on a cell: what is in memory, before what lies on the device.
use Rattle.std.specs.Prelude.{◌≡◌, ℕ, ◌+◌, ◌-◌, ◌*◌, ◌^◌, ◌<◌, ◌≤◌, ◌==◌, Bool, false, [], ◌∷◌, length, slice_index_or, Option, Some, None, List, map, filter, find, take, drop, replicate, if◌then◌else◌}
use Rattle.std.specs.List.{concat, list_any, range_with_len}
use Rattle.std.specs.Simd.Lanes.{mask_l}
use Rattle.vfs_base.specs.declared.limits.TheConstants.{CELL_PAGES_MAX, PAGE_SIZE}
use Rattle.vfs_model.specs.Cache.{is_resident, is_stored}
use Rattle.vfs_model.specs.WrittenBack.{has_page}
use Rattle.vfs_model.specs.declared.cache.CacheState.{CacheState}
use Rattle.vfs_model.specs.declared.cache.Resident.{Resident}

-- A page in memory, with its bytes.
pub record CachedPage : Type 0 where
  pub page : ℕ
  pub is_dirty : Bool
  pub bytes : List ℕ

-- The pages of a file in memory, most recent first, and those that lie on its device, in rising order.
pub record SpaceState : Type 0 where
  pub resident : List CachedPage
  pub stored : List ℕ

abbrev pub slot_of : CachedPage → Resident
slot_of cached = record { page = cached.page; is_dirty = cached.is_dirty }

-- which pages are in memory, and which on the device
abbrev pub cache_of : SpaceState → CacheState
cache_of space = record { resident = map slot_of space.resident; stored = space.stored }

-- a page that is not in memory is as the device has it where it is stored there, and else is zeros
abbrev pub device_bytes : SpaceState → (ℕ → List ℕ) → ℕ → List ℕ
device_bytes space on_device page = if is_stored (cache_of space) page then on_device page else replicate PAGE_SIZE 0

abbrev pub cached_bytes : SpaceState → (ℕ → List ℕ) → ℕ → Option CachedPage → List ℕ
cached_bytes space on_device page None = device_bytes space on_device page
cached_bytes space on_device page (Some cached) = cached.bytes

-- the bytes of a page: as they stand in memory, else as the device has them
abbrev pub page_bytes : SpaceState → (ℕ → List ℕ) → ℕ → List ℕ
page_bytes space on_device page = cached_bytes space on_device page (find (λ cached. cached.page == page) space.resident)

-- so many pages, the first one first
abbrev pub page_list : SpaceState → (ℕ → List ℕ) → ℕ → List (List ℕ)
page_list space on_device count = map (page_bytes space on_device) (range_with_len 0 count)

-- the bytes of a file of this size on a cell of so many pages
abbrev pub row_bytes : SpaceState → (ℕ → List ℕ) → ℕ → ℕ → List ℕ
row_bytes space on_device count size = take size (concat (page_list space on_device count))

-- behind the end of a file there are zeros alone, and no page behind it is in memory or stored
pub record TailIsZeros (space : SpaceState) (on_device : ℕ → List ℕ) (count size : ℕ) : Type 0 where
  pub zeros : drop size (concat (page_list space on_device count)) ≡ replicate (PAGE_SIZE * count - size) 0
  pub absent : (page : ℕ) → size ≤ PAGE_SIZE * page → is_resident (cache_of space) page ≡ false
  pub unstored : (page : ℕ) → size ≤ PAGE_SIZE * page → is_stored (cache_of space) page ≡ false

-- the pages of a set of stored pages, in rising order
abbrev pub stored_pages : List ℕ → List ℕ
stored_pages words = filter (has_page words) (range_with_len 0 CELL_PAGES_MAX)

abbrev pub is_among : List ℕ → ℕ → Bool
is_among pages page = list_any (λ other. other == page) pages

-- for each page of a word of the set, whether it is among these
abbrev pub word_pages : List ℕ → ℕ → List Bool
word_pages pages word = map (λ bit. is_among pages (64 * word + bit)) (range_with_len 0 64)

-- the set of these pages: sixteen words of 64 bits, one for each page
abbrev pub stored_words : List ℕ → List ℕ
stored_words pages = map (λ word. mask_l (word_pages pages word)) (range_with_len 0 16)

-- pages in rising order, from one on and below another
abbrev pub IsRising : ℕ → ℕ → List ℕ → Type 0
IsRising low high [] = Unit {0}
IsRising low high (page ∷ pages) = (low ≤ page) × (page < high) × IsRising (page + 1) high pages

-- sixteen words of 64 bits
pub record IsPageSet (words : List ℕ) : Type 0 where
  pub count : length words ≡ 16
  pub bits : (word : ℕ) → slice_index_or words word 0 < 2 ^ 64

-- the stored pages in rising order and the words of the set tell the same
pub record WordsTellPages : Type 0 where
  pub pages : (pages : List ℕ) → IsRising 0 CELL_PAGES_MAX pages → stored_pages (stored_words pages) ≡ pages
  pub words : (words : List ℕ) → IsPageSet words → stored_words (stored_pages words) ≡ words
