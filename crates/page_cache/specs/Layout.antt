-- How the pages in memory are laid out.
use Rattle.std.specs.Prelude.{◌≡◌, ℕ, ◌≤◌, nat_eq, List, [], length, fold, map}
use Rattle.std.specs.BTreeSet.{insert_key}
use Rattle.std.specs.List.{AllByRecursion, IsDistinct}
use Rattle.std.specs.Ordering.{nat_cmp}
use Rattle.std.specs.Map.{keys_of}
use Rattle.lru.specs.LruCache.{LruCache}
use Rattle.vfs_base.specs.declared.limits.TheConstants.{PAGE_SIZE, RESIDENT_PAGES}
use Rattle.vfs_model.specs.PageList.{CachedPage}
use Rattle.page_cache.specs.declared.resident_pages.Page.{Page}

abbrev pub cached_page : (ℕ × Page) → CachedPage
cached_page e = record { page = e.0; is_dirty = e.1.is_dirty; bytes = e.1.bytes.items }

abbrev pub cached_pages : List (ℕ × Page) → List CachedPage
cached_pages entries = map cached_page entries

abbrev pub IsWhole : (ℕ × Page) → Type 0
IsWhole e = length e.1.bytes.items ≡ PAGE_SIZE

-- room for 32 pages, of which none is there twice and each is whole
pub record AreHeld (pages : LruCache ℕ Page) : Type 0 where
  pub room : pages.cap ≡ RESIDENT_PAGES
  pub few : length pages.entries ≤ RESIDENT_PAGES
  pub once : IsDistinct nat_eq (keys_of pages.entries)
  pub whole : AllByRecursion IsWhole pages.entries

-- their numbers, in rising order
abbrev pub numbers_of : List (ℕ × Page) → List ℕ
numbers_of entries = fold (λ pages e. insert_key nat_cmp pages e.0) [] entries
