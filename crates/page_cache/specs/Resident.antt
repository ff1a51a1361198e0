-- The pages in memory, most recent first.
use Rattle.std.specs.Prelude.{ℕ, ◌+◌, ◌≤◌, ◌==◌, true, false, Bool, not, nat_eq, Option, Some, None, List, [], ◌++◌, length, map, filter, find, take, drop, if◌then◌else◌}
use Rattle.std.specs.List.{IsDistinct, last_or, list_any}
use Rattle.vfs_base.specs.declared.limits.TheConstants.{RESIDENT_PAGES}
use Rattle.vfs_model.specs.PageList.{CachedPage}

abbrev pub is_cached : ℕ → CachedPage → Bool
is_cached page cached = cached.page == page

-- the page is among those in memory
abbrev pub holds_page : List CachedPage → ℕ → Bool
holds_page resident page = list_any (is_cached page) resident

-- the page stands in front, and the others behind it as they stood
abbrev pub with_front : ℕ → List CachedPage → List CachedPage
with_front page resident = filter (is_cached page) resident ++ filter (λ cached. not (is_cached page cached)) resident

-- the page is as it lies on the device
abbrev pub cleaned : ℕ → CachedPage → CachedPage
cleaned page cached = if is_cached page cached then record cached { is_dirty = false } else cached

-- the bytes with a piece from one place on in place of theirs
abbrev pub spliced : ℕ → List ℕ → List ℕ → List ℕ
spliced at piece bytes = take at bytes ++ piece ++ drop (at + length piece) bytes

-- the page has the piece from a place on, and is dirty
abbrev pub edited : ℕ → ℕ → List ℕ → CachedPage → CachedPage
edited page at piece cached =
    if is_cached page cached then record cached { is_dirty = true; bytes = spliced at piece cached.bytes } else cached

abbrev pub bytes_of : Option CachedPage → List ℕ
bytes_of None = []
bytes_of (Some cached) = cached.bytes

-- the bytes of a page in memory
abbrev pub bytes_in : List CachedPage → ℕ → List ℕ
bytes_in resident page = bytes_of (find (is_cached page) resident)

-- at most 32 pages are in memory, each of them once
pub record AreResident (resident : List CachedPage) : Type 0 where
  pub few : length resident ≤ RESIDENT_PAGES
  pub once : IsDistinct nat_eq (map (λ cached. cached.page) resident)

abbrev pub dirty_one : Option CachedPage → Option (ℕ × List ℕ)
dirty_one None = None
dirty_one (Some cached) = if cached.is_dirty then Some (cached.page, cached.bytes) else None

-- the last page, where it is dirty
abbrev pub dirty_end : List CachedPage → Option (ℕ × List ℕ)
dirty_end resident = dirty_one (last_or None resident)

-- a page as it comes in
abbrev pub clean_page : ℕ → List ℕ → CachedPage
clean_page page bytes = record { page = page; is_dirty = false; bytes = bytes }
