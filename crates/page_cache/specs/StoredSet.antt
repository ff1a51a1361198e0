-- A set of pages in sixteen words, of 64 pages each.
use Rattle.std.specs.Prelude.{ℕ, List}
use Rattle.vfs_model.specs.PageList.{stored_pages}

-- the pages of the set, in rising order
unfoldable pub pages_in : List ℕ → List ℕ
pages_in words = stored_pages words
