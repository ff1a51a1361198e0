-- What a contract sees of a block device over a part of a file.
use Rattle.std.specs.Prelude.{ℕ}
use Rattle.vfs_base.specs.declared.describe.Counts.{Counts}

-- the byte of the file that it begins at, its number of pages, and how often it was called
pub record FilePart : Type 0 where
  pub start : ℕ
  pub pages : ℕ
  pub counts : Counts
