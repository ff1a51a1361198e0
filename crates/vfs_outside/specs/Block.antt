-- What a block device tells of itself: its pages, and how often it was called.
use Rattle.std.specs.Prelude.{◌≡◌, ℕ, List, All, Result, length}
use Rattle.vfs_base.specs.declared.describe.Counts.{Counts}
use Rattle.vfs_base.specs.declared.limits.TheConstants.{PAGE_SIZE}
use Rattle.vfs_outside.specs.CallCount.{next_count, faults_behind}

-- so many pages, each of them whole
pub record ArePages (count : ℕ) (pages : List (List ℕ)) : Type 0 where
  pub number : length pages ≡ count
  pub sizes : All (λ page. length page ≡ PAGE_SIZE) pages

-- one more read is counted, and a fault where it failed
abbrev pub with_read : {T E : Type 0} → Counts → Result T E → Counts
with_read counts result = record {
  reads = next_count counts.reads;
  writes = counts.writes;
  faults = faults_behind counts.faults result;
}

-- one more write is counted, and a fault where it failed
abbrev pub with_write : {T E : Type 0} → Counts → Result T E → Counts
with_write counts result = record {
  reads = counts.reads;
  writes = next_count counts.writes;
  faults = faults_behind counts.faults result;
}
