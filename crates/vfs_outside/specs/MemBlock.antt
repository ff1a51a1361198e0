-- What a contract sees of a block device in memory.
use Rattle.std.specs.Prelude.{◌≡◌, ℕ, ◌^◌, ◌<◌, List, All, length, replicate}
use Rattle.vfs_base.specs.declared.describe.Counts.{Counts}
use Rattle.vfs_base.specs.declared.limits.TheConstants.{PAGE_SIZE}
use Rattle.vfs_outside.specs.FailingCalls.{Calls}

-- its pages, how many reads and writes it was asked for, and the calls to it, numbered together
pub record MemBlockState : Type 0 where
  pub pages : List (List ℕ)
  pub reads : ℕ
  pub writes : ℕ
  pub calls : Calls

-- how often it was called
abbrev pub counts_of : MemBlockState → Counts
counts_of state = record { reads = state.reads; writes = state.writes; faults = state.calls.faults }

-- a page of zeros
unfoldable pub zero_page : List ℕ
zero_page = replicate PAGE_SIZE 0

-- each page is whole, and a u16 counts them
pub record IsWhole (pages : List (List ℕ)) : Type 0 where
  pub sizes : All (λ page. length page ≡ PAGE_SIZE) pages
  pub number : length pages < 2 ^ 16
