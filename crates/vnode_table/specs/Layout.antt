-- How a vnode table is laid out: beside its slots it counts the free ones, in all and in each block of 64.
use Rattle.std.specs.Prelude.{◌≡◌, ℕ, ◌+◌, ◌-◌, ◌*◌, Bool, cond, List, length, count_by, take, drop, slice_index_or}
use Rattle.vfs_base.specs.declared.limits.TheConstants.{ROWS}
use Rattle.vnode_table.specs.SlotTable.{SlotTable, is_free}

-- one where the test holds, else none
abbrev pub one_if : Bool → ℕ
one_if test = cond test 1 0

-- a count after one of the slots that it counts has become free or not
abbrev pub recounted : ℕ → Bool → Bool → ℕ
recounted count was is = count + one_if is - one_if was

-- how many of the slots of a block are free
abbrev pub free_in_block : SlotTable → ℕ → ℕ
free_in_block slots block = count_by is_free (take 64 (drop (64 * block) slots))

-- the counts are those of the slots
pub record IsCounted (slots : SlotTable) (blocks : List ℕ) (total : ℕ) : Type 0 where
  pub size : length slots ≡ ROWS
  pub places : length blocks ≡ 16
  pub each : (block : ℕ) → slice_index_or blocks block 0 ≡ free_in_block slots block
  pub all : total ≡ count_by is_free slots
