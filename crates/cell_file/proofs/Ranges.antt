-- The pages of a transfer as a range, and the marks under which it ends.
use Rattle.std.specs.Prelude.{◌≡◌, ℕ, suc, ◌+◌, ◌-◌, ◌/◌, ◌<◌, ◌≤◌, ◌==◌, ◌||◌, true, nat_lt, List, [], ◌∷◌, refl, if◌then◌else◌}
use Rattle.std.proofs.Common.{sym, ◌∙◌, ap, arith}
use Rattle.std.proofs.lemmas.Bool.Decides.{nat_tests}
use Rattle.std.specs.List.{range_with_len}
use Rattle.vfs_base.specs.declared.limits.TheConstants.{PAGE_SIZE}
use Rattle.vfs_model.specs.BlockDevice.{BlockDevice, Makes}
use Rattle.vfs_model.specs.Cache.{pages_of}
use Rattle.vfs_model.specs.FailedCalls.{bytes_before}
use Rattle.vfs_model.specs.declared.cache.DeviceCall.{DeviceCall}
use Rattle.page_cache.specs.Framed.{AreCounted}
use Rattle.page_cache.specs.declared.cache_fault.CacheFault.{CacheFault}
use Rattle.page_cache.specs.declared.cache_fault.CacheFault.TheVariants as fault
use Rattle.page_cache.proofs.Found.{differs}
use Rattle.cell_file.specs.CellFile.{is_within, moved_under}
use Rattle.cell_file.specs.Moves.{mark_of}
use Rattle.cell_file.specs.Parts.{MeetsPage}

-- the pages of a transfer of some bytes
pub pages-range : (off count first last : ℕ) → 0 < count → first ≡ off / PAGE_SIZE → last ≡ (off + count - 1) / PAGE_SIZE →
    pages_of off count ≡ range_with_len first (last + 1 - first)
pages-range off count first last some begins ends =
    ap (λ t. if t then [] else range_with_len (off / PAGE_SIZE) ((off + count - 1) / PAGE_SIZE - off / PAGE_SIZE + 1)) (differs count 0 (λ e. absurd (omega (arith, some, e))))
    ∙ ap (λ n. range_with_len n ((off + count - 1) / PAGE_SIZE - off / PAGE_SIZE + 1)) (sym begins)
    ∙ ap (range_with_len first) (let e : (off + count - 1) / PAGE_SIZE - off / PAGE_SIZE + 1 ≡ last + 1 - first = omega (arith, some, begins, ends) in e)

pub pages-none : (off count : ℕ) → count ≡ 0 → pages_of off count ≡ []
pages-none off count none = ap (pages_of off) none

pub range-more : (page end : ℕ) → page < end → range_with_len page (end - page) ≡ page ∷ range_with_len (page + 1) (end - (page + 1))
range-more page end low = ap (range_with_len page) (let e : end - page ≡ suc (end - (page + 1)) = omega (arith, low) in e)

pub range-past : (page end : ℕ) → end ≤ page → range_with_len page (end - page) ≡ []
range-past page end past = ap (range_with_len page) (let e : end - page ≡ 0 = omega (arith, past) in e)

-- each page of the range has bytes of the transfer
pub meets : (off count first last page : ℕ) → 0 < count → first ≡ off / PAGE_SIZE → last ≡ (off + count - 1) / PAGE_SIZE → first ≤ page → page < last + 1 → MeetsPage off count page
meets off count first last page some begins ends low high = record { begins = omega (arith, some, begins, ends, low, high); ends = omega (arith, some, begins, ends, low, high) }

-- before the first page there are none of its bytes
pub none-before : (off first : ℕ) → first ≡ off / PAGE_SIZE → bytes_before off first ≡ 0
none-before off first begins = omega (arith, begins)

-- and before the end of the last page there are all of them
pub all-before : (off count last : ℕ) → 0 < count → last ≡ (off + count - 1) / PAGE_SIZE → count ≤ bytes_before off (last + 1)
all-before off count last some ends = omega (arith, some, ends)

within : (moved count : ℕ) → moved < count → (moved == 0 || nat_lt moved count) ≡ true
within moved count low = grind (arith, nat_tests)

pub within-mark : (why : CacheFault) (moved count : ℕ) → moved < count → is_within (mark_of why moved) count ≡ true
within-mark fault.DeviceFault moved count low = within moved count low
within-mark fault.NoMemory moved count low = within moved count low

pub moved-mark : (why : CacheFault) (moved count : ℕ) → moved_under (mark_of why moved) count ≡ moved
moved-mark fault.DeviceFault moved count = refl
moved-mark fault.NoMemory moved count = refl

-- behind calls each count is one that a u64 holds
pub made-counted : (made failed : List DeviceCall) (x y : BlockDevice) → Makes made failed x y → AreCounted y.counts
made-counted made failed x y h = let reads = h.reads in let writes = h.writes in let faults = h.faults in
    record { reads = omega (arith, reads); writes = omega (arith, writes); faults = omega (arith, faults) }
