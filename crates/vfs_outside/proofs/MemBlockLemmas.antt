-- What pages of zeros are.
use Rattle.std.proofs.Common.{◌≡◌, ℕ, ◌^◌, ◌<◌, List, length, replicate}
use Rattle.std.proofs.lemmas.List.{length-replicate}
use Rattle.std.proofs.lemmas.List.Elements.{All-replicate}
use Rattle.vfs_base.specs.declared.limits.TheConstants.{PAGE_SIZE}
use Rattle.vfs_outside.specs.MemBlock.{IsWhole, zero_page}

length-zero_page : length zero_page ≡ PAGE_SIZE
unfolding zero_page
length-zero_page = let zero : ℕ = 0 in length-replicate PAGE_SIZE zero

pub whole_zeros : (count : ℕ) → count < 2 ^ 16 → IsWhole (replicate count zero_page)
whole_zeros count fits = record {
  sizes = All-replicate (λ (page : List ℕ). length page ≡ PAGE_SIZE) count zero_page length-zero_page;
  number = rw (length-replicate count zero_page) fits;
}
