-- The bits of flags are added where they are not there yet: then all stay below 64.
use Rattle.std.proofs.Common.{◌≡◌, ◌==◌, ℕ, zero, suc, ◌+◌, ◌<◌, Bool, true, ◌&&◌, ◌||◌, nat_lt, bit_and, refl, arith}
use Rattle.std.proofs.lemmas.Bool.Decides.{nat_tests}
use Rattle.msh_forms.specs.Parts.{FitsBeside}

abbrev all_below : (ℕ → Bool) → ℕ → Bool
all_below p zero = true
all_below p (suc n) = p n && all_below p n

at_below : (p : ℕ → Bool) (n i : ℕ) → all_below p n ≡ true → i < n → p i ≡ true
at_below p zero i all inside = absurd (omega arith)
at_below p (suc n) i all inside = grind (arith, nat_tests, at_below p n i)

abbrev fits : ℕ → ℕ → Bool
fits bit bits = bit_and bits bit == bit || nat_lt (bits + bit) 64

from_all : (bit : ℕ) → all_below (fits bit) 64 ≡ true → FitsBeside bit
from_all bit all bits small absent = let one = at_below (fits bit) 64 bits all small in grind (arith, nat_tests)

pub fits_4 : FitsBeside 4
fits_4 = from_all 4 refl

pub fits_8 : FitsBeside 8
fits_8 = from_all 8 refl

pub fits_16 : FitsBeside 16
fits_16 = from_all 16 refl

pub fits_32 : FitsBeside 32
fits_32 = from_all 32 refl
