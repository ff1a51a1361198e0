use Rattle.msh_forms.proofs.Bits.{fits_4, fits_8, fits_16, fits_32}
use Rattle.msh_forms.proofs.flags.extra_bit.Goals as goal

pub returns-then-eq-clause-fits : goal.returns-then-eq-clause-fits
returns-then-eq-clause-fits c = fits_4

pub returns-then-eq-2-clause-fits : goal.returns-then-eq-2-clause-fits
returns-then-eq-2-clause-fits c = fits_8

pub returns-then-eq-3-clause-fits : goal.returns-then-eq-3-clause-fits
returns-then-eq-3-clause-fits c = fits_16

pub returns-then-eq-4-clause-fits : goal.returns-then-eq-4-clause-fits
returns-then-eq-4-clause-fits c = fits_32
