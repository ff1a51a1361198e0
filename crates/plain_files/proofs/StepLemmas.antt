-- Marks that fit a step, and how much they let it move.
use Rattle.std.proofs.Common.{◌≡◌, ℕ, Bool, true, false, ◌&&◌, refl}
use Rattle.vfs_base.specs.declared.entry.Mark.TheVariants as mark
use Rattle.vfs_base.specs.declared.step.Step.{Step}
use Rattle.vfs_model.specs.FileMoves.{fits_file, is_before_end}
use Rattle.vfs_model.specs.declared.world.FileState.{FileState}

and-left : (a b : Bool) → (a && b) ≡ true → a ≡ true
and-left true b e = refl
and-left false b e = e

pub fault-before_end : (f : FileState) (asked : Step) (count : ℕ) →
    fits_file f asked (mark.Fault count) ≡ true → is_before_end f asked count ≡ true
unfolding fits_file
fault-before_end f asked count e = and-left _ _ (and-left _ _ e)

pub no_memory-before_end : (f : FileState) (asked : Step) (count : ℕ) →
    fits_file f asked (mark.NoMem count) ≡ true → is_before_end f asked count ≡ true
unfolding fits_file
no_memory-before_end f asked count e = and-left _ _ e

pub ruleset marks = (fault-before_end, no_memory-before_end)
