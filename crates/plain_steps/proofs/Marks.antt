-- The marks that every step may have.
use Rattle.std.proofs.Common.{◌≡◌, ℕ, true, false, Option, Some, None, refl, arith}
use Rattle.std.proofs.lemmas.Bool.Decides.{nat_tests}
use Rattle.vfs_base.specs.declared.entry.Mark.TheVariants as mark
use Rattle.vfs_base.specs.declared.entry.Who.{Who}
use Rattle.vfs_base.specs.declared.step.Step.{Step}
use Rattle.vfs_base.specs.declared.step.Step.TheVariants as step
use Rattle.vfs_model.specs.FileMoves.{fits_file}
use Rattle.vfs_model.specs.World.{fits_on, fits_step, session_of, step_row}
use Rattle.vfs_model.specs.Tally.{needs_no_memory}
use Rattle.vfs_model.specs.declared.namespace.Namespace.{Namespace}
use Rattle.vfs_model.specs.declared.world.WorldState.{WorldState}
use Rattle.plain_steps.specs.Needs.{may_need}

-- a step may come through
pub clear_fits : (w : WorldState) (asker : Who) (asked : Step) → fits_step w asker asked mark.Clear ≡ true
unfolding fits_step fits_file
clear_fits w asker asked = by_row (step_row asked)
  where
    by_row : (x : Option ℕ) → fits_on w (session_of asker) asked mark.Clear x ≡ true
    by_row None = refl
    by_row (Some row) = refl

-- a step may be refused for want of memory before it has moved a byte
pub starved_fits : (w : WorldState) (asker : Who) (asked : Step) → fits_step w asker asked (mark.NoMem 0) ≡ true
unfolding fits_step fits_file
starved_fits w asker asked = by_row (step_row asked)
  where
    by_row : (x : Option ℕ) → fits_on w (session_of asker) asked (mark.NoMem 0) x ≡ true
    by_row None = refl
    by_row (Some row) = refl

-- what may need memory is no step that needs none
pub may_need_some : (n : Namespace) (k : ℕ) (asked : Step) → may_need asked ≡ true → needs_no_memory n k asked ≡ false
unfolding needs_no_memory
may_need_some n k (step.Close hold) h = absurd (cc)
may_need_some n k (step.Unmap hold) h = absurd (cc)
may_need_some n k step.Home h = absurd (cc)
may_need_some n k (step.Size id) h = absurd (cc)
may_need_some n k (step.Sync id) h = absurd (cc)
may_need_some n k (step.Trunc id len) h = grind (arith, nat_tests)
may_need_some n k (step.Flush row) h = absurd (cc)
may_need_some n k (step.Reclaim row) h = absurd (cc)
may_need_some n k step.Shutdown h = absurd (cc)
may_need_some n k _ h = refl
