-- How many bytes a step moves in a file that it names, and in others.
use Rattle.std.proofs.Common.{arith, ℕ, ◌≤◌, Bool, true, false, List, length, is_ok, Result, if◌then◌else◌}
use Rattle.vfs_base.specs.declared.errno.Errno.{Errno}
use Rattle.vfs_base.specs.declared.kinds.Kind.{Kind}
use Rattle.vfs_base.specs.declared.step.Step.{Step}
use Rattle.vfs_base.specs.declared.step.Step.TheVariants as step
use Rattle.vfs_model.specs.FileStep.{absent_refusals, bytes_count, bytes_refusals, file_refusals, is_of_generation, moved_count, step_file}
use Rattle.vfs_model.specs.declared.world.FileState.TheVariants as file
use Rattle.file_steps.specs.Moving.{moved_bytes}

-- a file that lacks the generation that a step names moves nothing
absent-count : (capacity size count : ℕ) (asked : Step) →
    count ≤ (if is_ok (absent_refusals asked) then bytes_count capacity size asked else 0) → count ≤ 0
absent-count capacity size count (step.Flush row) le = le
absent-count capacity size count (step.Reclaim row) le = le
absent-count capacity size count _ le = le

-- what a file moves, it moves as a file that the step names
pub moved_bytes_named : (generation : ℕ) (kind : Kind) (capacity : ℕ) (bytes : List ℕ) (asked : Step) (count : ℕ) →
    count ≤ moved_count (file.Bytes generation kind capacity bytes) asked → count ≤ moved_bytes kind capacity (length bytes) asked
unfolding moved_count file_refusals
moved_bytes_named generation kind capacity bytes asked count =
    let refusals : Bool → Result (Unit {0}) Errno =
    λ test. if test then bytes_refusals kind capacity (length bytes) asked else absent_refusals asked in
    elim (is_of_generation generation (step_file asked)) as
    (λ test. count ≤ (if is_ok (refusals test) then bytes_count capacity (length bytes) asked else 0) → count ≤ moved_bytes kind capacity (length bytes) asked)
    [ true ↦ (λ le. le) | false ↦ (λ le. omega (arith, absent-count capacity (length bytes) count asked le)) ]
