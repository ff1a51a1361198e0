-- The worker's steps leave each file as it was.
use Rattle.std.proofs.Common.{◌≡◌, ℕ, ◌==◌, Bool, true, false, if◌then◌else◌, refl}
use Rattle.vfs_base.specs.declared.entry.Mark.{Mark}
use Rattle.vfs_base.specs.declared.entry.Mark.TheVariants as mark
use Rattle.vfs_base.specs.declared.entry.Who.{Who}
use Rattle.vfs_base.specs.declared.errno.Errno.{Errno}
use Rattle.vfs_base.specs.declared.errno.Errno.TheVariants as errno
use Rattle.vfs_base.specs.declared.step.Step.{Step}
use Rattle.vfs_base.specs.declared.step.Step.TheVariants as step
use Rattle.vfs_model.proofs.WorldLaws.{same_file}
use Rattle.vfs_model.specs.FileMoves.{file_step, move, stopped_step}
use Rattle.vfs_model.specs.FileStep.{FileOutcome, file_refusals, refused_file}
use Rattle.vfs_model.specs.Homes.{file_at}
use Rattle.vfs_model.specs.World.{world_step}
use Rattle.vfs_model.specs.declared.world.FileState.{FileState}
use Rattle.vfs_model.specs.declared.world.FileState.TheVariants as file
use Rattle.vfs_model.specs.declared.world.WorldState.{WorldState}

either_next : (b : Bool) (x y : FileOutcome) (f : FileState) → x.next ≡ f → y.next ≡ f → (if b then x else y).next ≡ f
either_next true x y f h k = h
either_next false x y f h k = k

flush-moves : (f : FileState) (row count : ℕ) → (move f (step.Flush row) count).next ≡ f
flush-moves (file.Unbound generation) row count = refl
flush-moves (file.Bytes generation kind capacity bytes) row count = refl
flush-moves (file.Device generation input output) row count = refl

reclaim-moves : (f : FileState) (row count : ℕ) → (move f (step.Reclaim row) count).next ≡ f
reclaim-moves (file.Unbound generation) row count = refl
reclaim-moves (file.Bytes generation kind capacity bytes) row count = refl
reclaim-moves (file.Device generation input output) row count = refl

stopped-stays : (f : FileState) (asked : Step) (errno : Errno) (count : ℕ) → (move f asked count).next ≡ f → (stopped_step f asked errno count).next ≡ f
stopped-stays f asked errno count h = either_next (count == 0) (refused_file f errno) (move f asked count) f refl h

flush-stays : (f : FileState) (row : ℕ) (m : Mark) → (file_step f (step.Flush row) m).next ≡ f
unfolding file_step file_refusals
flush-stays (file.Unbound generation) row mark.Clear = refl
flush-stays (file.Bytes generation kind capacity bytes) row mark.Clear = refl
flush-stays (file.Device generation input output) row mark.Clear = refl
flush-stays f row (mark.Fault count) = stopped-stays f (step.Flush row) errno.EIO count (flush-moves f row count)
flush-stays f row (mark.NoMem count) = stopped-stays f (step.Flush row) errno.ENOMEM count (flush-moves f row count)

reclaim-stays : (f : FileState) (row : ℕ) (m : Mark) → (file_step f (step.Reclaim row) m).next ≡ f
unfolding file_step file_refusals
reclaim-stays (file.Unbound generation) row mark.Clear = refl
reclaim-stays (file.Bytes generation kind capacity bytes) row mark.Clear = refl
reclaim-stays (file.Device generation input output) row mark.Clear = refl
reclaim-stays f row (mark.Fault count) = stopped-stays f (step.Reclaim row) errno.EIO count (reclaim-moves f row count)
reclaim-stays f row (mark.NoMem count) = stopped-stays f (step.Reclaim row) errno.ENOMEM count (reclaim-moves f row count)

pub flush-leaves : (w : WorldState) (asker : Who) (row : ℕ) (m : Mark) → (world_step w asker (step.Flush row) m).next ≡ w
unfolding world_step
flush-leaves w asker row m = same_file w row _ (flush-stays (file_at w row) row m)

pub reclaim-leaves : (w : WorldState) (asker : Who) (row : ℕ) (m : Mark) → (world_step w asker (step.Reclaim row) m).next ≡ w
unfolding world_step
reclaim-leaves w asker row m = same_file w row _ (reclaim-stays (file_at w row) row m)
