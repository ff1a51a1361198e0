-- A step of one file tells nothing of a character device's output, and puts its bytes behind it.
use Rattle.std.proofs.Common.{◌≡◌, ℕ, ◌==◌, Bool, true, false, List, ◌++◌, take, Result, Ok, Err, if◌then◌else◌, refl, ap, ◌∙◌, append_assoc}
use Rattle.vfs_base.specs.declared.entry.Mark.{Mark}
use Rattle.vfs_base.specs.declared.entry.Mark.TheVariants as mark
use Rattle.vfs_base.specs.declared.errno.Errno.{Errno}
use Rattle.vfs_base.specs.declared.errno.Errno.TheVariants as errno
use Rattle.vfs_base.specs.declared.kinds.Kind.{Kind}
use Rattle.vfs_base.specs.declared.reply.Reply.TheVariants as reply
use Rattle.vfs_base.specs.declared.step.Step.{Step}
use Rattle.vfs_base.specs.declared.step.Step.TheVariants as step
use Rattle.vfs_model.specs.FileMoves.{clear_step, file_step, fits_file, move, move_bytes, move_device}
use Rattle.vfs_model.specs.FileStep.{FileOutcome, file_refusals, moved_count, refused_file}
use Rattle.vfs_model.specs.declared.world.FileState.{FileState}
use Rattle.vfs_model.specs.declared.world.FileState.TheVariants as file
use Rattle.world_laws.specs.Behind.{file_behind}

-- the same answer, and the file that is left behind the bytes
abbrev pub outcome_behind : List ℕ → FileOutcome → FileOutcome
outcome_behind front outcome = record { reply = outcome.reply; next = file_behind front outcome.next }

bytes-behind : (front : List ℕ) (generation : ℕ) (kind : Kind) (capacity : ℕ) (bytes : List ℕ) (asked : Step) (count : ℕ) →
    move_bytes generation kind capacity bytes asked count ≡ outcome_behind front (move_bytes generation kind capacity bytes asked count)
bytes-behind front generation kind capacity bytes (step.Size id) count = refl
bytes-behind front generation kind capacity bytes (step.Read id off len) count = refl
bytes-behind front generation kind capacity bytes (step.Load id off len) count = refl
bytes-behind front generation kind capacity bytes (step.Write id off piece) count = refl
bytes-behind front generation kind capacity bytes (step.Store id off piece) count = refl
bytes-behind front generation kind capacity bytes (step.Append id piece) count = refl
bytes-behind front generation kind capacity bytes (step.Trunc id len) count = refl
bytes-behind front generation kind capacity bytes _ count = refl

written-behind : (front : List ℕ) (generation : ℕ) (input output piece : List ℕ) (count : ℕ) →
    file.Device generation input ((front ++ output) ++ take count piece) ≡ file.Device generation input (front ++ (output ++ take count piece))
written-behind front generation input output piece count = ap (file.Device generation input) (append_assoc front output (take count piece))

device-behind : (front : List ℕ) (generation : ℕ) (input output : List ℕ) (asked : Step) (count : ℕ) →
    move_device generation input (front ++ output) asked count ≡ outcome_behind front (move_device generation input output asked count)
device-behind front generation input output (step.Read id off len) count = refl
device-behind front generation input output (step.Write id off piece) count =
    ap (λ f. record { reply = reply.Count count 0; next = f }) (written-behind front generation input output piece count)
device-behind front generation input output (step.Append id piece) count =
    ap (λ f. record { reply = reply.Count count 0; next = f }) (written-behind front generation input output piece count)
device-behind front generation input output _ count = refl

move-behind : (front : List ℕ) (f : FileState) (asked : Step) (count : ℕ) → move (file_behind front f) asked count ≡ outcome_behind front (move f asked count)
move-behind front (file.Unbound generation) asked count = refl
move-behind front (file.Bytes generation kind capacity bytes) asked count = bytes-behind front generation kind capacity bytes asked count
move-behind front (file.Device generation input output) asked count = device-behind front generation input output asked count

refusals-behind : (front : List ℕ) (f : FileState) (asked : Step) → file_refusals (file_behind front f) asked ≡ file_refusals f asked
unfolding file_refusals
refusals-behind front (file.Unbound generation) asked = refl
refusals-behind front (file.Bytes generation kind capacity bytes) asked = refl
refusals-behind front (file.Device generation input output) asked = refl

count-behind : (front : List ℕ) (f : FileState) (asked : Step) → moved_count (file_behind front f) asked ≡ moved_count f asked
unfolding moved_count file_refusals
count-behind front (file.Unbound generation) asked = refl
count-behind front (file.Bytes generation kind capacity bytes) asked = refl
count-behind front (file.Device generation input output) asked = refl

clear-behind : (front : List ℕ) (f : FileState) (asked : Step) (r : Result (Unit {0}) Errno) → clear_step (file_behind front f) asked r ≡ outcome_behind front (clear_step f asked r)
clear-behind front f asked (Ok passed) =
    ap (move (file_behind front f) asked) (count-behind front f asked) ∙ move-behind front f asked (moved_count f asked)
clear-behind front f asked (Err errno) = refl

stopped-behind : (front : List ℕ) (f : FileState) (asked : Step) (errno : Errno) (count : ℕ) (none : Bool) →
    (if none then refused_file (file_behind front f) errno else move (file_behind front f) asked count)
    ≡ outcome_behind front (if none then refused_file f errno else move f asked count)
stopped-behind front f asked errno count true = refl
stopped-behind front f asked errno count false = move-behind front f asked count

pub step-behind : (front : List ℕ) (f : FileState) (asked : Step) (m : Mark) → file_step (file_behind front f) asked m ≡ outcome_behind front (file_step f asked m)
unfolding file_step
step-behind front f asked mark.Clear =
    ap (clear_step (file_behind front f) asked) (refusals-behind front f asked) ∙ clear-behind front f asked (file_refusals f asked)
step-behind front f asked (mark.Fault count) = stopped-behind front f asked errno.EIO count (count == 0)
step-behind front f asked (mark.NoMem count) = stopped-behind front f asked errno.ENOMEM count (count == 0)

pub fits-behind : (front : List ℕ) (f : FileState) (asked : Step) (m : Mark) → fits_file (file_behind front f) asked m ≡ fits_file f asked m
unfolding fits_file moved_count file_refusals
fits-behind front (file.Unbound generation) asked m = refl
fits-behind front (file.Bytes generation kind capacity bytes) asked m = refl
fits-behind front (file.Device generation input output) asked mark.Clear = refl
fits-behind front (file.Device generation input output) asked (mark.Fault count) = refl
fits-behind front (file.Device generation input output) asked (mark.NoMem count) = refl
