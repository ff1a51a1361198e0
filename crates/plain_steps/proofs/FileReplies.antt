-- No step of a file tells a folder.
use Rattle.std.proofs.Common.{◌≡◌, ◌==◌, ℕ, List, Result, Ok, Err, IfOk, ap, subst}
use Rattle.std.proofs.lemmas.Bool.{cond_both}
use Rattle.vfs_base.specs.declared.entry.Mark.{Mark}
use Rattle.vfs_base.specs.declared.entry.Mark.TheVariants as mark
use Rattle.vfs_base.specs.declared.errno.Errno.{Errno}
use Rattle.vfs_base.specs.declared.errno.Errno.TheVariants as errno
use Rattle.vfs_base.specs.declared.kinds.Kind.{Kind}
use Rattle.vfs_base.specs.declared.no_memory.NoMemory.{NoMemory}
use Rattle.vfs_base.specs.declared.reply.Reply.{Reply}
use Rattle.vfs_base.specs.declared.step.Step.{Step}
use Rattle.vfs_base.specs.declared.step.Step.TheVariants as step
use Rattle.vfs_model.specs.FileMoves.{clear_step, file_step, move, move_bytes, move_device, stopped_step}
use Rattle.vfs_model.specs.FileStep.{file_refusals, refused_file}
use Rattle.vfs_model.specs.StepForms.{TellsFolder}
use Rattle.vfs_model.specs.World.{WorldOutcome, file_part}
use Rattle.vfs_model.specs.declared.world.FileState.{FileState}
use Rattle.vfs_model.specs.declared.world.FileState.TheVariants as file
use Rattle.vfs_model.specs.declared.world.WorldState.{WorldState}
use Rattle.plain_nodes.specs.WorldAnswer.{leaving}

bytes_told : (generation : ℕ) (kind : Kind) (capacity : ℕ) (bytes : List ℕ) (asked : Step) (count : ℕ) →
    TellsFolder (move_bytes generation kind capacity bytes asked count).reply
bytes_told generation kind capacity bytes (step.Size id) count = tt
bytes_told generation kind capacity bytes (step.Read id off len) count = tt
bytes_told generation kind capacity bytes (step.Load id off len) count = tt
bytes_told generation kind capacity bytes (step.Write id off piece) count = tt
bytes_told generation kind capacity bytes (step.Store id off piece) count = tt
bytes_told generation kind capacity bytes (step.Append id piece) count = tt
bytes_told generation kind capacity bytes (step.Trunc id len) count = tt
bytes_told generation kind capacity bytes _ count = tt

device_told : (generation : ℕ) (input output : List ℕ) (asked : Step) (count : ℕ) →
    TellsFolder (move_device generation input output asked count).reply
device_told generation input output (step.Read id off len) count = tt
device_told generation input output (step.Write id off piece) count = tt
device_told generation input output (step.Append id piece) count = tt
device_told generation input output _ count = tt

move_told : (f : FileState) (asked : Step) (count : ℕ) → TellsFolder (move f asked count).reply
move_told (file.Unbound generation) asked count = tt
move_told (file.Bytes generation kind capacity bytes) asked count = bytes_told generation kind capacity bytes asked count
move_told (file.Device generation input output) asked count = device_told generation input output asked count

clear_told : (f : FileState) (asked : Step) (passed : Result (Unit {0}) Errno) → TellsFolder (clear_step f asked passed).reply
clear_told f asked (Ok passed) = move_told f asked _
clear_told f asked (Err errno) = tt

stopped_told : (f : FileState) (asked : Step) (why : Errno) (count : ℕ) → TellsFolder (stopped_step f asked why count).reply
stopped_told f asked why count =
    cond_both (count == 0) (refused_file f why) (move f asked count) (λ outcome. TellsFolder outcome.reply) (λ _. tt) (λ _. move_told f asked count)

file_told : (f : FileState) (asked : Step) (m : Mark) → TellsFolder (file_step f asked m).reply
unfolding file_step
file_told f asked mark.Clear = clear_told f asked (file_refusals f asked)
file_told f asked (mark.Fault count) = stopped_told f asked errno.EIO count
file_told f asked (mark.NoMem count) = stopped_told f asked errno.ENOMEM count

-- nor does the world's step of a row
told_row : (w new : WorldState) (row : ℕ) (f : FileState) (asked : Step) (m : Mark) (reply : Reply) →
    file_part w row (file_step f asked m) ≡ leaving new reply → TellsFolder reply
told_row w new row f asked m reply same = subst TellsFolder (ap (λ (outcome : WorldOutcome). outcome.reply) same) (file_told f asked m)

pub told_if : (w new : WorldState) (row : ℕ) (f : FileState) (asked : Step) (m : Mark) (result : Result Reply NoMemory) →
    IfOk result (λ reply. file_part w row (file_step f asked m) ≡ leaving new reply) → IfOk result TellsFolder
told_if w new row f asked m (Ok reply) same = told_row w new row f asked m reply same
told_if w new row f asked m (Err fault) same = tt
