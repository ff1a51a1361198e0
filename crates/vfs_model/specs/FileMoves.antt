-- What one step of one file moves, and how marks stop it.
use Rattle.std.specs.Prelude.{ℕ, ◌+◌, ◌==◌, Bool, true, false, ◌&&◌, ◌||◌, nat_lt, is_ok, List, ◌++◌, length, take, drop, Result, Ok, Err, if◌then◌else◌}
use Rattle.vfs_base.specs.declared.entry.Mark.{Mark}
use Rattle.vfs_base.specs.declared.entry.Mark.TheVariants as mark
use Rattle.vfs_base.specs.declared.errno.Errno.{Errno}
use Rattle.vfs_base.specs.declared.errno.Errno.TheVariants as errno
use Rattle.vfs_base.specs.declared.kinds.Kind.{Kind}
use Rattle.vfs_base.specs.declared.reply.Reply.TheVariants as reply
use Rattle.vfs_base.specs.declared.step.Step.{Step}
use Rattle.vfs_base.specs.declared.step.Step.TheVariants as step
use Rattle.vfs_model.specs.FileStep.{FileOutcome, cut_or_padded, file_refusals, is_cell, moved_count, refused_file, written_at}
use Rattle.vfs_model.specs.declared.world.FileState.{FileState}
use Rattle.vfs_model.specs.declared.world.FileState.TheVariants as file

-- the first bytes of a piece are written: so many, and where they end
abbrev pub write_bytes : ℕ → Kind → ℕ → List ℕ → ℕ → List ℕ → ℕ → FileOutcome
write_bytes generation kind capacity bytes off piece count =
    record { reply = reply.Count count (off + count); next = file.Bytes generation kind capacity (written_at off (take count piece) bytes) }

-- a step of a file of bytes, which moves so many bytes
abbrev pub move_bytes : ℕ → Kind → ℕ → List ℕ → Step → ℕ → FileOutcome
move_bytes generation kind capacity bytes (step.Size id) count =
    record { reply = reply.SizeIs (length bytes); next = file.Bytes generation kind capacity bytes }
move_bytes generation kind capacity bytes (step.Read id off len) count =
    record { reply = reply.Got (take count (drop off bytes)); next = file.Bytes generation kind capacity bytes }
move_bytes generation kind capacity bytes (step.Load id off len) count =
    record { reply = reply.Got (take count (drop off bytes)); next = file.Bytes generation kind capacity bytes }
move_bytes generation kind capacity bytes (step.Write id off piece) count = write_bytes generation kind capacity bytes off piece count
move_bytes generation kind capacity bytes (step.Store id off piece) count = write_bytes generation kind capacity bytes off piece count
move_bytes generation kind capacity bytes (step.Append id piece) count = write_bytes generation kind capacity bytes (length bytes) piece count
move_bytes generation kind capacity bytes (step.Trunc id len) count =
    record { reply = reply.Done; next = file.Bytes generation kind capacity (cut_or_padded len bytes) }
move_bytes generation kind capacity bytes _ count = record { reply = reply.Done; next = file.Bytes generation kind capacity bytes }

-- the first bytes of a piece are put behind a device's output
abbrev pub write_device : ℕ → List ℕ → List ℕ → List ℕ → ℕ → FileOutcome
write_device generation input output piece count =
    record { reply = reply.Count count 0; next = file.Device generation input (output ++ take count piece) }

-- a step of a character device, which moves so many bytes
abbrev pub move_device : ℕ → List ℕ → List ℕ → Step → ℕ → FileOutcome
move_device generation input output (step.Read id off len) count =
    record { reply = reply.Got (take count input); next = file.Device generation (drop count input) output }
move_device generation input output (step.Write id off piece) count = write_device generation input output piece count
move_device generation input output (step.Append id piece) count = write_device generation input output piece count
move_device generation input output _ count = record { reply = reply.Done; next = file.Device generation input output }

-- a step that is not refused, and moves so many bytes
abbrev pub move : FileState → Step → ℕ → FileOutcome
move (file.Unbound generation) asked count = record { reply = reply.Done; next = file.Unbound generation }
move (file.Bytes generation kind capacity bytes) asked count = move_bytes generation kind capacity bytes asked count
move (file.Device generation input output) asked count = move_device generation input output asked count

-- what a step answers that nothing stops
abbrev pub clear_step : FileState → Step → Result (Unit {0}) Errno → FileOutcome
clear_step f asked (Ok passed) = move f asked (moved_count f asked)
clear_step f asked (Err errno) = refused_file f errno

-- a step that was stopped after so many bytes: a short transfer, or refused where none was moved
abbrev pub stopped_step : FileState → Step → Errno → ℕ → FileOutcome
stopped_step f asked errno count = if count == 0 then refused_file f errno else move f asked count

-- what a file's step answers, and the file that it leaves
unfoldable pub file_step : FileState → Step → Mark → FileOutcome
file_step f asked mark.Clear = clear_step f asked (file_refusals f asked)
file_step f asked (mark.Fault count) = stopped_step f asked errno.EIO count
file_step f asked (mark.NoMem count) = stopped_step f asked errno.ENOMEM count

abbrev pub is_on_cell : FileState → Bool
is_on_cell (file.Unbound generation) = false
is_on_cell (file.Bytes generation kind capacity bytes) = is_cell kind
is_on_cell (file.Device generation input output) = false

abbrev pub is_on_device : FileState → Bool
is_on_device (file.Unbound generation) = false
is_on_device (file.Bytes generation kind capacity bytes) = is_cell kind
is_on_device (file.Device generation input output) = true

-- a step stops before it has moved all, or at once where it moves nothing
abbrev pub is_before_end : FileState → Step → ℕ → Bool
is_before_end f asked count = count == 0 || nat_lt count (moved_count f asked)

-- a mark that a file's step may have
unfoldable pub fits_file : FileState → Step → Mark → Bool
fits_file f asked mark.Clear = true
fits_file f asked (mark.Fault count) = is_before_end f asked count && is_on_device f && is_ok (file_refusals f asked)
fits_file f asked (mark.NoMem count) = is_before_end f asked count && (count == 0 || is_on_cell f)
