-- The open files of a shell, and their descriptors.
use Rattle.std.specs.Prelude.{ℕ, ◌+◌, ◌^◌, min, ◌-◌, ◌==◌, Bool, false, not, nat_lt, is_none, nat_abs, pos, ℤ, ◌+ℤ◌, int_lt, Option, Some, None, count_by, replicate, slice_index_or, slice_set, Result, Ok, if◌then◌else◌}
use Rattle.std.specs.List.{list_any, position_or_len}
use Rattle.std.specs.Option.{option_and_then}
use Rattle.vfs_base.specs.declared.errno.Errno.{Errno}
use Rattle.vfs_base.specs.declared.errno.Errno.TheVariants as errno
use Rattle.vfs_base.specs.declared.limits.TheConstants.{DESCRIPTORS, FIRST_DESCRIPTOR, OFF_MAX}
use Rattle.vfs_model.specs.Chain.{◌>>=◌, ◌>>◌, refuse◌when◌, wanted}
use Rattle.vfs_model.specs.declared.shell_state.OpenFile.{OpenFile}
use Rattle.vfs_model.specs.declared.shell_state.OpenFiles.{OpenFiles}
use Rattle.vfs_model.specs.declared.shell_state.Whence.{Whence}
use Rattle.vfs_model.specs.declared.shell_state.Whence.TheVariants as whence

-- the greatest place of an open file
abbrev pub place_max : ℕ
place_max = 2 ^ 63 + 2 ^ 20

-- an offset, so many bytes on
abbrev pub moved_offset : ℕ → ℕ → ℕ
moved_offset offset count = min (offset + count) place_max

-- no descriptor is used
abbrev pub opening_files : OpenFiles
opening_files = record { descriptors = replicate DESCRIPTORS None; files = replicate DESCRIPTORS None }

-- the number of a descriptor's open file; none where the descriptor is free or out of range
abbrev pub file_number : OpenFiles → ℕ → Option ℕ
file_number open_files fd =
    if nat_lt fd FIRST_DESCRIPTOR then None else slice_index_or open_files.descriptors (fd - FIRST_DESCRIPTOR) None

abbrev pub file_numbered : OpenFiles → ℕ → Option OpenFile
file_numbered open_files number = slice_index_or open_files.files number None

-- a descriptor's open file
abbrev pub file_at : OpenFiles → ℕ → Option OpenFile
file_at open_files fd = option_and_then (file_numbered open_files) (file_number open_files fd)

-- the open file of a descriptor that is used
abbrev pub open_file : OpenFiles → ℕ → Result OpenFile Errno
open_file open_files fd = wanted errno.EBADF (file_at open_files fd)

-- no descriptor is free
abbrev pub has_all_descriptors : OpenFiles → Bool
has_all_descriptors open_files = not (list_any is_none open_files.descriptors)

abbrev pub least_free_descriptor : OpenFiles → ℕ
least_free_descriptor open_files = position_or_len is_none open_files.descriptors + FIRST_DESCRIPTOR

-- the descriptor leads to the open file of this number, or to none
abbrev pub with_descriptor : ℕ → Option ℕ → OpenFiles → OpenFiles
with_descriptor fd number open_files =
    record open_files { descriptors = slice_set open_files.descriptors (fd - FIRST_DESCRIPTOR) number }

abbrev pub with_file : ℕ → Option OpenFile → OpenFiles → OpenFiles
with_file number file open_files = record open_files { files = slice_set open_files.files number file }

-- a descriptor that is new, and the open files with it
pub record NewDescriptor : Type 0 where
  pub fd : ℕ
  pub open_files : OpenFiles

-- the least free descriptor leads to the open file of this number now
abbrev pub new_descriptor : OpenFiles → ℕ → NewDescriptor
new_descriptor open_files number =
    let fd = least_free_descriptor open_files in
    record { fd = fd; open_files = with_descriptor fd (Some number) open_files }

abbrev pub least_free_file : OpenFiles → ℕ
least_free_file open_files = position_or_len is_none open_files.files

-- an open file more, at the least free descriptor (POSIX.1-2017, open)
unfoldable pub add_file : OpenFiles → OpenFile → Result NewDescriptor Errno
add_file open_files file = do
  refuse errno.EMFILE when has_all_descriptors open_files
  Ok (new_descriptor (with_file (least_free_file open_files) (Some file) open_files) (least_free_file open_files))

-- a descriptor more, of the same open file (POSIX.1-2017, dup)
unfoldable pub dup_file : OpenFiles → ℕ → Result NewDescriptor Errno
dup_file open_files fd = do
  number ← wanted errno.EBADF (file_number open_files fd)
  refuse errno.EMFILE when has_all_descriptors open_files
  Ok (new_descriptor open_files number)

abbrev pub placed : ℕ → OpenFile → OpenFile
placed place file = record file { place = place }

-- the open file of this number is at the place, and so are all its descriptors
abbrev pub at_place : OpenFiles → ℕ → ℕ → OpenFile → OpenFiles
at_place open_files number place file = with_file number (Some (placed place file)) open_files

-- the descriptor's open file gets a place
unfoldable pub set_place : OpenFiles → ℕ → ℕ → Result OpenFiles Errno
set_place open_files fd place = do
  number ← wanted errno.EBADF (file_number open_files fd)
  file ← wanted errno.EBADF (file_numbered open_files number)
  Ok (at_place open_files number place file)

-- where an offset is counted from
abbrev pub whence_offset : OpenFile → Whence → ℕ
whence_offset file whence.Set = 0
whence_offset file whence.Cur = file.place
whence_offset file (whence.End size) = size

-- the offset so far from another one, forward or backward
abbrev pub sought_offset : ℕ → ℤ → Result ℕ Errno
sought_offset from off = do
  refuse errno.EINVAL when int_lt (pos from +ℤ off) (pos 0)
  refuse errno.EOVERFLOW when int_lt (pos OFF_MAX) (pos from +ℤ off)
  Ok (nat_abs (pos from +ℤ off))

-- the place of an open file that was sought, and the open files with it
pub record Sought : Type 0 where
  pub place : ℕ
  pub open_files : OpenFiles

-- the descriptor's open file gets the place at this offset (POSIX.1-2017, lseek)
unfoldable pub seek : OpenFiles → ℕ → ℤ → Whence → Result Sought Errno
seek open_files fd off whence = do
  file ← open_file open_files fd
  place ← sought_offset (whence_offset file whence) off
  moved ← set_place open_files fd place
  Ok (record { place = place; open_files = moved })

-- a descriptor of the open file of this number
abbrev pub leads_to : ℕ → Option ℕ → Bool
leads_to number None = false
leads_to number (Some other) = other == number

abbrev pub is_last_of : OpenFiles → Option ℕ → Bool
is_last_of open_files None = false
is_last_of open_files (Some number) = count_by (leads_to number) open_files.descriptors == 1

-- the descriptor is used, and no other one has its open file
abbrev pub is_last : OpenFiles → ℕ → Bool
is_last open_files fd = is_last_of open_files (file_number open_files fd)

-- the open file that lost its last descriptor, if one did, and the open files that are left
pub record Closed : Type 0 where
  pub last : Option OpenFile
  pub open_files : OpenFiles

-- a descriptor goes, and with the last one its open file (POSIX.1-2017, close)
unfoldable pub close_file : OpenFiles → ℕ → Result Closed Errno
close_file open_files fd = do
  number ← wanted errno.EBADF (file_number open_files fd)
  Ok (
      if is_last open_files fd
      then record { last = file_numbered open_files number; open_files = with_file number None (with_descriptor fd None open_files) }
      else record { last = None; open_files = with_descriptor fd None open_files })
