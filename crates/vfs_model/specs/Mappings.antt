-- The mappings of a shell: parts of files.
use Rattle.std.specs.Prelude.{ℕ, ◌+◌, ◌-◌, ◌%◌, ◌==◌, Bool, not, ◌&&◌, ◌||◌, true, false, nat_lt, is_none, Option, Some, None, List, replicate, slice_index_or, slice_set, Result, Ok, if◌then◌else◌}
use Rattle.std.specs.List.{list_any, position_or_len}
use Rattle.vfs_base.specs.declared.errno.Errno.{Errno}
use Rattle.vfs_base.specs.declared.errno.Errno.TheVariants as errno
use Rattle.vfs_base.specs.declared.ids.FileId.{FileId}
use Rattle.vfs_base.specs.declared.kinds.Kind.{Kind}
use Rattle.vfs_base.specs.declared.kinds.Kind.TheVariants as kind
use Rattle.vfs_base.specs.declared.limits.TheConstants.{OFF_MAX, PAGE_SIZE, WINDOWS}
use Rattle.vfs_model.specs.Chain.{◌>>=◌, ◌>>◌, refuse◌when◌, wanted}
use Rattle.vfs_model.specs.declared.shell_state.Window.{Window}

-- a character device, in which nothing has an offset
abbrev pub is_chr : Kind → Bool
is_chr kind.Chr = true
is_chr kind.Tmp = false
is_chr kind.Rom = false
is_chr kind.Cell = false

-- what is mapped: a part of an open file, to read it, and to write it where that is wanted
-- (POSIX.1-2017, mmap)
unfoldable pub may_map : Kind → Bool → Bool → ℕ → ℕ → Bool → Result (Unit {0}) Errno
may_map kind reads writes off len wants_write = do
  refuse errno.EINVAL when (len == 0 || not (off % PAGE_SIZE == 0))
  refuse errno.EOVERFLOW when nat_lt OFF_MAX (off + len)
  refuse errno.ENODEV when is_chr kind
  refuse errno.EACCES when (not reads || (wants_write && not writes))

-- no mapping
abbrev pub opening_mappings : List (Option Window)
opening_mappings = replicate WINDOWS None

-- the mapping of a number; mappings are counted from 1
abbrev pub mapping_at : List (Option Window) → ℕ → Option Window
mapping_at mappings number = if number == 0 then None else slice_index_or mappings (number - 1) None

-- the mapping of a number that is used
abbrev pub mapping : List (Option Window) → ℕ → Result Window Errno
mapping mappings number = wanted errno.EINVAL (mapping_at mappings number)

abbrev pub with_mapping : List (Option Window) → ℕ → Option Window → List (Option Window)
with_mapping mappings number window = slice_set mappings (number - 1) window

-- no number is free
abbrev pub has_all_mappings : List (Option Window) → Bool
has_all_mappings mappings = not (list_any is_none mappings)

abbrev pub least_free_mapping : List (Option Window) → ℕ
least_free_mapping mappings = position_or_len is_none mappings + 1

-- a mapping that is new, and the mappings with it
pub record NewMapping : Type 0 where
  pub number : ℕ
  pub mappings : List (Option Window)

-- a mapping more, at the least free number
unfoldable pub add_mapping : List (Option Window) → Window → Result NewMapping Errno
add_mapping mappings window = do
  refuse errno.EMFILE when has_all_mappings mappings
  Ok (record { number = least_free_mapping mappings; mappings = with_mapping mappings (least_free_mapping mappings) (Some window) })

-- an offset in a file
pub record FileOffset : Type 0 where
  pub file : FileId
  pub offset : ℕ

-- where a part of a mapping lies that is read, or written
unfoldable pub check_mapping : List (Option Window) → ℕ → ℕ → ℕ → Bool → Result FileOffset Errno
check_mapping mappings number off len is_write = do
  window ← mapping mappings number
  refuse errno.EACCES when (is_write && not window.writes)
  refuse errno.EFAULT when nat_lt window.len (off + len)
  Ok (record { file = window.file; offset = window.off + off })

-- a mapping that was taken out, and those that are left
pub record TakenMapping : Type 0 where
  pub window : Window
  pub mappings : List (Option Window)

-- a mapping goes (POSIX.1-2017, munmap)
unfoldable pub remove_mapping : List (Option Window) → ℕ → Result TakenMapping Errno
remove_mapping mappings number = do
  window ← mapping mappings number
  Ok (record { window = window; mappings = with_mapping mappings number None })
