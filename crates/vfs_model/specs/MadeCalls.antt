-- Which calls of devices a step makes under its mark, and the caches that it leaves by them.
use Rattle.std.specs.Prelude.{◌≡◌, ℕ, ◌⊎◌, ◌==◌, Bool, true, false, ◌&&◌, Option, Some, None, is_ok, List, [], ◌∷◌, ◌++◌, filter, Result, Ok, Err, if◌then◌else◌}
use Rattle.std.specs.List.{All, Any, list_any, range_with_len}
use Rattle.vfs_base.specs.Path.{Path}
use Rattle.vfs_base.specs.declared.entry.Mark.{Mark}
use Rattle.vfs_base.specs.declared.entry.Mark.TheVariants as mark
use Rattle.vfs_base.specs.declared.errno.Errno.{Errno}
use Rattle.vfs_base.specs.declared.limits.TheConstants.{ROWS}
use Rattle.vfs_base.specs.declared.step.Step.{Step}
use Rattle.vfs_base.specs.declared.step.Step.TheVariants as step
use Rattle.vfs_model.specs.Cache.{CacheRun, begin_run, row_calls, row_run, write_back}
use Rattle.vfs_model.specs.FailedCalls.{stopped_run, try_write_back}
use Rattle.vfs_model.specs.FileLife.{backing_of, is_linked}
use Rattle.vfs_model.specs.Lookup.{asked_path}
use Rattle.vfs_model.specs.Namespace.{life_at}
use Rattle.vfs_model.specs.UmountSteps.{mount_at_point, rows_of_mount, umount_step}
use Rattle.vfs_model.specs.declared.cache.CacheState.{CacheState}
use Rattle.vfs_model.specs.declared.cache.DeviceCall.{DeviceCall}
use Rattle.vfs_model.specs.declared.namespace.Backing.{Backing}
use Rattle.vfs_model.specs.declared.namespace.Backing.TheVariants as backing
use Rattle.vfs_model.specs.declared.namespace.Mount.{Mount}
use Rattle.vfs_model.specs.declared.namespace.Namespace.{Namespace}
use Rattle.vfs_model.specs.declared.world.FileState.{FileState}

-- The calls that a step of a row on a cell made and the cache that it left: all calls where nothing stopped it, else those up to
-- the one that failed, or some first ones, none of which failed, where memory was wanting.
unfoldable pub MakesCalls : FileState → CacheState → Step → Mark → CacheRun → Type 0
MakesCalls f cache asked mark.Clear made = made ≡ row_run f cache asked
MakesCalls f cache asked (mark.Fault moved) made =
    (number : ℕ) × (stopped_run number f cache asked ≡ Err (record { moved = moved; run = made }))
MakesCalls f cache asked (mark.NoMem moved) made = (later : List DeviceCall) × (made.calls ++ later ≡ row_calls f cache asked)

-- the row's dirty pages are written
abbrev pub WritesBack : CacheState → CacheRun → Type 0
WritesBack cache made = made ≡ write_back (begin_run cache)

-- a call that fails stops the row's write-back
abbrev pub StopsWriting : CacheState → CacheRun → Type 0
StopsWriting cache made = (number : ℕ) × (try_write_back number (begin_run cache) ≡ Err made)

-- some first ones of the row's dirty pages are written
abbrev pub BeginsWriting : CacheState → CacheRun → Type 0
BeginsWriting cache made = (later : List DeviceCall) × (made.calls ++ later ≡ (write_back (begin_run cache)).calls)

-- the row's device is not called
abbrev pub IsUncalled : CacheState → CacheRun → Type 0
IsUncalled cache made = made ≡ begin_run cache

-- the rows are written one after the other, up to the first that a failed call stops; the rows behind it are not called
abbrev pub WritesUpToStop : (ℕ → CacheState) → (ℕ → CacheRun) → List ℕ → Type 0
WritesUpToStop caches made [] = ⊥
WritesUpToStop caches made (row ∷ rows) =
    (StopsWriting (caches row) (made row) × All (λ later. IsUncalled (caches later) (made later)) rows)
    ⊎ (WritesBack (caches row) (made row) × WritesUpToStop caches made rows)

-- an unmount's rows, under its mark
abbrev pub UmountWrites : (ℕ → CacheState) → (ℕ → CacheRun) → List ℕ → Mark → Type 0
UmountWrites caches made rows mark.Clear = All (λ row. WritesBack (caches row) (made row)) rows
UmountWrites caches made rows (mark.Fault moved) = WritesUpToStop caches made rows
UmountWrites caches made rows (mark.NoMem moved) = All (λ row. BeginsWriting (caches row) (made row)) rows

-- each row for itself, and one at least is stopped
pub record WritesOrStops (caches : ℕ → CacheState) (made : ℕ → CacheRun) (rows : List ℕ) : Type 0 where
  pub each : All (λ row. WritesBack (caches row) (made row) ⊎ StopsWriting (caches row) (made row)) rows
  pub some : Any (λ row. StopsWriting (caches row) (made row)) rows

-- the rows of a shutdown, under its mark
abbrev pub ShutdownWrites : (ℕ → CacheState) → (ℕ → CacheRun) → List ℕ → Mark → Type 0
ShutdownWrites caches made rows mark.Clear = All (λ row. WritesBack (caches row) (made row)) rows
ShutdownWrites caches made rows (mark.Fault moved) = WritesOrStops caches made rows
ShutdownWrites caches made rows (mark.NoMem moved) = All (λ row. BeginsWriting (caches row) (made row)) rows

abbrev pub is_cell_backing : Backing → Bool
is_cell_backing backing.Memory = false
is_cell_backing (backing.Cell volume cell) = true
is_cell_backing (backing.Device device) = false

abbrev pub is_cell_row : Namespace → ℕ → Bool
is_cell_row n row = is_cell_backing (backing_of (life_at n row))

-- the rows of the files on cells that have a name, in their order: the others are dropped at the end, with what is not written
abbrev pub named_cell_rows : Namespace → List ℕ
named_cell_rows n = filter (λ row. is_cell_row n row && is_linked n row) (range_with_len 1 ROWS)

-- the mount that stands at an asked path
abbrev pub asked_mount : Namespace → Result Path Errno → Option Mount
asked_mount n (Ok path) = mount_at_point n path
asked_mount n (Err errno) = None

abbrev pub cell_rows_of : Namespace → Option Mount → List ℕ
cell_rows_of n None = []
cell_rows_of n (Some mount) = filter (is_cell_row n) (rows_of_mount n mount.number)

-- the rows that an unmount writes back: none where it is refused
abbrev pub umounted_rows : Namespace → ℕ → List ℕ → List ℕ
umounted_rows n k point = if is_ok (umount_step n k point) then cell_rows_of n (asked_mount n (asked_path n k point)) else []

-- the rows that a step of the namespace writes back
abbrev pub written_rows : Namespace → ℕ → Step → List ℕ
written_rows n k (step.Umount point) = umounted_rows n k point
written_rows n k step.Shutdown = named_cell_rows n
written_rows n k _ = []

abbrev pub RowsWritten : (ℕ → CacheState) → (ℕ → CacheRun) → List ℕ → Step → Mark → Type 0
RowsWritten caches made rows step.Shutdown m = ShutdownWrites caches made rows m
RowsWritten caches made rows _ m = UmountWrites caches made rows m

-- The calls that a step of the namespace makes on the device of each row, and the cache that it leaves there before rows come and go:
-- an unmount writes the mount's rows back in their order and ends at the first that stops, a shutdown writes each row back for
-- itself, and no other step calls a device.
pub record NamespaceMakes (n : Namespace) (k : ℕ) (asked : Step) (m : Mark) (caches : ℕ → CacheState) (made : ℕ → CacheRun) : Type 0 where
  pub written : RowsWritten caches made (written_rows n k asked) asked m
  pub others : (row : ℕ) → list_any (λ other. other == row) (written_rows n k asked) ≡ false → IsUncalled (caches row) (made row)
