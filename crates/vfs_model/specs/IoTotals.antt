-- How many reads and writes a list of steps makes on each volume, where nothing stops them.
use Rattle.std.specs.Prelude.{ℕ, ◌+◌, ◌-◌, Bool, true, false, Option, Some, None, List, [], ◌∷◌, length, map, fold, replicate, count_by, slice_index_or, slice_set, if◌then◌else◌}
use Rattle.vfs_base.specs.declared.describe.Describe.{Describe}
use Rattle.vfs_base.specs.declared.reply.Reply.{Reply}
use Rattle.vfs_base.specs.declared.step.Step.{Step}
use Rattle.vfs_base.specs.declared.step.Step.TheVariants as step
use Rattle.vfs_base.specs.declared.limits.TheConstants.{ROWS}
use Rattle.vfs_model.specs.Asking.{Asked}
use Rattle.vfs_model.specs.Cache.{CacheRun, begin_run, empty_cache, row_run, write_back}
use Rattle.vfs_model.specs.FileLife.{backing_of, volume_named}
use Rattle.vfs_model.specs.Namespace.{life_at}
use Rattle.vfs_model.specs.NamespaceStep.{namespace_step}
use Rattle.vfs_model.specs.Homes.{file_at, opening_world}
use Rattle.vfs_model.specs.World.{is_done, session_of, step_row, world_step}
use Rattle.vfs_model.specs.declared.cache.CacheState.{CacheState}
use Rattle.vfs_model.specs.declared.cache.DeviceCall.{DeviceCall}
use Rattle.vfs_model.specs.declared.cache.DeviceCall.TheVariants as call
use Rattle.vfs_model.specs.declared.namespace.Backing.{Backing}
use Rattle.vfs_model.specs.declared.namespace.Backing.TheVariants as backing
use Rattle.vfs_model.specs.declared.namespace.End.{End}
use Rattle.vfs_model.specs.declared.namespace.End.TheVariants as end
use Rattle.vfs_model.specs.declared.namespace.Origin.{Origin}
use Rattle.vfs_model.specs.declared.namespace.Origin.TheVariants as origin
use Rattle.vfs_model.specs.declared.namespace.RomImage.{RomImage}
use Rattle.vfs_model.specs.declared.namespace.RowChange.{RowChange}
use Rattle.vfs_model.specs.declared.namespace.RowChange.TheVariants as change
use Rattle.vfs_model.specs.declared.world.WorldState.{WorldState}

-- how often a volume's devices were called
pub record IoTotal : Type 0 where
  pub reads : ℕ
  pub writes : ℕ

-- the caches of rows, the stored pages of files at home by volume and cell, and the calls so far by volume
pub record IoState : Type 0 where
  pub caches : List CacheState
  pub stored : List (List (List ℕ))
  pub totals : List IoTotal

abbrev pub no_calls : IoTotal
no_calls = record { reads = 0; writes = 0 }

abbrev pub opening_io : Describe → IoState
opening_io describe = record {
  caches = replicate ROWS empty_cache;
  stored = map (λ shape. replicate (length shape.pages) []) describe.volumes;
  totals = map (λ shape. no_calls) describe.volumes;
}

abbrev pub cache_at : IoState → ℕ → CacheState
cache_at io row = slice_index_or io.caches (row - 1) empty_cache

abbrev pub with_cache : IoState → ℕ → CacheState → IoState
with_cache io row cache = record io { caches = slice_set io.caches (row - 1) cache }

abbrev pub stored_on : IoState → ℕ → ℕ → List ℕ
stored_on io volume cell = slice_index_or (slice_index_or io.stored volume []) cell []

abbrev pub with_stored : IoState → ℕ → ℕ → List ℕ → IoState
with_stored io volume cell pages =
    record io { stored = slice_set io.stored volume (slice_set (slice_index_or io.stored volume []) cell pages) }

abbrev pub is_read : DeviceCall → Bool
is_read (call.Read page) = true
is_read (call.Write page) = false

abbrev pub is_write : DeviceCall → Bool
is_write (call.Read page) = false
is_write (call.Write page) = true

-- the calls are made on a device of the volume
abbrev pub count_calls : IoState → ℕ → List DeviceCall → IoState
count_calls io volume calls =
    let total = slice_index_or io.totals volume no_calls in
    record io {
      totals = slice_set io.totals volume (record {
        reads = total.reads + count_by is_read calls;
        writes = total.writes + count_by is_write calls;
      });
    }

-- a row's cache after a run of calls on its device
abbrev pub after_run : IoState → ℕ → ℕ → CacheRun → IoState
after_run io row volume run = count_calls (with_cache io row run.next) volume run.calls

-- a step of a row whose file lies on a cell
abbrev pub io_row : WorldState → IoState → ℕ → Step → Backing → IoState
io_row w io row asked (backing.Cell volume cell) = after_run io row volume (row_run (file_at w row) (cache_at io row) asked)
io_row w io row asked backing.Memory = io
io_row w io row asked (backing.Device device) = io

-- a row's cache as the row is bound: the pages that the cell has for the file are stored
abbrev pub io_bind : IoState → ℕ → Origin → IoState
io_bind io row (origin.Cell volume cell) =
    with_stored (with_cache io row (record { resident = []; stored = stored_on io volume cell })) volume cell []
io_bind io row (origin.NewCell volume cell) = with_cache io row empty_cache
io_bind io row origin.Empty = io
io_bind io row (origin.Rom place path) = io
io_bind io row (origin.Device device) = io

-- a row's cache as the row is freed: it is written back where the volume keeps the file, and else dropped
abbrev pub io_free : IoState → ℕ → End → IoState
io_free io row (end.Kept volume cell) =
    let run = write_back (begin_run (cache_at io row)) in
    with_cache (with_stored (after_run io row volume run) volume cell run.next.stored) row empty_cache
io_free io row (end.Spare volume cell) = with_cache io row empty_cache
io_free io row end.Nothing = io
io_free io row (end.Device device) = io

abbrev pub io_change : IoState → RowChange → IoState
io_change io (change.Bind bound begins) = io_bind io bound.row begins
io_change io (change.Free freed ending) = io_free io freed.row ending

-- a formatted volume has no stored pages
abbrev pub io_format : WorldState → IoState → Step → Reply → IoState
io_format w io (step.Mkfs name) answer =
    let volume = volume_named w.namespace name in
    let emptied : List (List ℕ) = map (λ pages. []) (slice_index_or io.stored volume []) in
    if is_done answer then record io { stored = slice_set io.stored volume emptied } else io
io_format w io _ answer = io

abbrev pub io_on : WorldState → IoState → Asked → Option ℕ → IoState
io_on w io asked (Some row) = io_row w io row asked.step (backing_of (life_at w.namespace row))
io_on w io asked None =
    let outcome = namespace_step w.namespace (session_of asked.who) asked.step asked.mark in
    io_format w (fold io_change io outcome.changes) asked.step outcome.reply

-- one step, from the world before it on
abbrev pub io_step : WorldState → IoState → Asked → IoState
io_step w io asked = io_on w io asked (step_row asked.step)

abbrev pub io_steps : WorldState → IoState → List Asked → IoState
io_steps w io [] = io
io_steps w io (asked ∷ later) = io_steps (world_step w asked.who asked.step asked.mark).next (io_step w io asked) later

-- for each volume, the reads and writes of these steps from the opening world on
unfoldable pub io_totals : List RomImage → Describe → List Asked → List IoTotal
io_totals roms describe steps = (io_steps (opening_world roms describe) (opening_io describe) steps).totals
