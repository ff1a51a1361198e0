-- Laws of the page cache and of its device's calls.
use Rattle.std.specs.Prelude.{◌≡◌, ℕ, ◌<◌, ◌≤◌, ◌⊎◌, true, not, is_err, List, [], ◌++◌, length, count_by, take, MatchResult}
use Rattle.std.specs.List.{list_all}
use Rattle.vfs_base.specs.declared.limits.TheConstants.{RECLAIM_TARGET, RESIDENT_PAGES}
use Rattle.vfs_base.specs.declared.step.Step.{Step}
use Rattle.vfs_model.specs.Asking.{Asked, run_steps}
use Rattle.vfs_model.specs.Cache.{CacheRun, is_page, reclaim, row_calls, row_run, write_back}
use Rattle.vfs_model.specs.FailedCalls.{StoppedRun, stopped_run}
use Rattle.vfs_model.specs.FileStep.{file_refusals}
use Rattle.vfs_model.specs.IoTotals.{IoState, io_steps}
use Rattle.vfs_model.specs.declared.cache.CacheState.{CacheState}
use Rattle.vfs_model.specs.declared.cache.Resident.{Resident}
use Rattle.vfs_model.specs.declared.world.FileState.{FileState}
use Rattle.vfs_model.specs.declared.world.WorldState.{WorldState}

-- a step of a row that is refused calls no device
abbrev pub RefusedStepCallsNoDevice : Type 0
RefusedStepCallsNoDevice = (f : FileState) (cache : CacheState) (asked : Step) → is_err (file_refusals f asked) ≡ true → row_calls f cache asked ≡ []

-- where a step makes no call of this number, nothing stops it
pub record PassesCall (number : ℕ) (f : FileState) (cache : CacheState) (asked : Step) (run : CacheRun) : Type 0 where
  pub same : run ≡ row_run f cache asked
  pub outside : (number ≤ 0) ⊎ (length (row_calls f cache asked) < number)

-- a step that is stopped at a call has made the calls up to this one, and no others
pub record StopsAtCall (number : ℕ) (f : FileState) (cache : CacheState) (asked : Step) (stopped : StoppedRun) : Type 0 where
  pub calls : stopped.run.calls ≡ take number (row_calls f cache asked)
  pub above : 0 < number
  pub within : number ≤ length (row_calls f cache asked)

-- a call that fails stops its step exactly where the step makes it
abbrev pub FailedCallStopsStep : Type 0
FailedCallStopsStep = (number : ℕ) (f : FileState) (cache : CacheState) (asked : Step) →
    MatchResult (stopped_run number f cache asked) (PassesCall number f cache asked) (StopsAtCall number f cache asked)

-- at most 32 pages are in memory, and none twice
pub record IsSmall (resident : List Resident) : Type 0 where
  pub bounded : length resident ≤ RESIDENT_PAGES
  pub once : (page : ℕ) → count_by (is_page page) resident ≤ 1

-- a step leaves at most 32 pages in memory and none twice, also where a failed call stops it
abbrev pub CacheStaysSmall : Type 0
CacheStaysSmall = (number : ℕ) (f : FileState) (cache : CacheState) (asked : Step) → IsSmall cache.resident →
    MatchResult (stopped_run number f cache asked) (λ run. IsSmall run.next.resident) (λ stopped. IsSmall stopped.run.next.resident)

-- after a reclaim at most 8 pages are in memory
abbrev pub ReclaimLeavesFew : Type 0
ReclaimLeavesFew = (run : CacheRun) → length (reclaim run).next.resident ≤ RECLAIM_TARGET

-- after a write-back no page in memory is dirty
abbrev pub WriteBackLeavesNoneDirty : Type 0
WriteBackLeavesNoneDirty = (run : CacheRun) → list_all (λ slot. not slot.is_dirty) (write_back run).next.resident ≡ true

-- the calls of steps one after the other add up
abbrev pub CallsAddUp : Type 0
CallsAddUp = (w : WorldState) (io : IoState) (first second : List Asked) →
    io_steps w io (first ++ second) ≡ io_steps (run_steps w first).next (io_steps w io first) second
