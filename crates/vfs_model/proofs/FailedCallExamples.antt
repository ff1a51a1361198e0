-- Worked examples of calls that fail, and of calls that are not made.
use Rattle.std.specs.Prelude.{◌≡◌, ℕ, ◌-◌, true, false, [], ◌∷◌, ◌++◌, codes, map, replicate, Ok, Err, refl}
use Rattle.std.specs.List.{range_with_len}
use Rattle.vfs_base.specs.declared.entry.Mark.TheVariants as mark
use Rattle.vfs_base.specs.declared.kinds.Kind.TheVariants as kind
use Rattle.vfs_base.specs.declared.step.Step.{Step}
use Rattle.vfs_base.specs.declared.step.Step.TheVariants as step
use Rattle.vfs_model.proofs.DeviceExamples.{on_volume}
use Rattle.vfs_model.proofs.CacheExamples.{reads_and_writes, totals}
use Rattle.vfs_model.proofs.ExampleSteps.{asks, ends, hold, id, steps, to_append}
use Rattle.vfs_model.specs.Cache.{row_calls}
use Rattle.vfs_model.specs.FailedCalls.{stopped_run}
use Rattle.vfs_model.specs.declared.cache.CacheState.{CacheState}
use Rattle.vfs_model.specs.declared.cache.DeviceCall.TheVariants as call
use Rattle.vfs_model.specs.declared.cache.Resident.{Resident}
use Rattle.vfs_model.specs.declared.world.FileState.{FileState}
use Rattle.vfs_model.specs.declared.world.FileState.TheVariants as file

-- a file of 33 pages on a cell of 64
abbrev pub long_file : FileState
long_file = file.Bytes 1 kind.Cell 262144 (replicate 135168 97)

abbrev pub dirty_slot : ℕ → Resident
dirty_slot page = record { page = page; is_dirty = true }

abbrev pub clean_slot : ℕ → Resident
clean_slot page = record { page = page; is_dirty = false }

-- page 32 lies on the device, and the pages before it are in memory and dirty, the last one in front
abbrev pub full_cache : CacheState
full_cache = record { resident = map (λ back. dirty_slot (31 - back)) (range_with_len 0 32); stored = 32 ∷ [] }

-- a read of pages 31 and 32 brings the second one in, and page 0 leaves for it
abbrev pub long_read : Step
long_read = step.Read (id 1 1) 126976 8192

pub a_page_that_leaves_is_written_first : row_calls long_file full_cache long_read ≡ call.Write 0 ∷ call.Read 32 ∷ []
unfolding steps
a_page_that_leaves_is_written_first = refl

pub a_failed_write_keeps_its_page : stopped_run 1 long_file full_cache long_read
    ≡ Err (record { moved = 4096; run = record { next = full_cache; calls = call.Write 0 ∷ [] } })
unfolding steps
a_failed_write_keeps_its_page = refl

pub a_failed_read_has_lost_the_page_that_left : stopped_run 2 long_file full_cache long_read
    ≡ Err (record {
      moved = 4096;
      run = record {
        next = record { resident = map (λ back. dirty_slot (31 - back)) (range_with_len 0 31); stored = 0 ∷ 32 ∷ [] };
        calls = call.Write 0 ∷ call.Read 32 ∷ [];
      };
    })
unfolding steps
a_failed_read_has_lost_the_page_that_left = refl

pub no_third_call_fails : stopped_run 3 long_file full_cache long_read
    ≡ Ok (record {
      next = record { resident = clean_slot 32 ∷ map (λ back. dirty_slot (31 - back)) (range_with_len 0 31); stored = 0 ∷ 32 ∷ [] };
      calls = call.Write 0 ∷ call.Read 32 ∷ [];
    })
unfolding steps
no_third_call_fails = refl

pub a_write_back_stops_at_a_page : stopped_run 3 long_file full_cache (step.Sync (id 1 1))
    ≡ Err (record {
      moved = 0;
      run = record {
        next = record {
          resident = map (λ back. dirty_slot (31 - back)) (range_with_len 0 30) ++ clean_slot 1 ∷ clean_slot 0 ∷ [];
          stored = 0 ∷ 1 ∷ 32 ∷ [];
        };
        calls = call.Write 0 ∷ call.Write 1 ∷ call.Write 2 ∷ [];
      };
    })
unfolding steps
a_write_back_stops_at_a_page = refl

pub a_reclaim_stops_at_a_page : stopped_run 2 long_file full_cache (step.Reclaim 1)
    ≡ Err (record {
      moved = 0;
      run = record {
        next = record { resident = map (λ back. dirty_slot (31 - back)) (range_with_len 0 31); stored = 0 ∷ 32 ∷ [] };
        calls = call.Write 0 ∷ call.Write 1 ∷ [];
      };
    })
unfolding steps
a_reclaim_stops_at_a_page = refl

pub a_stopped_truncation_cuts_no_page : stopped_run 2 long_file full_cache (step.Trunc (id 1 1) 131073)
    ≡ Err (record {
      moved = 0;
      run = record {
        next = record { resident = map (λ back. dirty_slot (31 - back)) (range_with_len 0 31); stored = 0 ∷ 32 ∷ [] };
        calls = call.Write 0 ∷ call.Read 32 ∷ [];
      };
    })
unfolding steps
a_stopped_truncation_cuts_no_page = refl

pub a_step_of_another_generation_calls_no_device : row_calls long_file full_cache (step.Sync (id 1 2)) ≡ []
unfolding steps
a_step_of_another_generation_calls_no_device = refl

-- a file is told, removed, and another one takes its row, before the write-back that was meant for the first comes
pub a_late_write_back_finds_another_file : totals (4 ∷ []) (on_volume (
    asks 1 (step.Open (codes "/v/f") to_append)
    ∷ asks 1 (step.Append (id 1 1) (codes "a"))
    ∷ asks 1 (step.Close (hold 1 1))
    ∷ asks 2 step.Cells
    ∷ asks 1 (step.Unlink (codes "/v/f"))
    ∷ asks 1 (step.Open (codes "/v/g") to_append)
    ∷ asks 1 (step.Append (id 1 2) (codes "b"))
    ∷ asks 1 (step.Close (hold 1 1))
    ∷ asks 2 (step.Sync (id 1 1))
    ∷ asks 1 (step.Unlink (codes "/v/g"))
    ∷ ends mark.Clear
    ∷ []
    )) ≡ reads_and_writes 0 0
unfolding steps
a_late_write_back_finds_another_file = refl

pub a_formatted_volume_was_written_once : totals (4 ∷ []) (on_volume (
    asks 1 (step.Mkfs (codes "sd0"))
    ∷ asks 1 (step.Open (codes "/v/f") to_append)
    ∷ asks 1 (step.Append (id 1 1) (codes "hi"))
    ∷ asks 1 (step.Close (hold 1 1))
    ∷ asks 1 (step.Umount (codes "/v"))
    ∷ asks 1 (step.Mkfs (codes "sd0"))
    ∷ asks 1 (step.Mount (codes "sd0") (codes "/v") (codes "cell"))
    ∷ []
    )) ≡ reads_and_writes 0 1
unfolding steps
a_formatted_volume_was_written_once = refl
