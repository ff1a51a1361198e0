-- Worked examples of the page cache: the reads and writes of a volume's devices.
use Rattle.std.specs.Prelude.{◌≡◌, ℕ, List, [], ◌∷◌, codes, replicate, refl}
use Rattle.vfs_base.specs.declared.entry.Mark.TheVariants as mark
use Rattle.vfs_base.specs.declared.entry.Who.TheVariants as who
use Rattle.vfs_base.specs.declared.step.Step.TheVariants as step
use Rattle.vfs_model.proofs.DeviceExamples.{on_volume, sd0}
use Rattle.vfs_model.proofs.ExampleSteps.{asks, ends, hold, id, r, rw_creat, steps, to_append}
use Rattle.vfs_model.specs.Asking.{Asked}
use Rattle.vfs_model.specs.IoTotals.{IoTotal, io_totals}

abbrev pub totals : List ℕ → List Asked → List IoTotal
totals pages asked = io_totals [] (sd0 pages) asked

abbrev pub reads_and_writes : ℕ → ℕ → List IoTotal
reads_and_writes reads writes = record { reads = reads; writes = writes } ∷ []

pub the_cache_writes_what_it_evicts : totals (64 ∷ []) (on_volume (
    asks 1 (step.Open (codes "/v/f") rw_creat)
    ∷ asks 1 (step.Write (id 1 1) 0 (replicate 135168 97))
    ∷ asks 1 (step.Read (id 1 1) 0 4)
    ∷ asks 1 (step.Close (hold 1 1))
    ∷ ends mark.Clear
    ∷ []
    )) ≡ reads_and_writes 1 33
unfolding steps
the_cache_writes_what_it_evicts = refl

pub truncated_pages_are_read_once : totals (64 ∷ []) (on_volume (
    asks 1 (step.Open (codes "/v/f") rw_creat)
    ∷ asks 1 (step.Write (id 1 1) 0 (replicate 40960 113))
    ∷ record { who = who.Reclaim 1; step = step.Reclaim 1; mark = mark.Clear }
    ∷ asks 1 (step.Trunc (id 1 1) 1)
    ∷ asks 1 (step.Trunc (id 1 1) 8192)
    ∷ asks 1 (step.Read (id 1 1) 0 3)
    ∷ asks 1 (step.Map (hold 1 1))
    ∷ asks 1 (step.Load (id 1 1) 8191 1)
    ∷ asks 1 (step.Load (id 1 1) 8191 2)
    ∷ asks 1 (step.Store (id 1 1) 0 (codes "Z"))
    ∷ asks 1 (step.Unmap (hold 1 2))
    ∷ asks 1 (step.Close (hold 1 1))
    ∷ ends mark.Clear
    ∷ []
    )) ≡ reads_and_writes 1 3
unfolding steps
truncated_pages_are_read_once = refl

pub a_full_cell_is_written_once : totals (1 ∷ []) (on_volume (
    asks 1 (step.Open (codes "/v/f") rw_creat)
    ∷ asks 1 (step.Write (id 1 1) 0 (replicate 5000 97))
    ∷ asks 1 (step.Write (id 1 1) 4096 (codes "b"))
    ∷ asks 1 (step.Close (hold 1 1))
    ∷ ends mark.Clear
    ∷ []
    )) ≡ reads_and_writes 0 1
unfolding steps
a_full_cell_is_written_once = refl

pub a_kept_file_is_read_back : totals (4 ∷ []) (on_volume (
    asks 1 (step.Open (codes "/v/f") to_append)
    ∷ asks 1 (step.Append (id 1 1) (codes "hi"))
    ∷ asks 1 (step.Sync (id 1 1))
    ∷ asks 1 (step.Sync (id 1 1))
    ∷ asks 1 (step.Append (id 1 1) (codes "ho"))
    ∷ asks 1 (step.Close (hold 1 1))
    ∷ asks 1 (step.Umount (codes "/v"))
    ∷ asks 1 (step.Mount (codes "sd0") (codes "/v") (codes "cell"))
    ∷ asks 1 (step.Open (codes "/v/f") r)
    ∷ asks 1 (step.Read (id 1 2) 0 4096)
    ∷ asks 1 (step.Read (id 1 2) 4 4096)
    ∷ asks 1 (step.Close (hold 1 1))
    ∷ asks 1 (step.Unlink (codes "/v/f"))
    ∷ ends mark.Clear
    ∷ []
    )) ≡ reads_and_writes 1 2
unfolding steps
a_kept_file_is_read_back = refl
