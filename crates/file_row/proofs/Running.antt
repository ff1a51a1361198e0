-- The calls of a cell's device that a step makes which its row does not refuse.
use Rattle.std.specs.Prelude.{◌≡◌, ℕ, ◌+◌, true, List, [], ◌∷◌, ◌++◌, length, Ok, refl}
use Rattle.std.proofs.Common.{sym, ◌∙◌, ap, arith}
use Rattle.std.proofs.lemmas.List.{append-nil}
use Rattle.vfs_base.specs.declared.entry.Mark.{Mark}
use Rattle.vfs_base.specs.declared.entry.Mark.TheVariants as mark
use Rattle.vfs_base.specs.declared.kinds.Kind.TheVariants as kind
use Rattle.vfs_base.specs.declared.step.Step.{Step}
use Rattle.vfs_model.specs.Cache.{CacheRun, file_size, pages_of, row_run, touch}
use Rattle.vfs_model.specs.FailedCalls.{stopped_run}
use Rattle.vfs_model.specs.FileMoves.{is_on_cell}
use Rattle.vfs_model.specs.FileStep.{file_refusals, moved_count}
use Rattle.vfs_model.specs.MadeCalls.{MakesCalls}
use Rattle.vfs_model.specs.RowShape as shape
use Rattle.vfs_model.specs.RowShape.{shape_of}
use Rattle.vfs_model.specs.declared.cache.DeviceCall.{DeviceCall}
use Rattle.vfs_model.specs.declared.world.FileState.{FileState}
use Rattle.vfs_model.specs.declared.world.FileState.TheVariants as file
use Rattle.page_cache.specs.AddressSpace.{Moment, cache_in, run_behind}
use Rattle.page_cache.specs.Framed.{AreCounted}
use Rattle.page_cache.proofs.Calls.{none-made}
use Rattle.cell_file.specs.CellFile.{CellFile, capacity}
use Rattle.cell_file.specs.Moves.{Passes, Runs, RunsShort, StepWay, StopsAfter, reading_pages}
use Rattle.cell_file.proofs.PageWays.{grown-pages, grown-touch}
use Rattle.file_row.specs.Passed.{RunsCell, cell_count, way_of}
use Rattle.file_row.specs.Steps.{CallsDevice, FaultsGo}

-- a file that the row of a cell may have
record IsOnCell (f : FileState) (old : CellFile) (asked : Step) : Type 0 where
  on : is_on_cell f ≡ true
  size : file_size f ≡ old.size
  count : moved_count f asked ≡ cell_count old asked

is-on-cell : (generation : ℕ) (f : FileState) (old : CellFile) (asked : Step) → shape_of f ≡ shape.Bytes generation kind.Cell (capacity old) old.size → file_refusals f asked ≡ Ok tt →
    IsOnCell f old asked
unfolding moved_count
is-on-cell generation (file.Unbound other) old asked same passed = absurd (let e : shape.Unbound other ≡ shape.Bytes generation kind.Cell (capacity old) old.size = same in cc)
is-on-cell generation (file.Bytes other k room bytes) old asked same passed =
    let kinds : k ≡ kind.Cell = cc in
    let rooms : room ≡ capacity old = cc in
    let sizes : length bytes ≡ old.size = cc in record {
      on = rw kinds refl;
      size = sizes;
      count = rw passed (rw rooms (rw sizes refl));
    }
is-on-cell generation (file.Device other input output) old asked same passed = absurd (let e : shape.Device other ≡ shape.Bytes generation kind.Cell (capacity old) old.size = same in cc)

-- the run of the definition goes the step's way
row-runs : (f : FileState) (old : CellFile) (asked : Step) → IsOnCell f old asked → file_refusals f asked ≡ Ok tt →
    row_run f (cache_in old.state.space) asked ≡ (way_of old.size asked (cell_count old asked)).clear (run_behind [] old.state)
unfolding row_run
row-runs f old asked on passed = rw on.on (rw passed (rw on.size (rw on.count refl)))

run-whole : (f : FileState) (old new : CellFile) (asked : Step) → IsOnCell f old asked → file_refusals f asked ≡ Ok tt → Passes (way_of old.size asked (cell_count old asked)) old.state new.state →
    CallsDevice f old.state new.state asked mark.Clear
unfolding MakesCalls
run-whole f old new asked on passed h = record {
  made = h.made;
  failed = [];
  last = refl;
  calls = h.calls;
  meant = ap (λ calls. run_behind calls new.state) (append-nil h.made) ∙ sym (h.clear []) ∙ sym (row-runs f old asked on passed);
}

run-stopped : (moved : ℕ) (f : FileState) (old new : CellFile) (asked : Step) → IsOnCell f old asked → file_refusals f asked ≡ Ok tt →
    StopsAfter moved (way_of old.size asked (cell_count old asked)) old.state new.state → CallsDevice f old.state new.state asked (mark.Fault moved)
unfolding MakesCalls stopped_run
run-stopped moved f old new asked on passed h = record {
  made = h.made;
  failed = h.failed ∷ [];
  last = (h.failed, refl);
  calls = h.calls;
  meant = (length h.made + 1, rw on.on (rw passed (rw on.size (rw on.count (h.stopped [])))));
}

run-short : (moved : ℕ) (f : FileState) (old new : CellFile) (asked : Step) → IsOnCell f old asked → file_refusals f asked ≡ Ok tt →
    RunsShort (way_of old.size asked (cell_count old asked)) old.state new.state → CallsDevice f old.state new.state asked (mark.NoMem moved)
unfolding MakesCalls
run-short moved f old new asked on passed h = record {
  made = h.made;
  failed = [];
  last = refl;
  calls = h.calls;
  meant = (
    (h.front []).0,
    ap (λ calls. calls ++ (h.front []).0) (append-nil h.made) ∙ sym (h.front []).1 ∙ ap (λ (run : CacheRun). run.calls) (sym (row-runs f old asked on passed)),
  );
}

-- the calls are the definition's
pub calls-device : (generation : ℕ) (f : FileState) (old new : CellFile) (asked : Step) (m : Mark) → shape_of f ≡ shape.Bytes generation kind.Cell (capacity old) old.size →
    file_refusals f asked ≡ Ok tt → RunsCell old new asked m → CallsDevice f old.state new.state asked m
calls-device generation f old new asked mark.Clear same passed h = run-whole f old new asked (is-on-cell generation f old asked same passed) passed h
calls-device generation f old new asked (mark.Fault moved) same passed h = run-stopped moved f old new asked (is-on-cell generation f old asked same passed) passed h
calls-device generation f old new asked (mark.NoMem moved) same passed h = run-short moved f old new asked (is-on-cell generation f old asked same passed) passed h

-- a count of faults rises at a failed call, and else stays
pub runs-cause : (way : StepWay) (a b : Moment) (m : Mark) → AreCounted a.device.counts → Runs way a b m → FaultsGo m a.device.counts.faults b.device.counts.faults
runs-cause way a b mark.Clear small h = let e = h.calls.faults in let f = small.faults in omega (arith, e, f)
runs-cause way a b (mark.Fault moved) small h = let e = h.calls.faults in omega (arith, e)
runs-cause way a b (mark.NoMem moved) small h = let e = h.calls.faults in let f = small.faults in omega (arith, e, f)

-- no call is made on a way that has none
pub no-call : (way : StepWay) (a : Moment) → AreCounted a.device.counts → ((earlier : List DeviceCall) → way.clear (run_behind earlier a) ≡ run_behind earlier a) →
    ((number : ℕ) (earlier : List DeviceCall) → way.tried number (run_behind earlier a) ≡ Ok (run_behind earlier a)) → Passes way a a
no-call way a small clear tried = record {
  made = [];
  calls = none-made a.device a.device small refl;
  clear = λ e. clear e ∙ ap (λ calls. run_behind calls a) (sym (append-nil e));
  tried = λ n e low. tried n e ∙ ap (λ calls. Ok (run_behind calls a)) (sym (append-nil e));
}

-- memory was wanting before a call of a read
pub no-room : (off count : ℕ) (a : Moment) → AreCounted a.device.counts → RunsShort (reading_pages off count) a a
no-room off count a small = record {
  made = [];
  calls = none-made a.device a.device small refl;
  front = λ e.
      let later = grown-pages touch grown-touch (pages_of off count) (run_behind e a) in
      (later.0, later.1 ∙ ap (λ calls. calls ++ later.0) (sym (append-nil e)));
}
