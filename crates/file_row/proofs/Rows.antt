-- A step of a row, from that of what is in it.
use Rattle.std.specs.Prelude.{◌≡◌, ℕ, Bool, true, false, ◌&&◌, Option, Some, None, List, [], Result, Ok, Err, length, refl, if◌then◌else◌}
use Rattle.std.proofs.Common.{sym, ◌∙◌, ap, subst}
use Rattle.vfs_base.specs.declared.entry.Mark.{Mark}
use Rattle.vfs_base.specs.declared.entry.Mark.TheVariants as mark
use Rattle.vfs_base.specs.declared.errno.Errno.{Errno}
use Rattle.vfs_base.specs.declared.kinds.Kind.{Kind}
use Rattle.vfs_base.specs.declared.kinds.Kind.TheVariants as kind
use Rattle.vfs_base.specs.declared.limits.TheConstants.{TMP_FILE_MAX}
use Rattle.vfs_base.specs.declared.reply.Reply.{Reply}
use Rattle.vfs_base.specs.declared.reply.Reply.TheVariants as reply
use Rattle.vfs_base.specs.declared.step.Step.{Step}
use Rattle.vfs_base.specs.declared.step.Step.TheVariants as step
use Rattle.vfs_model.specs.Cache.{begin_run, cache_move, file_size, row_run}
use Rattle.vfs_model.specs.FileMoves.{file_step, fits_file, is_on_cell}
use Rattle.vfs_model.specs.FileStep.{FileOutcome, absent_refusals, bytes_refusals, device_refusals, file_refusals, is_of_generation, moved_count, step_file}
use Rattle.vfs_model.specs.MadeCalls.{MakesCalls}
use Rattle.vfs_model.specs.RowShape.{shape_of, shape_refusals}
use Rattle.vfs_model.specs.declared.world.FileState.{FileState}
use Rattle.vfs_model.specs.declared.world.FileState.TheVariants as file
use Rattle.vfs_outside.specs.Chars.{CharsContents}
use Rattle.page_cache.specs.AddressSpace.{cache_in}
use Rattle.page_cache.proofs.Calls.{none-made}
use Rattle.cell_file.specs.CellFile.{capacity}
use Rattle.file_row.specs.Passed.{IsSound, PassedCalls, Takes, TakesMemory, file_refuses}
use Rattle.file_row.specs.Row.{Row, RowFile, Cell, Char, Rom, Tmp, Unbound, device_file, shape_at, shape_in}
use Rattle.file_row.specs.Steps.{CallsOf, MayHave, Steps}
use Rattle.file_row.proofs.Passing.{passed-fits, passed-whole, refused-by-shape, taken}
use Rattle.file_row.proofs.Running.{calls-device}
use Rattle.file_row.proofs.CellSteps.{held_file, row-holds}
use Rattle.file_row.proofs.DeviceSteps.{row-tells}
use Rattle.file_row.proofs.Witnesses.{holds-some}

-- what names a file is refused where the file is absent
absent-named : (generation : ℕ) (asked : Step) → absent_refusals asked ≡ Ok tt → is_of_generation generation (step_file asked) ≡ true
absent-named generation (step.Size id) passed = absurd (cc)
absent-named generation (step.Read id off len) passed = absurd (cc)
absent-named generation (step.Write id off piece) passed = absurd (cc)
absent-named generation (step.Append id piece) passed = absurd (cc)
absent-named generation (step.Trunc id len) passed = absurd (cc)
absent-named generation (step.Sync id) passed = absurd (cc)
absent-named generation (step.Load id off len) passed = absurd (cc)
absent-named generation (step.Store id off piece) passed = absurd (cc)
absent-named generation _ passed = refl

either-passed : (t : Bool) (a b : Result (Unit {0}) Errno) → (b ≡ Ok tt → t ≡ true) → (if t then a else b) ≡ Ok tt → a ≡ Ok tt
either-passed true a b h e = e
either-passed false a b h e = absurd (let f = h e in cc)

-- a step that the row does not refuse is one of the file that is in it
pub row-passes : (generation : ℕ) (f : RowFile) (asked : Step) → shape_refusals (shape_in generation f) asked ≡ Ok tt → file_refuses f asked ≡ Ok tt
row-passes generation Unbound asked e = e
row-passes generation (Tmp bytes) asked e =
    either-passed (is_of_generation generation (step_file asked)) (bytes_refusals kind.Tmp TMP_FILE_MAX (length bytes) asked) (absent_refusals asked) (absent-named generation asked) e
row-passes generation (Rom bytes) asked e =
    either-passed (is_of_generation generation (step_file asked)) (bytes_refusals kind.Rom (length bytes) (length bytes) asked) (absent_refusals asked) (absent-named generation asked) e
row-passes generation (Cell f) asked e =
    either-passed (is_of_generation generation (step_file asked)) (bytes_refusals kind.Cell (capacity f) f.size asked) (absent_refusals asked) (absent-named generation asked) e
row-passes generation (Char device) asked e =
    either-passed (is_of_generation generation (step_file asked)) (device_refusals asked) (absent_refusals asked) (absent-named generation asked) e

calls-of : (generation : ℕ) (f : FileState) (old new : RowFile) (asked : Step) (m : Mark) → shape_of f ≡ shape_in generation old → file_refusals f asked ≡ Ok tt → PassedCalls old new asked m →
    CallsOf f old new asked m
calls-of generation f (Cell old) (Cell new) asked m same passed h = calls-device generation f old new asked m same passed h
calls-of generation f (Cell old) Unbound asked m same passed h = h
calls-of generation f (Cell old) (Tmp bytes) asked m same passed h = h
calls-of generation f (Cell old) (Rom bytes) asked m same passed h = h
calls-of generation f (Cell old) (Char device) asked m same passed h = h
calls-of generation f Unbound new asked m same passed h = tt
calls-of generation f (Tmp bytes) new asked m same passed h = tt
calls-of generation f (Rom bytes) new asked m same passed h = tt
calls-of generation f (Char device) new asked m same passed h = tt

-- a step that the row does not refuse
pub steps-of : (generation : ℕ) (old new : RowFile) (asked : Step) (answer : Reply) (m : Mark) → shape_refusals (shape_in generation old) asked ≡ Ok tt →
    Takes generation old new asked answer m → PassedCalls old new asked m →
    Steps (record { generation = generation; file = old }) (record { generation = generation; file = new }) asked answer m
steps-of generation old new asked answer m passed t calls =
    let passes : file_refusals t.before asked ≡ Ok tt = refused-by-shape t.before asked ∙ ap (λ s. shape_refusals s asked) t.has.shape ∙ passed in
    let whole = passed-whole t.before asked m passes in record {
      before = t.before;
      has = t.has;
      fits = passed-fits t.before asked m passes ∙ t.stops;
      answers = t.answers ∙ ap (λ (o : FileOutcome). o.reply) (sym whole);
      leaves = subst (λ (o : FileOutcome). MayHave (record { generation = generation; file = new }) o.next) (sym whole) t.leaves;
      calls = calls-of generation t.before old new asked m t.has.shape passes calls;
    }

-- a step of bytes in memory
memory-takes : {generation : ℕ} {k : Kind} {room : ℕ} {old new : RowFile} {before after : List ℕ} (asked : Step) (answer : Reply) (m : Mark) →
    MayHave (record { generation = generation; file = old }) (file.Bytes generation k room before) → MayHave (record { generation = generation; file = new }) (file.Bytes generation k room after) →
    (after ≡ before → new ≡ old) → TakesMemory k room before after asked answer m → Takes generation old new asked answer m
memory-takes {generation} {new = new} asked answer mark.Clear has leaves same h =
    let moved = h generation in
    taken _ asked mark.Clear has refl
    (ap (λ (o : FileOutcome). o.reply) (sym moved))
    (subst (λ (o : FileOutcome). MayHave (record { generation = generation; file = new }) o.next) (sym moved) leaves)
memory-takes asked answer (mark.Fault moved) has leaves same h = absurd h
memory-takes asked answer (mark.NoMem moved) has leaves same h = rw h.0 (rw h.1 (rw (same h.2) (taken _ asked (mark.NoMem 0) has refl refl has)))

pub tmp-takes : (generation : ℕ) (before after : List ℕ) (asked : Step) (answer : Reply) (m : Mark) → TakesMemory kind.Tmp TMP_FILE_MAX before after asked answer m →
    Takes generation (Tmp before) (Tmp after) asked answer m
tmp-takes generation before after asked answer m h =
    memory-takes asked answer m
    (record { shape = refl; told = refl }) (record { shape = refl; told = refl }) (λ e. ap Tmp e) h

abbrev bytes_in : FileState → List ℕ
bytes_in (file.Unbound generation) = []
bytes_in (file.Bytes generation k room bytes) = bytes
bytes_in (file.Device generation input output) = []

-- no step changes a rom
rom-kept : (room : ℕ) (before after : List ℕ) (asked : Step) (answer : Reply) (m : Mark) → bytes_refusals kind.Rom room (length before) asked ≡ Ok tt →
    TakesMemory kind.Rom room before after asked answer m → after ≡ before
rom-kept room before after asked answer (mark.Fault moved) passed h = absurd h
rom-kept room before after asked answer (mark.NoMem moved) passed h = h.2
rom-kept room before after (step.Write id off piece) answer mark.Clear passed h = absurd (cc)
rom-kept room before after (step.Append id piece) answer mark.Clear passed h = absurd (cc)
rom-kept room before after (step.Trunc id len) answer mark.Clear passed h = absurd (cc)
rom-kept room before after (step.Store id off piece) answer mark.Clear passed h = absurd (cc)
rom-kept room before after _ answer mark.Clear passed h = sym (ap (λ (o : FileOutcome). bytes_in o.next) (h 0))

pub rom-takes : (generation : ℕ) (before after : List ℕ) (asked : Step) (answer : Reply) (m : Mark) → bytes_refusals kind.Rom (length before) (length before) asked ≡ Ok tt →
    TakesMemory kind.Rom (length before) before after asked answer m → Takes generation (Rom before) (Rom after) asked answer m
rom-takes generation before after asked answer m passed h =
    let same = rom-kept (length before) before after asked answer m passed h in
    memory-takes asked answer m
    (record { shape = refl; told = refl })
    (rw same (record { shape = refl; told = refl })) (λ e. ap Rom e) h

-- a row without a file
pub unbound-takes : (generation : ℕ) (asked : Step) → Takes generation Unbound Unbound asked reply.Done mark.Clear
unbound-takes generation asked =
    taken (file.Unbound generation) asked mark.Clear (record { shape = refl; told = refl }) refl refl (record { shape = refl; told = refl })

-- a file that the row may have
record HasFile (row : Row) : Type 0 where
  f : FileState
  may : MayHave row f

row-file : (generation : ℕ) (f : RowFile) → IsSound f → HasFile (record { generation = generation; file = f })
row-file generation Unbound h = record { f = file.Unbound generation; may = record { shape = refl; told = refl } }
row-file generation (Tmp bytes) h = record { f = file.Bytes generation kind.Tmp TMP_FILE_MAX bytes; may = record { shape = refl; told = refl } }
row-file generation (Rom bytes) h = record { f = file.Bytes generation kind.Rom (length bytes) bytes; may = record { shape = refl; told = refl } }
row-file generation (Cell f) h = let some = holds-some f h.0 in record { f = held_file generation f some.bytes; may = row-holds generation f some.bytes some.may }
row-file generation (Char device) h = by device.contents refl
  where
    by : (o : Option CharsContents) → device.contents ≡ o → HasFile (record { generation = generation; file = Char device })
    by (Some t) e = record { f = device_file generation t; may = row-tells generation device t (rw e refl) }
    by None e =
        let held : CharsContents = record { input = []; output = [] } in
        record { f = device_file generation held; may = row-tells generation device held (rw e tt) }

-- a refused step calls no device
calls-none : (f : FileState) (old : RowFile) (asked : Step) (errno : Errno) → IsSound old → file_refusals f asked ≡ Err errno → CallsOf f old old asked mark.Clear
unfolding MakesCalls row_run
calls-none f (Cell old) asked errno h refused = record {
  made = [];
  failed = [];
  last = refl;
  calls = none-made old.state.device old.state.device h.1 refl;
  meant = rw refused (no-run (is_on_cell f));
}
  where
    no-run : (t : Bool) → begin_run (cache_in old.state.space) ≡
        (if t && false then cache_move (begin_run (cache_in old.state.space)) (file_size f) asked (moved_count f asked) else begin_run (cache_in old.state.space))
    no-run true = refl
    no-run false = refl
calls-none f Unbound asked errno h refused = tt
calls-none f (Tmp bytes) asked errno h refused = tt
calls-none f (Rom bytes) asked errno h refused = tt
calls-none f (Char device) asked errno h refused = tt

-- a refused step
pub steps-refused : (old : Row) (asked : Step) (errno : Errno) → IsSound old.file → shape_refusals (shape_at old) asked ≡ Err errno → Steps old old asked (reply.Refused errno) mark.Clear
unfolding file_step fits_file
steps-refused old asked errno sound refused =
    let some = row-file old.generation old.file sound in
    let is : file_refusals some.f asked ≡ Err errno = refused-by-shape some.f asked ∙ ap (λ s. shape_refusals s asked) some.may.shape ∙ refused in record {
      before = some.f;
      has = some.may;
      fits = refl;
      answers = rw is refl;
      leaves = rw is some.may;
      calls = calls-none some.f old.file asked errno sound is;
    }
