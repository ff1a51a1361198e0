use Rattle.std.proofs.Common.{◌∙◌, ◌*◌, ℕ, ap, arith, inl, inr, refl, subst, sym}
use Rattle.vfs_base.specs.declared.limits.TheConstants.{PAGE_SIZE}
use Rattle.vfs_base.specs.declared.reply.Reply.TheVariants as reply
use Rattle.vfs_base.specs.declared.step.Step.TheVariants as step
use Rattle.vfs_model.specs.Tally.{needs_no_memory}
use Rattle.page_cache.proofs.Found.{same-number}
use Rattle.cell_file.specs.Moves.{Runs, reading_pages}
use Rattle.file_row.specs.Passed.{cell_count, way_of}
use Rattle.file_row.proofs.CellSteps.{append-takes, cell-takes, idles, is-other, keeps, other-passes, other-takes, part-length, part-runs, store-takes, truncates, write-takes}
use Rattle.file_row.proofs.Running.{no-call}
use Rattle.file_row.proofs.cell.step_cell.Goals as goal

pub returns-in-Size-clause-takes : goal.returns-in-Size-clause-takes
returns-in-Size-clause-takes g c generation =
    let way = way_of c.args.file.now.size (step.Size c.in-Size.file) 0 in
    let sound = c.count_of-count.ensures.sound in
    rw c.in-Size.is (cell-takes generation (step.Size c.in-Size.file) (λ bytes n e low. refl) refl
    (idles way c.args.file.now (record { sound = sound.0; counted = sound.1; cell = refl })
    (no-call way c.args.file.now.state sound.1 (λ e. refl) (λ n e. refl))
    (λ bytes e. ap reply.SizeIs (c.size-size.ensures.size ∙ sym e))))

pub returns-in-Size-clause-calls : goal.returns-in-Size-clause-calls
returns-in-Size-clause-calls g c =
    rw c.in-Size.is (no-call (way_of c.args.file.now.size (step.Size c.in-Size.file) 0) c.args.file.now.state c.count_of-count.ensures.sound.1 (λ e. refl) (λ n e. refl))

pub returns-in-Append-clause-takes : goal.returns-in-Append-clause-takes
returns-in-Append-clause-takes g c generation =
    let same = c.count_of-count.ensures.count ∙ ap (cell_count c.args.file.now) c.in-Append.is in
    rw c.in-Append.is (append-takes generation c.count_of-count.result c.in-Append.file c.in-Append.bytes (omega (arith, same)) same
    (rw (c.front.ensures, c.as_slice.ensures, c.size-size.ensures.size) at c.write.ensures))

pub returns-in-Append-clause-calls : goal.returns-in-Append-clause-calls
returns-in-Append-clause-calls g c =
    let same = c.count_of-count.ensures.count ∙ ap (cell_count c.args.file.now) c.in-Append.is in
    let h = rw (c.front.ensures, c.as_slice.ensures, c.size-size.ensures.size) at c.write.ensures in
    rw c.in-Append.is (part-runs c.args.file.now.size _ c.count_of-count.result c.in-Append.bytes c.args.file.now.state c.write.new.file.state c.write.result.1
    (part-length c.count_of-count.result c.in-Append.bytes (omega (arith, same)) ∙ same) h.runs)

pub returns-in-Trunc-clause-takes : goal.returns-in-Trunc-clause-takes
returns-in-Trunc-clause-takes g c generation =
    let sound = c.count_of-count.ensures.sound in
    let call = c.truncate.ensures in
    rw (c.answer.ensures, c.in-Trunc.is) (cell-takes generation (step.Trunc c.in-Trunc.file c.in-Trunc.len) (λ bytes n e low. refl) refl
    (truncates {way = way_of c.args.file.now.size (step.Trunc c.in-Trunc.file c.in-Trunc.len) 0} c.in-Trunc.len c.truncate.result
    (record { sound = sound.0; counted = sound.1; cell = ap (λ n. PAGE_SIZE * n) call.pages }) call.within call.bytes call.size call.runs))

pub returns-in-Trunc-clause-calls : goal.returns-in-Trunc-clause-calls
returns-in-Trunc-clause-calls g c = rw (c.answer.ensures, c.in-Trunc.is) c.truncate.ensures.runs

pub returns-in-Trunc-clause-sure : goal.returns-in-Trunc-clause-sure
unfolding needs_no_memory
returns-in-Trunc-clause-sure g c n k e =
    rw c.answer.ensures (c.truncate.ensures.sure (same-number c.in-Trunc.len 0 (rw c.in-Trunc.is at e)))

pub returns-in-Reclaim-clause-takes : goal.returns-in-Reclaim-clause-takes
returns-in-Reclaim-clause-takes g c generation =
    let whole = c.count_of-count.ensures.sound in
    let call = c.reclaim.ensures in
    rw (c.answer-in-Reclaim.ensures, c.in-Reclaim.is) (cell-takes generation (step.Reclaim c.in-Reclaim.row) (λ bytes n e low. refl) refl
    (keeps {way = way_of c.args.file.now.size (step.Reclaim c.in-Reclaim.row) 0} c.reclaim.result
    (record { call = record { sound = whole.0; counted = whole.1; cell = ap (λ n. PAGE_SIZE * n) call.pages }; told = call.bytes; size = call.size }) call.within call.runs))

pub returns-in_default-clause-takes : goal.returns-in_default-clause-takes
returns-in_default-clause-takes g c generation =
    let d = c.in_default in
    other-takes generation c.args.step.now c.args.file.now
    (is-other c.args.step.now
    (record {
      size = d.not-Size;
      read = d.not-Read;
      write = d.not-Write;
      append = d.not-Append;
      trunc = d.not-Trunc;
      sync = d.not-Sync;
      load = d.not-Load;
      store = d.not-Store;
      flush = d.not-Flush;
      reclaim = d.not-Reclaim;
    }))
    (record { sound = c.count_of-count.ensures.sound.0; counted = c.count_of-count.ensures.sound.1; cell = refl })

pub returns-in_default-clause-calls : goal.returns-in_default-clause-calls
returns-in_default-clause-calls g c =
    let d = c.in_default in
    other-passes c.args.step.now c.args.file.now
    (is-other c.args.step.now
    (record {
      size = d.not-Size;
      read = d.not-Read;
      write = d.not-Write;
      append = d.not-Append;
      trunc = d.not-Trunc;
      sync = d.not-Sync;
      load = d.not-Load;
      store = d.not-Store;
      flush = d.not-Flush;
      reclaim = d.not-Reclaim;
    }))
    c.count_of-count.ensures.sound.1

pub returns-in-Sync-clause-takes : goal.returns-in-Sync-clause-takes
returns-in-Sync-clause-takes g c generation =
    let way = way_of c.args.file.now.size (step.Flush 1) 0 in
    let call = c.write_back.ensures in
    let kept = keeps {way = way} c.write_back.result
    (record {
      call = record {
        sound = c.count_of-count.ensures.sound.0;
        counted = c.count_of-count.ensures.sound.1;
        cell = ap (λ n. PAGE_SIZE * n) call.pages;
      };
      told = call.bytes;
      size = call.size;
    }) call.within call.runs in
    rw c.answer-in-Sync.ensures (elim c.in-Sync.is [
      | inl w ↦ rw w.1 (cell-takes generation (step.Sync w.0) (λ bytes n e low. refl) refl kept)
      | inr w ↦ rw w.1 (cell-takes generation (step.Flush w.0) (λ bytes n e low. refl) refl kept)
    ])

pub returns-in-Write-clause-takes : goal.returns-in-Write-clause-takes
returns-in-Write-clause-takes g c generation =
    let h = rw (c.front-in-Write.ensures, c.as_slice-in-Write.ensures) at c.write-in-Write.ensures in
    elim c.in-Write.is [
      | inl w ↦
          let same = c.count_of-count.ensures.count ∙ ap (cell_count c.args.file.now) w.1 in
          rw w.1 (write-takes generation c.in-Write.off c.count_of-count.result w.0 c.in-Write.bytes (omega (arith, same)) same h)
      | inr w ↦
          let same = c.count_of-count.ensures.count ∙ ap (cell_count c.args.file.now) w.1 in
          rw w.1 (store-takes generation c.in-Write.off c.count_of-count.result w.0 c.in-Write.bytes (omega (arith, same)) same h)
    ]

pub returns-in-Write-clause-calls : goal.returns-in-Write-clause-calls
returns-in-Write-clause-calls g c =
    let written = rw (c.front-in-Write.ensures, c.as_slice-in-Write.ensures) at c.write-in-Write.ensures in
    let part = λ (most : ℕ). part-runs c.in-Write.off most c.count_of-count.result c.in-Write.bytes c.args.file.now.state c.write-in-Write.new.file.state c.write-in-Write.result.1 in
    elim c.in-Write.is [
      | inl w ↦
          let counted = c.count_of-count.ensures.count ∙ ap (cell_count c.args.file.now) w.1 in
          rw w.1 (part _ (part-length c.count_of-count.result c.in-Write.bytes (omega (arith, counted)) ∙ counted) written.runs)
      | inr w ↦
          let counted = c.count_of-count.ensures.count ∙ ap (cell_count c.args.file.now) w.1 in
          rw w.1 (part _ (part-length c.count_of-count.result c.in-Write.bytes (omega (arith, counted)) ∙ counted) written.runs)
    ]

pub returns-in-Read-clause-takes : goal.returns-in-Read-clause-takes
returns-in-Read-clause-takes g c generation =
    let counted = c.count_of-count.ensures.count in
    elim c.in-Read.is [
      | inl w ↦ rw w.2 (cell-takes generation (step.Read w.0 c.in-Read.off w.1) (λ bytes n e low. refl) (counted ∙ ap (cell_count c.args.file.now) w.2) c.read.ensures)
      | inr w ↦ rw w.2 (cell-takes generation (step.Load w.0 c.in-Read.off w.1) (λ bytes n e low. refl) (counted ∙ ap (cell_count c.args.file.now) w.2) c.read.ensures)
    ]

pub returns-in-Read-clause-calls : goal.returns-in-Read-clause-calls
returns-in-Read-clause-calls g c =
    let runs = λ (n : ℕ). Runs (reading_pages c.in-Read.off n) c.args.file.now.state c.read.new.file.state c.read.result.1 in
    elim c.in-Read.is [
      | inl w ↦ rw w.2 (subst runs (c.count_of-count.ensures.count ∙ ap (cell_count c.args.file.now) w.2) c.read.ensures.runs)
      | inr w ↦ rw w.2 (subst runs (c.count_of-count.ensures.count ∙ ap (cell_count c.args.file.now) w.2) c.read.ensures.runs)
    ]
