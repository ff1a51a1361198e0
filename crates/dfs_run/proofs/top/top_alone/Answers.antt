use Rattle.std.proofs.Common.{ap, map, refl, sym, ◌∙◌}
use Rattle.std.specs.Prelude.{string_bytes}
use Rattle.dfs_words.specs.Words.{job_of}
use Rattle.dfs_run.proofs.TopLemmas.{job_by_form, job_front, unbegun_by_form, unbegun_front}
use Rattle.dfs_run.proofs.top.top_alone.Goals as goal
use Rattle.dfs_run.specs.Report.{status_of}
use Rattle.dfs_run.specs.Run.{Streams}
use Rattle.vfs_outside.specs.Devices.{describe_of}

pub returns-in-Ok-clause-front : goal.returns-in-Ok-clause-front
returns-in-Ok-clause-front g c =
    let io : Streams = record {
      given = g.S.Source.left c.args.source.now;
      rest = g.S.Source.left c.run_job.new.source;
      before = g.K.Sink.written c.args.sink.now;
      now = g.K.Sink.written c.run_job.new.sink;
    } in
    job_front (job_of (map string_bytes c.args.words.now)) c.in-Ok.mode.job io (describe_of c.args.devices.now) c.run_job.result c.in-Ok.ensures.ok c.run_job.ensures.ends

pub returns-in-Ok-clause-complete : goal.returns-in-Ok-clause-complete
returns-in-Ok-clause-complete g c =
    let io : Streams = record {
      given = g.S.Source.left c.args.source.now;
      rest = g.S.Source.left c.run_job.new.source;
      before = g.K.Sink.written c.args.sink.now;
      now = g.K.Sink.written c.run_job.new.sink;
    } in
    job_by_form (job_of (map string_bytes c.args.words.now)) c.in-Ok.mode.job io (describe_of c.args.devices.now) c.run_job.result (g.S.Source.faults c.args.source.now)
    (g.S.Source.faults c.run_job.new.source) (g.K.Sink.faults c.args.sink.now) (g.K.Sink.faults c.run_job.new.sink) c.in-Ok.ensures.ok c.run_job.ensures.status c.run_job.ensures.ends
    c.run_job.ensures.cause

pub returns-in-Err-NoMemory-clause-front : goal.returns-in-Err-NoMemory-clause-front
returns-in-Err-NoMemory-clause-front g c =
    let written = g.K.Sink.written c.args.sink.now in
    let left = g.S.Source.left c.args.source.now in
    let io : Streams = record { given = left; rest = left; before = written; now = written } in
    let report = c.new-in-Err-NoMemory-2.ensures in
    unbegun_front io (describe_of c.args.devices.now) c.new-in-Err-NoMemory-2.result (report.schedule ∙ c.new-in-Err-NoMemory.ensures) report.fault refl (job_of (map string_bytes c.args.words.now))

pub returns-in-Err-NoMemory-clause-complete : goal.returns-in-Err-NoMemory-clause-complete
returns-in-Err-NoMemory-clause-complete g c =
    let written = g.K.Sink.written c.args.sink.now in
    let left = g.S.Source.left c.args.source.now in
    let source = g.S.Source.faults c.args.source.now in
    let sink = g.K.Sink.faults c.args.sink.now in
    let io : Streams = record { given = left; rest = left; before = written; now = written } in
    let report = c.new-in-Err-NoMemory-2.ensures in
    unbegun_by_form io (describe_of c.args.devices.now) c.new-in-Err-NoMemory-2.result (report.schedule ∙ c.new-in-Err-NoMemory.ensures) report.fault refl (job_of (map string_bytes c.args.words.now))
    source source sink sink (report.status ∙ ap status_of (sym report.fault))
