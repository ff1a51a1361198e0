use Rattle.std.proofs.Common.{refl, ◌∙◌}
use Rattle.dfs_run.proofs.TopLemmas.{job_unbegun}
use Rattle.dfs_run.proofs.top.run_job.Goals as goal
use Rattle.dfs_run.specs.Run.{Streams}
use Rattle.vfs_outside.specs.Devices.{describe_of}

pub returns-in_default-clause-ends : goal.returns-in_default-clause-ends
returns-in_default-clause-ends g c =
    let written = g.K.Sink.written c.args.sink.now in
    let left = g.S.Source.left c.args.source.now in
    let io : Streams = record { given = left; rest = left; before = written; now = written } in
    job_unbegun c.args.job io (describe_of c.args.devices.now) c.new-in_default.result (c.new-in_default.ensures.schedule ∙ c.new.ensures) c.new-in_default.ensures.fault refl
