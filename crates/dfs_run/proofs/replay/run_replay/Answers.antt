use Rattle.std.proofs.Common.{[], refl, ap, Some, ◌∙◌}
use Rattle.vfs_model.specs.FaultCounts.{no_devices}
use Rattle.dfs_run.proofs.ReplayLemmas.{stops_told}
use Rattle.dfs_run.proofs.replay.run_replay.Goals as goal
use Rattle.dfs_run.specs.Opening.{plainly}
use Rattle.dfs_run.specs.Run.{Streams}

pub returns-in-Err-clause-ends : goal.returns-in-Err-clause-ends
returns-in-Err-clause-ends g c =
    let written = g.K.Sink.written c.args.sink.now in
    let io : Streams = record { given = g.S.Source.left c.args.source.now; rest = g.S.Source.left c.read_script.new.source; before = written; now = written } in
    stops_told (plainly (record { roms = []; acts = [] }) c.args.describe.now) io no_devices c.in-Err.stop c.new-in-Err.result.schedule c.new-in-Err.result.fault
    (c.new-in-Err.ensures.schedule ∙ c.new.ensures) (c.new-in-Err.ensures.fault ∙ ap Some c.note.ensures) refl c.in-Err.ensures.stop
