use Rattle.std.proofs.Common.{List, Option, [], refl, subst, sym, ◌∙◌}
use Rattle.vfs_base.specs.declared.entry.Entry.{Entry}
use Rattle.vfs_model.specs.FaultCounts.{no_devices}
use Rattle.script_stage.specs.Scenes.{Script}
use Rattle.dfs_run.proofs.EndingLemmas.{ends_unbegun}
use Rattle.dfs_run.proofs.shell.run_shell.Goals as goal
use Rattle.dfs_run.specs.Ending.{ShellEnds}
use Rattle.dfs_run.specs.Opening.{plainly}
use Rattle.dfs_run.specs.Run.{Streams, run_for}
use Rattle.dfs_run.specs.declared.report.FaultNote.{FaultNote}

pub returns-in-Ok-clause-ends : goal.returns-in-Ok-clause-ends
returns-in-Ok-clause-ends g c =
    let base : Script = plainly (record { roms = []; acts = [] }) c.args.describe.now in
    let io : Streams = record {
      given = g.S.Source.left c.args.source.now;
      rest = g.S.Source.left c.serve-ended.new.source;
      before = g.K.Sink.written c.args.sink.now;
      now = g.K.Sink.written c.serve-ended.new.sink;
    } in
    subst (λ (told : Option FaultNote). ShellEnds (run_for base io c.of.result.schedule no_devices told)) (sym c.of.ensures.fault)
    (subst (λ (steps : List Entry). ShellEnds (run_for base io steps no_devices c.serve-ended.result.1)) (sym c.of.ensures.schedule) (c.serve-ended.ensures.ends base c.in-Ok.ensures))

pub returns-in-Err-clause-ends : goal.returns-in-Err-clause-ends
returns-in-Err-clause-ends g c =
    let written = g.K.Sink.written c.args.sink.now in
    let left = g.S.Source.left c.args.source.now in
    let io : Streams = record { given = left; rest = left; before = written; now = written } in
    ends_unbegun (plainly (record { roms = []; acts = [] }) c.args.describe.now) io c.new-in-Err.result.schedule c.new-in-Err.result.fault
    (c.new-in-Err.ensures.schedule ∙ c.new.ensures) c.new-in-Err.ensures.fault refl
