use Rattle.std.proofs.Common.{◌≡◌, ◌-◌}
use Rattle.dfs_run.specs.Serving.{moment_of, KnowsEnd, Serves}
use Rattle.dfs_run.proofs.serving.serve_lines.Given as goal

abbrev pub invariant-lines : goal.invariant-lines
invariant-lines g l = record {
  serves : Serves
      (moment_of l.initial.reader l.initial.stage (g.S.Source.left l.initial.source) (g.K.Sink.written l.initial.sink))
      (moment_of l.reader l.stage (g.S.Source.left l.source) (g.K.Sink.written l.sink));
  knows : KnowsEnd l.initial.reader (g.S.Source.left l.initial.source) → KnowsEnd l.reader (g.S.Source.left l.source);
  source_quiet : g.S.Source.faults l.source ≡ g.S.Source.faults l.initial.source;
  sink_quiet : g.K.Sink.faults l.sink ≡ g.K.Sink.faults l.initial.sink;
}

abbrev pub decreases-lines : goal.decreases-lines
decreases-lines g l = 16777216 - l.reader.size
