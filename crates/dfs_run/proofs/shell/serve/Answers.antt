use Rattle.std.proofs.Common.{rules, ◌≡◌, List, subst, sym}
use Rattle.vfs_base.specs.declared.entry.Entry.{Entry}
use Rattle.dfs_run.proofs.EndingLemmas.{ends-closed, ends-kept, opening_moment-of, stopped-ends, stopped_cause, stopped_over}
use Rattle.dfs_run.proofs.StandingLemmas.{keeps_steps}
use Rattle.dfs_run.proofs.shell.serve.Goals as goal
use Rattle.dfs_run.specs.Causes.{HasCause, note_of}
use Rattle.dfs_run.specs.Ending.{KeepsSteps}
use Rattle.dfs_run.specs.Run.{Streams}
use Rattle.dfs_run.specs.Serving.{moment_of}
use Rattle.dfs_run.specs.Stopping.{ServesAll, Stops}
use Rattle.dfs_run.specs.declared.line_stop.LineStop.TheVariants as stop

pub returns-in-Ok-clause-ends : goal.returns-in-Ok-clause-ends
returns-in-Ok-clause-ends g c base stands =
    let io : Streams = record {
      given = g.S.Source.left c.args.source.now;
      rest = g.S.Source.left c.serve_lines.new.source;
      before = g.K.Sink.written c.args.sink.now;
      now = g.K.Sink.written c.close.new.sink;
    } in
    ends-closed base io c.args.stage stands c.serve_lines.new.stage (g.K.Sink.written c.serve_lines.new.sink) c.close.result.0.schedule
    (g.W.StepWorld.seen c.close.result.0.world).faults c.close.result.1
    (subst (λ start. ServesAll start c.serve_lines.new.stage (g.K.Sink.written c.serve_lines.new.sink))
    (opening_moment-of c.new-reader.result c.args.stage io.given io.before c.new-reader.ensures) c.in-Ok.ensures.ok)
    c.close.ensures.closes

pub returns-in-Err-NoMemory-clause-ends : goal.returns-in-Err-NoMemory-clause-ends
returns-in-Err-NoMemory-clause-ends g c base stands =
    let left = g.S.Source.left c.args.source.now in
    let before = g.K.Sink.written c.args.sink.now in
    let mid = g.K.Sink.written c.serve_lines.new.sink in
    let rest = g.S.Source.left c.serve_lines.new.source in
    let last = (g.W.StepWorld.seen c.give_up.result.0.world).faults in
    let io : Streams = record { given = left; rest = rest; before = before; now = mid } in
    ends-kept base io c.args.stage stands c.serve_lines.new.stage c.give_up.result.0.schedule last c.give_up.result.1 c.give_up.ensures.fault
    (subst (λ start. Stops start c.serve_lines.new.stage mid rest stop.NoMemory) (opening_moment-of c.new-reader.result c.args.stage left before c.new-reader.ensures)
    (subst (λ why. Stops (moment_of c.new-reader.result c.args.stage left before) c.serve_lines.new.stage mid rest why) c.in-Err-NoMemory.field-0-is c.in-Err-NoMemory.ensures.stop))
    (subst (λ (steps : List Entry). KeepsSteps c.serve_lines.new.stage steps last) (sym c.give_up.ensures.schedule) (keeps_steps c.serve_lines.new.stage last c.give_up.ensures.rising))

pub returns-in-Err : goal.returns-in-Err
returns-in-Err g c =
    let left = g.S.Source.left c.args.source.now in
    let before = g.K.Sink.written c.args.sink.now in
    let mid = g.K.Sink.written c.serve_lines.new.sink in
    let rest = g.S.Source.left c.serve_lines.new.source in
    let last = (g.W.StepWorld.seen c.end_early.result.0.world).faults in
    let io : Streams = record { given = left; rest = rest; before = before; now = mid } in
    let other : c.in-Err.stop ≡ stop.NoMemory → ⊥ = search rules in
    record {
      ends = λ base stands.
          stopped-ends base io c.args.stage stands c.serve_lines.new.stage c.end_early.result.0.schedule last c.in-Err.stop c.end_early.result.1
          (subst (λ start. Stops start c.serve_lines.new.stage mid rest c.in-Err.stop) (opening_moment-of c.new-reader.result c.args.stage left before c.new-reader.ensures)
          c.in-Err.ensures.stop) c.end_early.ensures.stops other;
      over = stopped_over (note_of c.in-Err.stop) c.end_early.result.1 c.serve_lines.new.stage c.end_early.result.0.schedule last _ c.end_early.ensures.stops;
      cause =
          stopped_cause (note_of c.in-Err.stop) c.end_early.result.1 c.serve_lines.new.stage c.end_early.result.0.schedule last
          (HasCause (g.S.Source.faults c.args.source.now) (g.S.Source.faults c.serve_lines.new.source) (g.K.Sink.faults c.args.sink.now) (g.K.Sink.faults c.serve_lines.new.sink)) tt
          c.in-Err.ensures.cause c.end_early.ensures.stops;
    }
