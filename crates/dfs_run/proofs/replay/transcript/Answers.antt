use Rattle.std.proofs.Common.{◌≡◌, ◌++◌, sym, ap, ◌∙◌}
use Rattle.std.proofs.lemmas.Result.{IfOk-weaker}
use Rattle.vfs_base.specs.declared.deck.Deck.{Deck}
use Rattle.vfs_model.specs.Schedule.{schedule_line}
use Rattle.dfs_run.proofs.ReplayLemmas.{transcript_written}
use Rattle.dfs_run.proofs.replay.transcript.Goals as goal

pub returns : goal.returns
returns g c =
    IfOk-weaker c.with_line.result (λ whole. whole ≡ c.push_sessions.new.out ++ schedule_line c.schedule.result.now) _
    (λ whole joined script same closes.
    transcript_written c.args.stage.now script c.new-text.result c.push_sessions.new.out (schedule_line c.schedule.result.now) whole
    c.new-text.ensures closes
    (λ s taken. c.in_ok-push_sessions.ensures script s (ap (λ (deck : Deck). deck.acts) same ∙ sym c.as_slice.ensures) closes taken)
    (ap schedule_line c.schedule.ensures) joined)
    c.with_line.ensures
