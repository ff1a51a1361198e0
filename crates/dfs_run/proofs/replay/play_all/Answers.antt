use Rattle.std.proofs.Common.{◌≡◌, ◌<◌, ◌≤◌, length, get_or, subst, []}
use Rattle.script_stage.proofs.Calls.{err_of}
use Rattle.dfs_run.proofs.ReplayLemmas.{act_done, act_stops, acts_over}
use Rattle.dfs_run.proofs.replay.play_all.Goals as goal

pub loop-act-preserved : goal.loop-act-preserved
loop-act-preserved g c script same stands =
    let i = c.loop-act.act-index in
    let act = c.act-item.result in
    act_done c.loop-act.stage c.play.new.self script c.args.deck.now.acts act i
    (subst (λ acts. i < length acts) c.as_slice-act-items.ensures c.loop-act-test.true)
    (subst (λ acts. act ≡ get_or acts i act) c.as_slice-act-items.ensures c.act-item.is)
    (c.in_ok-play.ensures {u = tt}).ok (c.loop-act.invariant script same stands)

pub returns-in_err-play-clause-err : goal.returns-in_err-play-clause-err
returns-in_err-play-clause-err g c =
    let i = c.loop-act.act-index in
    let act = c.act-item.result in
    err_of c.from_residual.result (λ script same stands.
    act_stops c.loop-act.stage c.play.new.self script c.args.deck.now.acts act i
    (subst (λ acts. i < length acts) c.as_slice-act-items.ensures c.loop-act-test.true)
    (subst (λ acts. act ≡ get_or acts i act) c.as_slice-act-items.ensures c.act-item.is)
    c.in_err-play.ensures.err (c.loop-act.invariant script same stands))

pub returns-in_err-close-clause-err : goal.returns-in_err-close-clause-err
returns-in_err-close-clause-err g c =
    let i = c.loop-act.act-index in
    err_of c.from_residual-in_err-close.result (λ script same stands.
    c.in_err-close.ensures.err script []
    (acts_over c.loop-act.stage script c.args.deck.now.acts i
    (subst (λ acts. length acts ≤ i) c.as_slice-act-items.ensures c.loop-act-test.false) (c.loop-act.invariant script same stands)))
