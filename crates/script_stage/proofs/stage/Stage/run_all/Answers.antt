use Rattle.std.proofs.Common.{◌≡◌, refl, arith}
use Rattle.script_stage.proofs.Calls.{err_of, goes_same, goes_then}
use Rattle.script_stage.proofs.ClosingAll.{run_more, run_none, run_stop, run_whole}
use Rattle.script_stage.proofs.stage.Stage.run_all.Goals as goal

pub loop-place-init : goal.loop-place-init
loop-place-init g c = (run_none c.args.self.now, goes_same c.args.self.now c.args.self.now refl)

pub loop-place-preserved : goal.loop-place-preserved
loop-place-preserved g c =
    let done = c.in_ok-run_out.ensures {u = tt} in (
      run_more c.args.self.now c.loop-place.self c.run_out.new.self c.loop-place.place c.session_at.result c.loop-place-test.true c.session_at.ensures c.loop-place.invariant.0
          done.ok done.idle c.run_out.ensures.others,
      goes_then c.args.self.now c.loop-place.self c.run_out.new.self c.loop-place.invariant.1 c.run_out.ensures.goes_on,
    )

pub returns-in_err-run_out-clause-err : goal.returns-in_err-run_out-clause-err
returns-in_err-run_out-clause-err g c =
    err_of c.from_residual.result
    (run_stop c.args.self.now c.loop-place.self c.run_out.new.self c.loop-place.place c.session_at.result c.loop-place-test.true c.session_at.ensures c.loop-place.invariant.0
    c.in_err-run_out.ensures.err)

pub returns-in_err-run_out-clause-goes_on : goal.returns-in_err-run_out-clause-goes_on
returns-in_err-run_out-clause-goes_on g c = goes_then c.args.self.now c.loop-place.self c.run_out.new.self c.loop-place.invariant.1 c.run_out.ensures.goes_on

pub returns-clause-ok : goal.returns-clause-ok
returns-clause-ok g c =
    let e : c.loop-place.place ≡ 8 = omega arith in (run_whole c.args.self.now c.loop-place.self c.loop-place.place e c.loop-place.invariant.0).0

pub returns-clause-idle : goal.returns-clause-idle
returns-clause-idle g c =
    let e : c.loop-place.place ≡ 8 = omega arith in (run_whole c.args.self.now c.loop-place.self c.loop-place.place e c.loop-place.invariant.0).1
