use Rattle.std.proofs.Common.{◌≡◌, refl, arith}
use Rattle.script_stage.proofs.Calls.{err_of, goes_same, goes_then}
use Rattle.script_stage.proofs.ClosingAll.{idle_of, leave_more, leave_none, leave_stop, leave_whole}
use Rattle.script_stage.proofs.stage.Stage.leave_all.Goals as goal

pub loop-place-init : goal.loop-place-init
loop-place-init g c = (leave_none c.args.self.now c.requires, goes_same c.args.self.now c.args.self.now refl)

pub leave-requires : goal.leave-requires
leave-requires g c = idle_of c.loop-place.self.sessions c.loop-place.place c.session_at.result c.loop-place-test.true c.session_at.ensures c.loop-place.invariant.0.1

pub loop-place-preserved : goal.loop-place-preserved
loop-place-preserved g c =
    let done = c.in_ok-leave.ensures {u = tt} in (
      leave_more c.args.self.now c.loop-place.self c.leave.new.self c.loop-place.place c.session_at.result c.loop-place-test.true c.session_at.ensures c.loop-place.invariant.0
          done.ok done.through c.leave.ensures.idle c.leave.ensures.others,
      goes_then c.args.self.now c.loop-place.self c.leave.new.self c.loop-place.invariant.1 c.leave.ensures.goes_on,
    )

pub returns-in_err-leave-clause-err : goal.returns-in_err-leave-clause-err
returns-in_err-leave-clause-err g c =
    err_of c.from_residual.result
    (leave_stop c.args.self.now c.loop-place.self c.leave.new.self c.loop-place.place c.session_at.result c.loop-place-test.true c.session_at.ensures c.loop-place.invariant.0
    c.in_err-leave.ensures.err)

pub returns-in_err-leave-clause-goes_on : goal.returns-in_err-leave-clause-goes_on
returns-in_err-leave-clause-goes_on g c = goes_then c.args.self.now c.loop-place.self c.leave.new.self c.loop-place.invariant.1 c.leave.ensures.goes_on

pub returns-clause-ok : goal.returns-clause-ok
returns-clause-ok g c =
    let e : c.loop-place.place ≡ 8 = omega arith in (leave_whole c.args.self.now c.loop-place.self c.loop-place.place e c.loop-place.invariant.0).0

pub returns-clause-through : goal.returns-clause-through
returns-clause-through g c =
    let e : c.loop-place.place ≡ 8 = omega arith in (leave_whole c.args.self.now c.loop-place.self c.loop-place.place e c.loop-place.invariant.0).1
