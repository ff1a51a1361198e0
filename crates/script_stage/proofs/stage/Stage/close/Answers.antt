use Rattle.std.proofs.lemmas.Result.{on_err_weaker, on_ok_weaker}
use Rattle.script_stage.proofs.Calls.{err_of, goes_then}
use Rattle.script_stage.proofs.ClosingAll.{close_done, close_unended, close_unleft, close_unrun, tells_behind, tells_unrun}
use Rattle.script_stage.proofs.stage.Stage.close.Goals as goal

pub returns-in_err-run_all-clause-err : goal.returns-in_err-run_all-clause-err
returns-in_err-run_all-clause-err g c = err_of c.from_residual.result (close_unrun c.args.self.now c.run_all.new.self c.in_err-run_all.ensures.err)

pub returns-in_err-run_all-clause-goes_on : goal.returns-in_err-run_all-clause-goes_on
returns-in_err-run_all-clause-goes_on g c none = tells_unrun c.args.self.now c.run_all.new.self none c.run_all.ensures.goes_on

pub returns-in_err-leave_all-clause-err : goal.returns-in_err-leave_all-clause-err
returns-in_err-leave_all-clause-err g c =
    let ran = c.in_ok-run_all.ensures {u = tt} in
    err_of c.from_residual-in_err-leave_all.result
    (close_unleft c.args.self.now c.run_all.new.self c.begin_leaving.new.self c.leave_all.new.self ran.ok c.begin_leaving.ensures.leaves c.in_err-leave_all.ensures.err)

pub returns-in_err-leave_all-clause-goes_on : goal.returns-in_err-leave_all-clause-goes_on
returns-in_err-leave_all-clause-goes_on g c none =
    tells_behind c.args.self.now c.run_all.new.self c.begin_leaving.new.self c.leave_all.new.self c.run_all.ensures.goes_on c.begin_leaving.ensures.schedule
    c.begin_leaving.ensures.leaves_at c.leave_all.ensures.goes_on

pub returns-clause-ok : goal.returns-clause-ok
returns-clause-ok g c =
    let ran = c.in_ok-run_all.ensures {u = tt} in
    let left = c.in_ok-leave_all.ensures {u = tt} in
    on_ok_weaker c.end.result
    (λ ends. close_done c.args.self.now c.run_all.new.self c.begin_leaving.new.self c.leave_all.new.self c.end.new.self ran.ok c.begin_leaving.ensures.leaves left.ok ends) c.end.ensures.ok

pub returns-clause-err : goal.returns-clause-err
returns-clause-err g c =
    let ran = c.in_ok-run_all.ensures {u = tt} in
    let left = c.in_ok-leave_all.ensures {u = tt} in
    on_err_weaker c.end.result
    (λ e. close_unended c.args.self.now c.run_all.new.self c.begin_leaving.new.self c.leave_all.new.self c.end.new.self ran.ok c.begin_leaving.ensures.leaves left.ok e) c.end.ensures.err

pub returns-clause-goes_on : goal.returns-clause-goes_on
returns-clause-goes_on g c none =
    tells_behind c.args.self.now c.run_all.new.self c.begin_leaving.new.self c.end.new.self c.run_all.ensures.goes_on c.begin_leaving.ensures.schedule
    c.begin_leaving.ensures.leaves_at
    (goes_then c.begin_leaving.new.self c.leave_all.new.self c.end.new.self c.leave_all.ensures.goes_on c.end.ensures.goes_on)
