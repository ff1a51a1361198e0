use Rattle.std.proofs.Common.{◌∷◌, []}
use Rattle.vfs_model.specs.Turns.{Leaves}
use Rattle.script_stage.proofs.Calls.{err_of, goes_then, leads_again, leave_end, leaves_behind, others_pass, took_of}
use Rattle.script_stage.proofs.stage.Stage.leave.Goals as goal
use Rattle.script_stage.specs.Standing.{LeavesAt}

pub returns-in_err-exit-clause-err : goal.returns-in_err-exit-clause-err
returns-in_err-exit-clause-err g c =
    err_of c.from_residual.result
    (leaves_behind c.args.self.now c.loop.self c.exit.new.self (Leaves c.args.k ∷ []) (Leaves c.args.k ∷ []) c.in_err-exit.ensures.err c.loop.invariant.0)

pub returns-clause-ok : goal.returns-clause-ok
returns-clause-ok g c =
    leave_end c.in_ok-exit.field-0 c.args.self.now c.loop.self c.exit.new.self c.args.k c.exit.ensures.number c.if-branch.false c.in_ok-exit.ensures.through c.loop.invariant.0

pub loop-preserved : goal.loop-preserved
loop-preserved g c = (
  leads_again LeavesAt c.args.self.now c.loop.self c.exit.new.self (Leaves c.args.k ∷ []) c.loop.invariant.0 (took_of c.in_ok-exit.field-0 c.if-branch.true c.in_ok-exit.ensures.took),
  others_pass c.args.self.now.sessions c.loop.self.sessions c.exit.new.self.sessions c.args.k c.loop.invariant.1 c.exit.ensures.others,
  c.exit.ensures.idle,
  goes_then c.args.self.now c.loop.self c.exit.new.self c.loop.invariant.3 c.exit.ensures.goes_on,
)
