use Rattle.std.proofs.Common.{◌∷◌, []}
use Rattle.vfs_model.specs.Turns.{RunOut}
use Rattle.script_stage.proofs.Calls.{err_of, goes_then, leads_again, others_pass, run_end, stops_behind, took_of}
use Rattle.script_stage.proofs.stage.Stage.run_out.Goals as goal
use Rattle.script_stage.specs.Standing.{StandsAt}

pub returns-in_err-step-clause-err : goal.returns-in_err-step-clause-err
returns-in_err-step-clause-err g c =
    err_of c.from_residual.result
    (stops_behind c.args.self.now c.loop.self c.step.new.self (RunOut c.args.k ∷ []) (RunOut c.args.k ∷ []) c.in_err-step.ensures.err c.loop.invariant.0)

pub returns-clause-ok : goal.returns-clause-ok
returns-clause-ok g c =
    run_end c.in_ok-step.field-0 c.args.self.now c.loop.self c.step.new.self c.args.k c.step.ensures.number c.if-branch.false c.in_ok-step.ensures.idle c.loop.invariant.0

pub loop-preserved : goal.loop-preserved
loop-preserved g c = (
  leads_again StandsAt c.args.self.now c.loop.self c.step.new.self (RunOut c.args.k ∷ []) c.loop.invariant.0 (took_of c.in_ok-step.field-0 c.if-branch.true c.in_ok-step.ensures.took).0,
  others_pass c.args.self.now.sessions c.loop.self.sessions c.step.new.self.sessions c.args.k c.loop.invariant.1 c.step.ensures.others,
  goes_then c.args.self.now c.loop.self c.step.new.self c.loop.invariant.2 c.step.ensures.goes_on,
)
