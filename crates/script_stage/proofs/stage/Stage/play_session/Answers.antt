use Rattle.std.proofs.Common.{◌∷◌, []}
use Rattle.vfs_base.specs.declared.entry.Who.TheVariants as who
use Rattle.vfs_model.specs.Turns.{Steps}
use Rattle.script_stage.proofs.Calls.{breaks_off, err_of, play_taken}
use Rattle.script_stage.proofs.stage.Stage.play_session.Goals as goal

pub returns-in_err-step-clause-err : goal.returns-in_err-step-clause-err
returns-in_err-step-clause-err g c =
    err_of c.from_residual.result (breaks_off c.args.self.now c.step.new.self (Steps (who.Session c.args.k) ∷ []) c.in_err-step.ensures.err)

pub returns-clause-ok : goal.returns-clause-ok
returns-clause-ok g c =
    play_taken c.in_ok-step.field-0 c.args.self.now c.step.new.self c.args.k c.step.ensures.number c.in_ok-step.ensures.took c.in_ok-step.ensures.idle
