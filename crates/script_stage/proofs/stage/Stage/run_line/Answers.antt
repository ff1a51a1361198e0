use Rattle.std.proofs.Common.{◌∷◌, []}
use Rattle.std.proofs.lemmas.Result.{on_err_weaker, on_ok_weaker}
use Rattle.vfs_model.specs.Turns.{Posts, RunOut}
use Rattle.script_stage.proofs.Calls.{breaks_first, breaks_then, does_then, err_of}
use Rattle.script_stage.proofs.stage.Stage.run_line.Goals as goal

pub returns-in_err-begin_line-clause-err : goal.returns-in_err-begin_line-clause-err
returns-in_err-begin_line-clause-err g c =
    err_of c.from_residual.result
    (breaks_first c.args.self.now c.begin_line.new.self (RunOut c.args.k ∷ Posts c.args.k c.args.line.now ∷ []) (RunOut c.args.k ∷ []) c.in_err-begin_line.ensures.err)

pub returns-clause-err : goal.returns-clause-err
returns-clause-err g c =
    let begun = c.in_ok-begin_line.ensures {u = tt} in
    on_err_weaker c.run_out.result
    (λ breaks. breaks_then c.args.self.now c.begin_line.new.self c.run_out.new.self (RunOut c.args.k ∷ Posts c.args.k c.args.line.now ∷ []) (RunOut c.args.k ∷ []) begun.ok breaks)
    c.run_out.ensures.err

pub returns-clause-ok : goal.returns-clause-ok
returns-clause-ok g c =
    let begun = c.in_ok-begin_line.ensures {u = tt} in
    on_ok_weaker c.run_out.result
    (λ does. does_then c.args.self.now c.begin_line.new.self c.run_out.new.self (RunOut c.args.k ∷ Posts c.args.k c.args.line.now ∷ []) (RunOut c.args.k ∷ []) begun.ok does)
    c.run_out.ensures.ok
