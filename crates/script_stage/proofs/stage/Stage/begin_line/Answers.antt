use Rattle.std.proofs.Common.{◌∷◌, []}
use Rattle.std.proofs.lemmas.Result.{on_err_weaker, on_ok_weaker}
use Rattle.vfs_model.specs.Turns.{Posts, RunOut}
use Rattle.script_stage.proofs.Calls.{breaks_first, breaks_then, does_then, err_of}
use Rattle.script_stage.proofs.stage.Stage.begin_line.Goals as goal

pub returns-in_err-run_out-clause-err : goal.returns-in_err-run_out-clause-err
returns-in_err-run_out-clause-err g c =
    err_of c.from_residual.result
    (breaks_first c.args.self.now c.run_out.new.self (RunOut c.args.k ∷ []) (Posts c.args.k c.args.line.now ∷ []) c.in_err-run_out.ensures.err)

pub returns-clause-err : goal.returns-clause-err
returns-clause-err g c =
    let ran = c.in_ok-run_out.ensures {u = tt} in
    on_err_weaker c.post.result
    (λ breaks. breaks_then c.args.self.now c.run_out.new.self c.post.new.self (RunOut c.args.k ∷ []) (Posts c.args.k c.args.line.now ∷ []) ran.ok breaks) c.post.ensures.err

pub returns-clause-ok : goal.returns-clause-ok
returns-clause-ok g c =
    let ran = c.in_ok-run_out.ensures {u = tt} in
    on_ok_weaker c.post.result
    (λ does. does_then c.args.self.now c.run_out.new.self c.post.new.self (RunOut c.args.k ∷ []) (Posts c.args.k c.args.line.now ∷ []) ran.ok does) c.post.ensures.ok
