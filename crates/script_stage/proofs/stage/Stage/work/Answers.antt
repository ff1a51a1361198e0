use Rattle.std.proofs.Common.{◌∷◌, [], refl}
use Rattle.std.proofs.lemmas.Result.{on_err_weaker, on_ok_weaker}
use Rattle.vfs_model.specs.Turns.{Steps}
use Rattle.script_stage.proofs.Calls.{breaks_off, err_of, halts_call, halts_entered, work_call}
use Rattle.script_stage.proofs.Counting.{falls-same}
use Rattle.script_stage.proofs.stage.Stage.work.Goals as goal
use Rattle.script_stage.specs.Scenes.{Scene}

pub returns-in_err-taken-clause-err : goal.returns-in_err-taken-clause-err
returns-in_err-taken-clause-err g c =
    let old : Scene = record { view = g.W.StepWorld.seen c.self.inside.world; sessions = c.self.inside.sessions.items; schedule = c.self.inside.schedule.items; leaves_at = c.self.inside.leaves_at } in
    err_of c.from_residual.result
    (breaks_off c.args.self.now _ (Steps c.args.who.now ∷ []) (halts_call c.args.self.now old _ c.self.view_is refl refl (falls-same old.view (g.W.StepWorld.seen c.take.new.self) c.in_err-taken.ensures.err)))

pub returns-clause-ok : goal.returns-clause-ok
returns-clause-ok g c =
    let old : Scene = record { view = g.W.StepWorld.seen c.self.inside.world; sessions = c.self.inside.sessions.items; schedule = c.self.inside.schedule.items; leaves_at = c.self.inside.leaves_at } in
    on_ok_weaker c.enter.result
    (λ is. work_call c.args.self.now old c.enter.new.self (g.W.StepWorld.seen c.take.new.self) c.args.who.now c.args.step.now c.in_ok-taken.taken.1 c.in_ok-taken.taken.0 c.self.view_is
    c.requires c.in_ok-taken.ensures.ok is)
    c.enter.ensures.ok

pub returns-clause-err : goal.returns-clause-err
returns-clause-err g c =
    on_err_weaker c.enter.result
    (λ is. breaks_off c.args.self.now c.enter.new.self (Steps c.args.who.now ∷ [])
    (halts_entered c.args.self.now _ c.enter.new.self (g.W.StepWorld.seen c.take.new.self) _ c.self.view_is c.in_ok-taken.ensures.ok.rising is))
    c.enter.ensures.err
