use Rattle.std.proofs.Common.{◌∷◌, [], refl}
use Rattle.std.proofs.lemmas.Result.{on_ok_weaker}
use Rattle.vfs_model.specs.Turns.{Posts}
use Rattle.script_stage.proofs.Calls.{breaks_off, err_of, halts_call, numbered, post_call}
use Rattle.script_stage.proofs.Counting.{none-falls}
use Rattle.script_stage.proofs.stage.Stage.post.Goals as goal
use Rattle.script_stage.specs.Scenes.{Scene}

pub returns-clause-ok : goal.returns-clause-ok
returns-clause-ok g c =
    let old : Scene = record { view = g.W.StepWorld.seen c.self.inside.world; sessions = c.self.inside.sessions.items; schedule = c.self.inside.schedule.items; leaves_at = c.self.inside.leaves_at } in
    on_ok_weaker c.post.result
    (λ follows. post_call c.args.self.now old c.args.k c.place.result c.index_mut.result.now c.post.new.self c.args.line.now c.self.view_is
    (numbered c.args.k c.place.result c.place.ensures.value c.place.ensures.least c.place.ensures.below) c.place.ensures.value c.place.ensures.below c.self.invariant c.index_mut.ensures.value follows)
    c.post.ensures

pub returns-clause-err : goal.returns-clause-err
returns-clause-err g c =
    let old : Scene = record { view = g.W.StepWorld.seen c.self.inside.world; sessions = c.self.inside.sessions.items; schedule = c.self.inside.schedule.items; leaves_at = c.self.inside.leaves_at } in
    err_of c.post.result
    (breaks_off c.args.self.now _ (Posts c.args.k c.args.line.now ∷ []) (halts_call c.args.self.now old _ c.self.view_is refl refl (none-falls old.view.faults)))
