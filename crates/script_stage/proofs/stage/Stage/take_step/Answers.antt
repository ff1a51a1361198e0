use Rattle.std.proofs.Common.{refl}
use Rattle.std.proofs.lemmas.Result.{on_err_weaker, on_ok_weaker}
use Rattle.script_stage.proofs.Calls.{asking_at, grows_call, halts_entered, numbered, others_call, turn_call}
use Rattle.script_stage.proofs.stage.Stage.take_step.Goals as goal
use Rattle.script_stage.specs.Scenes.{Scene}

pub take_wanted-requires : goal.take_wanted-requires
take_wanted-requires g c =
    let old : Scene = record { view = g.W.StepWorld.seen c.self.inside.world; sessions = c.self.inside.sessions.items; schedule = c.self.inside.schedule.items; leaves_at = c.self.inside.leaves_at } in
    asking_at c.args.self.now old c.args.k c.place.result c.index_mut-session.result.now c.self.view_is c.place.ensures.value c.place.ensures.below c.self.invariant
    c.index_mut-session.ensures.value c.requires

pub returns-in_err-mark-clause-others : goal.returns-in_err-mark-clause-others
returns-in_err-mark-clause-others g c =
    let old : Scene = record { view = g.W.StepWorld.seen c.self.inside.world; sessions = c.self.inside.sessions.items; schedule = c.self.inside.schedule.items; leaves_at = c.self.inside.leaves_at } in
    others_call c.args.self.now old _ c.args.k c.place.result c.take_wanted.new.session c.self.view_is (numbered c.args.k c.place.result c.place.ensures.value c.place.ensures.least c.place.ensures.below) c.place.ensures.value c.self.invariant refl

pub returns-clause-took : goal.returns-clause-took
returns-clause-took g c =
    let old : Scene = record { view = g.W.StepWorld.seen c.self.inside.world; sessions = c.self.inside.sessions.items; schedule = c.self.inside.schedule.items; leaves_at = c.self.inside.leaves_at } in
    on_ok_weaker c.enter.result
    (λ is. turn_call c.args.self.now old c.enter.new.self (g.W.StepWorld.seen c.take_wanted.new.world) c.args.k c.place.result c.index_mut-session.result.now c.take_wanted.new.session
    c.in_ok-mark.mark c.self.view_is (numbered c.args.k c.place.result c.place.ensures.value c.place.ensures.least c.place.ensures.below) c.place.ensures.value c.place.ensures.below c.self.invariant
    c.index_mut-session.ensures.value c.requires c.in_ok-mark.ensures.ok is)
    c.enter.ensures.ok

pub returns-clause-others : goal.returns-clause-others
returns-clause-others g c =
    let old : Scene = record { view = g.W.StepWorld.seen c.self.inside.world; sessions = c.self.inside.sessions.items; schedule = c.self.inside.schedule.items; leaves_at = c.self.inside.leaves_at } in
    others_call c.args.self.now old c.enter.new.self.sessions c.args.k c.place.result c.take_wanted.new.session c.self.view_is (numbered c.args.k c.place.result c.place.ensures.value c.place.ensures.least c.place.ensures.below) c.place.ensures.value c.self.invariant
    c.enter.ensures.same

pub returns-clause-grows : goal.returns-clause-grows
returns-clause-grows g c =
    let old : Scene = record { view = g.W.StepWorld.seen c.self.inside.world; sessions = c.self.inside.sessions.items; schedule = c.self.inside.schedule.items; leaves_at = c.self.inside.leaves_at } in
    on_ok_weaker c.enter.result
    (λ is. grows_call c.args.self.now old c.enter.new.self (g.W.StepWorld.seen c.take_wanted.new.world) _ _ c.self.view_is c.enter.ensures.room is) c.enter.ensures.ok

pub returns-clause-err : goal.returns-clause-err
returns-clause-err g c =
    on_err_weaker c.enter.result
    (λ is. halts_entered c.args.self.now _ c.enter.new.self (g.W.StepWorld.seen c.take_wanted.new.world) _ c.self.view_is c.in_ok-mark.ensures.ok.takes.rising is) c.enter.ensures.err
