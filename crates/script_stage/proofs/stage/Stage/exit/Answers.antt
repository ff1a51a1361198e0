use Rattle.script_stage.proofs.Calls.{exit_call, idle_at, idle_call, none_of, not_asking_at, numbered, others_call, some_of, through_call}
use Rattle.script_stage.proofs.stage.Stage.exit.Goals as goal
use Rattle.script_stage.specs.Scenes.{Scene}
use Rattle.script_stage.specs.SessionTurns.{StaysThrough, TakesExit}

pub take_exit-requires : goal.take_exit-requires
take_exit-requires g c =
    let old : Scene = record { view = g.W.StepWorld.seen c.self.inside.world; sessions = c.self.inside.sessions.items; schedule = c.self.inside.schedule.items; leaves_at = c.self.inside.leaves_at } in
    not_asking_at c.index_mut-session.result.now.phase
    (idle_at c.args.self.now old c.args.k c.place.result c.index_mut-session.result.now c.self.view_is c.place.ensures.value c.place.ensures.below c.self.invariant
    c.index_mut-session.ensures.value c.requires)

pub returns-in_err-enter-clause-idle : goal.returns-in_err-enter-clause-idle
returns-in_err-enter-clause-idle g c =
    let old : Scene = record { view = g.W.StepWorld.seen c.self.inside.world; sessions = c.self.inside.sessions.items; schedule = c.self.inside.schedule.items; leaves_at = c.self.inside.leaves_at } in
    idle_call c.args.self.now old c.enter.new.self.sessions c.args.k c.place.result c.index_mut-session.result.now c.take_exit.new.session c.self.view_is
    (numbered c.args.k c.place.result c.place.ensures.value c.place.ensures.least c.place.ensures.below) c.place.ensures.value c.place.ensures.below c.self.invariant c.index_mut-session.ensures.value c.requires c.take_exit.ensures.phase c.enter.ensures.same

pub returns-in_err-enter-clause-others : goal.returns-in_err-enter-clause-others
returns-in_err-enter-clause-others g c =
    let old : Scene = record { view = g.W.StepWorld.seen c.self.inside.world; sessions = c.self.inside.sessions.items; schedule = c.self.inside.schedule.items; leaves_at = c.self.inside.leaves_at } in
    others_call c.args.self.now old c.enter.new.self.sessions c.args.k c.place.result c.take_exit.new.session c.self.view_is (numbered c.args.k c.place.result c.place.ensures.value c.place.ensures.least c.place.ensures.below) c.place.ensures.value c.self.invariant
    c.enter.ensures.same

pub returns-clause-took : goal.returns-clause-took
returns-clause-took g c =
    let old : Scene = record { view = g.W.StepWorld.seen c.self.inside.world; sessions = c.self.inside.sessions.items; schedule = c.self.inside.schedule.items; leaves_at = c.self.inside.leaves_at } in
    exit_call c.args.self.now old c.enter.new.self (g.W.StepWorld.seen c.take_exit.new.world) c.args.k c.place.result c.index_mut-session.result.now c.take_exit.new.session
    c.in-Some.mark c.self.view_is (numbered c.args.k c.place.result c.place.ensures.value c.place.ensures.least c.place.ensures.below) c.place.ensures.value c.place.ensures.below c.self.invariant
    c.index_mut-session.ensures.value
    (some_of c.in_ok-mark.field-0 c.in-Some.mark (TakesExit c.index_mut-session.result.now c.take_exit.new.session old.view (g.W.StepWorld.seen c.take_exit.new.world) c.args.k)
    c.in-Some.is (c.in_ok-mark.ensures {u = tt}).took) (c.in_ok-enter.ensures {u = tt}).ok

pub returns-clause-idle : goal.returns-clause-idle
returns-clause-idle g c =
    let old : Scene = record { view = g.W.StepWorld.seen c.self.inside.world; sessions = c.self.inside.sessions.items; schedule = c.self.inside.schedule.items; leaves_at = c.self.inside.leaves_at } in
    idle_call c.args.self.now old c.enter.new.self.sessions c.args.k c.place.result c.index_mut-session.result.now c.take_exit.new.session c.self.view_is
    (numbered c.args.k c.place.result c.place.ensures.value c.place.ensures.least c.place.ensures.below) c.place.ensures.value c.place.ensures.below c.self.invariant c.index_mut-session.ensures.value c.requires c.take_exit.ensures.phase c.enter.ensures.same

pub returns-clause-others : goal.returns-clause-others
returns-clause-others g c =
    let old : Scene = record { view = g.W.StepWorld.seen c.self.inside.world; sessions = c.self.inside.sessions.items; schedule = c.self.inside.schedule.items; leaves_at = c.self.inside.leaves_at } in
    others_call c.args.self.now old c.enter.new.self.sessions c.args.k c.place.result c.take_exit.new.session c.self.view_is (numbered c.args.k c.place.result c.place.ensures.value c.place.ensures.least c.place.ensures.below) c.place.ensures.value c.self.invariant
    c.enter.ensures.same

pub returns-in_default-clause-through : goal.returns-in_default-clause-through
returns-in_default-clause-through g c =
    let old : Scene = record { view = g.W.StepWorld.seen c.self.inside.world; sessions = c.self.inside.sessions.items; schedule = c.self.inside.schedule.items; leaves_at = c.self.inside.leaves_at } in
    through_call c.args.self.now old (g.W.StepWorld.seen c.take_exit.new.world) c.args.k c.place.result c.index_mut-session.result.now c.take_exit.new.session c.self.view_is c.place.ensures.value c.place.ensures.below c.self.invariant
    c.index_mut-session.ensures.value
    (none_of c.in_ok-mark.field-0 (StaysThrough c.index_mut-session.result.now c.take_exit.new.session old.view (g.W.StepWorld.seen c.take_exit.new.world))
    c.in_default.is (c.in_ok-mark.ensures {u = tt}).through)
