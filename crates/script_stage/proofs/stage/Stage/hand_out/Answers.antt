use Rattle.std.proofs.Common.{◌≡◌, Some, refl, sym, arith}
use Rattle.std.specs.Prelude.{slice_get}
use Rattle.std.proofs.lemmas.Option.{slice_get_read}
use Rattle.script_stage.proofs.Calls.{halts_call}
use Rattle.script_stage.proofs.Counting.{none-falls}
use Rattle.script_stage.proofs.Handing.{hands_fresh, hands_stands}
use Rattle.script_stage.proofs.stage.Stage.hand_out.Goals as goal
use Rattle.script_stage.specs.Scenes.{Scene}

pub returns-clause-work : goal.returns-clause-work
returns-clause-work g c =
    let old : Scene = record { view = g.W.StepWorld.seen c.self.inside.world; sessions = c.self.inside.sessions.items; schedule = c.self.inside.schedule.items; leaves_at = c.self.inside.leaves_at } in
    let found : slice_get c.self.inside.sessions.items 0 ≡ Some c.index_mut.result.now =
    slice_get_read c.self.inside.sessions.items 8 0 c.index_mut.result.now (sym c.self.invariant) (omega arith) c.index_mut.ensures.value in
    hands_stands c.args.self.now old c.index_mut.result.now c.hand_out.new.self c.hand_out.result c.self.view_is found
    c.hand_out.ensures.rest c.hand_out.ensures.text

pub returns-clause-fresh : goal.returns-clause-fresh
returns-clause-fresh g c =
    let old : Scene = record { view = g.W.StepWorld.seen c.self.inside.world; sessions = c.self.inside.sessions.items; schedule = c.self.inside.schedule.items; leaves_at = c.self.inside.leaves_at } in
    let found : slice_get c.self.inside.sessions.items 0 ≡ Some c.index_mut.result.now =
    slice_get_read c.self.inside.sessions.items 8 0 c.index_mut.result.now (sym c.self.invariant) (omega arith) c.index_mut.ensures.value in
    hands_fresh c.args.self.now old c.index_mut.result.now c.hand_out.new.self c.self.view_is c.self.invariant found c.hand_out.ensures.rest

pub returns-clause-halts : goal.returns-clause-halts
returns-clause-halts g c =
    halts_call c.args.self.now _ _ c.self.view_is refl refl (none-falls (g.W.StepWorld.seen c.self.inside.world).faults)
