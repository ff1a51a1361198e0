use Rattle.std.proofs.Common.{◌≡◌, ap, length, ◌∙◌, Some}
use Rattle.script_stage.proofs.ClosingAll.{leaves_from}
use Rattle.script_stage.proofs.Ending.{from_here}
use Rattle.script_stage.proofs.stage.Stage.begin_leaving.Goals as goal
use Rattle.script_stage.specs.Scenes.{Scene}

pub returns-clause-leaves : goal.returns-clause-leaves
returns-clause-leaves g c =
    let old : Scene = record { view = g.W.StepWorld.seen c.self.inside.world; sessions = c.self.inside.sessions.items; schedule = c.self.inside.schedule.items; leaves_at = c.self.inside.leaves_at } in
    let count : c.len.result ≡ length c.self.inside.schedule.items = search in
    let begun : record old { leaves_at = Some c.len.result } ≡ from_here old = ap (λ n. record old { leaves_at = Some n }) count in
    let here : record old { leaves_at = Some c.len.result } ≡ from_here c.args.self.now = begun ∙ ap from_here c.self.view_is in
    leaves_from c.args.self.now (record old { leaves_at = Some c.len.result }) c.requires here
