use Rattle.std.proofs.Common.{List, ◌∷◌, [], ◌++◌, sym, ap, ◌∙◌, subst}
use Rattle.vfs_base.specs.declared.entry.Entry.{Entry}
use Rattle.vfs_base.specs.declared.entry.Who.TheVariants as who
use Rattle.vfs_model.specs.Turns.{Steps}
use Rattle.script_stage.proofs.Ending.{ends}
use Rattle.script_stage.proofs.stage.Stage.end.Goals as goal
use Rattle.script_stage.specs.Scenes.{Scene}
use Rattle.script_stage.specs.Standing.{ClosesAt, IsThrough, LeavesAt}

pub returns-clause-ok : goal.returns-clause-ok
returns-clause-ok g c script handed at =
    let old : Scene = record { view = g.W.StepWorld.seen c.self.inside.world; sessions = c.self.inside.sessions.items; schedule = c.self.inside.schedule.items; leaves_at = c.self.inside.leaves_at } in
    let entry : Entry = record { who = who.End; mark = c.in_ok-taken.taken.1 } in
    subst (λ (all : List Entry). ClosesAt (record old { view = g.W.StepWorld.seen c.take.new.self; schedule = all }) script handed)
    (sym (◌∙◌ {A = List Entry} c.push_reserved.ensures.items (ap (λ all. all ++ entry ∷ []) c.reserve.ensures.items)))
    (ends old (g.W.StepWorld.seen c.take.new.self) (c.in_ok-taken.taken.0, c.in_ok-taken.taken.1)
    (λ k n. subst (λ (s : Scene). IsThrough s.sessions k) (sym c.self.view_is) (c.requires k n n.1)) c.in_ok-taken.ensures.ok script handed
    (subst (λ (s : Scene). LeavesAt s script (Steps who.End ∷ []) handed) (sym c.self.view_is) at))
