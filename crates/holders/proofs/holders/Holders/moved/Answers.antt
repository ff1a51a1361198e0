use Rattle.std.proofs.Common.{ap, ◌∙◌}
use Rattle.holders.specs.Holding.{with_moved}
use Rattle.holders.proofs.Moving.{counted-moved, may-as, nothing-below, paths-moved}
use Rattle.holders.proofs.holders.Holders.moved.Goals as goal

pub moved-requires-clause-below : goal.moved-requires-clause-below
moved-requires-clause-below c = nothing-below (may-as c.self.view_is c.plan.view_is c.requires) c.self.invariant

pub invariant_of-self : goal.invariant_of-self
invariant_of-self c =
    let may = may-as c.self.view_is c.plan.view_is c.requires in
    let paths = paths-moved _ c.self.inside.paths c.take_paths.new.paths may.renames c.take_paths.ensures.length c.take_paths.ensures.paths in
    rw (paths, c.moved.ensures.plan) (counted-moved may c.self.invariant c.moved.ensures.moves)

pub returns : goal.returns
returns c =
    let may = may-as c.self.view_is c.plan.view_is c.requires in
    let paths = paths-moved _ c.self.inside.paths c.take_paths.new.paths may.renames c.take_paths.ensures.length c.take_paths.ensures.paths in
    rw (paths, c.moved.ensures.plan)
    (ap (λ h. with_moved h c.plan.inside.holders.from c.plan.inside.holders.to) c.self.view_is ∙ ap (λ plan. with_moved c.args.self.now plan.from plan.to) c.plan.view_is)
