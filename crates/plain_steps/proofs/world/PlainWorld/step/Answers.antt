use Rattle.vfs_model.specs.Homes.{file_at}
use Rattle.vfs_model.specs.World.{session_of}
use Rattle.plain_steps.proofs.FileReplies.{told_if}
use Rattle.plain_steps.proofs.KeptSizes.{folder_after, sized_after}
use Rattle.plain_steps.proofs.world.PlainWorld.step.Goals as goal

pub returns-in-Some-clause-folder : goal.returns-in-Some-clause-folder
returns-in-Some-clause-folder c =
    told_if c.self.inside.world c.step_row.new.world c.in-Some.row (file_at c.self.inside.world c.in-Some.row) c.args.step.now c.args.mark
    c.step_row.result c.step_row.ensures.ok

pub returns-in-None-clause-folder : goal.returns-in-None-clause-folder
returns-in-None-clause-folder c =
    folder_after c.self.inside.world c.step_namespace.new.world (session_of c.args.who) c.args.step.now c.args.mark c.self.invariant
    c.step_namespace.result c.step_namespace.ensures.ok

pub invariant_of-self-in-None : goal.invariant_of-self-in-None
invariant_of-self-in-None c =
    sized_after c.self.inside.world c.step_namespace.new.world (session_of c.args.who) c.args.step.now c.args.mark c.self.invariant
    c.step_namespace.result c.step_namespace.ensures.ok c.step_namespace.ensures.err
