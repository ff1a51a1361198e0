use Rattle.std.proofs.Common.{subst}
use Rattle.vfs_model.specs.Gives.{StopsAs}
use Rattle.plain_nodes.specs.WorldAnswer.{world_answer}
use Rattle.plain_steps.proofs.WorldSteps.{clear_done, clear_refused}
use Rattle.plain_steps.proofs.world.session_step.Goals as goal

pub returns-in-Ok-clause-ok : goal.returns-in-Ok-clause-ok
returns-in-Ok-clause-ok c =
    rw c.in-Clear.is (clear_done c.args.world.now c.args.session c.args.step.now _ c.requires.goes_on c.in-Ok.ensures.told)

pub returns-in-Err-Refusal-clause-ok : goal.returns-in-Err-Refusal-clause-ok
returns-in-Err-Refusal-clause-ok c =
    let told = subst (λ stop. StopsAs stop (world_answer c.args.world.now c.args.session c.args.step.now))
    c.in-Err-Refusal.field-0-is c.in-Err-Refusal.ensures.told in
    rw (c.in-Clear.is, c.in-Err-Refusal.ensures.err)
    (clear_refused c.args.world.now c.args.session c.args.step.now c.in-Err-Refusal.errno c.requires.goes_on told)
