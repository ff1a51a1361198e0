use Rattle.std.proofs.Common.{◌≡◌, subst, sym}
use Rattle.std.specs.Prelude.{IfOk}
use Rattle.vfs_model.specs.World.{session_of}
use Rattle.plain_nodes.specs.WorldAnswer.{leaving}
use Rattle.plain_steps.proofs.WorldSteps.{shuts}
use Rattle.plain_steps.proofs.world.step_namespace.Goals as goal

pub returns-then-is_shutdown-clause-ok : goal.returns-then-is_shutdown-clause-ok
returns-then-is_shutdown-clause-ok c =
    subst (λ part. IfOk c.shut_down.result (λ reply. part ≡ leaving c.shut_down.new.world reply))
    (sym (shuts c.args.world.now (session_of c.args.who) c.args.step.now c.args.mark (cc (c.is_shutdown.ensures, c.if-is_shutdown.true))))
    c.shut_down.ensures.told
