use Rattle.plain_steps.proofs.Started.{slots_stand}
use Rattle.plain_steps.proofs.start.add_slots.Goals as goal

pub returns : goal.returns
returns c =
    slots_stand c.args.namespace.now _ _ _ _ _
    c.in_ok-namespace.ensures c.in_ok-namespace-2.ensures c.in_ok-namespace-3.ensures c.in_ok-namespace-4.ensures c.in_ok-namespace-5.ensures
