use Rattle.std.proofs.Common.{◌∙◌, ap}
use Rattle.std.proofs.lemmas.Result.{on_ok_weaker}
use Rattle.plain_steps.proofs.start.fill_namespace.Goals as goal
use Rattle.plain_steps.specs.Starting.{with_devices}

pub returns : goal.returns
returns c =
    on_ok_weaker c.add_devices.result (λ is. is ∙ ap (λ n. with_devices n c.args.describe.now) c.in_ok-add_slots.ensures) c.add_devices.ensures
