use Rattle.std.proofs.Common.{◌∙◌, ap}
use Rattle.plain_steps.proofs.Started.{namespace_starts}
use Rattle.plain_steps.proofs.start.opening_namespace.Goals as goal
use Rattle.plain_steps.specs.Starting.{with_devices, with_slots}

pub returns : goal.returns
returns c =
    c.in_ok-fill_namespace.ensures
    ∙ ap (λ n. with_devices (with_slots n) c.args.describe.now) c.in_ok-namespace.ensures
    ∙ namespace_starts c.args.roms c.args.describe.now
