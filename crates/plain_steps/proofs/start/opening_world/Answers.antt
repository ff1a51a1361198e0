use Rattle.plain_steps.proofs.Started.{world_starts}
use Rattle.plain_steps.proofs.start.opening_world.Goals as goal

pub returns : goal.returns
returns c =
    world_starts c.args.roms c.args.describe.now _ _ _ c.in_ok-opening_namespace.ensures c.in_ok-no_files.ensures c.in_ok-opening_homes.ensures
