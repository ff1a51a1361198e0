use Rattle.std.proofs.Common.{◌≡◌, ◌++◌, drop, map}
use Rattle.vfs_model.specs.Homes.{opening_home}
use Rattle.plain_steps.proofs.start.all_homes.Given as goal

abbrev pub invariant-loop-shape : goal.invariant-loop-shape
invariant-loop-shape l = l.homes ++ map opening_home (drop l.shape-index l.shapes) ≡ map opening_home l.shapes
