use Rattle.std.proofs.Common.{◌≡◌, ◌++◌, drop, map}
use Rattle.vfs_model.specs.Namespace.{opening_volume}
use Rattle.plain_steps.proofs.start.opening_volumes.Given as goal

abbrev pub invariant-loop-shape : goal.invariant-loop-shape
invariant-loop-shape l = l.volumes ++ map opening_volume (drop l.shape-index l.shapes) ≡ map opening_volume l.shapes
