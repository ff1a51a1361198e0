use Rattle.std.proofs.Common.{◌≡◌, ◌++◌, drop, map}
use Rattle.vfs_model.specs.Namespace.{opening_device}
use Rattle.plain_steps.proofs.start.opening_devices.Given as goal

abbrev pub invariant-loop-shape : goal.invariant-loop-shape
invariant-loop-shape l = l.devices ++ map opening_device (drop l.shape-index l.shapes) ≡ map opening_device l.shapes
