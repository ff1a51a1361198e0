use Rattle.std.proofs.Common.{◌≡◌, drop}
use Rattle.vfs_outside.specs.Devices.{volume_named}
use Rattle.vfs_outside.proofs.places.find_volume.Given as goal

abbrev pub invariant-loop-part : goal.invariant-loop-part
invariant-loop-part g l = volume_named (drop l.part-index l.volumes) l.name ≡ volume_named l.volumes l.name
