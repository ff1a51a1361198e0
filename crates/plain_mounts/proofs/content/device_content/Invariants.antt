use Rattle.std.proofs.Common.{◌≡◌, [], drop}
use Rattle.plain_mounts.specs.Mounting.{devices_from}
use Rattle.plain_mounts.proofs.content.device_content.Given as goal

abbrev pub invariant-loop-place : goal.invariant-loop-place
invariant-loop-place l = devices_from l.content l.place (drop l.place l.devices) ≡ devices_from [] 0 l.devices
