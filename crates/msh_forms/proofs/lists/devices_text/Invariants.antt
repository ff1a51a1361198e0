use Rattle.std.proofs.Common.{◌≡◌, ◌++◌, drop}
use Rattle.std.specs.List.{flat_map}
use Rattle.vfs_model.specs.MountCommands.{device_text}
use Rattle.msh_forms.proofs.lists.devices_text.Given as goal

abbrev pub invariant-loop-device : goal.invariant-loop-device
invariant-loop-device l = l.text ++ flat_map device_text (drop l.device-index l.devices) ≡ flat_map device_text l.devices
