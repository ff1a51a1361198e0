use Rattle.std.proofs.Common.{◌≡◌, ◌++◌, drop, map}
use Rattle.vfs_base.specs.declared.kinds.DeviceClass.TheVariants as class
use Rattle.vfs_base.specs.declared.reply.DeviceLine.{DeviceLine}
use Rattle.vfs_model.specs.declared.namespace.DeviceState.{DeviceState}
use Rattle.plain_reports.proofs.tables.push_devices.Given as goal

abbrev pub invariant-loop-device : goal.invariant-loop-device
invariant-loop-device l =
    let line : DeviceState → DeviceLine = λ item. record { name = item.name; class = class.Char; mounted = item.is_out } in
    l.lines ++ map line (drop l.device-index l.namespace.devices) ≡ l.initial.lines ++ map line l.namespace.devices
