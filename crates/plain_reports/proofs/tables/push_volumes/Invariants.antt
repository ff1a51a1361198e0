use Rattle.std.proofs.Common.{◌≡◌, ◌++◌, drop, map}
use Rattle.vfs_base.specs.declared.kinds.DeviceClass.TheVariants as class
use Rattle.vfs_base.specs.declared.kinds.FsType.TheVariants as fs
use Rattle.vfs_base.specs.declared.reply.DeviceLine.{DeviceLine}
use Rattle.vfs_model.specs.Content.{is_mounted}
use Rattle.vfs_model.specs.declared.namespace.VolumeState.{VolumeState}
use Rattle.plain_reports.proofs.tables.push_volumes.Given as goal

abbrev pub invariant-loop-volume : goal.invariant-loop-volume
invariant-loop-volume l =
    let line : VolumeState → DeviceLine = λ item. record { name = item.name; class = class.Block; mounted = is_mounted l.namespace fs.Cell item.name } in
    l.lines ++ map line (drop l.volume-index l.namespace.volumes) ≡ l.initial.lines ++ map line l.namespace.volumes
