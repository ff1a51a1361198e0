use Rattle.std.proofs.Common.{◌≡◌, ◌++◌, drop, map}
use Rattle.vfs_base.specs.declared.kinds.DeviceClass.TheVariants as class
use Rattle.vfs_base.specs.declared.kinds.FsType.TheVariants as fs
use Rattle.vfs_base.specs.declared.reply.DeviceLine.{DeviceLine}
use Rattle.vfs_model.specs.Content.{is_mounted}
use Rattle.vfs_model.specs.declared.namespace.RomImage.{RomImage}
use Rattle.plain_reports.proofs.tables.push_roms.Given as goal

abbrev pub invariant-loop-image : goal.invariant-loop-image
invariant-loop-image l =
    let line : RomImage → DeviceLine = λ item. record { name = item.name; class = class.Rom; mounted = is_mounted l.namespace fs.Rom item.name } in
    l.lines ++ map line (drop l.image-index l.namespace.roms) ≡ l.initial.lines ++ map line l.namespace.roms
