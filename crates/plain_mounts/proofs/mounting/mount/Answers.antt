use Rattle.plain_mounts.proofs.RomsStay.{roms_after_mount}
use Rattle.plain_mounts.proofs.mounting.mount.Goals as goal

pub returns-clause-roms : goal.returns-clause-roms
returns-clause-roms c =
    roms_after_mount c.args.namespace.now c.mount_source.new.namespace c.args.session c.args.source.now c.args.point.now c.args.fs.now
    c.mount_source.result c.mount_source.ensures.told c.mount_source.ensures.err
