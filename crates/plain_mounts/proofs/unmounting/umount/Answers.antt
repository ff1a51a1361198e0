use Rattle.plain_mounts.proofs.FreedRows.{plain_after}
use Rattle.plain_mounts.proofs.unmounting.umount.Goals as goal

pub returns-clause-plain : goal.returns-clause-plain
returns-clause-plain c =
    plain_after c.args.namespace.now c.unmount_point.new.namespace c.args.session c.args.point.now c.unmount_point.result c.unmount_point.ensures.told
