use Rattle.plain_mounts.proofs.FreedRows.{plain_after_all}
use Rattle.plain_mounts.proofs.unmounting.unmount_all.Goals as goal

pub returns-clause-plain : goal.returns-clause-plain
returns-clause-plain c =
    plain_after_all c.args.namespace.now c.unmount_each.new.namespace c.unmount_each.result c.unmount_each.ensures.ok
