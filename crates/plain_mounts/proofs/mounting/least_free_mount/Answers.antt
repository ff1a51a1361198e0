use Rattle.plain_mounts.proofs.Numbers.{is_a_number}
use Rattle.plain_mounts.proofs.mounting.least_free_mount.Goals as goal

pub unreachable-requires : goal.unreachable-requires
unreachable-requires c =
    is_a_number c.args.namespace.now c.new.result c.least_free_number.result c.requires c.least_free_number.ensures c.new.ensures c.in_default.is
