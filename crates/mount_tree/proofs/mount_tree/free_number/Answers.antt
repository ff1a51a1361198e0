use Rattle.mount_tree.proofs.FreeNumbers.{is-a-number}
use Rattle.mount_tree.proofs.mount_tree.free_number.Goals as goal

pub unreachable-requires : goal.unreachable-requires
unreachable-requires c =
    is-a-number (record { root = c.args.root.now; others = c.args.others.now }) c.new.result c.least_free_number.result
    c.requires c.least_free_number.ensures c.new.ensures c.in_default.is
