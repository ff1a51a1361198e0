use Rattle.mount_tree.proofs.FreeNumbers.{number-passed}
use Rattle.mount_tree.proofs.mount_tree.least_free_number.Goals as goal

pub loop-number-preserved : goal.loop-number-preserved
loop-number-preserved c =
    number-passed (record { root = c.args.root.now; others = c.args.others.now }) c.loop-number.number c.loop-number-test.true
    (cc (c.is_used.ensures, c.if-not-is_used.false)) c.loop-number.invariant
