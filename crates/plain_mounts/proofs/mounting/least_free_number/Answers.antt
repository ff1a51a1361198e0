use Rattle.plain_mounts.proofs.Numbers.{number_passed}
use Rattle.plain_mounts.proofs.mounting.least_free_number.Goals as goal

pub loop-number-preserved : goal.loop-number-preserved
loop-number-preserved c =
    number_passed c.args.namespace.now c.loop-number.number c.loop-number-test.true
    (cc (c.has_number.ensures, c.if-not-has_number.false)) c.loop-number.invariant
