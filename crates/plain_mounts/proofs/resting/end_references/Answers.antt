use Rattle.std.proofs.Common.{rules, None}
use Rattle.plain_mounts.proofs.Rests.{filled_more}
use Rattle.plain_mounts.proofs.resting.end_references.Goals as goal

pub loop-place-preserved : goal.loop-place-preserved
loop-place-preserved c =
    search (rules, filled_more None c.args.references.now c.loop-place.references c.loop-place.place (search rules) c.loop-place.invariant)
