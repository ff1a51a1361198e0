use Rattle.std.proofs.Common.{rules}
use Rattle.plain_files.proofs.PlaceLemmas.{cleared_more}
use Rattle.plain_files.proofs.homes.clear_all.Goals as goal

pub loop-place-preserved : goal.loop-place-preserved
loop-place-preserved c = search (rules, cleared_more c.args.cells.now c.loop-place.cells c.loop-place.place c.loop-place-test.true c.loop-place.invariant)
