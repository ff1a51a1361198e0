use Rattle.std.proofs.Common.{rules, []}
use Rattle.plain_mounts.proofs.Rests.{filled_more}
use Rattle.plain_mounts.proofs.resting.leave_folders.Goals as goal

pub loop-place-preserved : goal.loop-place-preserved
loop-place-preserved c =
    search (rules, filled_more [] c.args.working_directories.now c.loop-place.working_directories c.loop-place.place (search rules) c.loop-place.invariant)
