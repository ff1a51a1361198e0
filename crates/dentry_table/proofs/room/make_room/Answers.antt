use Rattle.dentry_table.proofs.Counts.{same-same}
use Rattle.dentry_table.proofs.Entering.{entered-same, entered-tidy}
use Rattle.dentry_table.proofs.Rooms.{room-tidy}
use Rattle.std.proofs.Common.{length}
use Rattle.dentry_table.proofs.room.make_room.Goals as goal

pub prune-requires : goal.prune-requires
prune-requires c = rw c.in-Err.ensures.err.tree (entered-tidy c.args.room.now c.args.counts.now c.in-Err.ensures.err.count c.requires)

pub returns-in-Ok-clause-counts : goal.returns-in-Ok-clause-counts
returns-in-Ok-clause-counts c = rw c.in-Ok.ensures.ok (entered-same c.args.room.now c.args.counts.now (length c.args.room.now))

pub returns-in-Ok-clause-ok : goal.returns-in-Ok-clause-ok
returns-in-Ok-clause-ok c = rw c.in-Ok.ensures.ok (room-tidy c.args.room.now c.args.counts.now c.requires)

pub returns-in-Err-clause-counts : goal.returns-in-Err-clause-counts
returns-in-Err-clause-counts c =
    same-same c.args.counts.now c.enter.new.self c.prune.new.counts (rw c.in-Err.ensures.err.tree (entered-same c.args.room.now c.args.counts.now c.in-Err.ensures.err.count)) c.prune.ensures.counts
