use Rattle.std.proofs.Common.{sym}
use Rattle.dentry_table.proofs.Moving.{moved-moves, moved-tidy, moves-same, takes-moves, there-some}
use Rattle.dentry_table.proofs.Rooms.{nothing-below-room}
use Rattle.dentry_table.proofs.room.fill_room.Goals as goal

pub replace-count-requires-clause-bare : goal.replace-count-requires-clause-bare
replace-count-requires-clause-bare c = nothing-below-room c.requires.tidy c.requires.below

pub prune-requires : goal.prune-requires
prune-requires c =
    rw (c.replace-count.ensures.tree, c.parent.ensures) (moved-tidy c.args.counts.now c.args.from.now c.args.room.now c.replace-count.ensures.ordered c.requires.apart (nothing-below-room c.requires.tidy c.requires.below) c.requires.tidy (there-some c.in-Some.ensures.value))

pub returns-in-Some-clause-moves : goal.returns-in-Some-clause-moves
returns-in-Some-clause-moves c =
    moves-same c.args.counts.now c.replace-count.new.self c.prune.new.counts c.args.from.now c.args.room.now
    (rw c.replace-count.ensures.tree (moved-moves c.args.counts.now c.args.from.now c.args.room.now c.replace-count.ensures.ordered c.requires.apart (nothing-below-room c.requires.tidy c.requires.below))) c.prune.ensures.counts

pub returns-in-None-clause-moves : goal.returns-in-None-clause-moves
returns-in-None-clause-moves c = takes-moves c.requires.apart (sym c.in-None.ensures.value) c.in-None.ensures.above c.requires.below c.clear.ensures.taken
