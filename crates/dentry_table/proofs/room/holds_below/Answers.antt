use Rattle.std.proofs.Common.{sym}
use Rattle.dentry_table.proofs.Rooms.{along-tells, below-beside-tells}
use Rattle.dentry_table.proofs.room.holds_below.Goals as goal

pub returns-then-is_prefix : goal.returns-then-is_prefix
returns-then-is_prefix c = along-tells c.args.counts.now c.args.path.now c.args.room.now (sym c.if-is_prefix.ensures) c.holds_behind.ensures

pub returns-else-is_prefix : goal.returns-else-is_prefix
returns-else-is_prefix c = rw c.has_below.ensures (below-beside-tells c.requires c.args.path.now (sym c.if-is_prefix.ensures))
