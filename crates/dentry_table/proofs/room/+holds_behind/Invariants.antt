use Rattle.std.proofs.Common.{◌-◌, length}
use Rattle.dentry_table.proofs.room.+holds_behind.Given as goal

abbrev pub decreases-holds_behind : goal.decreases-holds_behind
decreases-holds_behind l = length l.room.now - l.len
