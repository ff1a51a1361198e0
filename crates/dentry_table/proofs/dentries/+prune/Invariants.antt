use Rattle.std.proofs.Common.{length}
use Rattle.dentry_table.proofs.dentries.+prune.Given as goal

abbrev pub decreases-prune : goal.decreases-prune
decreases-prune l = length l.path.now
