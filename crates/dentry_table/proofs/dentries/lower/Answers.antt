use Rattle.std.proofs.Common.{arith}
use Rattle.dentry_table.proofs.Counts.{lowers-same, put-lowers}
use Rattle.dentry_table.proofs.Tidiness.{tidy-along, tidy-put}
use Rattle.dentry_table.proofs.dentries.lower.Goals as goal

pub prune-requires : goal.prune-requires
prune-requires c = rw c.set.ensures (tidy-put c.args.path.now _ (tidy-along c.requires.tidy c.args.path.now))

pub returns-clause-counts : goal.returns-clause-counts
returns-clause-counts c =
    lowers-same c.args.counts.now c.set.new.self c.prune.new.counts c.args.path.now
    (rw c.set.ensures (put-lowers c.args.counts.now c.args.path.now _ (omega (arith, c.count_in-count.ensures, c.requires.held)))) c.prune.ensures.counts
