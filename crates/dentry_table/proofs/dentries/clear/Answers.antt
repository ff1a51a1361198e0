use Rattle.std.proofs.Common.{sym, ◌∙◌}
use Rattle.dentry_table.proofs.Counts.{none-takes, put-takes, takes-same}
use Rattle.dentry_table.proofs.Tidiness.{tidy-along, tidy-put}
use Rattle.dentry_table.proofs.dentries.clear.Goals as goal

pub returns-then-count-eq0-clause-taken : goal.returns-then-count-eq0-clause-taken
returns-then-count-eq0-clause-taken c = none-takes c.args.counts.now c.args.path.now (sym c.count_in-count.ensures ∙ c.if-count-eq0.true)

pub prune-requires : goal.prune-requires
prune-requires c = rw c.set.ensures (tidy-put c.args.path.now 0 (tidy-along c.requires c.args.path.now))

pub returns-clause-taken : goal.returns-clause-taken
returns-clause-taken c =
    takes-same c.args.counts.now c.set.new.self c.prune.new.counts c.args.path.now (rw c.set.ensures (put-takes c.args.counts.now c.args.path.now)) c.prune.ensures.counts
