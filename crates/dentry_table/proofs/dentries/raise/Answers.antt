use Rattle.std.proofs.Common.{◌+◌, ap, arith}
use Rattle.dentry_table.proofs.Counts.{put-held, put-raises, same-itself}
use Rattle.dentry_table.proofs.Tidiness.{tidy-along, tidy-held, tidy-put}
use Rattle.dentry_table.specs.DentryTable.{told}
use Rattle.dentry_table.proofs.dentries.raise.Goals as goal

pub returns-in-Some-clause-ok : goal.returns-in-Some-clause-ok
returns-in-Some-clause-ok c =
    rw c.set.ensures (put-raises c.args.counts.now c.args.counts.now c.args.path.now _ (same-itself c.args.counts.now) (ap (λ n. n + 1) (ap told c.in-Some.ensures.value)))

pub returns-in-Some-clause-tidy : goal.returns-in-Some-clause-tidy
returns-in-Some-clause-tidy c =
    rw c.set.ensures (tidy-held c.args.path.now (tidy-put c.args.path.now _ (tidy-along c.requires.tidy c.args.path.now)) (put-held c.args.path.now _ c.args.counts.now (λ e. omega (arith, e))))
