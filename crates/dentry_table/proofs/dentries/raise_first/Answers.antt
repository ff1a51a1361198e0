use Rattle.std.proofs.Common.{◌≡◌, ◌+◌, length, sym, ap, arith}
use Rattle.name_tree.specs.Entered.{entered}
use Rattle.dentry_table.proofs.Counts.{put-held, put-raises, same-same, there-some}
use Rattle.dentry_table.proofs.Entering.{entered-same, entered-there, entered-tidy}
use Rattle.dentry_table.proofs.Tidiness.{tidy-held, tidy-put}
use Rattle.dentry_table.specs.DentryTable.{count_at, told}
use Rattle.dentry_table.proofs.dentries.raise_first.Goals as goal

pub set-requires : goal.set-requires
set-requires c = rw c.in-Ok.ensures.ok (there-some _ (entered-there c.args.path.now c.args.counts.now c.requires.inner))

pub returns-in-Ok-clause-ok : goal.returns-in-Ok-clause-ok
returns-in-Ok-clause-ok c =
    let one : 1 ≡ count_at c.args.counts.now c.args.path.now + 1 = ap (λ n. n + 1) (sym (ap told c.requires.absent)) in
    rw (c.set.ensures, c.in-Ok.ensures.ok) (put-raises c.args.counts.now (entered (length c.args.path.now) c.args.path.now 0 c.args.counts.now) c.args.path.now 1
    (entered-same c.args.path.now c.args.counts.now (length c.args.path.now)) one)

pub returns-in-Ok-clause-tidy : goal.returns-in-Ok-clause-tidy
returns-in-Ok-clause-tidy c =
    rw (c.set.ensures, c.in-Ok.ensures.ok) (tidy-held c.args.path.now (tidy-put c.args.path.now 1 (entered-tidy c.args.path.now c.args.counts.now (length c.args.path.now) c.requires.tidy))
    (put-held c.args.path.now 1 _ (λ e. omega (arith, e))))

pub prune-requires : goal.prune-requires
prune-requires c = rw c.in-Err.ensures.err.tree (entered-tidy c.args.path.now c.args.counts.now c.in-Err.ensures.err.count c.requires.tidy)

pub returns-in-Err-clause-err : goal.returns-in-Err-clause-err
returns-in-Err-clause-err c =
    same-same c.args.counts.now c.enter.new.self c.prune.new.counts (rw c.in-Err.ensures.err.tree (entered-same c.args.path.now c.args.counts.now c.in-Err.ensures.err.count)) c.prune.ensures.counts
