use Rattle.std.proofs.Common.{◌<◌, length, sym, arith}
use Rattle.dentry_table.proofs.Belows.{parent-shorter}
use Rattle.dentry_table.proofs.Counts.{same-same, without-same}
use Rattle.dentry_table.proofs.Tidiness.{tidy-wanted, tidy-within, tidy-without, unwanted-none}
use Rattle.dentry_table.proofs.dentries.+prune.Goals as goal
use Rattle.dentry_table.proofs.dentries.+prune.Goals.{then-is_prefix-via-then-is_prefix, then-is_prefix-via-else-is_prefix+then-is_wanted}

pub returns-then-is_prefix-clause-tidy : goal.returns-then-is_prefix-clause-tidy
returns-then-is_prefix-clause-tidy t c = elim c.then-is_prefix.branch [
  | then-is_prefix-via-then-is_prefix w ↦ tidy-within c.requires (sym w.if-is_prefix.ensures)
  | then-is_prefix-via-else-is_prefix+then-is_wanted w ↦ tidy-wanted c.args.path.now c.requires (sym w.if-is_wanted.ensures)
]

pub prune-requires : goal.prune-requires
prune-requires t c =
    let h : length c.parent.result.now < length c.args.path.now = rw c.parent.ensures (parent-shorter c.args.path.now c.args.room.now (sym c.if-is_prefix.ensures)) in
    (omega (arith, h, c.decreases), rw (c.remove.ensures.tree, c.parent.ensures) (tidy-without c.args.path.now (sym c.if-is_prefix.ensures) c.requires))

pub returns-clause-counts : goal.returns-clause-counts
returns-clause-counts t c =
    same-same c.args.counts.now c.remove.new.self c.prune.new.counts
    (rw c.remove.ensures.tree (without-same c.args.counts.now c.args.path.now (unwanted-none _ _ (sym c.if-is_wanted.ensures)))) c.prune.ensures.counts
