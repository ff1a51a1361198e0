use Rattle.std.proofs.Common.{◌≡◌, [], ◌*◌}
use Rattle.vfs_base.specs.Path.{Path}
use Rattle.dentry_table.specs.DentryTable.{count_at, one_at}
use Rattle.holders.proofs.counting.opening_dentries.Given as goal

abbrev pub invariant-loop : goal.invariant-loop
invariant-loop l = ((q : Path) → count_at l.dentries.counts q ≡ l.counter * one_at q []) × (l.dentries.room ≡ [])
