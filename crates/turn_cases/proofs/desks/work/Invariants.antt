use Rattle.std.proofs.Common.{◌≡◌}
use Rattle.turn_table.specs.Passes.{IsSpare}
use Rattle.turn_cases.proofs.desks.work.Given as goal

abbrev pub invariant-loop-round : goal.invariant-loop-round
invariant-loop-round g l = (l.desk.pass.0 ≡ l.table) × IsSpare l.desk.pass.1
