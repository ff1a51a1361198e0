use Rattle.std.proofs.Common.{◌≡◌, ◌+◌, true, [], length, All, vec_len}
use Rattle.turn_table.specs.Passes.{IsSpare}
use Rattle.turn_cases.proofs.desks.join_desks.Given as goal

abbrev pub invariant-loop-desk : goal.invariant-loop-desk
invariant-loop-desk l = record {
  table : l.first.0 ≡ l.table;
  held : l.first.1.held ≡ [];
  opens : l.first.1.opens ≡ true;
  made : length l.first.1.joined + vec_len l.desks ≡ l.first.1.made;
  spare : All (λ desk. (desk.pass.0 ≡ l.table) × IsSpare desk.pass.1) l.desks.items;
}

abbrev pub decreases-loop-desk : goal.decreases-loop-desk
decreases-loop-desk l = vec_len l.desks
