use Rattle.std.proofs.Common.{◌≡◌, true, [], All, vec_len}
use Rattle.turn_table.specs.Passes.{IsSpare}
use Rattle.turn_cases.proofs.desks.open_desks.Given as goal

abbrev pub invariant-loop-desk : goal.invariant-loop-desk
invariant-loop-desk l = record {
  table : l.first.0 ≡ l.table;
  held : l.first.1.held ≡ [];
  joined : l.first.1.joined ≡ [];
  opens : l.first.1.opens ≡ true;
  made : l.first.1.made ≡ l._desk;
  count : vec_len l.desks ≡ l._desk;
  spare : All (λ desk. (desk.pass.0 ≡ l.table) × IsSpare desk.pass.1) l.desks.items;
}
