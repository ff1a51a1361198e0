use Rattle.std.proofs.Common.{ap, sym, ◌∙◌}
use Rattle.turn_table.specs.declared.view.View.{View}
use Rattle.turn_table.proofs.Calls.{rests_stamped}
use Rattle.turn_table.proofs.table.TurnTable.stamp.Goals as goal

pub invariant_of-pass : goal.invariant_of-pass
invariant_of-pass g c = let drew = c.draw_stamp-stamp.ensures.stamped in (
  rests_stamped 1025 c.pass.inside.seat.me _ _ _ drew c.pass.invariant.0 c.if-stamp-ge-LAST.false,
  c.pass.invariant.1 ∙ sym (ap (λ (v : View g.row.S.Denot g.row.O.Denot). v.number) drew.0),
  c.pass.invariant.2 ∙ sym (ap (λ (v : View g.row.S.Denot g.row.O.Denot). v.made) drew.0),
)
