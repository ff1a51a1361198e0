use Rattle.std.proofs.Common.{ap, ap₂, max, sym, ◌∙◌}
use Rattle.turn_table.specs.declared.view.View.{View}
use Rattle.turn_table.proofs.Calls.{joined_from, joins_of, rests_joined, second}
use Rattle.turn_table.proofs.table.TurnTable.join.Goals as goal

pub invariant_of-pass : goal.invariant_of-pass
invariant_of-pass g c = let both = c.join_seats.ensures.both in (
  rests_joined 1025 c.pass.inside.seat.me _ c.other.inside.seat.me.0 both c.pass.invariant.0,
  c.pass.invariant.1 ∙ sym (ap (λ (v : View g.row.S.Denot g.row.O.Denot). v.number) both.0),
  c.max-pass-inside.ensures ∙ (ap₂ max c.pass.invariant.2 c.other.invariant.2 ∙ sym (ap (λ (v : View g.row.S.Denot g.row.O.Denot). v.made) both.0)),
)

pub returns-clause-joins : goal.returns-clause-joins
returns-clause-joins g c = let did = c.join_seats.ensures in
    joins_of _ _ _ _ _ (second _ _ c.pass.view_is) (second _ _ c.other.view_is) (joined_from c.pass.inside.seat.me.0 c.other.inside.seat.me.0 _ did.both.0 did.seen)
