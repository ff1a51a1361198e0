use Rattle.std.proofs.Common.{rules, ◌<◌, ap, sym, subst, ◌∙◌}
use Rattle.turn_table.specs.declared.view.View.{View}
use Rattle.turn_table.proofs.Calls.{second}
use Rattle.turn_table.proofs.SplitSteps.{splits}
use Rattle.turn_table.proofs.table.TurnTable.split.Goals as goal

pub split_seat-seat-requires : goal.split_seat-seat-requires
split_seat-seat-requires g c = let seen = second _ _ c.pass.view_is in (
  search rules,
  search rules,
  splits _ _ 1025 _ c.pass.inside.seat.me.0 c.pass.invariant.0.alive (ap (λ (v : View g.row.S.Denot g.row.O.Denot). v.opens) seen ∙ c.requires.opens)
      (subst (λ (v : View g.row.S.Denot g.row.O.Denot). v.made < 4294967295) (sym seen) c.requires.made),
)
