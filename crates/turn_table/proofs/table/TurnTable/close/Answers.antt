use Rattle.std.proofs.Common.{◌<◌, ap, sym, subst, ◌∙◌, arith}
use Rattle.turn_table.specs.declared.view.View.{View}
use Rattle.turn_table.specs.Passes.{IsLast}
use Rattle.turn_table.proofs.Calls.{second}
use Rattle.turn_table.proofs.Closings.{came_home, closes, closes_of}
use Rattle.turn_table.proofs.table.TurnTable.close.Goals as goal

pub move_home-requires-clause-home : goal.move_home-requires-clause-home
move_home-requires-clause-home g c = λ part below. let seen = second _ _ c.pass.view_is in
    let held = ap (λ (v : View g.row.S.Denot g.row.O.Denot). v.held) seen ∙ c.requires.rests in
    let last = subst (λ (v : View g.row.S.Denot g.row.O.Denot). IsLast v) (sym seen) c.requires.last in
    let home = came_home _ _ 1025 _ c.pass.inside.seat.me.0 c.pass.invariant.0.alive held last _ _ c.close_with-closed.ensures.values.2 part below in (home.0, home.1)

pub returns : goal.returns
returns g c = let seen = second _ _ c.pass.view_is in
    let held = ap (λ (v : View g.row.S.Denot g.row.O.Denot). v.held) seen ∙ c.requires.rests in
    let last = subst (λ (v : View g.row.S.Denot g.row.O.Denot). IsLast v) (sym seen) c.requires.last in
    let some_part : 0 < 1025 = omega arith in
    let moved = c.move_home.ensures in
    closes_of _ _ _ 1025 _ seen (closes _ _ 1025 _ c.pass.inside.seat.me.0 c.pass.invariant.0.alive held last _ _ c.close_with-closed.ensures.values.2 c.move_home.result.items moved.count some_part moved.values)
