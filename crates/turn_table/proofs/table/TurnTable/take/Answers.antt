use Rattle.std.proofs.Common.{◌≡◌, ◌≤◌, sym, subst, ◌∙◌, false, arith}
use Rattle.turn_table.specs.declared.view.View.{View}
use Rattle.turn_table.specs.Values.{IsOf, law_of, share_of, turns_of}
use Rattle.turn_table.specs.Views.{HoldsBelow, IsFresh, is_held}
use Rattle.turn_table.proofs.Calls.{below_free, full_from, rests_taken, same_slot, same_value, second, taken, takes_result}
use Rattle.turn_table.proofs.table.TurnTable.take.Goals as goal

pub draw-number-requires-clause-free : goal.draw-number-requires-clause-free
draw-number-requires-clause-free g c = below_free _ c.args.part (subst (λ (v : View g.row.S.Denot g.row.O.Denot). HoldsBelow v c.args.part) (sym (second _ _ c.pass.view_is)) c.requires.below)

pub take_out-requires-clause-full : goal.take_out-requires-clause-full
take_out-requires-clause-full g c = let turn = c.wait.ensures.turn in (turn.value, full_from _ _ _ _ turn.slot)

pub invariant_of-pass : goal.invariant_of-pass
invariant_of-pass g c =
    let free : is_held c.args.part c.pass.inside.seat.me.0.held ≡ false = below_free _ c.args.part (subst (λ (v : View g.row.S.Denot g.row.O.Denot). HoldsBelow v c.args.part) (sym (second _ _ c.pass.view_is)) c.requires.below) in
    let fresh = subst (λ (v : View g.row.S.Denot g.row.O.Denot). IsFresh v) (sym (second _ _ c.pass.view_is)) c.requires.fresh in
    let did = taken _ c.pass.inside.seat.me c.draw-number.new.seat.me c.wait.new.seat.me c.take_out.new.seat.me c.args.part _ c.draw-number.ensures.waits.0 fresh c.wait.ensures.turn c.take_out.ensures.empty.0 in (
      rests_taken _ 1025 c.pass.inside.seat.me _ _ _ c.args.part _ c.draw-number.ensures.waits c.wait.ensures.turn c.take_out.ensures.empty c.pass.invariant.0 (let last : c.args.part ≤ 1024 = c.requires.part in omega arith) free,
      c.pass.invariant.1 ∙ sym did.1.pass.number,
      c.pass.invariant.2 ∙ sym did.1.pass.made,
    )

pub returns-clause-takes : goal.returns-clause-takes
returns-clause-takes g c =
    let fresh = subst (λ (v : View g.row.S.Denot g.row.O.Denot). IsFresh v) (sym (second _ _ c.pass.view_is)) c.requires.fresh in
    let did = taken _ c.pass.inside.seat.me c.draw-number.new.seat.me c.wait.new.seat.me c.take_out.new.seat.me c.args.part _ c.draw-number.ensures.waits.0 fresh c.wait.ensures.turn c.take_out.ensures.empty.0 in
    takes_result (law_of (turns_of g.A.Turned.turns g.B.Turned.turns) (share_of g.A.Turned.share g.B.Turned.share) (IsOf {B = g.row.B.Denot} g.A.Originated.origin) g.S.Share.tie)
    _ _ _ c.args.part _ _ did.1 (second _ _ c.pass.view_is) (same_value _ _ (same_slot _ _ _ _ (full_from _ _ _ _ c.wait.ensures.turn.slot) c.take_out.ensures.value))
