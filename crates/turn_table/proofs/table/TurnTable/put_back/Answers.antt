use Rattle.std.proofs.Common.{sym, subst, ◌∙◌}
use Rattle.turn_table.specs.declared.view.View.{View}
use Rattle.turn_table.specs.Takes.{Puts}
use Rattle.turn_table.specs.Values.{turns_of}
use Rattle.turn_table.proofs.Calls.{first_from, held_from, put_from, rests_left, rests_turned, second, share_turned}
use Rattle.turn_table.proofs.table.TurnTable.put_back.Goals as goal

pub leave-served-requires-clause-rests : goal.leave-served-requires-clause-rests
leave-served-requires-clause-rests g c = let t = held_from _ _ c.args.part _ (second _ _ c.pass.view_is) c.requires.share in
    rests_turned 1025 c.args.part c.pass.inside.seat.me _ c.bring_to_front.ensures.front c.pass.invariant.0 t.ticket t.found

pub leave-served-requires-clause-first : goal.leave-served-requires-clause-first
leave-served-requires-clause-first g c = let t = held_from _ _ c.args.part _ (second _ _ c.pass.view_is) c.requires.share in
    first_from c.pass.inside.seat.me.0 _ c.args.part t.ticket t.found c.bring_to_front.ensures.front.0

pub leave-served-requires-clause-share : goal.leave-served-requires-clause-share
leave-served-requires-clause-share g c = share_turned c.pass.inside.seat.me.0 _ c.args.part c.bring_to_front.ensures.front.0 ∙ (held_from _ _ c.args.part _ (second _ _ c.pass.view_is) c.requires.share).share

pub invariant_of-pass : goal.invariant_of-pass
invariant_of-pass g c = let held = held_from _ _ c.args.part _ (second _ _ c.pass.view_is) c.requires.share in let front = c.bring_to_front.ensures.front in let left = c.leave-served.ensures in
    let turned = rests_turned 1025 c.args.part c.pass.inside.seat.me _ front c.pass.invariant.0 held.ticket held.found in
    let first = first_from c.pass.inside.seat.me.0 _ c.args.part held.ticket held.found front.0 in
    let did = put_from c.pass.inside.seat.me.0 _ _ c.args.part _ held.ticket held.found front.0 left.left.0 left.here in (
      rests_left 1025 c.args.part _ _ _ first.0 first.1 left.left turned,
      c.pass.invariant.1 ∙ sym did.pass.number,
      c.pass.invariant.2 ∙ sym did.pass.made,
    )

pub returns-clause-puts : goal.returns-clause-puts
returns-clause-puts g c = let ticket = held_from _ _ c.args.part _ (second _ _ c.pass.view_is) c.requires.share in
    subst (λ (v : View g.row.S.Denot g.row.O.Denot). Puts v c.leave-served.new.seat.me.0 c.args.part (turns_of g.A.Turned.turns g.B.Turned.turns c.args.value)) (second _ _ c.pass.view_is)
    (put_from c.pass.inside.seat.me.0 _ _ c.args.part _ ticket.ticket ticket.found c.bring_to_front.ensures.front.0 c.leave-served.ensures.left.0 c.leave-served.ensures.here)
