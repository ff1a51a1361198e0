use Rattle.std.proofs.Common.{◌≡◌, ◌+◌, length, Some, ap, sym, subst, arith}
use Rattle.turn_table.specs.Values.{AreZeros}
use Rattle.turn_table.proofs.Begins.{pass_opens, pass_rests}
use Rattle.turn_table.proofs.Slots.{new_table, same_values}
use Rattle.turn_table.proofs.table.TurnTable.fill.Goals as goal

pub new-requires : goal.new-requires
new-requires g c = let asks = c.requires in
    let count : 1025 ≡ length c.args.others.items + 1 = (let long = c.args.others.ok.0 in omega arith) in
    let zeros = subst (λ words. AreZeros words 2051) (sym c.as_slice.ensures.value) c.args.reserved.zeros in
    new_table g.A.Turned.turns g.B.Turned.turns g.A.Turned.share g.B.Turned.share g.A.Originated.origin g.S.Share.tie c.args.first c.args.others.items
    asks.first_turns asks.turns asks.first_share asks.shares _ c.move_in.ensures.slots 1025 count _ zeros asks.held_open _ c.of-began.ensures

pub invariant_of-pass : goal.invariant_of-pass
invariant_of-pass g c = pass_rests 1025 _ _ c.in-Ok.ensures.ok.4

pub returns-in-Ok-clause-ok : goal.returns-in-Ok-clause-ok
returns-in-Ok-clause-ok g c = (c.in-Ok.ensures.ok.2, pass_opens 1025 c.in-Ok.seat.me _ _ c.in-Ok.ensures.ok.4 (ap (λ a. Some (g.A.Originated.origin a)) c.of-began.ensures))

pub returns-clause-err : goal.returns-clause-err
returns-clause-err g c = same_values c.args.first _ c.args.others.items _ _ _ c.move_in.ensures.slots c.in-Err.ensures.err c.move_out-first.ensures
