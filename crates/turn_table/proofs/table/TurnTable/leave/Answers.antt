use Rattle.std.proofs.Common.{rules, ◌≡◌, None, Some}
use Rattle.turn_table.specs.Values.{turns_of}
use Rattle.turn_table.proofs.Calls.{first_slot, same_slot, left_from}
use Rattle.turn_table.proofs.LeaveSteps.{leave_from}
use Rattle.turn_table.proofs.table.TurnTable.leave.Goals as goal

pub exchange-requires : goal.exchange-requires
exchange-requires g c = let first = c.requires.first in
    (search rules, (None, first_slot c.args.seat.now.me c.args.part first.0 c.requires.rests.slots first.1 first.2))

pub unreachable-requires : goal.unreachable-requires
unreachable-requires g c = let first = c.requires.first in
    let clash : None ≡ Some c.in-Some.field-0 = same_slot _ _ _ _ (first_slot c.args.seat.now.me c.args.part first.0 c.requires.rests.slots first.1 first.2) c.in-Some.ensures.2 in cc (clash)

pub fetch_add-requires : goal.fetch_add-requires
fetch_add-requires g c = let rests = c.requires.rests in
    (search rules, search rules, leave_from _ _ 1025 _ _ c.args.part c.args.seat.now.me _ c.args.value c.exchange.ensures.3 rests.alive rests.waits c.requires.kind c.requires.turns c.requires.share)

pub returns-clause-left : goal.returns-clause-left
returns-clause-left g c = (left_from (turns_of g.A.Turned.turns g.B.Turned.turns) c.args.seat.now.me _ _ c.args.part c.args.value c.exchange.ensures.3 c.fetch_add.ensures.2).0

pub returns-clause-here : goal.returns-clause-here
returns-clause-here g c = (left_from (turns_of g.A.Turned.turns g.B.Turned.turns) c.args.seat.now.me _ _ c.args.part c.args.value c.exchange.ensures.3 c.fetch_add.ensures.2).1
