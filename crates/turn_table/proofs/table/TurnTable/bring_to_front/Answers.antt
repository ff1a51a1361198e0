use Rattle.std.proofs.Common.{rules}
use Rattle.turn_table.proofs.FrontSteps.{turn}
use Rattle.turn_table.proofs.table.TurnTable.bring_to_front.Goals as goal

pub load-requires : goal.load-requires
load-requires g c = let rests = c.requires.rests in
    (search rules, search rules, turn _ _ 1025 _ _ c.args.part c.args.seat.now.me rests.alive rests.apart rests.slots rests.within c.requires.held)
