use Rattle.std.proofs.Common.{rules}
use Rattle.turn_table.proofs.StampSteps.{draw_stamp}
use Rattle.turn_table.proofs.table.TurnTable.draw_stamp.Goals as goal

pub fetch_add-requires : goal.fetch_add-requires
fetch_add-requires g c = let rests = c.requires.rests in
    (search rules, search rules, draw_stamp _ _ 1025 _ _ c.args.seat.now.me _ _ _ _ (search rules) (rests.alive, rests.waits, c.requires.fresh) c.requires.tied)
