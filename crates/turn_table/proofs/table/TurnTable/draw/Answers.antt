use Rattle.std.proofs.Common.{rules}
use Rattle.turn_table.proofs.Draws.{draw}
use Rattle.turn_table.proofs.table.TurnTable.draw.Goals as goal

pub fetch_add-requires : goal.fetch_add-requires
fetch_add-requires g c = let rests = c.requires.rests in
    (search rules, search rules, draw _ _ 1025 _ _ c.args.part c.args.seat.now.me c.requires.part rests.alive rests.waits rests.used c.requires.free c.requires.fresh)
