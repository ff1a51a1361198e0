use Rattle.std.proofs.Common.{rules}
use Rattle.turn_table.proofs.Looks.{look}
use Rattle.turn_table.proofs.table.TurnTable.look.Goals as goal

pub load-requires : goal.load-requires
load-requires g c = let plain = c.requires.plain in
    (search rules, search rules, look _ _ 1025 _ _ c.args.part c.args.number c.args.seat.now.me c.requires.number c.requires.waits plain.0 plain.1)

pub returns-clause-turn : goal.returns-clause-turn
returns-clause-turn g c = (c.load.ensures.2 c.args.part c.args.number c.requires.waits).0

pub returns-clause-early : goal.returns-clause-early
returns-clause-early g c = (c.load.ensures.2 c.args.part c.args.number c.requires.waits).1
