use Rattle.std.proofs.Common.{rules, Some}
use Rattle.turn_table.proofs.table.TurnTable.take_out.Goals as goal

pub exchange-requires : goal.exchange-requires
exchange-requires g c = (search rules, (Some c.requires.full.0, c.requires.full.1))
