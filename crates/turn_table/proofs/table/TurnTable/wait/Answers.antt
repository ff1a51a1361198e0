use Rattle.turn_table.proofs.Calls.{enters_from}
use Rattle.turn_table.proofs.table.TurnTable.wait.Goals as goal

pub returns-then-serving-number-clause-turn : goal.returns-then-serving-number-clause-turn
returns-then-serving-number-clause-turn g c = enters_from _ _ _ _ _ _ c.loop.invariant.1 (c.look-serving.ensures.turn c.if-serving-number.true)
