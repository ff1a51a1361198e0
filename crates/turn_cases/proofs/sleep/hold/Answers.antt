use Rattle.turn_cases.proofs.sleep.hold.Goals as goal

pub put_back-requires-clause-kind : goal.put_back-requires-clause-kind
put_back-requires-clause-kind g c = c.with_turn-value.ensures.kind 1 _ c.requires.kind
