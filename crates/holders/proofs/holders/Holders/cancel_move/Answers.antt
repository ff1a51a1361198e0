use Rattle.holders.proofs.Moving.{counted-room}
use Rattle.holders.proofs.holders.Holders.cancel_move.Goals as goal

pub invariant_of-self : goal.invariant_of-self
invariant_of-self c = counted-room c.self.invariant c.cancel_move.ensures.same c.cancel_move.new.self.room
