use Rattle.holders.proofs.Rows.{counted-bound}
use Rattle.holders.proofs.holders.Holders.bind.Goals as goal

pub invariant_of-self-2 : goal.invariant_of-self-2
invariant_of-self-2 c = rw (c.link.ensures, c.in-Ok.ensures.table) (counted-bound c.self.invariant c.in-Ok.file c.in-Ok.ensures.free)
