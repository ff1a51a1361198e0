use Rattle.std.proofs.Common.{refl}
use Rattle.holders.proofs.Opening.{opening-counted}
use Rattle.holders.proofs.holders.Holders.new.Goals as goal

pub invariant_of-result : goal.invariant_of-result
invariant_of-result c =
    rw (c.in_ok-mounts.ensures, c.in_ok-rows.ensures, c.in_ok-paths.ensures, c.in_ok-sessions.ensures, c.in_ok-uses.ensures, c.in_ok-dentries.ensures.plan)
    (opening-counted _ c.in_ok-dentries.ensures.counts)

pub returns : goal.returns
returns c = rw (c.in_ok-mounts.ensures, c.in_ok-rows.ensures, c.in_ok-paths.ensures, c.in_ok-sessions.ensures, c.in_ok-dentries.ensures.plan) refl
