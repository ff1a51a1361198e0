use Rattle.holders.proofs.Leaving.{counted-left, is-bound, is-held, is-used}
use Rattle.holders.proofs.Mappings.{path-held}
use Rattle.holders.proofs.holders.Holders.give_up.Goals as goal

pub release_at-requires-clause-held : goal.release_at-requires-clause-held
release_at-requires-clause-held c = λ some path e. path-held c.self.invariant some path e

pub release-requires-clause-bound : goal.release-requires-clause-bound
release-requires-clause-bound c = is-bound c.self.invariant _ c.in_ok-file.file c.in_ok-file.mount c.in_ok-file.ensures.names

pub release-requires-clause-held : goal.release-requires-clause-held
release-requires-clause-held c = is-held c.self.invariant _ c.in_ok-file.file c.in_ok-file.mount c.in_ok-file.ensures.names

pub lower-requires-clause-used : goal.lower-requires-clause-used
lower-requires-clause-used c = λ below. is-used c.self.invariant _ c.in_ok-file.file c.in_ok-file.mount c.in_ok-file.ensures.names below

pub invariant_of-self : goal.invariant_of-self
invariant_of-self c =
    rw (c.take.ensures.left, c.lower.ensures.number, c.forget.ensures, c.release.ensures.table, c.holds-is_last.ensures, c.release_at.ensures.plan)
    (counted-left c.self.invariant _ c.in_ok-file.file c.in_ok-file.mount c.in_ok-file.ensures.names c.release_at.ensures.counts c.lower.ensures.below)
