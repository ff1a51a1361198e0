use Rattle.std.proofs.Common.{◌≡◌, None, replicate}
use Rattle.session_holds.proofs.session_holds.no_references.Given as goal

abbrev pub invariant-loop : goal.invariant-loop
invariant-loop l = l.references ≡ replicate l.counter None
