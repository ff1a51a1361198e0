use Rattle.std.proofs.Common.{◌≡◌, [], replicate}
use Rattle.plain_steps.proofs.start.roots.Given as goal

abbrev pub invariant-loop-place : goal.invariant-loop-place
invariant-loop-place l = l.list ≡ replicate l._place []
