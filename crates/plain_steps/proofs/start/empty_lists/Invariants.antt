use Rattle.std.proofs.Common.{◌≡◌, [], replicate}
use Rattle.plain_steps.proofs.start.empty_lists.Given as goal

abbrev pub invariant-loop-place : goal.invariant-loop-place
invariant-loop-place g l = l.list ≡ replicate l._place []
