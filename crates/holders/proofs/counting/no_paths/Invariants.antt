use Rattle.std.proofs.Common.{◌≡◌, None, replicate}
use Rattle.holders.proofs.counting.no_paths.Given as goal

abbrev pub invariant-loop : goal.invariant-loop
invariant-loop l = l.paths ≡ replicate l.counter None
