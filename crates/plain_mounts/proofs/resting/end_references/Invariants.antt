use Rattle.std.proofs.Common.{◌≡◌, None, ◌++◌, drop, map, take}
use Rattle.plain_mounts.proofs.resting.end_references.Given as goal

abbrev pub invariant-loop-place : goal.invariant-loop-place
invariant-loop-place l = l.references ≡ map (λ reference. None) (take l.place l.initial.references) ++ drop l.place l.initial.references
