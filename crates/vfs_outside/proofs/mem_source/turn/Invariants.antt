use Rattle.std.proofs.Common.{◌≡◌, ◌≤◌, ◌++◌, drop, length}
use Rattle.std.specs.List.{concat}
use Rattle.vfs_outside.proofs.mem_source.turn.Given as goal

abbrev pub invariant-loop-at : goal.invariant-loop-at
invariant-loop-at l = record {
  within : l.at ≤ length l.piece;
  same : drop l.at l.piece ++ concat l.later.items
      ≡ drop l.initial.at l.initial.piece ++ concat l.initial.later.items;
}

abbrev pub decreases-loop-at : goal.decreases-loop-at
decreases-loop-at l = length l.later.items
