use Rattle.std.proofs.Common.{◌≡◌, length}
use Rattle.vfs_plain.specs.Stages.{AllStart}
use Rattle.vfs_plain.proofs.taking.new_sessions.Given as goal

abbrev pub invariant-loop-place : goal.invariant-loop-place
invariant-loop-place l = record {
  count : length l.sessions.items ≡ l.place;
  start : AllStart l.sessions.items l.deck.acts;
}
