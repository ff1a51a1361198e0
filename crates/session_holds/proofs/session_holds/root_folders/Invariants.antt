use Rattle.std.proofs.Common.{◌≡◌, [], replicate}
use Rattle.session_holds.proofs.session_holds.root_folders.Given as goal

abbrev pub invariant-loop : goal.invariant-loop
invariant-loop l = l.folders ≡ replicate l.counter []
