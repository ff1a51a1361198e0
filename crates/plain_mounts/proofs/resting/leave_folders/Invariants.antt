use Rattle.std.proofs.Common.{◌≡◌, [], ◌++◌, drop, map, take}
use Rattle.plain_mounts.proofs.resting.leave_folders.Given as goal

abbrev pub invariant-loop-place : goal.invariant-loop-place
invariant-loop-place l = l.working_directories ≡ map (λ folder. []) (take l.place l.initial.working_directories) ++ drop l.place l.initial.working_directories
