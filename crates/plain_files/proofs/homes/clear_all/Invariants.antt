use Rattle.std.proofs.Common.{◌≡◌, [], ◌++◌, drop, map, take}
use Rattle.plain_files.proofs.homes.clear_all.Given as goal

abbrev pub invariant-loop-place : goal.invariant-loop-place
invariant-loop-place l = l.cells ≡ map (λ bytes. []) (take l.place l.initial.cells) ++ drop l.place l.initial.cells
