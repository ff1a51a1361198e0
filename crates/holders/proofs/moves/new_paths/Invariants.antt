use Rattle.std.proofs.Common.{◌≡◌, ◌++◌, drop, map}
use Rattle.holders.specs.Holding.{new_path}
use Rattle.holders.proofs.moves.new_paths.Given as goal

abbrev pub invariant-loop-path : goal.invariant-loop-path
invariant-loop-path l = l.news ++ map (new_path l.from l.to) (drop l.path-index l.paths) ≡ map (new_path l.from l.to) l.paths
