use Rattle.std.proofs.Common.{◌≡◌, ◌++◌, take}
use Rattle.cell_volume.proofs.moves.carried_path.Given as goal

abbrev pub invariant-loop-name : goal.invariant-loop-name
invariant-loop-name l = l.path ≡ l.new ++ take l.name-index l.names
