use Rattle.std.proofs.Common.{◌≡◌, take}
use Rattle.cell_volume.specs.Below.{carried_to}
use Rattle.cell_volume.proofs.moves.carried_nodes.Given as goal

abbrev pub invariant-loop-path : goal.invariant-loop-path
invariant-loop-path l = l.carried ≡ carried_to l.old l.new (take l.path-index l.taken)
