use Rattle.std.proofs.Common.{◌≡◌, take}
use Rattle.plain_steps.specs.Opening.{rom_nodes}
use Rattle.plain_steps.proofs.roms.rom_nodes.Given as goal

abbrev pub invariant-loop-place : goal.invariant-loop-place
invariant-loop-place l = l.nodes ≡ rom_nodes (take l.place l.tree)
