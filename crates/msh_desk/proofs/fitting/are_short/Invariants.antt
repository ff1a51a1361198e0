use Rattle.std.proofs.Common.{◌≡◌, ◌+◌, length, drop}
use Rattle.vfs_base.specs.Path.{slashed}
use Rattle.msh_desk.proofs.fitting.are_short.Given as goal

abbrev pub invariant-loop-name : goal.invariant-loop-name
invariant-loop-name l = length (slashed l.names) + l.left ≡ length (slashed (drop l.name-index l.names)) + 1024
