use Rattle.std.proofs.Common.{◌≡◌, ◌++◌, length, take, drop}
use Rattle.vfs_base.specs.Path.{slashed}
use Rattle.vfs_base.proofs.path.push_slashed.Given as goal

abbrev pub invariant-loop-name : goal.invariant-loop-name
invariant-loop-name l =
    (l.out ++ slashed (drop l.name-index l.names) ≡ l.initial.out ++ slashed l.names)
    × (take (length l.initial.out) l.out ≡ l.initial.out)
