use Rattle.std.proofs.Common.{◌≡◌, nat_lt, length, drop}
use Rattle.vfs_base.specs.Path.{slashed}
use Rattle.vfs_model.specs.NormalPath.{is_long_path}
use Rattle.vfs_path.proofs.normal.is_long.Given as goal

abbrev pub invariant-loop-name : goal.invariant-loop-name
invariant-loop-name l = nat_lt l.room (length (slashed (drop l.name-index l.name-items))) ≡ is_long_path l.path
