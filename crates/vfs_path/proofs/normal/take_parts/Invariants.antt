use Rattle.std.proofs.Common.{◌≡◌, fold, map}
use Rattle.vfs_model.specs.NormalPath.{after_part}
use Rattle.vfs_path.proofs.normal.take_parts.Given as goal

abbrev pub invariant-loop-part : goal.invariant-loop-part
invariant-loop-part l = l.path ≡ fold after_part l.initial.path (map (λ part. part.now) l.yielded)
