use Rattle.std.specs.Cmp.Lexicographic.{pointwise_decides, bytes_decides}
use Rattle.vfs_base.proofs.path.PathPartialEq.eq.Goals as goal

pub returns-clause-same : goal.returns-clause-same
returns-clause-same c = rw (c.eq.ensures, ← c.self.view_is, ← c.other.view_is) (pointwise_decides bytes_decides _ _)
