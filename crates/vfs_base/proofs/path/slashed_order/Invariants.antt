use Rattle.std.proofs.Common.{◌≡◌, length}
use Rattle.std.specs.Cmp.Lexicographic.{slice_cmp}
use Rattle.std.specs.Ordering.{nat_cmp}
use Rattle.vfs_base.specs.Path.{slashed}
use Rattle.vfs_base.specs.Unread.{unread_bytes}
use Rattle.vfs_base.proofs.path.slashed_order.Given as goal

abbrev pub invariant-loop-a : goal.invariant-loop-a
invariant-loop-a l =
    slice_cmp nat_cmp (unread_bytes l.left) (unread_bytes l.right) ≡ slice_cmp nat_cmp (slashed l.p) (slashed l.q)

abbrev pub decreases-loop-a : goal.decreases-loop-a
decreases-loop-a l = length (unread_bytes l.left)
