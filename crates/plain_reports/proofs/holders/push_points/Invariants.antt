use Rattle.std.proofs.Common.{◌≡◌, ◌++◌, drop, map}
use Rattle.plain_reports.proofs.holders.push_points.Given as goal

abbrev pub invariant-loop-mount : goal.invariant-loop-mount
invariant-loop-mount l = l.paths ++ map (λ mount. mount.point) (drop l.mount-index l.mounts) ≡ l.initial.paths ++ map (λ mount. mount.point) l.mounts
