use Rattle.std.proofs.Common.{◌≡◌, ◌≤◌, drop}
use Rattle.plain_mounts.specs.Mounting.{free_in}
use Rattle.plain_mounts.proofs.mounting.free_in.Given as goal

abbrev pub invariant-loop-life : goal.invariant-loop-life
invariant-loop-life l =
    (l.count ≤ l.life-index) × (free_in l.count (drop l.life-index l.live_files) l.later ≡ free_in 0 l.live_files l.generations)
