use Rattle.std.proofs.Common.{◌≡◌, ◌+◌, drop}
use Rattle.plain_nodes.specs.Rows.{first_free}
use Rattle.plain_nodes.proofs.rows.first_free.Given as goal

abbrev pub invariant-loop-life : goal.invariant-loop-life
invariant-loop-life l =
    (l.place ≡ l.life-index)
    × (l.place + first_free (drop l.life-index l.live_files) l.later ≡ first_free l.live_files l.generations)
