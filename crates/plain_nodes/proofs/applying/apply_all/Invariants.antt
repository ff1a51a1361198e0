use Rattle.std.proofs.Common.{◌≡◌, true, drop, map}
use Rattle.std.specs.Prelude.{fold}
use Rattle.std.specs.List.{list_all}
use Rattle.vfs_model.specs.Homes.{change_row}
use Rattle.plain_nodes.specs.Changes.{brings_no_bytes, row_change}
use Rattle.plain_nodes.proofs.applying.apply_all.Given as goal

abbrev pub invariant-loop-change : goal.invariant-loop-change
invariant-loop-change l =
    (fold change_row l.world (map row_change (drop l.change-index l.changes)) ≡ fold change_row l.initial.world (map row_change l.changes))
    × (list_all brings_no_bytes (drop l.change-index l.changes) ≡ true)
    × (l.world.namespace ≡ l.initial.world.namespace)
