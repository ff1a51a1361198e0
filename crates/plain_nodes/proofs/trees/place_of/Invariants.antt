use Rattle.std.proofs.Common.{◌≡◌, ◌++◌, take, drop}
use Rattle.std.specs.FinMap.Entries.{put}
use Rattle.vfs_base.specs.Path.{path_cmp}
use Rattle.plain_nodes.proofs.trees.place_of.Given as goal

abbrev pub invariant-loop-entry : goal.invariant-loop-entry
invariant-loop-entry g l =
    (l.place ≡ l.entry-index)
    × ((value : g.row.V.Denot) → take l.place l.entries ++ put path_cmp l.path value (drop l.place l.entries) ≡ put path_cmp l.path value l.entries)
