use Rattle.std.proofs.Common.{◌≡◌, drop}
use Rattle.std.specs.FinMap.Entries.{find as value_at}
use Rattle.vfs_base.specs.Path.{path_cmp}
use Rattle.plain_nodes.proofs.trees.value_at.Given as goal

abbrev pub invariant-loop-entry : goal.invariant-loop-entry
invariant-loop-entry g l =
    value_at path_cmp l.path (drop l.entry-index l.entries) ≡ value_at path_cmp l.path l.entries
