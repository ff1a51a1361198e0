use Rattle.std.proofs.Common.{◌≡◌, ◌++◌, drop}
use Rattle.vfs_model.specs.RenameStep.{left_behind}
use Rattle.plain_names.proofs.moving.left_behind.Given as goal

abbrev pub invariant-loop-entry : goal.invariant-loop-entry
invariant-loop-entry l = l.left ++ left_behind l.old l.new (drop l.entry-index l.tree) ≡ left_behind l.old l.new l.tree
