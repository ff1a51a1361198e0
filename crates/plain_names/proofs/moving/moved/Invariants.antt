use Rattle.std.proofs.Common.{◌≡◌, drop}
use Rattle.std.specs.Prelude.{fold}
use Rattle.vfs_model.specs.RenameStep.{carried, left_behind, put_entry}
use Rattle.plain_names.proofs.moving.moved.Given as goal

abbrev pub invariant-loop-entry : goal.invariant-loop-entry
invariant-loop-entry l =
    fold put_entry l.next (carried l.old l.new (drop l.entry-index l.tree))
    ≡ fold put_entry (left_behind l.old l.new l.tree) (carried l.old l.new l.tree)
