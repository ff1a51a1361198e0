use Rattle.std.proofs.Common.{◌≡◌, ◌+◌, slice_get, drop}
use Rattle.vnode_table.specs.SlotTable.{free_files_from}
use Rattle.vnode_table.proofs.free_files.nth_file_from.Given as goal

abbrev pub invariant-loop-at : goal.invariant-loop-at
invariant-loop-at l =
    slice_get (free_files_from (l.at + 1) (drop l.at l.slots)) l.left
    ≡ slice_get (free_files_from (l.start + 1) (drop l.start l.slots)) l.nth
