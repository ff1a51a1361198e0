use Rattle.std.proofs.Common.{◌≡◌, ◌+◌, ◌*◌, slice_get, drop}
use Rattle.vnode_table.specs.SlotTable.{free_files, free_files_from}
use Rattle.vnode_table.proofs.free_files.nth_free_file.Given as goal

abbrev pub invariant-loop-block : goal.invariant-loop-block
invariant-loop-block l =
    slice_get (free_files_from (64 * l.block + 1) (drop (64 * l.block) l.slots)) l.left ≡ slice_get (free_files l.slots) l.nth
