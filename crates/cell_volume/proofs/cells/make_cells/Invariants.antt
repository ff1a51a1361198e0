use Rattle.std.proofs.Common.{◌≡◌, ◌+◌, ◌≤◌, ◌++◌, map, reverse, vec_capacity, vec_len}
use Rattle.cell_volume.specs.Cells.{new_cell}
use Rattle.cell_volume.proofs.cells.make_cells.Given as goal

abbrev pub invariant-loop-device : goal.invariant-loop-device
invariant-loop-device g l = record {
  cells : map new_cell l.devices.items ++ reverse l.cells.items ≡ map new_cell l.initial.devices.items;
  memory : vec_len l.devices + vec_len l.cells ≤ vec_capacity l.cells;
  capacity : vec_capacity l.devices ≡ vec_capacity l.initial.devices;
}

abbrev pub decreases-loop-device : goal.decreases-loop-device
decreases-loop-device g l = vec_len l.devices
