use Rattle.std.proofs.Common.{◌≡◌, ◌+◌, ◌≤◌, ◌++◌, true, is_some, Some, map, reverse, vec_capacity, vec_len}
use Rattle.std.specs.List.{list_all}
use Rattle.cell_volume.proofs.cells.take_devices.Given as goal

abbrev pub invariant-loop-cell : goal.invariant-loop-cell
invariant-loop-cell g l = record {
  devices : map (λ cell. cell.device) l.cells.items ++ reverse (map Some l.devices.items) ≡ map (λ cell. cell.device) l.initial.cells.items;
  memory : vec_len l.cells + vec_len l.devices ≤ vec_capacity l.devices;
  home : list_all (λ cell. is_some cell.device) l.cells.items ≡ true;
}

abbrev pub decreases-loop-cell : goal.decreases-loop-cell
decreases-loop-cell g l = vec_len l.cells
