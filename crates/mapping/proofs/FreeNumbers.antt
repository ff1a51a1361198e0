-- The place that a mapping takes.
use Rattle.std.proofs.Common.{◌≡◌, ◌<◌, is_none, Option, List, true, arith}
use Rattle.std.specs.List.{list_any, position_or_len}
use Rattle.vfs_model.specs.declared.shell_state.Window.{Window}
use Rattle.vfs_model.proofs.FreePlaces.{free-lt}
use Rattle.mapping.specs.Windows.{AreWindows}

-- where not all numbers are used, the least free one is among the eight
pub free_within : (mappings : List (Option Window)) → AreWindows mappings → list_any is_none mappings ≡ true → position_or_len is_none mappings < 8
free_within mappings windows free =
    let l = free-lt mappings free in
    let n = windows.places in
    omega arith
