use Rattle.std.proofs.Common.{◌≡◌, [], ◌∙◌, rules}
use Rattle.cell_volume.proofs.CellLoops.{behind_none, map-reversed}
use Rattle.cell_volume.proofs.cells.take_devices.Goals as goal

pub returns : goal.returns
returns g c =
    let empty : c.loop-cell.cells.items ≡ [] = grind rules in
    rw c.reverse.ensures.items (map-reversed _ c.loop-cell.devices.items ∙ behind_none _ _ _ _ empty c.loop-cell.invariant.devices)
