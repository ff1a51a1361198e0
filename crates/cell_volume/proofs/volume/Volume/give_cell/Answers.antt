use Rattle.std.proofs.Common.{List, Option, Some, ap, ◌∙◌}
use Rattle.vfs_outside.specs.Volume.{CellState}
use Rattle.cell_volume.proofs.CellLemmas.{states-with_device}
use Rattle.cell_volume.proofs.LaidOut.{laid-device}
use Rattle.cell_volume.specs.MountedVolume.{MountedVolume, cell_state, with_cell}
use Rattle.cell_volume.proofs.volume.Volume.give_cell.Goals as goal

pub invariant_of-self : goal.invariant_of-self
invariant_of-self g c =
    rw c.put_device.ensures
    (laid-device g.B.Block.pages g.B.Block.contents g.B.Block.counts c.self.inside.name c.self.inside.cells.cells.items c.self.inside.nodes.entries c.self.inside.room.items _ c.self.invariant c.args.cell (Some c.args.device) c.requires.pages)

pub returns : goal.returns
returns g c =
    rw c.put_device.ensures
    (ap (λ (states : List (Option CellState)). record { name = c.self.inside.name; cells = states; kept = c.self.inside.nodes.entries })
    (states-with_device g.B.Block.pages g.B.Block.contents g.B.Block.counts c.self.inside.cells.cells.items c.args.cell (Some c.args.device))
    ∙ ap (λ (v : MountedVolume). with_cell v c.args.cell (Some (cell_state g.B.Block.pages g.B.Block.contents g.B.Block.counts c.args.device))) c.self.view_is)
